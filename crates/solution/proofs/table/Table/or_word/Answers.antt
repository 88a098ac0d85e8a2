use Rattle.solution.proofs.Ors.{put_ors, none_ors}
use Rattle.solution.proofs.table.Table.or_word.Goals as goal

pub returns-then-new-old : goal.returns-then-new-old
returns-then-new-old c =
    none_ors _ _ _ _ c.requires (rw c.word-old.ensures.value at c.word-old.ensures.fits) (rw c.word-old.ensures.value at c.if-new-old.true)

pub returns : goal.returns
returns c =
    rw (c.put.ensures, c.word-old.ensures.value)
    (put_ors _ _ _ _ c.requires (rw c.word-old.ensures.value at c.word-old.ensures.fits) (rw c.word-old.ensures.value at c.if-new-old.false))
