use Rattle.std.proofs.Common.{ℕ, ◌++◌, List, ap, ◌∙◌, arith}
use Rattle.nosleep.proofs.Pieces.{IsFront-read, IsFront-length, length-read}
use Rattle.nosleep.proofs.reading.read_turn.Goals as goal

pub returns-then-len-limit-clause-turn : goal.returns-then-len-limit-clause-turn
returns-then-len-limit-clause-turn g c =
    let made = c.in_ok-extend_from_slice-in-Ok.ensures.items ∙ ap (λ (xs : List ℕ). c.args.bytes.now.items ++ xs) c.split_at.ensures.front in
    let read = c.in-Ok.ensures.bytes in
    λ bs told front.
    let longer = IsFront-length _ _ (IsFront-read _ bs _ _ _ _ _ told read (omega arith) made front) in omega (arith, longer)

pub returns-else-len-limit-clause-turn : goal.returns-else-len-limit-clause-turn
returns-else-len-limit-clause-turn g c =
    let made = c.in_ok-extend_from_slice-in-Ok.ensures.items ∙ ap (λ (xs : List ℕ). c.args.bytes.now.items ++ xs) c.split_at.ensures.front in
    let read = c.in-Ok.ensures.bytes in
    let grown = length-read _ _ _ _ read.within made in
    (λ bs told front. IsFront-read _ bs _ _ _ _ _ told read (omega arith) made front, omega (arith, grown), omega (arith, grown))
