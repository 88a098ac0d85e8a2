use Rattle.std.proofs.Common.{arith}
use Rattle.solution.proofs.Ors.{in_rows, in_row, word_read}
use Rattle.solution.proofs.table.Table.word.Goals as goal

pub index-words-requires : goal.index-words-requires
index-words-requires c = omega (arith, in_rows _ _ c.self.view_is _ _ c.requires, c.self.inside.rows.ok.0)

pub index-requires : goal.index-requires
index-requires c =
    omega (arith, in_row _ _ c.self.view_is _ _ c.index-words.result.now c.requires c.index-words.ensures, c.index-words.result.now.ok.0)

pub returns-clause-value : goal.returns-clause-value
returns-clause-value c =
    word_read _ _ c.self.view_is _ _ c.index.result.now c.index-words.result.now c.requires c.index-words.ensures c.index.ensures
