use Rattle.std.proofs.Common.{refl, arith}
use Rattle.std.specs.Vec.{with_item}
use Rattle.solution.proofs.Ors.{in_rows, in_row, put_read}
use Rattle.solution.proofs.table.Table.put.Goals as goal

pub index_mut-words-requires : goal.index_mut-words-requires
index_mut-words-requires c = omega (arith, in_rows _ _ c.self.view_is _ _ c.requires, c.self.inside.rows.ok.0)

pub index_mut-requires : goal.index_mut-requires
index_mut-requires c =
    omega (arith, in_row _ _ c.self.view_is _ _ c.index_mut-words.result.now c.requires c.index_mut-words.ensures.value, c.index_mut-words.result.now.ok.0)

pub returns : goal.returns
returns c =
    let v = c.index_mut-words.result.now in
    put_read _ _ c.self.view_is _ _ c.args.word v (with_item v c.args.place c.args.word) c.requires c.index_mut-words.ensures.value refl
