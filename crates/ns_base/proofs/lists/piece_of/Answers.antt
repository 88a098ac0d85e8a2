use Rattle.std.proofs.Common.{rules}
use Rattle.ns_base.proofs.CutLaws.{bounds, cut_get}
use Rattle.ns_base.proofs.lists.piece_of.Goals as goal

pub slice_of-requires : goal.slice_of-requires
slice_of-requires g c = let b = bounds 0 c.args.ends.now _ c.args.number c.requires.ends c.requires.number in search rules

pub returns : goal.returns
returns g c =
    let some = cut_get 0 c.args.items.now c.args.ends.now _ c.args.number c.requires.ends c.requires.number in
    search rules
