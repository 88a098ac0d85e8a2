use Rattle.std.proofs.Common.{arith}
use Rattle.tag_flow.proofs.Below.{enter_turn}
use Rattle.tag_flow.proofs.Entered.{entering_fits, entering_is}
use Rattle.tag_flow.proofs.calling.enter_cell.Goals as goal

pub called_tag-tag-requires-clause-register : goal.called_tag-tag-requires-clause-register
called_tag-tag-requires-clause-register c =
    omega (arith, c.method-method.ensures.width, c.requires.enters.spot.width, c.requires.register)

pub join-requires-clause-tag : goal.join-requires-clause-tag
join-requires-clause-tag c =
    entering_fits _ _ c.requires.source.state _ _ _ _ _ _ _ (entering_is _ _ c.requires.source.state _ _ _ _ _ _ _ _ c.method-method.ensures.is (rw c.row.ensures at c.called_tag-tag.ensures))

pub returns : goal.returns
returns c =
    let is = entering_is _ _ c.requires.source.state _ _ _ _ _ _ _ _ c.method-method.ensures.is (rw c.row.ensures at c.called_tag-tag.ensures) in
    enter_turn _ _ _ _ _ c.args.handing.now _ _ _ c.requires.source c.requires.enters c.requires.register is (entering_fits _ _ c.requires.source.state _ _ _ _ _ _ _ is) c.join.ensures.joins c.join.ensures.answers
