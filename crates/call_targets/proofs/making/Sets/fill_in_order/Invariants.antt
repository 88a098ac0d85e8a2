use Rattle.call_targets.specs.Looking.{IsMaker}
use Rattle.call_targets.specs.Made.{Grows}
use Rattle.call_targets.proofs.making.Sets.fill_in_order.Given as goal

abbrev pub invariant-loop-i : goal.invariant-loop-i
invariant-loop-i l = record {
  grows : Grows l.app l.initial.self l.self;
  maker : IsMaker l.app l.maker;
}
