use Rattle.call_targets.specs.Looking.{IsMaker}
use Rattle.call_targets.specs.Made.{AreMadeBelow, Grows}
use Rattle.call_targets.proofs.making.Sets.fill_rest.Given as goal

abbrev pub invariant-loop-s : goal.invariant-loop-s
invariant-loop-s l = record {
  grows : Grows l.app l.initial.self l.self;
  maker : IsMaker l.app l.maker;
  made : AreMadeBelow l.self l.s;
}
