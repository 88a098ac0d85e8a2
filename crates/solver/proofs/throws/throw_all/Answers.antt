use Rattle.solver.proofs.Turns.{place_kept, size_same, size_more}
use Rattle.solver.proofs.Visits.{thrown_kept, throw_turn, throw_none}
use Rattle.solver.proofs.throws.throw_all.Goals as goal

pub throw_out-out-requires : goal.throw_out-out-requires
throw_out-out-requires c = place_kept _ _ _ _ _ _ c.throw_to_all-to.ensures.size c.requires

pub returns : goal.returns
returns c = record {
  turn = λ masks can.
      (let t = c.throw_to_all-to.ensures.turn masks can in
      throw_turn _ _ _ _ _ _ _ _ _ _ _ t (c.throw_out-out.ensures.turn masks (thrown_kept _ _ _ _ _ _ _ _ t.turn.kept can)));
  size = size_more _ _ _ c.throw_to_all-to.ensures.size c.throw_out-out.ensures.size;
}

pub returns-then-thrown-eq0 : goal.returns-then-thrown-eq0
returns-then-thrown-eq0 c = record { turn = λ masks can. throw_none _ _ masks _ _ _ _ c.if-thrown-eq0.true; size = size_same _ }
