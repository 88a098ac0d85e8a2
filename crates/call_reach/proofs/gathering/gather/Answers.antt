use Rattle.std.proofs.Common.{ℕ, List, ◌++◌, ◌∙◌, ap, ap₂, arith, take, take_at}
use Rattle.call_reach.proofs.Gathered.{gathered_end}
use Rattle.call_reach.proofs.gathering.gather.Goals as goal

pub returns : goal.returns
returns c =
    gathered_end c.args.app.now c.args.graph.now c.requires.graph.fits c.in_ok-carry.ensures.0 c.in_ok-carry.ensures.1 c.args.own.items c.deref_mut.result.now c.carry.new.words c.truncate.new.self.items c.set_count.result c.requires.own
    (c.deref_mut.ensures.value ∙ c.in_ok-extend_from_slice.ensures.items ∙ ap (λ (ws : List ℕ). c.args.own.items ++ ws) (c.deref.ensures.value ∙ c.in_ok-none.ensures))
    c.in_ok-carry.ensures.2
    (c.truncate.ensures.items ∙ ap₂ (λ (n : ℕ) (words : List ℕ). take n words) c.method_count.ensures (take_at c.carry.new.words _ _ (omega (arith, c.in_ok-carry.ensures.2.len, c.deref_mut.ensures.len))))
