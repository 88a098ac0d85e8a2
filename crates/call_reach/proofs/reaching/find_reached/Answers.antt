use Rattle.std.proofs.Common.{◌≡◌, ℕ, List, Bool, Vec, Global, arith, map, replicate, take, take_at, ◌∙◌, ap₂}
use Rattle.call_reach.specs.Starts.{AreGiven, AreReached, has_first_bit}
use Rattle.call_reach.proofs.Reached.{ok_then, reached_end}
use Rattle.call_reach.proofs.reaching.find_reached.Goals as goal

pub returns : goal.returns
returns c =
    let given : AreGiven c.args.from.now (replicate c.args.nodes 0) c.deref_mut.result.now = rw c.deref_mut.ensures.value c.in_ok-words.ensures in
    let ended : c.deref.result.now ≡ c.carry.new.words = c.deref.ensures.value ∙ take_at c.carry.new.words _ _ (omega (arith, c.in_ok-carry.ensures.2.len, c.deref_mut.ensures.len)) in
    ok_then (λ (marks : Vec Bool Global). marks.items ≡ map has_first_bit (take c.method_count.result c.deref.result.now)) (λ (marks : Vec Bool Global). AreReached c.args.app.now c.args.graph.now c.args.from.now marks.items) c.marks_of.result
    (λ marks is. reached_end c.args.app.now c.args.graph.now c.requires.graph.fits c.args.from.now c.requires.from c.in_ok-carry.ensures.0 c.in_ok-carry.ensures.1 c.args.nodes c.deref_mut.result.now c.carry.new.words marks.items
    (omega (arith, c.requires.nodes)) given c.in_ok-carry.ensures.2 (is ∙ ap₂ (λ (n : ℕ) (words : List ℕ). map has_first_bit (take n words)) c.method_count.ensures ended))
    c.marks_of.ensures
