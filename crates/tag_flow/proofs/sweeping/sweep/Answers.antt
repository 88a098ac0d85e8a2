use Rattle.app_model.specs.Components.{entries_of}
use Rattle.tag_flow.specs.Goals.{AllBegun, AllVisited, EntryBegun}
use Rattle.tag_flow.proofs.Turns.{turn_next}
use Rattle.tag_flow.proofs.Loops.{turn_each}
use Rattle.tag_flow.proofs.sweeping.sweep.Goals as goal

pub visit_all-visited-requires : goal.visit_all-visited-requires
visit_all-visited-requires c =
    c.begin_entries-begun.ensures.state c.requires

pub returns : goal.returns
returns c =
    let k = c.args.known.now in
    turn_next k (AllBegun k) _ (AllVisited k) _ _ _ _ _ (λ s a b. (a, b)) (turn_each k (entries_of k.list) (λ n. EntryBegun k n) _ _ _ c.begin_entries-begun.ensures) c.visit_all-visited.ensures
