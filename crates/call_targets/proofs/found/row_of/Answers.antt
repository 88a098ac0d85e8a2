use Rattle.std.proofs.Common.{Bool, List, ℕ, ap, ap₂, ◌∙◌, eqb, map, subst}
use Rattle.std.specs.List.Sorted.{IsPermutation}
use Rattle.std.proofs.lemmas.List.Filters.{dedup_is}
use Rattle.ns_base.specs.declared.rows.MethodNo.{MethodNo}
use Rattle.app_model.specs.CallGraph.{TargetParts}
use Rattle.app_model.specs.Targets.{method_no}
use Rattle.call_targets.proofs.Rows.{row_made}
use Rattle.call_targets.proofs.found.row_of.Goals as goal

pub returns : goal.returns
returns c methods all =
    ap₂ (λ (ms : List MethodNo) (b : Bool). let row : TargetParts = record { callees = ms; outside = b } in row)
    (c.in_ok-callees.ensures ∙ ap (map method_no) (c.deref.ensures.value ∙ dedup_is eqb c.sort_unstable.new.self.items c.dedup.new.self.items c.dedup.ensures.filtered)) c.leads_outside.ensures
    ∙ row_made methods c.args.found.now c.sort_unstable.new.self.items (subst (λ (xs : List ℕ). IsPermutation xs c.sort_unstable.new.self.items) c.in_ok-numbers.ensures c.sort_unstable.ensures.permutation) all c.sort_unstable.ensures.sorted
