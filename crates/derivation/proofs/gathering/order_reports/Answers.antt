use Rattle.std.proofs.Common.{rules, refl}
use Rattle.std.proofs.lemmas.List.Sorted.{IsNonDecreasingBy-from_sort_by_key}
use Rattle.app_model.specs.Subject.{slot_count}
use Rattle.derivation.proofs.Gathered.{in_order, number_of}
use Rattle.derivation.proofs.gathering.order_reports.Goals as goal

pub returns : goal.returns
returns c =
    in_order c.args.subject.now c.told.ensures (slot_count c.args.subject.now) c.args.reports.now.items c.requires c.sort_unstable_by_key.new.self.items c.sort_unstable_by_key.ensures.permutation
    (IsNonDecreasingBy-from_sort_by_key number_of _ c.sort_unstable_by_key.ensures.sorted (λ a r q k. search rules)) refl
