use Rattle.std.proofs.Common.{◌≡◌, ◌+◌, ◌*◌, ℕ, true, ap, ap₂, subst, ◌∙◌, arith, length, slice_get, slice_set, refl, Some}
use Rattle.std.proofs.lemmas.Option.{get_or_from_slice_get}
use Rattle.app_model.specs.CallGraph.{TargetParts}
use Rattle.call_targets.specs.Made.{SetsParts}
use Rattle.call_targets.specs.declared.numbers.SetRow.{SetRow}
use Rattle.call_targets.proofs.Fills.{fills, over}
use Rattle.call_targets.proofs.making.Sets.put.Goals as goal

pub returns-in-Some-clause-ok : goal.returns-in-Some-clause-ok
returns-in-Some-clause-ok c app to =
    let old = c.args.self.now in
    let places = subst (λ (t : SetsParts). length t.made ≡ length t.plan) c.self.view_is c.self.invariant.made in
    let own : (set : SetRow) → slice_get old.plan c.args.s ≡ Some set → c.index.result.now.keys ≡ set.keys = λ set e. ap (λ (r : SetRow). r.keys) (c.index.ensures ∙ get_or_from_slice_get c.self.inside.plan.items c.args.s set c.index.result.now (ap (λ (t : SetsParts). slice_get t.plan c.args.s) c.self.view_is ∙ e)) in
    let count : c.len.result ≡ length c.args.row.callees = omega (arith, c.len.ensures, c.row.inside.callees.ok.0, ap (λ (t : TargetParts). length t.callees) c.row.view_is) in
    fills app old c.args.s c.args.row c.requires places to
    (record { plan = c.self.inside.plan.items; rows = slice_set c.self.inside.rows.items c.args.s c.args.row; made = slice_set c.self.inside.made.items c.args.s true; total = c.in-Some.total })
    c.index.result.now.keys own
    (ap (λ (t : SetsParts). t.plan) c.self.view_is) (ap (λ (t : SetsParts). slice_set t.rows c.args.s c.args.row) c.self.view_is) (ap (λ (t : SetsParts). slice_set t.made c.args.s true) c.self.view_is)
    (c.in-Some.ensures.sum ∙ ap₂ (λ (n m : ℕ). n + c.index.result.now.keys * m) (ap (λ (t : SetsParts). t.total) c.self.view_is) count) c.in-Some.ensures.few

pub returns-in-None-clause-over : goal.returns-in-None-clause-over
returns-in-None-clause-over c app to =
    let old = c.args.self.now in
    let places = subst (λ (t : SetsParts). length t.made ≡ length t.plan) c.self.view_is c.self.invariant.made in
    let own : (set : SetRow) → slice_get old.plan c.args.s ≡ Some set → c.index.result.now.keys ≡ set.keys = λ set e. ap (λ (r : SetRow). r.keys) (c.index.ensures ∙ get_or_from_slice_get c.self.inside.plan.items c.args.s set c.index.result.now (ap (λ (t : SetsParts). slice_get t.plan c.args.s) c.self.view_is ∙ e)) in
    let count : c.len.result ≡ length c.args.row.callees = omega (arith, c.len.ensures, c.row.inside.callees.ok.0, ap (λ (t : TargetParts). length t.callees) c.row.view_is) in
    let sum = ap₂ (λ (n m : ℕ). n + c.index.result.now.keys * m) (ap (λ (t : SetsParts). t.total) c.self.view_is) count in
    (refl, over app old c.args.s c.args.row c.requires places to c.index.result.now.keys own (omega (arith, sum, c.in-None.ensures.many)))
