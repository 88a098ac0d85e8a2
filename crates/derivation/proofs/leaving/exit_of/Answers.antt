use Rattle.std.proofs.Common.{◌≡◌, ◌<◌, ℕ, Option, Some, length, ap, sym, ◌∙◌, arith, subst, ⊎_elim}
use Rattle.std.specs.Prelude.{slice_get}
use Rattle.std.proofs.lemmas.Bool.{cases_eq}
use Rattle.std.proofs.lemmas.Option.{slice_get_within}
use Rattle.report_path.specs.declared.report.ViewStep.{ViewStep}
use Rattle.derivation.specs.Ends.{LeavesBy}
use Rattle.derivation.proofs.leaving.exit_of.Goals as goal

pub loop-n-preserved : goal.loop-n-preserved
loop-n-preserved c = λ n e end lt few h. ⊎_elim
    (λ here. (let views = c.args.log.now.views.items in
    let lines = c.args.log.now.lines.items in
    let v = c.view_at-v.result in
    let at : slice_get views c.loop-n.n ≡ Some v = rw c.deref-views.ensures.value at c.view_at-v.ensures in
    let found : slice_get views c.loop-n.n ≡ Some h.value = sym (ap (slice_get views) here) ∙ h.at in
    let same : h.value ≡ v = cc in
    let none : (e : ℕ) (end : Option ℕ) → e < 16 → LeavesBy c.args.subject.now c.args.bad lines v e end → ⊥ = rw c.deref.ensures.value at c.in_default.ensures in
    none e end few (subst (λ (v : ViewStep). LeavesBy c.args.subject.now c.args.bad lines v e end) same h.holds)))
    (λ other. c.loop-n.invariant n e end (omega (arith, lt)) few h)
    (cases_eq n c.loop-n.n)

pub returns : goal.returns
returns c = λ n e end few h.
    (let low = slice_get_within c.args.log.now.views.items n h.value h.at in
    let size : length c.deref-views.result.now ≡ length c.args.log.now.views.items = ap length c.deref-views.ensures.value in
    c.loop-n.invariant n e end (omega (arith, low, size, c.loop-n-test.false)) few h)
