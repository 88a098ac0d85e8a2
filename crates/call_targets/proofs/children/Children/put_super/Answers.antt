use Rattle.std.proofs.Common.{ap, refl, sym, ◌∙◌, ◌≡◌, Some, Option}
use Rattle.std.proofs.lemmas.Result.{IfOk-weaker}
use Rattle.ns_base.specs.declared.rows.TypeNo.{TypeNo}
use Rattle.call_targets.proofs.Downward.{puts_as}
use Rattle.call_targets.proofs.children.Children.put_super.Goals as goal

pub returns-in-Some : goal.returns-in-Some
returns-in-Some c = IfOk-weaker c.put.result _ _ (λ done h. puts_as (λ t. t ≡ c.in-Some.kind.0) (λ t. c.args.parent ≡ Some (record { 0 = t })) c.args.class c.args.self.now c.put.new.self
    (λ t. (λ same. c.in-Some.is ∙ rw same refl, λ e. let f : ◌≡◌ {A = Option TypeNo} (Some c.in-Some.kind) (Some (record { 0 = t })) = sym c.in-Some.is ∙ e in let g : c.in-Some.kind ≡ record { 0 = t } = cc in sym (ap (λ (k : TypeNo). k.0) g))) h) c.put.ensures
