use Rattle.std.proofs.Common.{Contains, subst, ◌∙◌, ◌≡◌}
use Rattle.std.proofs.lemmas.Result.{IfOk-weaker}
use Rattle.app_model.specs.Ancestors.{IsParent}
use Rattle.app_model.specs.Parts.{ClassParts}
use Rattle.call_targets.specs.Below.{Puts}
use Rattle.call_targets.proofs.Downward.{puts_next}
use Rattle.call_targets.proofs.children.Children.put_class.Goals as goal

pub returns : goal.returns
returns c = IfOk-weaker c.put_all.result _ _ (λ done h row e.
    let same : c.class-row.result.now ≡ row = (let f = c.class-row.ensures.is in cc) in
    subst (λ (k : ClassParts). Puts (IsParent k) k.name c.args.self.now c.put_all.new.self) (c.row.view_is ∙ same)
    (puts_next _ _ _ c.row.inside.name c.args.self.now c.put_super.new.self c.put_all.new.self c.in_ok-put_super.ensures (subst (λ ks. Puts (λ t. Contains ks (record { 0 = t })) c.row.inside.name c.put_super.new.self c.put_all.new.self) c.deref.ensures.value h)
    (λ t. (λ p. p, λ p. p)))) c.put_all.ensures
