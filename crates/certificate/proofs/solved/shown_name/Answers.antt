use Rattle.std.proofs.Common.{◌≡◌, ℕ, List, true, subst, sym, ap, ◌∙◌, ◌++◌, arith}
use Rattle.cert_line.specs.Lines.{is_shown}
use Rattle.app_model.specs.Shown.{member_text}
use Rattle.certificate.proofs.ShownNames.{member_shown}
use Rattle.certificate.proofs.solved.shown_name.Goals as goal

pub returns-clause-shown : goal.returns-clause-shown
returns-clause-shown c =
    let text = c.in_ok-push_member.ensures ∙ ap (λ (l : List ℕ). l ++ member_text c.args.class.now c.args.field.now) c.new-text.ensures.items in
    subst (λ (l : List ℕ). is_shown l ≡ true) (sym text) (member_shown c.args.class.now c.args.field.now (λ i. omega (arith, c.type_inv.class i)) (λ i. omega (arith, c.type_inv.field i)))
