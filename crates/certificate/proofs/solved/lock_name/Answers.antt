use Rattle.std.proofs.Common.{◌≡◌, ℕ, List, subst, sym, ◌∙◌}
use Rattle.std.specs.Prelude.{IfOk}
use Rattle.certificate.proofs.ShownNames.{no_field, text_is}
use Rattle.certificate.proofs.solved.lock_name.Goals as goal

pub returns-in-Some-clause-text : goal.returns-in-Some-clause-text
returns-in-Some-clause-text c =
    let text = text_is c.args.app.now c.args.lock.0 c.in-Some.field c.class_text.result.now c.name_text.result.now (sym c.lock_field.ensures ∙ c.in-Some.is) c.class_text.ensures c.name_text.ensures in
    subst (λ (l : List ℕ). IfOk c.shown_name.result (λ t. t.items ≡ l)) text c.shown_name.ensures.text

pub returns-in-None-clause-text : goal.returns-in-None-clause-text
returns-in-None-clause-text c = absurd (no_field c.args.app.now c.args.lock.0 c.requires.sound c.requires.lock (sym c.lock_field.ensures ∙ c.in-None.is))

pub returns-in-None-clause-shown : goal.returns-in-None-clause-shown
returns-in-None-clause-shown c = absurd (no_field c.args.app.now c.args.lock.0 c.requires.sound c.requires.lock (sym c.lock_field.ensures ∙ c.in-None.is))
