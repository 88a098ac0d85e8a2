use Rattle.std.proofs.Common.{[], sym, ap, ◌∙◌}
use Rattle.app_model.specs.Sought.{found_in}
use Rattle.app_model.proofs.ShownBytes.{whole}
use Rattle.app_model.proofs.shown.name_byte.Goals as goal

pub returns-in-Found : goal.returns-in-Found
returns-in-Found c = sym (ap (λ s. found_in s []) c.in-Found.is) ∙ whole c.args.name.now c.args.at c.shown_at.result c.shown_at.ensures

pub returns-in-Past : goal.returns-in-Past
returns-in-Past c = sym (ap (λ s. found_in s []) c.in-Past.is) ∙ whole c.args.name.now c.args.at c.shown_at.result c.shown_at.ensures
