use Rattle.std.proofs.Common.{ap, ◌∙◌}
use Rattle.app_rows.specs.Numbers.{seen_in}
use Rattle.app_rows.proofs.Sizes.{fields-few, classes-few, app-sound}
use Rattle.app_rows.proofs.making.make_rows.Goals as goal

pub join_rows-requires : goal.join_rows-requires
join_rows-requires c = fields-few _ _ _ c.requires c.in_ok-members.ensures

pub returns-clause-app : goal.returns-clause-app
returns-clause-app c =
    let seen = c.in_ok-seen.ensures in
    app-sound _ _ _ _ c.requires (seen.lists ∙ ap seen_in c.deref.ensures.value) c.in_ok-members.ensures seen.types seen.names seen.protos c.in_ok-rows.ensures

pub returns-clause-classes : goal.returns-clause-classes
returns-clause-classes c = classes-few _ _ _ _ c.requires c.in_ok-members.ensures c.in_ok-rows.ensures
