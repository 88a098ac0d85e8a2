use Rattle.std.proofs.Common.{refl, Ok}
use Rattle.component_list.specs.Binding.{bound_of}
use Rattle.nosleep.specs.Files.{unbound}
use Rattle.nosleep.proofs.Found.{list_found}
use Rattle.nosleep.proofs.finding.find_in_app.Goals as goal

pub returns-in-Ok-bind_list : goal.returns-in-Ok-bind_list
returns-in-Ok-bind_list c = λ files is.
    c.find_bound.ensures c.args.listed.now files is c.in-Ok-bind_list.ensures.exact

pub returns-in_ok-refuse_list-in-Err-bind_list : goal.returns-in_ok-refuse_list-in-Err-bind_list
returns-in_ok-refuse_list-in-Err-bind_list c = λ files is.
    list_found (Ok c.args.listed.now) files (bound_of c.args.app c.args.listed.now) c.in-Err-bind_list.fault c.in_ok-refuse_list-in-Err-bind_list.field-0 c.in-Err-bind_list.ensures.exact
    (λ e. unbound c.args.listed.now c.args.app c.in-Err-bind_list.fault refl is e) c.in_ok-refuse_list-in-Err-bind_list.ensures
