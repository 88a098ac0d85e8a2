use Rattle.std.proofs.Common.{map}
use Rattle.component_list.specs.Reading.{listed_of}
use Rattle.nosleep.specs.Files.{bad_list}
use Rattle.nosleep.proofs.Found.{list_found}
use Rattle.nosleep.proofs.finding.find_by_list.Goals as goal

pub returns-in_ok-refuse_list-in-Err : goal.returns-in_ok-refuse_list-in-Err
returns-in_ok-refuse_list-in-Err c =
    list_found (listed_of c.args.list.now) (map (λ v. v.items) c.args.files.now) (listed_of c.args.list.now) c.in-Err.fault c.in_ok-refuse_list-in-Err.field-0 c.in-Err.ensures.exact
    (λ e. bad_list c.in-Err.fault e) c.in_ok-refuse_list-in-Err.ensures
