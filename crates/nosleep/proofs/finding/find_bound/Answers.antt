use Rattle.nosleep.proofs.Found.{targets_found}
use Rattle.nosleep.proofs.finding.find_bound.Goals as goal

pub returns-in-Ok : goal.returns-in-Ok
returns-in-Ok c = λ rows files is bound. c.find_called.ensures rows files is bound

pub returns-in_ok-refuse_targets-in-Err : goal.returns-in_ok-refuse_targets-in-Err
returns-in_ok-refuse_targets-in-Err c = λ rows files is bound. targets_found files rows _ _ is bound c.in-Err.fault c.in_ok-refuse_targets-in-Err.field-0 c.in-Err.ensures.cause c.in_ok-refuse_targets-in-Err.ensures
