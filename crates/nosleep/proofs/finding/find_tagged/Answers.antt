use Rattle.nosleep.proofs.Found.{scope_found, subject_found}
use Rattle.nosleep.proofs.finding.find_tagged.Goals as goal

pub returns-in-Ok : goal.returns-in-Ok
returns-in-Ok c = λ rows files is bound. subject_found files rows _ _ is bound _ _ c.requires.within _ c.in-Ok.ensures.same c.in-Ok.ensures.subject

pub returns-in_ok-refuse_scope-in-Err : goal.returns-in_ok-refuse_scope-in-Err
returns-in_ok-refuse_scope-in-Err c = λ rows files is bound. scope_found files rows _ _ is bound _ _ c.requires.within c.in-Err.fault c.in_ok-refuse_scope-in-Err.field-0 c.requires.tags c.in-Err.ensures.cause c.in_ok-refuse_scope-in-Err.ensures
