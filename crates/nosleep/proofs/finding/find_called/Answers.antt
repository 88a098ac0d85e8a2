use Rattle.nosleep.proofs.Found.{tags_found}
use Rattle.nosleep.proofs.finding.find_called.Goals as goal

pub returns-in-Ok : goal.returns-in-Ok
returns-in-Ok c = λ rows files is bound. c.find_tagged.ensures rows files is bound

pub returns-in_ok-refuse_tags-in-Err : goal.returns-in_ok-refuse_tags-in-Err
returns-in_ok-refuse_tags-in-Err c = λ rows files is bound. tags_found files rows _ _ is bound _ c.in-Err.fault c.in_ok-refuse_tags-in-Err.field-0 c.requires.few c.requires.graph c.in-Err.ensures.cause c.in_ok-refuse_tags-in-Err.ensures
