use Rattle.run_model.proofs.WorkedCalls.{worked_calls}
use Rattle.run_model.proofs.laws.worked_calls.Goals as goal

pub returns-clause-second_object : goal.returns-clause-second_object
returns-clause-second_object c = worked_calls.second_object

pub returns-clause-lost_object : goal.returns-clause-lost_object
returns-clause-lost_object c = worked_calls.lost_object

pub returns-clause-frames_left : goal.returns-clause-frames_left
returns-clause-frames_left c = worked_calls.frames_left

pub returns-clause-caught : goal.returns-clause-caught
returns-clause-caught c = worked_calls.caught

pub returns-clause-over_call : goal.returns-clause-over_call
returns-clause-over_call c = worked_calls.over_call

pub returns-clause-amid_held : goal.returns-clause-amid_held
returns-clause-amid_held c = worked_calls.amid_held

pub returns-clause-other_released : goal.returns-clause-other_released
returns-clause-other_released c = worked_calls.other_released
