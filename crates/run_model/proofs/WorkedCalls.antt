-- The worked runs of lifecycles, of calls and of shared fields, by computation.
use Rattle.std.proofs.Common.{refl}
use Rattle.app_model.specs.Components.{callback_at, edge_at}
use Rattle.app_model.specs.Hierarchy.{above_type, class_of_type, has_unknown_above, is_sub, line_of, lock_in, lock_of, lookup_of, may_be_sub, method_in, superclass_at}
use Rattle.app_model.specs.LockUse.{lock_use_at}
use Rattle.app_model.specs.Names.{is_proto, name_text, result_text, type_text}
use Rattle.app_model.specs.Slots.{slot_at}
use Rattle.app_model.specs.Subject.{owner_at, slot_count}
use Rattle.app_model.specs.Targets.{is_on_array, super_of}
use Rattle.app_model.specs.Words.{operand_at, place_at, places_of}
use Rattle.act_model.specs.Acts.{act_at}
use Rattle.run_model.specs.Heaps.{cell, is_held_lock, is_lost, is_lost_lock, lock_at, status}
use Rattle.run_model.specs.Worked.{methods_seen, next_seen, seen}
use Rattle.run_model.specs.WorkedCalls.{CaughtAbove, EndsAmidHeld, FirstIsLost, FramesLeft, HeldOverCall, ReleasesOther, SecondHolds, activity, holding, sharing, throwing}

pub record AreWorkedCalls : Type 0 where
  pub second_object : SecondHolds
  pub lost_object : FirstIsLost
  pub frames_left : FramesLeft
  pub caught : CaughtAbove
  pub over_call : HeldOverCall
  pub amid_held : EndsAmidHeld
  pub other_released : ReleasesOther

pub worked_calls : AreWorkedCalls
unfolding seen next_seen methods_seen activity throwing holding sharing status is_lost is_lost_lock is_held_lock lock_at cell act_at type_text name_text place_at places_of operand_at lock_use_at slot_at lock_in lock_of line_of class_of_type superclass_at may_be_sub is_sub above_type has_unknown_above is_proto result_text callback_at edge_at owner_at slot_count is_on_array super_of lookup_of method_in
worked_calls = record { second_object = refl; lost_object = refl; frames_left = refl; caught = refl; over_call = refl; amid_held = refl; other_released = refl }
