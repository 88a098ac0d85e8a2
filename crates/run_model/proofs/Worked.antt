-- The worked runs, by computation.
use Rattle.std.proofs.Common.{refl}
use Rattle.app_model.specs.Components.{callback_at, edge_at}
use Rattle.app_model.specs.Hierarchy.{above_type, class_of_type, has_unknown_above, is_sub, line_of, lock_in, lock_of, lookup_of, may_be_sub, method_in, superclass_at}
use Rattle.app_model.specs.LockUse.{lock_use_at}
use Rattle.app_model.specs.Names.{is_proto, name_text, result_text, type_text}
use Rattle.app_model.specs.Slots.{slot_at}
use Rattle.app_model.specs.Subject.{owner_at, slot_count}
use Rattle.app_model.specs.Targets.{is_on_array, super_of}
use Rattle.app_model.specs.Words.{operand_at, place_at, places_of}
use Rattle.act_model.specs.Acts.{act_at}
use Rattle.run_model.specs.Heaps.{cell, is_held_lock, is_lost, is_lost_lock, lock_at, status}
use Rattle.run_model.specs.Worked.{seen, next_seen, plain, leaking, working, failing, owning, giving, pair, DivisionThrows, DivisionByTwo, WideRead, MonitorOnNull, MonitorOnObject, StoreToNull, StoreToObject, SwitchGoes, ZeroBranches, NonzeroBranches, CopyUp, CopyDown, LeavesHeld, LeavesFree, ReleaseThrows, LockEscapes, MakingThrows, LosesLock, KeepsStatic, ClearsOwned, ReceiverFirst, ServiceFirst, OutsideEnds, methods_seen, calling, resting, StaticCall, StaticReturn, ThrowsThrough, PicksOverride, CallsSuper, LeadsOutside, NoReceiver, NullReceiver, RestsAlone, starts_counted, start_seen, StartsCounted, FirstSlowest, NoSuchStart}

-- one instruction, and two
pub record ArePlainRuns : Type 0 where
  pub division : DivisionThrows
  pub literal : DivisionByTwo
  pub wide_read : WideRead
  pub null_monitor : MonitorOnNull
  pub monitor : MonitorOnObject
  pub null_store : StoreToNull
  pub store : StoreToObject
  pub switch : SwitchGoes
  pub zero : ZeroBranches
  pub nonzero : NonzeroBranches
  pub up : CopyUp
  pub down : CopyDown

pub plain_runs : ArePlainRuns
unfolding seen next_seen plain act_at slot_at place_at places_of operand_at callback_at edge_at owner_at slot_count
plain_runs = record { division = refl; literal = refl; wide_read = refl; null_monitor = refl; monitor = refl; null_store = refl; store = refl; switch = refl; zero = refl; nonzero = refl; up = refl; down = refl }

-- whole callbacks
pub record AreLockRuns : Type 0 where
  pub held : LeavesHeld
  pub free : LeavesFree
  pub release : ReleaseThrows
  pub escape : LockEscapes
  pub throws : MakingThrows
  pub lost : LosesLock
  pub kept : KeepsStatic
  pub cleared : ClearsOwned
  pub receiver : ReceiverFirst
  pub service : ServiceFirst
  pub outside : OutsideEnds

pub lock_runs : AreLockRuns
unfolding seen next_seen leaking working failing owning giving pair status is_lost is_lost_lock is_held_lock lock_at cell act_at type_text name_text place_at places_of operand_at lock_use_at slot_at lock_in lock_of line_of class_of_type superclass_at may_be_sub is_sub above_type has_unknown_above is_proto result_text callback_at edge_at owner_at slot_count is_on_array super_of lookup_of method_in
lock_runs = record { held = refl; free = refl; release = refl; escape = refl; throws = refl; lost = refl; kept = refl; cleared = refl; receiver = refl; service = refl; outside = refl }

-- calls, and starts by number
pub record AreCallRuns : Type 0 where
  pub static_call : StaticCall
  pub static_return : StaticReturn
  pub through : ThrowsThrough
  pub overriding : PicksOverride
  pub super_call : CallsSuper
  pub leads_outside : LeadsOutside
  pub no_receiver : NoReceiver
  pub null_receiver : NullReceiver
  pub rest : RestsAlone
  pub counted : StartsCounted
  pub first_slowest : FirstSlowest
  pub no_such_start : NoSuchStart

pub call_runs : AreCallRuns
unfolding seen next_seen methods_seen starts_counted start_seen calling resting pair status act_at type_text name_text place_at places_of operand_at lock_use_at slot_at line_of class_of_type superclass_at may_be_sub is_sub above_type has_unknown_above is_proto result_text callback_at edge_at owner_at slot_count is_on_array super_of lookup_of method_in is_lost cell
call_runs = record { static_call = refl; static_return = refl; through = refl; overriding = refl; super_call = refl; leads_outside = refl; no_receiver = refl; null_receiver = refl; rest = refl; counted = refl; first_slowest = refl; no_such_start = refl }
