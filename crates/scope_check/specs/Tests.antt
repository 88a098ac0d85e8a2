-- The tests of the rules by number, from 0 on: at an instruction, and at a method as a whole.
use Rattle.std.specs.Prelude.{ℕ, ◌≡◌, ◌==◌, ◌&&◌, ◌||◌, not, Bool, true, false, if◌then◌else◌, List, [], ◌∷◌, Option, Some, None, bytes_eq, slice_get, slice_index}
use Rattle.std.specs.Int.{bit_at}
use Rattle.std.specs.List.{list_any}
use Rattle.ns_base.specs.declared.rows.MethodNo.{MethodNo}
use Rattle.dalvik.specs.declared.ins.Ins.{Ins}
use Rattle.app_model.specs.declared.rows.MethodRow.{MethodRow}
use Rattle.app_model.specs.declared.rows.Named.{Named}
use Rattle.app_model.specs.CallGraph.{callees_at}
use Rattle.app_model.specs.Components.{ComponentParts}
use Rattle.app_model.specs.LockUse.{invoke_of}
use Rattle.app_model.specs.Masks.{in_lock_mask}
use Rattle.app_model.specs.Parts.{AppParts}
use Rattle.app_model.specs.Slots.{slot_at}
use Rattle.app_model.specs.TagTable.{row_at}
use Rattle.app_model.specs.Targets.{call_by}
use Rattle.app_model.specs.Words.{ins_at, named_at}
use Rattle.act_model.specs.Acts.{act_at}
use Rattle.flow_model.specs.Breaks.{Candidate, class_initialiser, inherits, initialiser, initialises, is_callback_name, is_lock_ins, is_native, is_static_access, is_thread, loads_code, made_type, method_name, passes_named, reflects, touches}
use Rattle.flow_model.specs.Breaks as breaks
use Rattle.flow_model.specs.Passes.{is_instance}
use Rattle.flow_model.specs.Scope.{is_escape, is_wrong_call}
use Rattle.scope_facts.specs.declared.kinds.KindRow.{KindRow}
use Rattle.scope_check.specs.declared.rules.Called.{Called}
use Rattle.scope_facts.specs.Fields.{is_marked}
use Rattle.scope_check.specs.Surveys.{SurveyParts}

abbrev pub is_thread_call : Option ℕ → KindRow → Bool
is_thread_call None kind = false
is_thread_call (Some op) kind = (is_instance (call_by op) && kind.thread) || kind.executors

pub record IsCalled (app : AppParts) (op : Option ℕ) (named : Option Named) (called : Called) : Type 0 where
  pub loads : called.loads ≡ passes_named (loads_code app) named
  pub reflects : called.reflects ≡ passes_named (reflects app) named
  pub thread : called.thread ≡ passes_named (breaks.is_thread_call app op) named

abbrev pub calls_native : Candidate → (m i : ℕ) → Bool
calls_native x m i = list_any (λ (n : MethodNo). is_native x.app n.0) (callees_at x.graph m i)

abbrev pub makes_thread : AppParts → Option ℕ → Bool
makes_thread app None = false
makes_thread app (Some t) = is_thread app t

abbrev pub differ : Bool → Bool → Bool
differ true b = not b
differ false b = b

abbrev pub is_unfit : (faulty statics : ℕ) → Option Ins → Option ℕ → Bool
is_unfit faulty statics own None = false
is_unfit faulty statics own (Some l) = in_lock_mask faulty l || differ (is_static_access own) (in_lock_mask statics l)

-- at an instruction that is reached; second stores are tested apart
abbrev pub reached_tests : SurveyParts → (m i : ℕ) → List Bool
reached_tests s m i =
    false
    ∷ (calls_native s.case m i || passes_named (loads_code s.case.app) (named_at s.case.app m i))
    ∷ passes_named (reflects s.case.app) (named_at s.case.app m i)
    ∷ (makes_thread s.case.app (made_type (ins_at s.case.app m i)) || passes_named (breaks.is_thread_call s.case.app (invoke_of (ins_at s.case.app m i))) (named_at s.case.app m i))
    ∷ is_escape (act_at s.case.app m i) (row_at s.case.tags m i)
    ∷ is_wrong_call (act_at s.case.app m i) (row_at s.case.tags m i)
    ∷ false
    ∷ is_unfit s.faulty s.statics (ins_at s.case.app m i) (slot_at s.case.app m i)
    ∷ []

-- at one that is not reached
abbrev pub unreached_tests : SurveyParts → (m i : ℕ) → List Bool
unreached_tests s m i =
    false ∷ false ∷ false ∷ false ∷ false ∷ false ∷ false ∷ false
    ∷ (not (bytes_eq (method_name s.case.app m) class_initialiser) && touches s.case.app m i) ∷ []

abbrev pub tests_at : SurveyParts → (m i : ℕ) → List Bool
tests_at s m i = if is_marked s.reached m then reached_tests s m i else unreached_tests s m i

-- ---- a method as a whole
abbrev pub is_entry : List MethodNo → (m : ℕ) → Bool
is_entry entries m = list_any (λ (entry : MethodNo). entry.0 == m) entries

-- a component's class is that of the method, or inherits it
abbrev pub is_hosted : AppParts → List ComponentParts → Option MethodRow → Bool
is_hosted app list None = false
is_hosted app list (Some method) = list_any (λ (component : ComponentParts). inherits app component.class method.class) list

abbrev pub is_unlisted : SurveyParts → (m : ℕ) → Bool
is_unlisted s m = not (is_marked s.reached m) && (is_callback_name (method_name s.case.app m) && (bit_at (slice_index s.below m) 0 == 1))

abbrev pub is_initialiser : SurveyParts → (m : ℕ) → Bool
is_initialiser s m =
    bytes_eq (method_name s.case.app m) class_initialiser
    || (bytes_eq (method_name s.case.app m) initialiser && (not (is_marked s.reached m) && is_hosted s.case.app s.case.list (slice_get s.case.app.methods m)))

abbrev pub head_tests : SurveyParts → (m : ℕ) → List Bool
head_tests s m =
    false ∷ (is_native s.case.app m && is_entry s.entries m)
    ∷ false ∷ false ∷ false ∷ false ∷ false ∷ false ∷ false
    ∷ is_unlisted s m ∷ ((bit_at (slice_index s.below m) 1 == 1) && is_initialiser s m) ∷ []

-- ---- a method that is not reached
abbrev pub may_not_touch : AppParts → (m : ℕ) → Bool
may_not_touch app m = not (bytes_eq (method_name app m) class_initialiser) && not (initialises app m)
