-- A store to a lock field names one of the application's lock fields.
use Rattle.std.proofs.Common.{◌≡◌, ℕ, ◌<◌, ◌==◌, Bool, true, false, if◌then◌else◌, List, [], ◌∷◌, length, Option, Some, None, refl, sym, ap, ◌∙◌, bytes_eq}
use Rattle.std.proofs.lemmas.List.Quantifiers.{position-Some}
use Rattle.ns_base.specs.declared.rows.LockNo.{LockNo}
use Rattle.dalvik.specs.declared.ins.Ins.{Ins}
use Rattle.dalvik.specs.declared.ins.Ins.TheVariants as ins
use Rattle.dalvik.specs.declared.opcode.TheConstants.{IF_EQZ, IF_NEZ, MONITOR_ENTER, MOVE_RESULT_WIDE}
use Rattle.app_model.specs.declared.rows.NamedField.{NamedField}
use Rattle.app_model.specs.Hierarchy.{line_of, lock_in, lock_of, nearest, or_else}
use Rattle.app_model.specs.Names.{type_text, wake_lock_name}
use Rattle.app_model.specs.Parts.{AppParts}
use Rattle.app_model.specs.Slots.{is_object_access, lock_named, slot_at}
use Rattle.app_model.specs.Words.{field_named_at, ins_at}
use Rattle.app_model.specs.Subject.{SubjectParts, slot_count}
use Rattle.act_model.specs.declared.act.Act.{Act}
use Rattle.act_model.specs.declared.act.Act.TheVariants.{Go, Check, TakeResult, Test, Write, WriteSlot}
use Rattle.act_model.specs.declared.act.Throws.{Throws}
use Rattle.act_model.specs.declared.act.Throws.TheVariants.{Never, WhereZero}
use Rattle.act_model.specs.declared.act.Written.TheVariants as written
use Rattle.act_model.specs.Acts.{act_at, act_by, act_of, read_act, write_act}

-- ---- what an access names
pub nearest_below : (found : ℕ → Option ℕ) (n l : ℕ) → ((c k : ℕ) → found c ≡ Some k → k < n) → (above : List ℕ) → nearest found above ≡ Some l → l < n
nearest_below found n l below [] is = cc
nearest_below found n l below (c ∷ above) is = by (nearest_below found n l below above) (found c) refl is
  where
    by : (nearest found above ≡ Some l → l < n) → (o : Option ℕ) → found c ≡ o → or_else o (nearest found above) ≡ Some l → l < n
    by rest None here is = rest is
    by rest (Some k) here is = below c l (here ∙ is)

named_below : (app : AppParts) (field : Option NamedField) (l : ℕ) → lock_named app field ≡ Some l → l < length app.locks
unfolding lock_of lock_in
named_below app None l is = cc
named_below app (Some field) l is = by (bytes_eq (type_text app field.kind.0) wake_lock_name) is
  where
    by : (b : Bool) → (if b then lock_of app field.class.0 field.name.0 else None) ≡ Some l → l < length app.locks
    by true is = nearest_below (lock_in app field.name.0) (length app.locks) l (λ c k found. (position-Some _ app.locks k (record { 0 = 0 }) found).0) (line_of app.classes field.class.0) is
    by false is = cc

pub slot_below : (app : AppParts) (m i l : ℕ) → slot_at app m i ≡ Some l → l < length app.locks
unfolding slot_at
slot_below app m i l is = by (is_object_access (ins_at app m i)) is
  where
    by : (b : Bool) → (if b then lock_named app (field_named_at app m i) else None) ≡ Some l → l < length app.locks
    by true is = named_below app (field_named_at app m i) l is
    by false is = cc

-- ---- the lock field that an act stores to
abbrev pub stored_slot : Act → Option ℕ
stored_slot (WriteSlot from l when) = Some l.0
stored_slot _ = None

-- two acts of which one is chosen, and what is the same of both
pub either_same : {A : Type 0} (f : Act → A) (b : Bool) (x y : Act) (o : A) → f x ≡ o → f y ≡ o → f (if b then x else y) ≡ o
either_same f true x y o a b = a
either_same f false x y o a b = b

pub reads_none : (to : ℕ) (slot : Option ℕ) (op : ℕ) (when : Throws) → stored_slot (read_act to slot op when) ≡ None
reads_none to None op when = refl
reads_none to (Some l) op when = refl

pub writes_slot : (from : ℕ) (slot : Option ℕ) (when : Throws) → stored_slot (write_act from slot when) ≡ slot
writes_slot from None when = refl
writes_slot from (Some l) when = refl

act_stores : (app : AppParts) (m i : ℕ) (own : Ins) (l : ℕ) → stored_slot (act_of app m i own) ≡ Some l → slot_at app m i ≡ Some l
act_stores app m i (ins.MoveResult op to) l is = let none = either_same stored_slot (op == MOVE_RESULT_WIDE) (Write to written.Pair Never) (TakeResult to) None refl refl in cc
act_stores app m i (ins.Monitor op object) l is = let none = either_same stored_slot (op == MONITOR_ENTER) (Check (WhereZero object)) Go None refl refl in cc
act_stores app m i (ins.IfZero op value offset) l is =
    let none = either_same stored_slot (op == IF_EQZ) (Test value 1) (if op == IF_NEZ then Test value 0 else Go) None refl (either_same stored_slot (op == IF_NEZ) (Test value 0) Go None refl refl) in cc
act_stores app m i (ins.FieldGet op to object field) l is = let none = reads_none to (slot_at app m i) op (WhereZero object) in cc
act_stores app m i (ins.FieldPut op value object field) l is = sym (writes_slot value (slot_at app m i) (WhereZero object)) ∙ is
act_stores app m i (ins.StaticGet op to field) l is = let none = reads_none to (slot_at app m i) op Never in cc
act_stores app m i (ins.StaticPut op value field) l is = sym (writes_slot value (slot_at app m i) Never) ∙ is
act_stores app m i _ l is = cc

pub act_stored_below : (app : AppParts) (m i from : ℕ) (l : LockNo) (when : Throws) → act_at app m i ≡ Some (WriteSlot from l when) → l.0 < length app.locks
unfolding act_at
act_stored_below app m i from l when is = by (ins_at app m i) is
  where
    by : (o : Option Ins) → act_by app m i o ≡ Some (WriteSlot from l when) → l.0 < length app.locks
    by None is = cc
    by (Some own) is =
        let same : act_of app m i own ≡ WriteSlot from l when = cc in
        slot_below app m i l.0 (act_stores app m i own l.0 (ap stored_slot same))

pub stored_below : (x : SubjectParts) (m i from : ℕ) (l : LockNo) (when : Throws) → act_at x.app m i ≡ Some (WriteSlot from l when) → l.0 < slot_count x
unfolding slot_count
stored_below x m i from l when is = act_stored_below x.app m i from l when is
