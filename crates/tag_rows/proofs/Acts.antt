-- Which lock fields and sites acts of an application name.
use Rattle.std.proofs.Common.{◌≡◌, ℕ, ◌<◌, ◌==◌, true, false, if◌then◌else◌, List, length, Option, Some, None, refl, sym, ap, ◌∙◌, subst, ⊎_elim, arith}
use Rattle.std.specs.Prelude.{slice_get, slice_set}
use Rattle.std.proofs.lemmas.Bool.{cases_lt}
use Rattle.std.proofs.lemmas.List.{get_or_past}
use Rattle.std.proofs.lemmas.Option.{slice_get_cases, slice_get_within}
use Rattle.dalvik.specs.Body.{BodyRows}
use Rattle.dalvik.specs.declared.body.Place.{Place}
use Rattle.dalvik.specs.declared.ins.Ins.{Ins}
use Rattle.dalvik.specs.declared.ins.Ins.TheVariants as ins
use Rattle.dalvik.specs.declared.opcode.TheConstants.{IF_EQZ, IF_NEZ, MONITOR_ENTER, MOVE_RESULT_WIDE}
use Rattle.app_model.specs.declared.lock_use.LockUse.{LockUse}
use Rattle.app_model.specs.declared.lock_use.LockUse.TheVariants.{Plain, Make, Acquire, Release, IsHeld, Mode, Wrong}
use Rattle.app_model.specs.LockUse.{lock_use_at}
use Rattle.app_model.specs.Parts.{AppParts}
use Rattle.app_model.specs.Sites.{is_make}
use Rattle.app_model.specs.Slots.{slot_at}
use Rattle.app_model.specs.Words.{IsApp, code_len, ins_at, ins_of, no_body, place_at, places_of}
use Rattle.act_model.specs.declared.act.Act.{Act}
use Rattle.act_model.specs.declared.act.Act.TheVariants.{Go, Check, ReadSlot, TakeResult, Test, Write, WriteSlot, Call}
use Rattle.app_model.specs.declared.tag.Tag.{Tag}
use Rattle.dalvik.specs.Calls.{receiver_of}
use Rattle.act_model.specs.Changes.{after, result_cell, result_tag, tag_in, thrown}
use Rattle.act_model.specs.declared.act.Gives.{Gives}
use Rattle.act_model.specs.declared.act.Throws.{Throws}
use Rattle.act_model.specs.declared.act.Throws.TheVariants.{Never, WhereZero}
use Rattle.act_model.specs.declared.act.Written.TheVariants as written
use Rattle.tag_rows.specs.Changes.{makes_lock}
use Rattle.act_model.specs.Acts.{act_at, act_by, act_of, read_act, write_act}
use Rattle.flow_model.proofs.Slots.{either_same, slot_below}

-- ---- the lock field that an act reads or writes
abbrev pub named_slot : Act → Option ℕ
named_slot (ReadSlot to l when) = Some l.0
named_slot (WriteSlot from l when) = Some l.0
named_slot _ = None

reads_slot : (to : ℕ) (slot : Option ℕ) (op : ℕ) (when : Throws) → named_slot (read_act to slot op when) ≡ slot
reads_slot to None op when = refl
reads_slot to (Some l) op when = refl

writes_slot : (from : ℕ) (slot : Option ℕ) (when : Throws) → named_slot (write_act from slot when) ≡ slot
writes_slot from None when = refl
writes_slot from (Some l) when = refl

reads_no_lock : (to : ℕ) (slot : Option ℕ) (op : ℕ) (when : Throws) → makes_lock (read_act to slot op when) ≡ false
reads_no_lock to None op when = refl
reads_no_lock to (Some l) op when = refl

writes_no_lock : (from : ℕ) (slot : Option ℕ) (when : Throws) → makes_lock (write_act from slot when) ≡ false
writes_no_lock from None when = refl
writes_no_lock from (Some l) when = refl

act_named : (app : AppParts) (m i : ℕ) (own : Ins) (l : ℕ) → named_slot (act_of app m i own) ≡ Some l → slot_at app m i ≡ Some l
act_named app m i (ins.MoveResult op to) l is = let none = either_same named_slot (op == MOVE_RESULT_WIDE) (Write to written.Pair Never) (TakeResult to) None refl refl in cc
act_named app m i (ins.Monitor op object) l is = let none = either_same named_slot (op == MONITOR_ENTER) (Check (WhereZero object)) Go None refl refl in cc
act_named app m i (ins.IfZero op value offset) l is =
    let none = either_same named_slot (op == IF_EQZ) (Test value 1) (if op == IF_NEZ then Test value 0 else Go) None refl (either_same named_slot (op == IF_NEZ) (Test value 0) Go None refl refl) in cc
act_named app m i (ins.FieldGet op to object field) l is = sym (reads_slot to (slot_at app m i) op (WhereZero object)) ∙ is
act_named app m i (ins.FieldPut op value object field) l is = sym (writes_slot value (slot_at app m i) (WhereZero object)) ∙ is
act_named app m i (ins.StaticGet op to field) l is = sym (reads_slot to (slot_at app m i) op Never) ∙ is
act_named app m i (ins.StaticPut op value field) l is = sym (writes_slot value (slot_at app m i) Never) ∙ is
act_named app m i _ l is = cc

act_makes : (app : AppParts) (m i : ℕ) (own : Ins) → makes_lock (act_of app m i own) ≡ true → is_make (lock_use_at app m i) ≡ true
act_makes app m i (ins.MoveResult op to) is = let none = either_same makes_lock (op == MOVE_RESULT_WIDE) (Write to written.Pair Never) (TakeResult to) false refl refl in cc
act_makes app m i (ins.Monitor op object) is = let none = either_same makes_lock (op == MONITOR_ENTER) (Check (WhereZero object)) Go false refl refl in cc
act_makes app m i (ins.IfZero op value offset) is =
    let none = either_same makes_lock (op == IF_EQZ) (Test value 1) (if op == IF_NEZ then Test value 0 else Go) false refl (either_same makes_lock (op == IF_NEZ) (Test value 0) Go false refl refl) in cc
act_makes app m i (ins.FieldGet op to object field) is = let none = reads_no_lock to (slot_at app m i) op (WhereZero object) in cc
act_makes app m i (ins.FieldPut op value object field) is = let none = writes_no_lock value (slot_at app m i) (WhereZero object) in cc
act_makes app m i (ins.StaticGet op to field) is = let none = reads_no_lock to (slot_at app m i) op Never in cc
act_makes app m i (ins.StaticPut op value field) is = let none = writes_no_lock value (slot_at app m i) Never in cc
act_makes app m i (ins.Invoke op method arguments) is = is
act_makes app m i _ is = cc

pub act_slot : (app : AppParts) (m i l : ℕ) (a : Act) → act_at app m i ≡ Some a → named_slot a ≡ Some l → l < length app.locks
unfolding act_at
act_slot app m i l a is named = go (ins_at app m i) is
  where
    go : (own : Option Ins) → act_by app m i own ≡ Some a → l < length app.locks
    go None e = cc
    go (Some own) e = (let same : act_of app m i own ≡ a = cc in slot_below app m i l (act_named app m i own l (ap named_slot same ∙ named)))

pub act_made : (app : AppParts) (m i : ℕ) (a : Act) → act_at app m i ≡ Some a → makes_lock a ≡ true → is_make (lock_use_at app m i) ≡ true
unfolding act_at
act_made app m i a is makes = go (ins_at app m i) is
  where
    go : (own : Option Ins) → act_by app m i own ≡ Some a → is_make (lock_use_at app m i) ≡ true
    go None e = cc
    go (Some own) e = (let same : act_of app m i own ≡ a = cc in act_makes app m i own (ap makes_lock same ∙ makes))

-- an instruction that does something is there
pub act_within : (app : AppParts) (m i : ℕ) (a : Act) → act_at app m i ≡ Some a → i < code_len app m
unfolding act_at place_at
act_within app m i a is = go (slice_get (places_of app m) i) refl is
  where
    go : (place : Option Place) → slice_get (places_of app m) i ≡ place → act_by app m i (ins_of place) ≡ Some a → i < code_len app m
    go None at e = cc
    go (Some place) at e = slice_get_within (places_of app m) i place at

pub act_there : (app : AppParts) (m i : ℕ) → i < code_len app m → (a : Act) × (act_at app m i ≡ Some a)
unfolding act_at place_at
act_there app m i lt = ⊎_elim (λ h. (act_of app m i h.0.ins, rw h.2 refl)) (λ past. absurd (omega (arith, past, lt))) (slice_get_cases (places_of app m) i).1

-- and so is its method
pub method_within : (app : AppParts) (m i : ℕ) → IsApp app → i < code_len app m → m < length app.methods
unfolding places_of
method_within app m i sizes lt = ⊎_elim (λ (l : m < length app.code). (let e = sizes.code in omega arith)) (λ past. absurd (let e = get_or_past app.code m no_body past in let h : i < 0 = subst (λ (body : BodyRows). i < length body.places) e lt in omega arith)) (cases_lt m (length app.code))

-- ---- the site of an act that makes no lock
result_any : (s t : ℕ) (usage : LockUse) (gives : Gives) (receiver : Tag) → is_make usage ≡ false → result_tag s usage gives receiver ≡ result_tag t usage gives receiver
result_any s t Make gives receiver off = absurd (cc)
result_any s t Plain gives receiver off = refl
result_any s t Acquire gives receiver off = refl
result_any s t Release gives receiver off = refl
result_any s t IsHeld gives receiver off = refl
result_any s t Mode gives receiver off = refl
result_any s t Wrong gives receiver off = refl

pub any_site : (s t : ℕ) (a : Act) → makes_lock a ≡ false → (row : List Tag) → after s a row ≡ after t a row
any_site s t (Call how usage arguments gives) off row =
    ap (λ x. slice_set (thrown (Call how usage arguments gives) row) (result_cell row) x) (result_any s t usage gives (tag_in row (receiver_of arguments)) off)
any_site s t _ off row = refl
