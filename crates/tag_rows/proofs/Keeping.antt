-- What changes keep of a row.
use Rattle.std.proofs.Common.{◌≡◌, ◌≢◌, ℕ, ◌+◌, pred, List, length, map, set, Bool, true, false, refl, ◌∙◌, arith, get_or}
use Rattle.std.proofs.lemmas.List.{get_or-set_other}
use Rattle.dalvik.specs.declared.ins.Args.{Args}
use Rattle.dalvik.specs.Calls.{receiver_of}
use Rattle.app_model.specs.declared.calls.By.{By}
use Rattle.app_model.specs.declared.lock_use.LockUse.{LockUse}
use Rattle.app_model.specs.declared.tag.Tag.{Tag}
use Rattle.app_model.specs.declared.tag.Tag.TheVariants.{Bot, Zero, Solid, Held, Any, Field, New, Mixed}
use Rattle.act_model.specs.declared.act.Act.TheVariants.{Call}
use Rattle.act_model.specs.declared.act.Gives.{Gives}
use Rattle.act_model.specs.Changes.{after, after_stored, call_change, put, result_cell, stored_change, tag_in, thrown}
use Rattle.ns_base.specs.declared.rows.LockNo.{LockNo}
use Rattle.tag_rows.specs.Changes.{is_plain}
use Rattle.tag_rows.proofs.Monotone.{map_tag}

pub put_kept : {A : Type 0} (wide : Bool) (row : List A) (to r : ℕ) (a b d : A) → r ≢ to → (wide ≡ true → r ≢ to + 1) → get_or (put wide row to a b) r d ≡ get_or row r d
put_kept true row to r a b d ne next = get_or-set_other (set row to a) (to + 1) r b d (next refl) ∙ get_or-set_other row to r a d ne
put_kept false row to r a b d ne next = get_or-set_other row to r a d ne

-- a store to a lock field, but in the register that is stored
stored_plain : (l : ℕ) (stored tag : Tag) → is_plain tag ≡ true → stored_change l stored tag ≡ tag
stored_plain l stored Bot plain = refl
stored_plain l stored Zero plain = refl
stored_plain l stored Solid plain = refl
stored_plain l stored Any plain = refl
stored_plain l stored Mixed plain = refl
stored_plain l stored (Held k) plain = absurd (cc)
stored_plain l stored (Field k) plain = absurd (cc)
stored_plain l stored (New s) plain = absurd (cc)

pub store_kept : (row : List Tag) (from : ℕ) (l : LockNo) (stored : Tag) (r : ℕ) → r ≢ from → is_plain (tag_in row r) ≡ true → tag_in (after_stored row from l stored) r ≡ tag_in row r
store_kept row from l (New s) r ne plain = get_or-set_other (map (stored_change l.0 (New s)) row) from r (Field l) Bot ne ∙ map_tag (stored_change l.0 (New s)) row r refl ∙ stored_plain l.0 (New s) (tag_in row r) plain
store_kept row from l Bot r ne plain = map_tag (stored_change l.0 Bot) row r refl ∙ stored_plain l.0 Bot (tag_in row r) plain
store_kept row from l Zero r ne plain = map_tag (stored_change l.0 Zero) row r refl ∙ stored_plain l.0 Zero (tag_in row r) plain
store_kept row from l Solid r ne plain = map_tag (stored_change l.0 Solid) row r refl ∙ stored_plain l.0 Solid (tag_in row r) plain
store_kept row from l (Held k) r ne plain = map_tag (stored_change l.0 (Held k)) row r refl ∙ stored_plain l.0 (Held k) (tag_in row r) plain
store_kept row from l Any r ne plain = map_tag (stored_change l.0 Any) row r refl ∙ stored_plain l.0 Any (tag_in row r) plain
store_kept row from l (Field k) r ne plain = map_tag (stored_change l.0 (Field k)) row r refl ∙ stored_plain l.0 (Field k) (tag_in row r) plain
store_kept row from l Mixed r ne plain = map_tag (stored_change l.0 Mixed) row r refl ∙ stored_plain l.0 Mixed (tag_in row r) plain

-- a call that changes no tag of a register, or no plain one
abbrev pub IsSteady : LockUse → (plain : Bool) → Type 0
IsSteady usage plain = (receiver tag : Tag) → (plain ≡ true → is_plain tag ≡ true) → call_change usage receiver tag ≡ tag

pub thrown_kept : (how : By) (usage : LockUse) (arguments : Args) (gives : Gives) (row : List Tag) (r : ℕ) (plain : Bool) → IsSteady usage plain → (plain ≡ true → is_plain (tag_in row r) ≡ true)
    → tag_in (thrown (Call how usage arguments gives) row) r ≡ tag_in row r
thrown_kept how usage arguments gives row r plain same here =
    let receiver = tag_in row (receiver_of arguments) in
    map_tag (call_change usage receiver) row r (same receiver Bot (λ _. refl)) ∙ same receiver (tag_in row r) here

pub call_kept : (site : ℕ) (how : By) (usage : LockUse) (arguments : Args) (gives : Gives) (row : List Tag) (r last : ℕ) (plain : Bool) → IsSteady usage plain → length row ≡ last + 1 → r ≢ last → (plain ≡ true → is_plain (tag_in row r) ≡ true)
    → tag_in (after site (Call how usage arguments gives) row) r ≡ tag_in row r
call_kept site how usage arguments gives row r last plain same len ne here =
    let at : pred (length row) ≡ last = omega (arith, len) in
    get_or-set_other (thrown (Call how usage arguments gives) row) (result_cell row) r _ Bot (λ e. ne (e ∙ at))
    ∙ thrown_kept how usage arguments gives row r plain same here
