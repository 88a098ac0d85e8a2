-- Rows keep their length.
use Rattle.std.proofs.Common.{◌≡◌, ℕ, zero, suc, ◌+◌, ◌≤◌, Bool, true, false, List, [], ◌∷◌, length, map, set, refl, ap, ◌∙◌, arith, length-set}
use Rattle.std.proofs.lemmas.List.{length-map, length-append, length-replicate}
use Rattle.ns_base.specs.declared.rows.LockNo.{LockNo}
use Rattle.app_model.specs.declared.tag.Tag.{Tag}
use Rattle.app_model.specs.declared.tag.Tag.TheVariants.{Bot, Zero, Solid, Held, Any, Field, New, Mixed}
use Rattle.act_model.specs.declared.act.Act.{Act}
use Rattle.act_model.specs.declared.act.Act.TheVariants.{Go, Test, Copy, TakeResult, Write, Fill, ReadSlot, WriteSlot, Give, Check, Throw, Return, Call}
use Rattle.act_model.specs.Changes.{after, after_stored, call_change, is_pair, put, result_cell, stored_change, tag_in, thrown}
use Rattle.act_model.specs.Entries.{entry_row, fitted}

length_put : (wide : Bool) (row : List Tag) (to : ℕ) (first second : Tag) → length (put wide row to first second) ≡ length row
length_put true row to first second = length-set (set row to first) (to + 1) second ∙ length-set row to first
length_put false row to first second = length-set row to first

length_stored : (row : List Tag) (from : ℕ) (l : LockNo) (stored : Tag) → length (after_stored row from l stored) ≡ length row
length_stored row from l (New s) = length-set (map (stored_change l.0 (New s)) row) from (Field l) ∙ length-map row (stored_change l.0 (New s))
length_stored row from l Bot = length-map row (stored_change l.0 Bot)
length_stored row from l Zero = length-map row (stored_change l.0 Zero)
length_stored row from l Solid = length-map row (stored_change l.0 Solid)
length_stored row from l (Held k) = length-map row (stored_change l.0 (Held k))
length_stored row from l Any = length-map row (stored_change l.0 Any)
length_stored row from l (Field k) = length-map row (stored_change l.0 (Field k))
length_stored row from l Mixed = length-map row (stored_change l.0 Mixed)

pub length_after : (site : ℕ) (act : Act) (row : List Tag) → length (after site act row) ≡ length row
length_after site Go row = refl
length_after site (Test value branch) row = refl
length_after site (Copy to from wide) row = length_put wide row to _ _
length_after site (TakeResult to) row = length-set row to _
length_after site (Write to what throws) row = length_put (is_pair what) row to _ _
length_after site (Fill arguments kind) row = length-set row (result_cell row) Solid
length_after site (ReadSlot to slot throws) row = length-set row to (Field slot)
length_after site (WriteSlot from slot throws) row = length_stored row from slot (tag_in row from)
length_after site (Give from throws) row = refl
length_after site (Check throws) row = refl
length_after site (Throw object) row = refl
length_after site (Return answer) row = refl
length_after site (Call by usage arguments gives) row = length-set (map (call_change usage _) row) (result_cell row) _ ∙ length-map row (call_change usage _)

pub length_thrown : (act : Act) (row : List Tag) → length (thrown act row) ≡ length row
length_thrown Go row = refl
length_thrown (Test value branch) row = refl
length_thrown (Copy to from wide) row = refl
length_thrown (TakeResult to) row = refl
length_thrown (Write to what throws) row = refl
length_thrown (Fill arguments kind) row = refl
length_thrown (ReadSlot to slot throws) row = refl
length_thrown (WriteSlot from slot throws) row = refl
length_thrown (Give from throws) row = refl
length_thrown (Check throws) row = refl
length_thrown (Throw object) row = refl
length_thrown (Return answer) row = refl
length_thrown (Call by usage arguments gives) row = length-map row (call_change usage _)

-- ---- entries
pub length_fitted : (count : ℕ) (words : List Tag) → length (fitted Zero count words) ≡ count
length_fitted zero words = refl
length_fitted (suc n) [] = ap suc (length_fitted n [])
length_fitted (suc n) (tag ∷ words) = ap suc (length_fitted n words)

-- at the start of a method: a tag for each register, and one for the result cell
pub length_entry : (registers ins : ℕ) (words : List Tag) → ins ≤ registers → length (entry_row Zero registers ins words) ≡ registers + 1
length_entry registers ins words fits =
    rw (length-append, length-append, length-replicate, length_fitted ins words) (omega (arith, fits))
