-- Every tag of a row that flows is one of the application.
use Rattle.std.proofs.Common.{◌≡◌, ◌-◌, ℕ, suc, zero, ◌<◌, ◌++◌, List, [], ◌∷◌, map, set, replicate, drop, Bool, true, false, if◌then◌else◌, eqb, Option, Some, None, refl, sym, subst, ⊎_elim}
use Rattle.std.proofs.lemmas.Bool.{cases_lt}
use Rattle.ns_base.specs.declared.rows.LockNo.{LockNo}
use Rattle.dalvik.specs.declared.ins.Args.{Args}
use Rattle.dalvik.specs.Registers.{args_of}
use Rattle.dalvik.specs.Calls.{receiver_of}
use Rattle.app_model.specs.TagTable.{TagParts, row_at, width_at}
use Rattle.app_model.specs.declared.calls.By.{By}
use Rattle.app_model.specs.declared.calls.By.TheVariants.{Virtual, Super, Direct, Static}
use Rattle.app_model.specs.declared.lock_use.LockUse.{LockUse}
use Rattle.app_model.specs.declared.lock_use.LockUse.TheVariants.{Plain, Make, Acquire, Release, IsHeld, Mode, Wrong}
use Rattle.app_model.specs.declared.rows.MethodRow.{MethodRow}
use Rattle.app_model.specs.declared.tag.Tag.{Tag}
use Rattle.app_model.specs.declared.tag.Tag.TheVariants.{Bot, Zero, Solid, Held, Any, Field, New, Mixed}
use Rattle.app_model.proofs.Cells.{tag_past, tag_within}
use Rattle.act_model.specs.declared.act.Act.{Act}
use Rattle.act_model.specs.declared.act.Act.TheVariants.{Copy, TakeResult, Write, Fill, ReadSlot, WriteSlot, Call}
use Rattle.act_model.specs.declared.act.Gives.{Gives}
use Rattle.act_model.specs.declared.act.Gives.TheVariants as gives
use Rattle.act_model.specs.declared.act.Returned.{Returned}
use Rattle.act_model.specs.declared.act.Returned.TheVariants as returned
use Rattle.act_model.specs.declared.act.Written.{Written}
use Rattle.act_model.specs.declared.act.Written.TheVariants as written
use Rattle.act_model.specs.Changes.{after, after_stored, call_change, called_change, field_after, given_tag, held_change, held_tag, new_after, put, result_tag, stored_change, tag_in, thrown, written_tag}
use Rattle.act_model.specs.Entries.{call_words, callback_row, entering, entering_words, entry_row, fitted}
use Rattle.flow_model.specs.TagFlow.{answered, callee_row}
use Rattle.tag_rows.specs.Cells.{AreTagsOf, IsTagOf}
use Rattle.app_model.specs.Parts.{AppParts}
use Rattle.tag_rows.specs.Changes.{makes_lock}
use Rattle.tag_rows.proofs.Acts.{named_slot}

module _ (locks : ℕ) where
  abbrev Fits : Tag → Type 0
  Fits tag = IsTagOf locks tag

  abbrev pub AllFit : List Tag → Type 0
  AllFit row = (r : ℕ) → Fits (tag_in row r)

  pub rows_fit : (t : TagParts) (m i : ℕ) → AreTagsOf locks t → AllFit (row_at t m i)
  rows_fit t m i are r = ⊎_elim (λ lt. subst Fits (sym (tag_within t m i r lt)) (are.each m _)) (λ past. subst Fits (sym (tag_past t m i r past)) tt) (cases_lt r (width_at t m))

  -- ---- lists
  nil_fits : AllFit []
  nil_fits r = tt

  more_fits : (x : Tag) (xs : List Tag) → Fits x → AllFit xs → AllFit (x ∷ xs)
  more_fits x xs p all zero = p
  more_fits x xs p all (suc r) = all r

  pub set_fits : (row : List Tag) (to : ℕ) (x : Tag) → AllFit row → Fits x → AllFit (set row to x)
  set_fits [] to x all p r = tt
  set_fits (y ∷ ys) zero x all p zero = p
  set_fits (y ∷ ys) zero x all p (suc r) = all (suc r)
  set_fits (y ∷ ys) (suc to) x all p zero = all 0
  set_fits (y ∷ ys) (suc to) x all p (suc r) = set_fits ys to x (λ q. all (suc q)) p r

  pub map_fits : (f : Tag → Tag) → ((x : Tag) → Fits x → Fits (f x)) → (row : List Tag) → AllFit row → AllFit (map f row)
  map_fits f h [] all r = tt
  map_fits f h (x ∷ xs) all zero = h x (all 0)
  map_fits f h (x ∷ xs) all (suc r) = map_fits f h xs (λ q. all (suc q)) r

  made_fits : {A : Type 0} (f : A → Tag) → ((x : A) → Fits (f x)) → (xs : List A) → AllFit (map f xs)
  made_fits f h [] r = tt
  made_fits f h (x ∷ xs) zero = h x
  made_fits f h (x ∷ xs) (suc r) = made_fits f h xs r

  append_fits : (xs ys : List Tag) → AllFit xs → AllFit ys → AllFit (xs ++ ys)
  append_fits [] ys a b r = b r
  append_fits (x ∷ xs) ys a b zero = a 0
  append_fits (x ∷ xs) ys a b (suc r) = append_fits xs ys (λ q. a (suc q)) b r

  same_fits : (n : ℕ) (x : Tag) → Fits x → AllFit (replicate n x)
  same_fits zero x p r = tt
  same_fits (suc n) x p zero = p
  same_fits (suc n) x p (suc r) = same_fits n x p r

  -- ---- tags
  either_fits : (b : Bool) (x y : Tag) → Fits x → Fits y → Fits (if b then x else y)
  either_fits true x y p q = p
  either_fits false x y p q = q

  pub called_fits : (gone : ℕ → Bool) (x : Tag) → Fits x → Fits (called_change gone x)
  called_fits gone (Held k) p = tt
  called_fits gone (Field k) p = either_fits (gone k.0) Mixed (Field k) tt p
  called_fits gone Bot p = tt
  called_fits gone Zero p = tt
  called_fits gone Solid p = tt
  called_fits gone Any p = tt
  called_fits gone (New s) p = p
  called_fits gone Mixed p = tt

  entering_fits : (x : Tag) → Fits x → Fits (entering x)
  entering_fits (Held k) p = tt
  entering_fits Bot p = tt
  entering_fits Zero p = tt
  entering_fits Solid p = tt
  entering_fits Any p = tt
  entering_fits (Field k) p = p
  entering_fits (New s) p = p
  entering_fits Mixed p = tt

  held_fits : (a x : Tag) → Fits x → Fits (held_change a x)
  held_fits (Field l) (Held k) p = either_fits (eqb k.0 l.0) Any (Held k) tt p
  held_fits Mixed (Held k) p = tt
  held_fits _ _ p = p

  call_fits : (usage : LockUse) (a x : Tag) → Fits x → Fits (call_change usage a x)
  call_fits Acquire a x p = held_fits a x p
  call_fits Release a x p = held_fits a x p
  call_fits Plain a x p = p
  call_fits Make a x p = p
  call_fits IsHeld a x p = p
  call_fits Mode a x p = p
  call_fits Wrong a x p = p

  field_fits : (a : Tag) (l : ℕ) (k : LockNo) → Fits (Field k) → Fits (field_after a l k)
  field_fits Bot l k p = p
  field_fits _ l k p = either_fits (eqb k.0 l) Mixed (Field k) tt p

  new_fits : (a : Tag) (s : ℕ) → Fits (New s) → Fits (new_after a s)
  new_fits Bot s p = p
  new_fits Zero s p = p
  new_fits (New z) s p = either_fits (eqb s z) Mixed (New s) tt p
  new_fits _ s p = tt

  stored_fits : (l : ℕ) (a x : Tag) → Fits x → Fits (stored_change l a x)
  stored_fits l a (Held k) p = either_fits (eqb k.0 l) Any (Held k) tt p
  stored_fits l a (Field k) p = field_fits a l k p
  stored_fits l a (New s) p = new_fits a s p
  stored_fits l a _ p = tt

  store_fits : (row : List Tag) (from : ℕ) (l : LockNo) (a : Tag) → AllFit row → l.0 < locks → AllFit (after_stored row from l a)
  store_fits row from l (New s) all p = set_fits _ from (Field l) (map_fits (stored_change l.0 (New s)) (stored_fits l.0 (New s)) row all) p
  store_fits row from l Bot all p = map_fits (stored_change l.0 Bot) (stored_fits l.0 Bot) row all
  store_fits row from l Zero all p = map_fits (stored_change l.0 Zero) (stored_fits l.0 Zero) row all
  store_fits row from l Solid all p = map_fits (stored_change l.0 Solid) (stored_fits l.0 Solid) row all
  store_fits row from l (Held k) all p = map_fits (stored_change l.0 (Held k)) (stored_fits l.0 (Held k)) row all
  store_fits row from l Any all p = map_fits (stored_change l.0 Any) (stored_fits l.0 Any) row all
  store_fits row from l (Field k) all p = map_fits (stored_change l.0 (Field k)) (stored_fits l.0 (Field k)) row all
  store_fits row from l Mixed all p = map_fits (stored_change l.0 Mixed) (stored_fits l.0 Mixed) row all

  held_tag_fits : (a : Tag) → Fits a → Fits (held_tag a)
  held_tag_fits Bot p = tt
  held_tag_fits (Field l) p = p
  held_tag_fits _ p = tt

  given_fits : (g : Gives) → Fits (given_tag g)
  given_fits gives.Nothing = tt
  given_fits gives.Number = tt
  given_fits gives.Object = tt

  result_fits : (site : ℕ) (usage : LockUse) (g : Gives) (a : Tag) → (usage ≡ Make → site < 64) → Fits a → Fits (result_tag site usage g a)
  result_fits site Plain g a s p = given_fits g
  result_fits site Make g a s p = s refl
  result_fits site Acquire g a s p = tt
  result_fits site Release g a s p = tt
  result_fits site IsHeld g a s p = held_tag_fits a p
  result_fits site Mode g a s p = tt
  result_fits site Wrong g a s p = given_fits g

  written_fits : (what : Written) → Fits (written_tag what)
  written_fits written.Zero = tt
  written_fits written.Nonzero = tt
  written_fits written.Number = tt
  written_fits written.Reference = tt
  written_fits written.FreeObject = tt
  written_fits written.Pair = tt
  written_fits written.Text = tt
  written_fits written.ClassObject = tt
  written_fits (written.Typed kind) = tt

  -- ---- acts
  put_fits : (wide : Bool) (row : List Tag) (to : ℕ) (a b : Tag) → AllFit row → Fits a → Fits b → AllFit (put wide row to a b)
  put_fits true row to a b all p q = set_fits _ _ b (set_fits row to a all p) q
  put_fits false row to a b all p q = set_fits row to a all p

  pub thrown_fits : (a : Act) (row : List Tag) → AllFit row → AllFit (thrown a row)
  thrown_fits (Call by usage arguments g) row all = map_fits _ (call_fits usage (tag_in row (receiver_of arguments))) row all
  thrown_fits _ row all = all

  pub after_fits : (site : ℕ) (a : Act) (row : List Tag) → ((l : ℕ) → named_slot a ≡ Some l → l < locks) → (makes_lock a ≡ true → site < 64) → AllFit row → AllFit (after site a row)
  after_fits site (Copy to from wide) row slot made all = put_fits wide row to _ _ all (all from) (all _)
  after_fits site (TakeResult to) row slot made all = set_fits row to _ all (all _)
  after_fits site (Write to what when) row slot made all = put_fits _ row to _ _ all (written_fits what) (written_fits what)
  after_fits site (Fill arguments kind) row slot made all = set_fits row _ Solid all tt
  after_fits site (ReadSlot to l when) row slot made all = set_fits row to (Field l) all (slot l.0 refl)
  after_fits site (WriteSlot from l when) row slot made all = store_fits row from l _ all (slot l.0 refl)
  after_fits site (Call by usage arguments g) row slot made all =
      set_fits _ _ _ (thrown_fits (Call by usage arguments g) row all) (result_fits site usage g _ (λ is. made (rw is refl)) (all _))
  after_fits site _ row slot made all = all

  -- ---- entries
  fitted_fits : (n : ℕ) (words : List Tag) → AllFit words → AllFit (fitted Zero n words)
  fitted_fits zero words all = nil_fits
  fitted_fits (suc n) [] all = more_fits Zero _ tt (fitted_fits n [] nil_fits)
  fitted_fits (suc n) (x ∷ xs) all = more_fits x _ (all 0) (fitted_fits n xs (λ q. all (suc q)))

  entry_fits : (registers ins : ℕ) (words : List Tag) → AllFit words → AllFit (entry_row Zero registers ins words)
  entry_fits registers ins words all = append_fits (replicate (registers - ins) Zero ++ fitted Zero ins words) (Zero ∷ []) (append_fits (replicate (registers - ins) Zero) (fitted Zero ins words) (same_fits (registers - ins) Zero tt) (fitted_fits ins words all)) (more_fits Zero [] tt nil_fits)

  words_fit : (row : List Tag) (registers : List ℕ) → AllFit row → AllFit (entering_words row registers)
  words_fit row registers all = made_fits _ (λ r. entering_fits _ (all r)) registers

  pub call_words_fit : (by : By) (row : List Tag) (arguments : Args) → AllFit row → AllFit (call_words by row arguments)
  call_words_fit Static row arguments all = words_fit row (args_of arguments) all
  call_words_fit Virtual row arguments all = more_fits Solid _ tt (words_fit row (drop 1 (args_of arguments)) all)
  call_words_fit Super row arguments all = more_fits Solid _ tt (words_fit row (drop 1 (args_of arguments)) all)
  call_words_fit Direct row arguments all = more_fits Solid _ tt (words_fit row (drop 1 (args_of arguments)) all)

  pub callee_fits : (method : Option MethodRow) (words : List Tag) → AllFit words → AllFit (callee_row method words)
  callee_fits None words all = nil_fits
  callee_fits (Some method) words all = entry_fits method.registers method.ins words all

  pub answered_fits : (answer : Returned) (row : List Tag) → AllFit row → Fits (answered answer row)
  answered_fits returned.Nothing row all = tt
  answered_fits returned.Wide row all = tt
  answered_fits (returned.Register r) row all = entering_fits _ (all r)

  pub begun_fits : (app : AppParts) (method : Option MethodRow) → AllFit (callback_row app method)
  begun_fits app None = nil_fits
  begun_fits app (Some method) = entry_fits method.registers method.ins _ (more_fits Solid _ tt (same_fits _ Any tt))
