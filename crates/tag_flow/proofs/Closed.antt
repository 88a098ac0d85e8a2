-- A sweep that changes nothing leaves a closed table.
use Rattle.std.proofs.Common.{◌≡◌, ℕ, suc, zero, List, [], ◌∷◌, ◌++◌, ◌+◌, ◌-◌, ◌*◌, ◌<◌, ◌≤◌, pred, Bool, true, false, cond, if◌then◌else◌, Option, Some, None, length, map, set, replicate, refl, sym, ap, ◌∙◌, subst, ⊎_elim, arith, Contains, get_or, length-set}
use Rattle.std.specs.Prelude.{slice_get}
use Rattle.std.proofs.lemmas.Bool.{cases_Bool, cases_eq, cases_lt, false≢true}
use Rattle.std.proofs.lemmas.List.{get_or-map, get_or-set_other, get_or-set_same, get_or_past, length-append, length-map, length-replicate}
use Rattle.std.proofs.lemmas.Option.{get_or_from_slice_get, slice_get_within}
use Rattle.ns_base.specs.declared.rows.LockNo.{LockNo}
use Rattle.ns_base.specs.declared.rows.MethodNo.{MethodNo}
use Rattle.app_model.specs.CallGraph.{callees_at}
use Rattle.app_model.specs.Sites.{site_at}
use Rattle.app_model.specs.TagTable.{cell_at, row_at, tag_at, tag_of, width_at}
use Rattle.app_model.specs.Words.{code_len}
use Rattle.app_model.specs.declared.rows.MethodRow.{MethodRow}
use Rattle.app_model.specs.declared.tag.Tag.{Tag}
use Rattle.app_model.specs.declared.tag.Tag.TheVariants.{Bot, Zero, Solid, Held, Any, Field, New, Mixed}
use Rattle.app_model.proofs.Cells.{length-row_at, tag_past, tag_within}
use Rattle.act_model.specs.Acts.{act_at}
use Rattle.act_model.specs.Changes.{after, after_stored, called, called_change, put, stored_change, tag_in, thrown}
use Rattle.act_model.specs.Entries.{callback_row, call_words, entry_row, fitted}
use Rattle.act_model.specs.Tags.{Under, bot_all, itself, all_mixed}
use Rattle.act_model.specs.declared.act.Act.{Act}
use Rattle.act_model.specs.declared.act.Act.TheVariants.{Copy, TakeResult, Write, Fill, ReadSlot, WriteSlot, Throw, Return, Call}
use Rattle.app_model.specs.Masks.{in_lock_mask}
use Rattle.call_reach.proofs.Adding.{use_within}
use Rattle.call_reach.proofs.Reached.{set_by_callee}
use Rattle.flow_model.specs.TagFlow.{begins, goes_on, back_from_outside, throws, enters, passes_call, comes_back, throws_out, IsLeastTable, IsLive, answered, callee_row, is_call, leads_on, only_result, without_result}
use Rattle.tag_flow.specs.Known.{Flows, IsClosed, IsKnown, KnownParts, is_gone, is_reached, registers_of, row_width}
use Rattle.tag_flow.specs.State.{IsState, StateParts, state_room}
use Rattle.tag_flow.specs.Turns.{IsBelow, Turn}
use Rattle.tag_flow.specs.Goals.{AllVisited, IsVisited}
use Rattle.tag_rows.proofs.Acts.{act_there, act_within, method_within}
use Rattle.tag_rows.proofs.Monotone.{map_tag}
use Rattle.tag_flow.proofs.Reached.{callback_entry}
use Rattle.tag_rows.proofs.Order.{grown_table, under_trans}

-- a turn falls, or it is the last one
pub turn_falls : (k : KnownParts) (goal : StateParts → Type 0) (a b : StateParts) (x : Bool) → Turn k goal a b x → 2 * state_room b + cond x 1 0 < 2 * state_room a + 1
turn_falls k goal a b true t = let l = t.falls refl in omega arith
turn_falls k goal a b false t = let e = t.same refl in rw e (omega arith)

-- ---- every row that flows has the width of its method
store_len : (row : List Tag) (from : ℕ) (l : LockNo) (stored : Tag) → length (after_stored row from l stored) ≡ length row
store_len row from l (New s) = length-set _ from (Field l) ∙ length-map row (stored_change l.0 (New s))
store_len row from l Bot = length-map row (stored_change l.0 Bot)
store_len row from l Zero = length-map row (stored_change l.0 Zero)
store_len row from l Solid = length-map row (stored_change l.0 Solid)
store_len row from l (Held k) = length-map row (stored_change l.0 (Held k))
store_len row from l Any = length-map row (stored_change l.0 Any)
store_len row from l (Field k) = length-map row (stored_change l.0 (Field k))
store_len row from l Mixed = length-map row (stored_change l.0 Mixed)

put_len : (wide : Bool) (row : List Tag) (to : ℕ) (a b : Tag) → length (put wide row to a b) ≡ length row
put_len true row to a b = length-set _ (to + 1) b ∙ length-set row to a
put_len false row to a b = length-set row to a

pub thrown_len : (a : Act) (row : List Tag) → length (thrown a row) ≡ length row
thrown_len (Call by usage arguments gives) row = length-map row _
thrown_len _ row = refl

pub after_len : (site : ℕ) (a : Act) (row : List Tag) → length (after site a row) ≡ length row
after_len site (Copy to from wide) row = put_len wide row to _ _
after_len site (TakeResult to) row = length-set row to _
after_len site (Write to what when) row = put_len _ row to _ _
after_len site (Fill arguments kind) row = length-set row _ Solid
after_len site (ReadSlot to slot when) row = length-set row to (Field slot)
after_len site (WriteSlot from slot when) row = store_len row from slot _
after_len site (Call by usage arguments gives) row = length-set _ _ _ ∙ thrown_len (Call by usage arguments gives) row
after_len site _ row = refl

called_len : (gone : ℕ → Bool) (row : List Tag) → length (called gone row) ≡ length row
called_len gone row = length-map row (called_change gone)

without_len : (row : List Tag) → length (without_result row) ≡ length row
without_len row = length-set row _ Bot

-- a call leads on
call_leads : (a : Act) → is_call a ≡ true → leads_on a ≡ true
call_leads (Call by usage arguments gives) e = refl
call_leads (Throw object) e = cc
call_leads (Return answer) e = cc
call_leads _ e = refl

fitted_len : (n : ℕ) (words : List Tag) → length (fitted Zero n words) ≡ n
fitted_len zero words = refl
fitted_len (suc n) [] = ap suc (fitted_len n [])
fitted_len (suc n) (x ∷ xs) = ap suc (fitted_len n xs)

pub entry_len : (registers ins : ℕ) (words : List Tag) → ins ≤ registers → length (entry_row Zero registers ins words) ≡ registers + 1
entry_len registers ins words le =
    let first = length-replicate {A = Tag} (registers - ins) Zero in
    let second = fitted_len ins words in
    let both = length-append (replicate (registers - ins) Zero) (fitted Zero ins words) in
    length-append (replicate (registers - ins) Zero ++ fitted Zero ins words) (Zero ∷ []) ∙ omega (arith, first, second, both, le)

set_bot : (xs : List Tag) (c : ℕ) → tag_in (set xs c Bot) c ≡ Bot
set_bot xs c = ⊎_elim (λ lt. get_or-set_same xs c Bot Bot lt) (λ past. get_or_past (set xs c Bot) c Bot (rw length-set past)) (cases_lt c (length xs))

set_under_top : (xs : List Tag) (c : ℕ) (tag top : Tag) → Under tag top → Under (tag_in (set xs c tag) c) top
set_under_top xs c tag top h = ⊎_elim (λ lt. rw (get_or-set_same xs c tag Bot lt) h) (λ past. rw (get_or_past (set xs c tag) c Bot (rw length-set past)) bot_all) (cases_lt c (length xs))

module _ (k : KnownParts) (known : IsKnown k) (s : StateParts) (state : IsState k s) (done : AllVisited k s) where
  abbrev row : ℕ → ℕ → List Tag
  row m i = row_at s.table m i

  row_len : (m i : ℕ) → length (row m i) ≡ row_width k.app m
  row_len m i = length-row_at s.table m i ∙ ap (λ (rs : List ℕ). get_or rs m 0 + 1) state.registers

  -- where something flows from, the method is reached
  live_reached : (m i : ℕ) → IsLive (row m i) → is_reached k m ≡ true
  unfolding cell_at tag_of
  live_reached m i live = ⊎_elim (λ yes. yes) (λ off. absurd (live.is (nothing off live.register))) (cases_Bool (is_reached k m))
    where
      nothing : is_reached k m ≡ false → (r : ℕ) → tag_in (row m i) r ≡ Bot
      nothing off r = ⊎_elim
          (λ lt. tag_within s.table m i r lt ∙ ap tag_of (get_or_past (get_or s.table.cells m []) (i * width_at s.table m + r) 0 (let e = state.rows m in let z : length (get_or s.table.cells m []) ≡ 0 = rw off at e in omega (arith, z))))
          (λ past. tag_past s.table m i r past) (cases_lt r (width_at s.table m))

  visited : (m i : ℕ) (a : Act) → act_at k.app m i ≡ Some a → IsLive (row m i) → IsVisited k m i s
  visited m i a is live =
      let within = act_within k.app m i a is in
      done.1 m (method_within k.app m i known.app.sizes within) (live_reached m i live) i within

  -- the row at the entry of a method has its width
  entry_within : (m : ℕ) (method : MethodRow) (words : List Tag) (r : ℕ) → slice_get k.app.methods m ≡ Some method → r < length (entry_row Zero method.registers method.ins words) → r < row_width k.app m
  entry_within m method words r at lt =
      let fits = (known.app.methods m method at).fits in
      let len = entry_len method.registers method.ins words fits in
      let here : get_or (registers_of k.app) m 0 ≡ method.registers = get_or-map (λ (one : MethodRow). one.registers) k.app.methods m method 0 (slice_get_within k.app.methods m method at) ∙ ap (λ (one : MethodRow). one.registers) (get_or_from_slice_get k.app.methods m method method at) in
      omega (arith, lt, len, here)

  callee_within_row : (m : ℕ) (words : List Tag) (r : ℕ) → r < length (callee_row (slice_get k.app.methods m) words) → r < row_width k.app m
  callee_within_row m words r lt = go (slice_get k.app.methods m) refl lt
    where
      go : (method : Option MethodRow) → slice_get k.app.methods m ≡ method → r < length (callee_row method words) → r < row_width k.app m
      go None at off = absurd (omega (arith, off))
      go (Some method) at on = entry_within m method words r at on

  begun_within_row : (m r : ℕ) → r < length (callback_row k.app (slice_get k.app.methods m)) → r < row_width k.app m
  begun_within_row m r lt = go (slice_get k.app.methods m) refl lt
    where
      go : (method : Option MethodRow) → slice_get k.app.methods m ≡ method → r < length (callback_row k.app method) → r < row_width k.app m
      go None at off = absurd (omega (arith, off))
      go (Some method) at on = entry_within m method _ r at on

  -- a call stands there
  call_there : (m i : ℕ) (n : MethodNo) → Contains (callees_at k.graph m i) n → (a : Act) × (act_at k.app m i ≡ Some a)
  call_there m i n callee = let by = set_by_callee k.graph m i n callee in act_there k.app m i (use_within k.app k.graph known.graph.fits m i by.0 by.2)

  -- the mask of all callees tells more than that of one
  more_gone : (f g : ℕ → Bool) → ((l : ℕ) → f l ≡ true → g l ≡ true) → (t : Tag) → Under (called_change f t) (called_change g t)
  more_gone f g more (Field l) = both (f l.0) (g l.0) (more l.0)
    where
      both : (a b : Bool) → (a ≡ true → b ≡ true) → Under (if a then Mixed else Field l) (if b then Mixed else Field l)
      both true true h = itself
      both true false h = absurd (false≢true (h refl))
      both false true h = all_mixed
      both false false h = itself
  more_gone f g more Bot = itself
  more_gone f g more Zero = itself
  more_gone f g more Solid = itself
  more_gone f g more (Held l) = itself
  more_gone f g more Any = itself
  more_gone f g more (New t) = itself
  more_gone f g more Mixed = itself

  called_more : (f g : ℕ → Bool) → ((l : ℕ) → f l ≡ true → g l ≡ true) → (xs : List Tag) (r : ℕ) → Under (tag_in (called f xs) r) (tag_in (called g xs) r)
  called_more f g more xs r = rw (map_tag (called_change f) xs r refl, map_tag (called_change g) xs r refl) (more_gone f g more (tag_in xs r))

  past_more : (f g : ℕ → Bool) → ((l : ℕ) → f l ≡ true → g l ≡ true) → (xs : List Tag) (r : ℕ) → Under (tag_in (without_result (called f xs)) r) (tag_in (without_result (called g xs)) r)
  past_more f g more xs r =
      let one = called_len f xs in
      let two = called_len g xs in
      let c = pred (length xs) in
      rw (one, two) (⊎_elim
      (λ is. subst (λ n. Under (tag_in (set (called f xs) c Bot) n) (tag_in (set (called g xs) c Bot) n)) (sym is) (subst (λ t. Under t (tag_in (set (called g xs) c Bot) c)) (sym (set_bot (called f xs) c)) bot_all))
      (λ ne. rw (get_or-set_other (called f xs) c r Bot Bot ne, get_or-set_other (called g xs) c r Bot Bot ne) (called_more f g more xs r))
      (cases_eq r c))

  only_result_under : (xs : List Tag) (tag : Tag) (r : ℕ) (top : Tag) → (r ≡ pred (length xs) → Under tag top) → Under (tag_in (only_result xs tag) r) top
  only_result_under xs tag r top here =
      let c = pred (length xs) in
      let bots = map (λ (t : Tag). Bot) xs in
      ⊎_elim
      (λ is. rw is (set_under_top bots c tag top (here is)))
      (λ ne. rw (get_or-set_other bots c r tag Bot ne, map_tag (λ (t : Tag). Bot) xs r refl) bot_all)
      (cases_eq r c)

  pub closed : IsClosed k s.table
  closed = record { by = by }
    where
      by : {m j : ℕ} {row : List Tag} → Flows k s.table m j row → j < code_len k.app m → (r : ℕ) → r < length row → Under (tag_in row r) (tag_at s.table m j r)
      by (begins {m = m} c x is) within r lt = done.0 (record { 0 = m }) (callback_entry k.list c x m is) within r (begun_within_row m r lt)
      by (goes_on {m = m} i x a is leads no_call to live) within r lt =
          (visited m i a is live live a is).0.0 leads (λ call. absurd (let off = no_call in cc)) x _ to r (omega (arith, lt, after_len (site_at k.app m i) a (row m i), row_len m i))
      by (back_from_outside {m = m} i x a is call outside to live) within r lt =
          (visited m i a is live live a is).0.0 (call_leads a call) (λ _. outside) x _ to r (omega (arith, lt, after_len (site_at k.app m i) a (row m i), row_len m i))
      by (throws {m = m} i x a is can to live) within r lt = (visited m i a is live live a is).0.1 can x _ to r (omega (arith, lt, thrown_len a (row m i), row_len m i))
      by (enters m i n how usage arguments gives is callee live) within r lt =
          ((visited m i _ is live live _ is).1.0 n callee).1.0 how usage arguments gives refl within r (callee_within_row n.0 (call_words how (row m i) arguments) r lt)
      by (passes_call {m = m} {j = j} i x n callee to live) within r lt =
          let at = call_there m i n callee in
          let one = ((visited m i at.0 at.1 live live at.0 at.1).1.0 n callee).0 in
          let width = without_len (called (is_gone k n.0) (row m i)) ∙ called_len (is_gone k n.0) (row m i) in
          under_trans (past_more (is_gone k n.0) (in_lock_mask one.0) (λ l. one.1.all n l callee) (row m i) r) (one.2.0 x j to r (omega (arith, lt, width, row_len m i)))
      by (comes_back {m = m} {j = j} i x e n answer callee to live is ends) within r lt =
          let at = call_there m i n callee in
          let one = ((visited m i at.0 at.1 live live at.0 at.1).1.0 n callee).1.1 x j to in
          let gave = (visited n.0 e _ is ends ends _ is).1.1 answer refl in
          only_result_under (row m i) (answered answer (row n.0 e)) r _ (λ last. (let here : r ≡ pred (row_width k.app m) = omega (arith, last, row_len m i) in rw here (under_trans gave one)))
      by (throws_out {m = m} {j = j} i x n callee to live) within r lt =
          let at = call_there m i n callee in
          let one = ((visited m i at.0 at.1 live live at.0 at.1).1.0 n callee).0 in
          let width = called_len (is_gone k n.0) (row m i) in
          under_trans (called_more (is_gone k n.0) (in_lock_mask one.0) (λ l. one.1.all n l callee) (row m i) r) (one.2.1 x j to r (omega (arith, lt, width, row_len m i)))

  pub least : IsBelow k s → IsLeastTable k.app k.graph k.list (is_gone k) s.table
  least below = record { closed = closed; least = λ other same is. grown_table s.table other (below.cells other same is) }
