-- What is in scope has what soundness asks: its tags follow the code, no lock escapes, and no call of a lock is wrong.
use Rattle.std.proofs.Common.{◌≡◌, ◌≢◌, ℕ, pred, ◌+◌, ◌<◌, ◌≤◌, map, set, Bool, true, false, List, length, Option, Some, None, slice_get, refl, sym, ap, ◌∙◌, arith, subst, ⊎_elim}
use Rattle.std.specs.Prelude.{Contains, slice_index, slice_index_or}
use Rattle.std.specs.List.{All}
use Rattle.std.proofs.lemmas.Bool.{cases_eq, cases_lt}
use Rattle.std.proofs.lemmas.List.{get_or-map, get_or-set_other, get_or-set_same, get_or_past, length-map, length-set}
use Rattle.std.proofs.lemmas.List.Elements.{All-get_or}
use Rattle.std.proofs.lemmas.Option.{get_or_from_slice_get, slice_get_cases, slice_get_within}
use Rattle.dalvik.specs.declared.body.Place.{Place}
use Rattle.dalvik.specs.Body.{BodyRows, IsBody, IsSoundPlace}
use Rattle.app_model.specs.declared.rows.MethodRow.{MethodRow}
use Rattle.app_model.specs.declared.tag.Tag.{Tag}
use Rattle.app_model.specs.declared.tag.Tag.TheVariants as tag
use Rattle.app_model.specs.declared.calls.By.{By}
use Rattle.app_model.specs.declared.lock_use.LockUse.{LockUse}
use Rattle.dalvik.specs.declared.ins.Args.{Args}
use Rattle.app_model.specs.Targets.{is_plain, method_no}
use Rattle.app_model.specs.CallGraph as graph
use Rattle.app_model.specs.Components.{callback_at}
use Rattle.app_model.specs.Sites.{site_at}
use Rattle.app_model.specs.Subject.{SubjectParts, IsSubject, callees_at, is_reached, row_at}
use Rattle.app_model.specs.Words.{code_len, handler_at, handler_of, no_body, pc_at, pc_of, place_at, places_of, successor_at, successor_of}
use Rattle.app_model.proofs.Callees.{enterable}
use Rattle.app_model.proofs.Cells.{length-row_at}
use Rattle.act_model.specs.declared.act.Act.{Act}
use Rattle.act_model.specs.declared.act.Act.TheVariants.{Call, Return}
use Rattle.act_model.specs.declared.act.Gives.{Gives}
use Rattle.act_model.specs.declared.act.Returned.{Returned}
use Rattle.act_model.specs.Acts.{act_at}
use Rattle.act_model.specs.Changes.{after, called, called_change, result_cell, tag_in}
use Rattle.act_model.specs.Entries.{call_words, callback_row, callback_words}
use Rattle.act_model.specs.Tags.{Under}
use Rattle.act_model.proofs.Lengths.{length_after, length_entry, length_thrown}
use Rattle.flow_model.specs.Breaks.{IsEntered, escape, wrong_call}
use Rattle.flow_model.specs.InScope.{IsInScope, candidate_of}
use Rattle.flow_model.specs.Scope.{is_escape, is_wrong_call}
use Rattle.flow_model.specs.TagFlow.{Flow, IsLive, answered, back_from_outside, begins, callee_row, comes_back, enters, goes_on, is_call, leads_on, passes_call, throws, throws_out}
use Rattle.run_model.specs.Tagged.{IsFollowed, IsTagged, IsUnder, is_plain_call}
use Rattle.run_model.proofs.Targets.{foreign_outside}

module _ (x : SubjectParts) (sound : IsSubject x) (scope : IsInScope x) where
  -- a flow into an instruction is under its row
  flow_under : {m j : ℕ} {row : List Tag} → Flow x.app x.graph x.list scope.tags.gone x.tags m j row → j < code_len x.app m → length row ≡ length (row_at x m j) → IsUnder row (row_at x m j)
  flow_under flow there same = record { same = same; each = λ r below. scope.tags.least.closed.by flow there r below }

  -- ---- lengths and places
  width_there : (m : ℕ) (method : MethodRow) → slice_get x.app.methods m ≡ Some method → length (row_at x m 0) ≡ method.registers + 1
  width_there m method there =
      let read : slice_index x.tags.registers m ≡ method.registers =
      rw sound.fits_tags.registers (get_or-map (λ (one : MethodRow). one.registers) x.app.methods m method 0 (slice_get_within x.app.methods m method there) ∙ ap (λ (one : MethodRow). one.registers) (get_or_from_slice_get x.app.methods m method method there)) in
      length-row_at x.tags m 0 ∙ ap (λ (n : ℕ). n + 1) read

  same_width : (m i j : ℕ) → length (row_at x m i) ≡ length (row_at x m j)
  same_width m i j = length-row_at x.tags m i ∙ sym (length-row_at x.tags m j)

  place_sound : (m i : ℕ) (place : Place) → place_at x.app m i ≡ Some place → IsSoundPlace (slice_index_or x.app.code m no_body).registers (code_len x.app m) place
  unfolding place_at places_of
  place_sound m i place there =
      let body : IsBody (slice_index_or x.app.code m no_body).registers (places_of x.app m) =
      ⊎_elim (λ (here : m < length x.app.code). All-get_or (λ (b : BodyRows). IsBody b.registers b.places) x.app.code m no_body here sound.sound.bodies)
      (λ (past : length x.app.code ≤ m). rw (get_or_past x.app.code m no_body past) (record { limit = omega arith; rising = λ a b d before within. absurd (omega (arith, within)); each = λ a d within. absurd (omega (arith, within)) }))
      (cases_lt m (length x.app.code)) in
      let places = places_of x.app m in
      subst (IsSoundPlace (slice_index_or x.app.code m no_body).registers (length places)) (get_or_from_slice_get places i place place there)
      (All-get_or (IsSoundPlace (slice_index_or x.app.code m no_body).registers (length places)) places i place (slice_get_within places i place there) body.each)

  numbered : (count : ℕ) (numbers : List ℕ) (k j : ℕ) → All (λ i. i < count) numbers → slice_get numbers k ≡ Some j → j < count
  numbered count numbers k j all there =
      subst (λ (n : ℕ). n < count) (get_or_from_slice_get numbers k j j there) (All-get_or (λ i. i < count) numbers k j (slice_get_within numbers k j there) all)

  successor_below : (m i k j : ℕ) → successor_at x.app m i k ≡ Some j → j < code_len x.app m
  successor_below m i k j to = go (place_at x.app m i) refl to
    where
      go : (o : Option Place) → place_at x.app m i ≡ o → successor_of o k ≡ Some j → j < code_len x.app m
      go None there to = cc
      go (Some place) there to = numbered (code_len x.app m) place.successors k j (place_sound m i place there).successors to

  handler_below : (m i k j : ℕ) → handler_at x.app m i k ≡ Some j → j < code_len x.app m
  handler_below m i k j to = go (place_at x.app m i) refl to
    where
      go : (o : Option Place) → place_at x.app m i ≡ o → handler_of o k ≡ Some j → j < code_len x.app m
      go None there to = cc
      go (Some place) there to = numbered (code_len x.app m) place.handlers k j (place_sound m i place there).handlers to

  -- ---- callbacks
  entry_under : (c k m : ℕ) → callback_at x.list c k ≡ Some m → IsUnder (callback_row x.app (slice_get x.app.methods m)) (row_at x m 0)
  entry_under c k m there = go (slice_get x.app.methods m) refl
    where
      reached : is_reached x m ≡ true
      reached = sound.reaches.callbacks c k m there

      go : (o : Option MethodRow) → slice_get x.app.methods m ≡ o → IsUnder (callback_row x.app o) (row_at x m 0)
      go None none = absurd (⊎_elim (λ at. let e = sym at.2 ∙ none in cc) (λ past. omega (arith, (enterable x m sound reached).there, past.0)) (slice_get_cases x.app.methods m).1)
      go (Some method) is =
          subst (λ (o : Option MethodRow). IsUnder (callback_row x.app o) (row_at x m 0)) is
          (flow_under (begins c k there) (sound.reaches.begins m reached)
          (rw is (length_entry method.registers method.ins (callback_words x.app method) (sound.sound.methods m method is).fits ∙ sym (width_there m method is))))

  -- ---- no rule is broken
  entered : (m : ℕ) → is_reached x m ≡ true → IsEntered (candidate_of x) m
  entered m reached = (scope.reached m).0 reached

  -- a test that is broken nowhere where there is an instruction
  unbroken_by : (m i : ℕ) (test : Option Act → List Tag → Bool) → ((row : List Tag) → test None row ≡ false) → ((pc : ℕ) → pc_at x.app m i ≡ Some pc → test (act_at x.app m i) (row_at x m i) ≡ true → ⊥) → test (act_at x.app m i) (row_at x m i) ≡ false
  unfolding act_at
  unbroken_by m i test none breaks = go (place_at x.app m i) refl
    where
      go : (o : Option Place) → place_at x.app m i ≡ o → test (act_at x.app m i) (row_at x m i) ≡ false
      go None there = rw there (none (row_at x m i))
      go (Some place) there = by (test (act_at x.app m i) (row_at x m i)) refl
        where
          by : (b : Bool) → test (act_at x.app m i) (row_at x m i) ≡ b → b ≡ false
          by false is = refl
          by true is = absurd (breaks place.pc (ap pc_of there) is)

  -- ---- on to a successor; a plain call by what it calls outside
  outside_of : (m i : ℕ) (a : Act) → act_at x.app m i ≡ Some a → is_call a ≡ true → (is_plain_call a ≡ true → graph.outside_at x.graph m i ≡ true) → graph.outside_at x.graph m i ≡ true
  outside_of m i (Call by usage arguments gives) is call plain = from (is_plain usage) refl
    where
      from : (b : Bool) → is_plain usage ≡ b → graph.outside_at x.graph m i ≡ true
      from true own = plain own
      from false foreign = foreign_outside x m i by usage arguments gives (scope.graph.rows m i) is sound.sound foreign
  outside_of m i other is call plain = absurd (cc)

  goes_under : (m i k j : ℕ) (a : Act) → is_reached x m ≡ true → IsLive (row_at x m i) → act_at x.app m i ≡ Some a → leads_on a ≡ true → (is_plain_call a ≡ true → graph.outside_at x.graph m i ≡ true) → successor_at x.app m i k ≡ Some j
      → IsUnder (after (site_at x.app m i) a (row_at x m i)) (row_at x m j)
  goes_under m i k j a reached live is leads plain to = by (is_call a) refl
    where
      same : length (after (site_at x.app m i) a (row_at x m i)) ≡ length (row_at x m j)
      same = length_after (site_at x.app m i) a (row_at x m i) ∙ same_width m i j

      by : (b : Bool) → is_call a ≡ b → IsUnder (after (site_at x.app m i) a (row_at x m i)) (row_at x m j)
      by false no_call = flow_under (goes_on i k a is leads no_call to live) (successor_below m i k j to) same
      by true call = flow_under (back_from_outside i k a is call (outside_of m i a is call plain) to live) (successor_below m i k j to) same

  -- ---- into a callee, and back
  module _ (m i n : ℕ) (reached : is_reached x m ≡ true) (live : IsLive (row_at x m i)) (callee : Contains (callees_at x m i) (method_no n)) where
    abbrev row : List Tag
    row = row_at x m i

    abbrev gone : ℕ → Bool
    gone = scope.tags.gone n

    callee_reached : is_reached x n ≡ true
    callee_reached = sound.reaches.callees m i (method_no n) reached callee

    enters_under : (by : By) (usage : LockUse) (arguments : Args) (gives : Gives) → act_at x.app m i ≡ Some (Call by usage arguments gives) → IsUnder (callee_row (slice_get x.app.methods n) (call_words by row arguments)) (row_at x n 0)
    enters_under by usage arguments gives is =
        flow_under (enters m i (method_no n) by usage arguments gives is callee live) (sound.reaches.begins n callee_reached) (width (slice_get x.app.methods n) refl)
      where
        width : (o : Option MethodRow) → slice_get x.app.methods n ≡ o → length (callee_row o (call_words by row arguments)) ≡ length (row_at x n 0)
        width None none = absurd (⊎_elim (λ at. let e = sym at.2 ∙ none in cc) (λ past. omega (arith, (enterable x n sound callee_reached).there, past.0)) (slice_get_cases x.app.methods n).1)
        width (Some method) there = length_entry method.registers method.ins (call_words by row arguments) (sound.sound.methods n method there).fits ∙ sym (width_there n method there)

    called_width : length (called gone row) ≡ length row
    called_width = length-map row (called_change gone)

    returns_under : (k j e : ℕ) (answer : Returned) → successor_at x.app m i k ≡ Some j → act_at x.app n e ≡ Some (Return answer) → IsLive (row_at x n e)
        → IsUnder (set (called gone row) (result_cell row) (answered answer (row_at x n e))) (row_at x m j)
    returns_under k j e answer to is handed = record {
      same = length-set (called gone row) (result_cell row) result ∙ called_width ∙ same_width m i j;
      each = λ r below.
          let here : r < length row = omega (arith, below, length-set (called gone row) (result_cell row) result, called_width) in
          ⊎_elim (λ same. at_result r here same) (λ other. elsewhere r here other) (cases_eq r (result_cell row));
    }
      where
        result : Tag
        result = answered answer (row_at x n e)

        at_result : (r : ℕ) → r < length row → r ≡ result_cell row → Under (tag_in (set (called gone row) (result_cell row) result) r) (tag_in (row_at x m j) r)
        at_result r here same =
            let bots = map (λ (t : Tag). tag.Bot) row in
            let cell : result_cell row < length row = omega (arith, here, same) in
            let low : tag_in (set (called gone row) (result_cell row) result) r ≡ result = ap (tag_in (set (called gone row) (result_cell row) result)) same ∙ get_or-set_same (called gone row) (result_cell row) result tag.Bot (omega (arith, cell, called_width)) in
            let flow : tag_in (set bots (result_cell row) result) r ≡ result = ap (tag_in (set bots (result_cell row) result)) same ∙ get_or-set_same bots (result_cell row) result tag.Bot (omega (arith, cell, length-map row (λ (t : Tag). tag.Bot))) in
            let under = scope.tags.least.closed.by (comes_back i k e (method_no n) answer callee to live is handed) (successor_below m i k j to) r (omega (arith, here, length-set bots (result_cell row) result, length-map row (λ (t : Tag). tag.Bot))) in
            subst (λ (t : Tag). Under t (tag_in (row_at x m j) r)) (flow ∙ sym low) under

        elsewhere : (r : ℕ) → r < length row → r ≢ result_cell row → Under (tag_in (set (called gone row) (result_cell row) result) r) (tag_in (row_at x m j) r)
        elsewhere r here other =
            let low : tag_in (set (called gone row) (result_cell row) result) r ≡ tag_in (called gone row) r = get_or-set_other (called gone row) (result_cell row) r result tag.Bot other in
            let cell = result_cell (called gone row) in
            let apart : r ≢ cell = λ same. other (same ∙ ap pred called_width) in
            let flow : tag_in (set (called gone row) cell tag.Bot) r ≡ tag_in (called gone row) r = get_or-set_other (called gone row) cell r tag.Bot tag.Bot apart in
            let under = scope.tags.least.closed.by (passes_call i k (method_no n) callee to live) (successor_below m i k j to) r (omega (arith, here, length-set (called gone row) cell tag.Bot, called_width)) in
            subst (λ (t : Tag). Under t (tag_in (row_at x m j) r)) (flow ∙ sym low) under

    followed : IsFollowed x m i n
    followed = record {
      reached = callee_reached;
      gone = gone;
      assigns = scope.tags.stores n;
      enters = enters_under;
      returns = returns_under;
      throws = λ k j to. flow_under (throws_out i k (method_no n) callee to live) (handler_below m i k j to) (called_width ∙ same_width m i j);
    }

  pub scope_tagged : IsTagged x
  scope_tagged = record {
    callbacks = sound.reaches.callbacks;
    entries = entry_under;
    flows = goes_under;
    throws = λ m i k j a reached live is can to. flow_under (throws i k a is can to live) (handler_below m i k j to) (length_thrown a (row_at x m i) ∙ same_width m i j);
    calls = followed;
    no_escape = λ m i reached. unbroken_by m i is_escape (λ row. refl) (λ pc there broken. scope.unbroken 4 m pc (escape i (entered m reached) there broken));
    no_wrong_call = λ m i reached. unbroken_by m i is_wrong_call (λ row. refl) (λ pc there broken. scope.unbroken 5 m pc (wrong_call i (entered m reached) there broken));
    graph = λ m i reached invoked. scope.graph.rows m i;
  }
