-- Places of a subject's code.
use Rattle.std.proofs.Common.{◌≡◌, ℕ, ◌<◌, ◌≤◌, ◌^◌, List, true, false, cond, length, get_or, Option, Some, None, Contains, refl, sym, ap, ◌∙◌, ⊎_elim, arith}
use Rattle.std.specs.Prelude.{slice_get}
use Rattle.std.specs.List.{All}
use Rattle.std.proofs.lemmas.Bool.{cases_lt, cases_Bool, false≢true}
use Rattle.std.proofs.lemmas.List.{get_or_past}
use Rattle.std.proofs.lemmas.Option.{slice_get_within, get_or_from_slice_get, slice_get-get_or}
use Rattle.ns_base.specs.declared.rows.MethodNo.{MethodNo}
use Rattle.dalvik.specs.declared.body.Place.{Place}
use Rattle.dalvik.specs.Body.{BodyRows, IsBody, IsSoundPlace}
use Rattle.app_model.specs.Parts.{AppParts}
use Rattle.app_model.specs.Subject.{SubjectParts, IsSubject, is_reached, callees_at}
use Rattle.app_model.specs.Words.{no_body, places_of, place_at, code_len, successor_at, successor_of, handler_at, handler_of}
use Rattle.solution.specs.Facts.{Facts, place_count}
use Rattle.solution.specs.Table.{row_len}
use Rattle.solver.specs.Turns.{AreFacts, HasPlace}

module _ (x : SubjectParts) (sound : IsSubject x) where
  body_is : (m : ℕ) → m < length x.app.code → (registers : ℕ) × IsBody registers (places_of x.app m)
  unfolding places_of
  body_is m lt = ((get_or x.app.code m no_body).registers, sound.sound.bodies m no_body lt)

  pub code_limit : (m : ℕ) → code_len x.app m < 2 ^ 32
  unfolding places_of
  code_limit m = ⊎_elim (λ lt. (body_is m lt).1.limit) (λ past. (let e = ap (λ (b : BodyRows). length b.places) (get_or_past x.app.code m no_body past) in omega (arith, e))) (cases_lt m (length x.app.code))

  pub place_sound : (m i : ℕ) (place : Place) → place_at x.app m i ≡ Some place → (registers : ℕ) × IsSoundPlace registers (code_len x.app m) place
  unfolding place_at places_of
  place_sound m i place is =
      let within = slice_get_within (places_of x.app m) i place is in
      ⊎_elim
      (λ lt. (let b = body_is m lt in (b.0, (let s = b.1.each i place within in rw (get_or_from_slice_get (places_of x.app m) i place place is) at s))))
      (λ past. absurd (let e = ap (λ (b : BodyRows). length b.places) (get_or_past x.app.code m no_body past) in omega (arith, e, within)))
      (cases_lt m (length x.app.code))

-- a way is an entry of the place's list
way_found : (app : AppParts) (m i k j : ℕ) (list : Place → List ℕ) (of : Option Place → ℕ → Option ℕ) → ((n : ℕ) → of None n ≡ None) → ((p : Place) (n : ℕ) → of (Some p) n ≡ slice_get (list p) n)
    → of (place_at app m i) k ≡ Some j → (place : Place) × (place_at app m i ≡ Some place) × (slice_get (list place) k ≡ Some j)
way_found app m i k j list of nothing there = go (place_at app m i) refl
  where
    go : (o : Option Place) → place_at app m i ≡ o → of o k ≡ Some j → (place : Place) × (place_at app m i ≡ Some place) × (slice_get (list place) k ≡ Some j)
    go None e is = absurd (let z = nothing k in cc)
    go (Some place) e is = (place, e, sym (there place k) ∙ is)

-- behind an entry that is not there, there is none
past_none : (xs : List ℕ) (n k j : ℕ) → slice_get xs n ≡ None → n ≤ k → slice_get xs k ≡ Some j → ⊥
past_none xs n k j none le is =
    let within = slice_get_within xs k j is in
    let there = slice_get-get_or xs n 0 (omega (arith, within)) in
    absurd (cc)

entry_below : (xs : List ℕ) (n k j : ℕ) → All (λ i. i < n) xs → slice_get xs k ≡ Some j → j < n
entry_below xs n k j all is = rw (get_or_from_slice_get xs k j j is) at (all k j (slice_get_within xs k j is))

module _ (x : SubjectParts) (m i k j : ℕ) (is : successor_at x.app m i k ≡ Some j) where
  successor_found : (place : Place) × (place_at x.app m i ≡ Some place) × (slice_get place.successors k ≡ Some j)
  successor_found = way_found x.app m i k j (λ p. p.successors) successor_of (λ n. refl) (λ p n. refl) is

  pub successor_in : IsSubject x → j < code_len x.app m
  successor_in sound = let f = successor_found in entry_below f.0.successors (code_len x.app m) k j (place_sound x sound m i f.0 f.1).1.successors f.2

  pub successor_none : (n : ℕ) → successor_at x.app m i n ≡ None → n ≤ k → ⊥
  successor_none n none le = let f = successor_found in past_none f.0.successors n k j (rw f.1 at none) le f.2

  pub successor_last : IsSubject x → 4294967295 ≤ k → ⊥
  successor_last sound le = let f = successor_found in let w = slice_get_within f.0.successors k j f.2 in let s = (place_sound x sound m i f.0 f.1).1.successor_limit in omega arith

module _ (x : SubjectParts) (m i k j : ℕ) (is : handler_at x.app m i k ≡ Some j) where
  handler_found : (place : Place) × (place_at x.app m i ≡ Some place) × (slice_get place.handlers k ≡ Some j)
  handler_found = way_found x.app m i k j (λ p. p.handlers) handler_of (λ n. refl) (λ p n. refl) is

  pub handler_in : IsSubject x → j < code_len x.app m
  handler_in sound = let f = handler_found in entry_below f.0.handlers (code_len x.app m) k j (place_sound x sound m i f.0 f.1).1.handlers f.2

  pub handler_none : (n : ℕ) → handler_at x.app m i n ≡ None → n ≤ k → ⊥
  handler_none n none le = let f = handler_found in past_none f.0.handlers n k j (rw f.1 at none) le f.2

  pub handler_last : IsSubject x → 4294967295 ≤ k → ⊥
  handler_last sound le = let f = handler_found in let w = slice_get_within f.0.handlers k j f.2 in let s = (place_sound x sound m i f.0 f.1).1.handler_limit in omega arith

module _ (x : SubjectParts) (l : ℕ) (t : Facts) where
  -- places of a method that is reached
  pub row_is : AreFacts x l t → (m : ℕ) → is_reached x m ≡ true → row_len t.code m ≡ code_len x.app m
  unfolding place_count
  row_is facts m reached = facts.places.code m ∙ ap (λ b. cond b (code_len x.app m) 0) reached

  pub place_in : (m i j : ℕ) → HasPlace x l t m i → j < code_len x.app m → j < row_len t.code m
  place_in m i j here lt = rw (row_is here.facts m here.place.reached) lt

  pub first_in : AreFacts x l t → (n : ℕ) → is_reached x n ≡ true → 0 < row_len t.code n
  first_in facts n reached = rw (row_is facts n reached) (facts.sound.reaches.begins n reached)

  pub method_there : AreFacts x l t → (n : ℕ) → is_reached x n ≡ true → n < length x.app.methods
  unfolding is_reached
  method_there facts n reached = ⊎_elim (λ lt. rw facts.sound.reaches.methods at lt) (λ past. absurd (false≢true (sym (get_or_past x.reached n false past) ∙ reached))) (cases_lt n (length x.reached))

  pub callee_reached : (m i : ℕ) (n : MethodNo) → HasPlace x l t m i → Contains (callees_at x m i) n → is_reached x n.0 ≡ true
  callee_reached m i n here called = here.facts.sound.reaches.callees m i n here.place.reached called

  -- a place that has facts is one of a method that is reached
  pub row_reached : AreFacts x l t → (m i : ℕ) → i < row_len t.code m → is_reached x m ≡ true
  unfolding place_count
  row_reached facts m i lt = ⊎_elim (λ yes. yes) (λ off. absurd (let e = facts.places.code m ∙ ap (λ b. cond b (code_len x.app m) 0) off in omega (arith, e, lt))) (cases_Bool (is_reached x m))

  -- other places: in the same method, and where another one begins
  pub place_beside : (m i j : ℕ) → HasPlace x l t m i → j < code_len x.app m → HasPlace x l t m j
  place_beside m i j here lt = record { facts = here.facts; place = record { lock = here.place.lock; method = here.place.method; reached = here.place.reached; index = lt } }

  pub first_place : (m i : ℕ) (n : MethodNo) → HasPlace x l t m i → Contains (callees_at x m i) n → HasPlace x l t n.0 0
  first_place m i n here called =
      let reached = callee_reached m i n here called in
      record { facts = here.facts; place = record { lock = here.place.lock; method = method_there here.facts n.0 reached; reached = reached; index = here.facts.sound.reaches.begins n.0 reached } }
