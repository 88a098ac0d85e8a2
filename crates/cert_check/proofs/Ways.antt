-- The instructions of a method, and the ways from them.
use Rattle.std.proofs.Common.{◌≡◌, ℕ, ◌-◌, ◌<◌, ◌≤◌, ◌^◌, List, length, get_or, Option, Some, None, refl, sym, ◌∙◌, ⊎_elim, arith}
use Rattle.std.specs.Prelude.{slice_get}
use Rattle.std.specs.Prelude.{◌⊎◌}
use Rattle.std.proofs.lemmas.Option.{slice_get_within, get_or_from_slice_get, slice_get_cases}
use Rattle.dalvik.specs.declared.body.Place.{Place}
use Rattle.dalvik.specs.Body.{IsBody, IsSoundPlace}
use Rattle.app_model.specs.Subject.{SubjectParts, IsSubject}
use Rattle.app_model.specs.Words.{no_body, places_of, place_at, code_len, pc_at, pc_of, successor_at, successor_of, handler_at, handler_of}
use Rattle.flow_model.proofs.TestLaws.{none_after, none_some}

-- a way by number, read from a list of the place
module _ (list : Place → List ℕ) (of : Option Place → ℕ → Option ℕ) (nothing : (k : ℕ) → of None k ≡ None) (there : (p : Place) (k : ℕ) → of (Some p) k ≡ slice_get (list p) k) where
  none_later : (o : Option Place) (n k j : ℕ) → of o n ≡ None → n ≤ k → of o k ≡ Some j → ⊥
  none_later None n k j off le on = (let z = nothing k in cc)
  none_later (Some p) n k j off le on = none_some j (slice_get (list p) k) (none_after (list p) n k (sym (there p n) ∙ off) le) (sym (there p k) ∙ on)

  few : (o : Option Place) (k j : ℕ) → ((p : Place) → o ≡ Some p → length (list p) < 2 ^ 32) → of o k ≡ Some j → k < 2 ^ 32 - 1
  few None k j limit on = absurd (let z = nothing k in cc)
  few (Some p) k j limit on = (let w = slice_get_within (list p) k j (sym (there p k) ∙ on) in let l = limit p refl in omega arith)

module _ (x : SubjectParts) (m : ℕ) (sound : IsSubject x) (within : m < length x.app.methods) where
  pub body_sound : (registers : ℕ) × IsBody registers (places_of x.app m)
  unfolding places_of
  body_sound = ((get_or x.app.code m no_body).registers, sound.sound.bodies m no_body (let e = sound.sound.sizes.code in omega arith))

  place_sound : (i : ℕ) (place : Place) → place_at x.app m i ≡ Some place → (registers : ℕ) × IsSoundPlace registers (code_len x.app m) place
  unfolding place_at
  place_sound i place is = (let b = body_sound in let s = b.1.each i place (slice_get_within (places_of x.app m) i place is) in (b.0, rw (get_or_from_slice_get (places_of x.app m) i place place is) at s))

  pub successor_few : (i k j : ℕ) → successor_at x.app m i k ≡ Some j → k < 2 ^ 32 - 1
  successor_few i k j is = few (λ p. p.successors) successor_of (λ k. refl) (λ p k. refl) (place_at x.app m i) k j (λ p at. (place_sound i p at).1.successor_limit) is

  pub handler_few : (i k j : ℕ) → handler_at x.app m i k ≡ Some j → k < 2 ^ 32 - 1
  handler_few i k j is = few (λ p. p.handlers) handler_of (λ k. refl) (λ p k. refl) (place_at x.app m i) k j (λ p at. (place_sound i p at).1.handler_limit) is

  pub no_successor : (i n k j : ℕ) → successor_at x.app m i n ≡ None → n ≤ k → successor_at x.app m i k ≡ Some j → ⊥
  no_successor i n k j off le on = none_later (λ p. p.successors) successor_of (λ k. refl) (λ p k. refl) (place_at x.app m i) n k j off le on

  pub no_handler : (i n k j : ℕ) → handler_at x.app m i n ≡ None → n ≤ k → handler_at x.app m i k ≡ Some j → ⊥
  no_handler i n k j off le on = none_later (λ p. p.handlers) handler_of (λ k. refl) (λ p k. refl) (place_at x.app m i) n k j off le on

  -- ---- pcs rise
  pc_place : (i p : ℕ) → pc_at x.app m i ≡ Some p → (place : Place) × (place_at x.app m i ≡ Some place) × (place.pc ≡ p)
  pc_place i p is = go (place_at x.app m i) refl is
    where
      go : (o : Option Place) → place_at x.app m i ≡ o → pc_of o ≡ Some p → (place : Place) × (place_at x.app m i ≡ Some place) × (place.pc ≡ p)
      go None at e = absurd (cc)
      go (Some place) at e = (place, at, (let own = e in cc))

  pub pcs_rise : (i j p q : ℕ) → pc_at x.app m i ≡ Some p → pc_at x.app m j ≡ Some q → i < j → p < q
  unfolding place_at
  pcs_rise i j p q first second lt =
      let a = pc_place i p first in
      let b = pc_place j q second in
      let places = places_of x.app m in
      let up = body_sound.1.rising i j a.0 lt (slice_get_within places j b.0 b.1) in
      rw (get_or_from_slice_get places i a.0 a.0 a.1, get_or_from_slice_get places j b.0 a.0 b.1, a.2, b.2) at up

  pub pc_there : (i : ℕ) → i < code_len x.app m → (p : ℕ) × (pc_at x.app m i ≡ Some p)
  unfolding place_at
  pc_there i lt = go (slice_get (places_of x.app m) i) (slice_get_cases (places_of x.app m) i).1
    where
      go : (o : Option Place) → ((place : Place) × (i < length (places_of x.app m)) × (o ≡ Some place) × (get_or (places_of x.app m) i place ≡ place)) ⊎ ((length (places_of x.app m) ≤ i) × (o ≡ None)) → (p : ℕ) × (pc_of o ≡ Some p)
      go o here = ⊎_elim (λ z. (z.0.pc, rw z.2 refl)) (λ z. absurd (let past = z.0 in omega arith)) here
