-- The ways from an instruction, by number.
use Rattle.std.proofs.Common.{◌≡◌, ℕ, ◌-◌, ◌<◌, ◌≤◌, ◌^◌, List, length, get_or, Option, Some, None, refl, sym, ◌∙◌, ⊎_elim, arith}
use Rattle.std.specs.Prelude.{slice_get}
use Rattle.std.proofs.lemmas.Bool.{cases_lt}
use Rattle.std.proofs.lemmas.Option.{slice_get_within, get_or_from_slice_get}
use Rattle.dalvik.specs.declared.body.Place.{Place}
use Rattle.dalvik.specs.Body.{IsBody, IsSoundPlace}
use Rattle.app_model.specs.Parts.{AppParts}
use Rattle.app_model.specs.Sound.{IsSoundApp}
use Rattle.app_model.specs.Words.{no_body, places_of, place_at, code_len, successor_at, successor_of, handler_at, handler_of}
use Rattle.flow_model.proofs.TestLaws.{none_after, none_some}

-- a way by number, read from a list of the place
module _ (list : Place → List ℕ) (of : Option Place → ℕ → Option ℕ) (nothing : (k : ℕ) → of None k ≡ None) (there : (p : Place) (k : ℕ) → of (Some p) k ≡ slice_get (list p) k) where
  none_later : (o : Option Place) (n k j : ℕ) → of o n ≡ None → n ≤ k → of o k ≡ Some j → ⊥
  none_later None n k j off le on = (let z = nothing k in cc)
  none_later (Some p) n k j off le on = none_some j (slice_get (list p) k) (none_after (list p) n k (sym (there p n) ∙ off) le) (sym (there p k) ∙ on)

  few : (o : Option Place) (k j : ℕ) → ((p : Place) → o ≡ Some p → length (list p) < 2 ^ 32) → of o k ≡ Some j → k < 2 ^ 32 - 1
  few None k j limit on = absurd (let z = nothing k in cc)
  few (Some p) k j limit on = (let w = slice_get_within (list p) k j (sym (there p k) ∙ on) in let l = limit p refl in omega arith)

module _ (app : AppParts) (m : ℕ) (sound : IsSoundApp app) (within : m < length app.methods) where
  pub body_sound : (registers : ℕ) × IsBody registers (places_of app m)
  unfolding places_of
  body_sound = ((get_or app.code m no_body).registers, sound.bodies m no_body (let e = sound.sizes.code in omega arith))

  place_sound : (i : ℕ) (place : Place) → place_at app m i ≡ Some place → (registers : ℕ) × IsSoundPlace registers (code_len app m) place
  unfolding place_at
  place_sound i place is = (let b = body_sound in let s = b.1.each i place (slice_get_within (places_of app m) i place is) in (b.0, rw (get_or_from_slice_get (places_of app m) i place place is) at s))

  module _ (i n k j : ℕ) where
    pub successor_few : successor_at app m i k ≡ Some j → 4294967295 ≤ n → k < n
    successor_few is le = (let w = few (λ p. p.successors) successor_of (λ k. refl) (λ p k. refl) (place_at app m i) k j (λ p at. (place_sound i p at).1.successor_limit) is in omega arith)

    pub handler_few : handler_at app m i k ≡ Some j → 4294967295 ≤ n → k < n
    handler_few is le = (let w = few (λ p. p.handlers) handler_of (λ k. refl) (λ p k. refl) (place_at app m i) k j (λ p at. (place_sound i p at).1.handler_limit) is in omega arith)

    pub no_successor : successor_at app m i n ≡ None → successor_at app m i k ≡ Some j → k < n
    no_successor off on = ⊎_elim (λ lt. lt) (λ le. absurd (none_later (λ p. p.successors) successor_of (λ k. refl) (λ p k. refl) (place_at app m i) n k j off le on)) (cases_lt k n)

    pub no_handler : handler_at app m i n ≡ None → handler_at app m i k ≡ Some j → k < n
    no_handler off on = ⊎_elim (λ lt. lt) (λ le. absurd (none_later (λ p. p.handlers) handler_of (λ k. refl) (λ p k. refl) (place_at app m i) n k j off le on)) (cases_lt k n)
