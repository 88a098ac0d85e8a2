-- Instructions by their pcs, which rise.
use Rattle.std.proofs.Common.{◌≡◌, ℕ, ◌+◌, ◌<◌, ◌≤◌, Bool, false, length, get_or, Option, Some, None, refl, sym, ap, ◌∙◌, subst, ⊎_elim, arith}
use Rattle.std.specs.Prelude.{◌==◌, slice_get, position}
use Rattle.std.proofs.lemmas.Bool.{cases_Bool, cases_eq, cases_lt, cases_order, eqb-true, eq-eqb}
use Rattle.std.proofs.lemmas.List.{get_or_past}
use Rattle.std.proofs.lemmas.Option.{slice_get_within, slice_get-get_or, get_or_from_slice_get}
use Rattle.dalvik.specs.declared.body.Place.{Place}
use Rattle.dalvik.specs.Body.{BodyRows}
use Rattle.app_model.specs.Parts.{AppParts}
use Rattle.app_model.specs.Sound.{IsSoundApp}
use Rattle.app_model.specs.Words.{no_body, places_of, place_at, code_len, pc_at, pc_of}
use Rattle.app_model.proofs.Searches.{position_none, position_here}
use Rattle.report_path.specs.Paths.{index_at}
use Rattle.report_path.specs.Tests.{IsFrom}
use Rattle.report_path.proofs.Ways.{body_sound}

pub pc_place : (app : AppParts) (m i p : ℕ) → pc_at app m i ≡ Some p → (place : Place) × (slice_get (places_of app m) i ≡ Some place) × (place.pc ≡ p)
unfolding place_at
pc_place app m i p is = go (slice_get (places_of app m) i) refl is
  where
    go : (o : Option Place) → slice_get (places_of app m) i ≡ o → pc_of o ≡ Some p → (place : Place) × (slice_get (places_of app m) i ≡ Some place) × (place.pc ≡ p)
    go None at e = absurd (cc)
    go (Some place) at e = (place, at, (let own = e in cc))

pub place_pc : (app : AppParts) (m i : ℕ) (place : Place) → slice_get (places_of app m) i ≡ Some place → pc_at app m i ≡ Some place.pc
unfolding place_at
place_pc app m i place at = ap pc_of at

pub pc_within : (app : AppParts) (m i p : ℕ) → pc_at app m i ≡ Some p → i < code_len app m
pc_within app m i p is = (let z = pc_place app m i p is in slice_get_within (places_of app m) i z.0 z.1)

-- ---- the search by halves: the instructions between which it still is
pub record IsBetween (app : AppParts) (m pc low high : ℕ) : Type 0 where
  pub ordered : low ≤ high
  pub inside : high ≤ code_len app m
  pub below : (k p : ℕ) → k < low → pc_at app m k ≡ Some p → p < pc
  pub above : (k p : ℕ) → high ≤ k → pc_at app m k ≡ Some p → pc ≤ p

pub between_all : (app : AppParts) (m pc n : ℕ) → n ≡ code_len app m → IsBetween app m pc 0 n
between_all app m pc n is = record {
  ordered = omega arith;
  inside = omega arith;
  below = λ k p lt at. absurd (omega arith);
  above = λ k p ge at. absurd (let w = pc_within app m k p at in omega arith);
}

module _ (app : AppParts) (m : ℕ) (sound : IsSoundApp app) (within : m < length app.methods) where
  pub pcs_rise : (i j p q : ℕ) → pc_at app m i ≡ Some p → pc_at app m j ≡ Some q → i < j → p < q
  pcs_rise i j p q first second lt =
      let a = pc_place app m i p first in
      let b = pc_place app m j q second in
      let places = places_of app m in
      let up = (body_sound app m sound within).1.rising i j a.0 lt (slice_get_within places j b.0 b.1) in
      rw (get_or_from_slice_get places i a.0 a.0 a.1, get_or_from_slice_get places j b.0 a.0 b.1, a.2, b.2) at up

  pc_differs : (k i : ℕ) (place : Place) (pc : ℕ) → slice_get (places_of app m) k ≡ Some place → pc_at app m i ≡ Some pc → k < i → (place.pc == pc) ≡ false
  pc_differs k i place pc at is lt =
      ⊎_elim (λ on. absurd (let up = pcs_rise k i place.pc pc (place_pc app m k place at) is lt in let same = eqb-true place.pc pc on in omega arith)) (λ no. no) (cases_Bool (place.pc == pc))

  -- the instruction at a pc is the one that has it
  pub index_is : (i pc : ℕ) → pc_at app m i ≡ Some pc → Some i ≡ index_at app m pc
  unfolding index_at
  index_is i pc is =
      let z = pc_place app m i pc is in
      let places = places_of app m in
      let test : Place → Bool = λ place. place.pc == pc in
      position_here test places i z.0 (slice_get_within places i z.0 z.1)
      (λ k lt. (let w = slice_get_within places i z.0 z.1 in pc_differs k i (get_or places k z.0) pc (slice_get-get_or places k z.0 (omega arith)) is lt))
      (ap test (get_or_from_slice_get places i z.0 z.0 z.1) ∙ eq-eqb z.0.pc pc z.2)

  pub none_at : (pc n : ℕ) → IsFrom app m pc n → (pc_at app m n ≡ Some pc → ⊥) → (k : ℕ) → pc_at app m k ≡ Some pc → ⊥
  none_at pc n from off k is = ⊎_elim
      (λ same. off (rw same at is))
      (λ apart. ⊎_elim
      (λ before. (let low = from.below k pc before is in omega arith))
      (λ after. (let w = pc_within app m k pc is in
      let place = get_or (places_of app m) n (pc_place app m k pc is).0 in
      let at = place_pc app m n place (slice_get-get_or (places_of app m) n (pc_place app m k pc is).0 (omega arith)) in
      let high = from.above n place.pc (omega arith) at in
      let up = pcs_rise n k place.pc pc at is after in
      omega arith)) apart)
      (cases_order k n)

  module _ (pc low high middle q : ℕ) (between : IsBetween app m pc low high) (from : low ≤ middle) (to : middle < high) (is : pc_at app m middle ≡ Some q) where
    pub half_up : q < pc → IsBetween app m pc (middle + 1) high
    half_up less = record {
      ordered = omega arith;
      inside = between.inside;
      below = λ k p lt at. ⊎_elim
          (λ same. (let eq : p ≡ q = (let other = is in let mine : pc_at app m middle ≡ Some p = rw same at at in cc) in rw eq less))
          (λ apart. ⊎_elim (λ before. (let step = pcs_rise k middle p q at is before in omega arith)) (λ after. absurd (omega arith)) apart)
          (cases_order k middle);
      above = between.above;
    }

    pub half_down : pc ≤ q → IsBetween app m pc low middle
    half_down le = record {
      ordered = from;
      inside = (let w = between.inside in omega arith);
      below = between.below;
      above = λ k p ge at. ⊎_elim
          (λ same. (let eq : p ≡ q = (let other = is in let mine : pc_at app m middle ≡ Some p = rw same at at in cc) in rw eq le))
          (λ apart. ⊎_elim (λ before. absurd (omega arith)) (λ after. (let step = pcs_rise middle k q p is at after in omega arith)) apart)
          (cases_order k middle);
    }

-- ---- what the look-up gives
pub index_none : (app : AppParts) (m pc : ℕ) → ((k : ℕ) → pc_at app m k ≡ Some pc → ⊥) → None ≡ index_at app m pc
unfolding index_at
index_none app m pc none = position_none (λ (place : Place). place.pc == pc) (places_of app m) (λ k d lt.
    (let place = get_or (places_of app m) k d in
    ⊎_elim (λ on. absurd (none k (place_pc app m k place (slice_get-get_or (places_of app m) k d lt) ∙ ap Some (eqb-true place.pc pc on)))) (λ no. no) (cases_Bool (place.pc == pc))))

-- a method that has an instruction is there
index_method : (app : AppParts) (m pc i : ℕ) → IsSoundApp app → index_at app m pc ≡ Some i → m < length app.methods
unfolding index_at places_of
index_method app m pc i sound is = ⊎_elim (λ lt. lt) (λ past. absurd
    (let e = sound.sizes.code in
    let off : position (λ (place : Place). place.pc == pc) no_body.places ≡ Some i = subst (λ (b : BodyRows). position (λ (place : Place). place.pc == pc) b.places ≡ Some i) (get_or_past app.code m no_body (omega arith)) is in
    cc)) (cases_lt m (length app.methods))

pub no_method : (app : AppParts) (m pc : ℕ) → IsSoundApp app → length app.methods ≤ m → None ≡ index_at app m pc
no_method app m pc sound past = go (index_at app m pc) refl
  where
    go : (o : Option ℕ) → index_at app m pc ≡ o → None ≡ index_at app m pc
    go None e = sym e
    go (Some i) e = absurd (let lt = index_method app m pc i sound e in omega arith)
