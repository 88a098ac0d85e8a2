-- Where loops over successors, handlers, callees and entries end.
use Rattle.std.proofs.Common.{◌≡◌, ℕ, ◌<◌, ◌≤◌, ◌^◌, ◌-◌, List, length, Bool, Option, Some, None, refl, sym, ap, ◌∙◌, subst, arith, get_or, Contains}
use Rattle.std.specs.Prelude.{slice_get}
use Rattle.std.proofs.lemmas.Option.{get_or_from_slice_get, slice_get-get_or, slice_get_within}
use Rattle.dalvik.specs.Body.{IsBody, IsSoundPlace}
use Rattle.dalvik.specs.declared.body.Place.{Place}
use Rattle.app_model.specs.Parts.{AppParts}
use Rattle.app_model.specs.Sound.{IsSoundApp}
use Rattle.app_model.specs.Words.{code_len, handler_at, handler_of, no_body, place_at, places_of, successor_at, successor_of}
use Rattle.flow_model.proofs.TestLaws.{none_after, none_some}
use Rattle.tag_flow.specs.Known.{KnownParts}
use Rattle.tag_flow.specs.State.{StateParts}
use Rattle.tag_flow.specs.Turns.{Leads, leads_after, leads_thrown, leads_past, leads_out, Turn}
use Rattle.tag_rows.specs.declared.change.Change.{Change}
use Rattle.tag_flow.specs.Goals.{Below}
use Rattle.tag_rows.proofs.Acts.{method_within}
use Rattle.tag_flow.proofs.Turns.{turn_all, turn_as}

place_sound : (app : AppParts) (m i : ℕ) (place : Place) → IsSoundApp app → i < code_len app m → place_at app m i ≡ Some place → (registers : ℕ) × IsSoundPlace registers (code_len app m) place
unfolding place_at places_of
place_sound app m i place sound lt is =
    let body = get_or app.code m no_body in
    let low = method_within app m i sound.sizes lt in
    let whole : IsBody body.registers body.places = sound.bodies m no_body (let e = sound.sizes.code in omega (arith, e, low)) in
    (body.registers, subst (IsSoundPlace body.registers (length body.places)) (get_or_from_slice_get body.places i place place is) (whole.each i place lt))

module _ (app : AppParts) (m i : ℕ) (sound : IsSoundApp app) (lt : i < code_len app m) where
  pub successor_below : (x j : ℕ) → successor_at app m i x ≡ Some j → (j < code_len app m) × (x < 2 ^ 32 - 1)
  successor_below x j is = go (place_at app m i) refl is
    where
      go : (o : Option Place) → place_at app m i ≡ o → successor_of o x ≡ Some j → (j < code_len app m) × (x < 2 ^ 32 - 1)
      go None at e = absurd (cc)
      go (Some place) at e =
          let fine = (place_sound app m i place sound lt at).1 in
          let within = slice_get_within place.successors x j e in
          (subst (λ n. n < code_len app m) (get_or_from_slice_get place.successors x j j e) (fine.successors x j within), (let few = fine.successor_limit in omega (arith, few, within)))

  pub handler_below : (x j : ℕ) → handler_at app m i x ≡ Some j → (j < code_len app m) × (x < 2 ^ 32 - 1)
  handler_below x j is = go (place_at app m i) refl is
    where
      go : (o : Option Place) → place_at app m i ≡ o → handler_of o x ≡ Some j → (j < code_len app m) × (x < 2 ^ 32 - 1)
      go None at e = absurd (cc)
      go (Some place) at e =
          let fine = (place_sound app m i place sound lt at).1 in
          let within = slice_get_within place.handlers x j e in
          (subst (λ n. n < code_len app m) (get_or_from_slice_get place.handlers x j j e) (fine.handlers x j within), (let few = fine.handler_limit in omega (arith, few, within)))

  no_successor : (x n j : ℕ) → successor_at app m i x ≡ None → x ≤ n → successor_at app m i n ≡ Some j → ⊥
  no_successor x n j off le on = go (place_at app m i) off on
    where
      go : (o : Option Place) → successor_of o x ≡ None → successor_of o n ≡ Some j → ⊥
      go None off on = cc
      go (Some place) off on = none_some j (slice_get place.successors n) (none_after place.successors x n off le) on

  no_handler : (x n j : ℕ) → handler_at app m i x ≡ None → x ≤ n → handler_at app m i n ≡ Some j → ⊥
  no_handler x n j off le on = go (place_at app m i) off on
    where
      go : (o : Option Place) → handler_of o x ≡ None → handler_of o n ≡ Some j → ⊥
      go None off on = cc
      go (Some place) off on = none_some j (slice_get place.handlers n) (none_after place.handlers x n off le) on

  -- a loop over successors, or over handlers, that comes to none, or to its bound
  module _ (k : KnownParts) (part : ℕ → StateParts → Type 0) (a b : StateParts) (moved : Bool) where
    abbrev OfSuccessors : ℕ → StateParts → Type 0
    OfSuccessors x s = (j : ℕ) → successor_at app m i x ≡ Some j → part j s

    abbrev OfHandlers : ℕ → StateParts → Type 0
    OfHandlers x s = (j : ℕ) → handler_at app m i x ≡ Some j → part j s

    pub successors_none : (x : ℕ) → successor_at app m i x ≡ None → Turn k (Below OfSuccessors x) a b moved → Turn k (λ s. (n : ℕ) → OfSuccessors n s) a b moved
    successors_none x off turn = turn_all k OfSuccessors x a b moved (λ s n le j on. absurd (no_successor x n j off le on)) turn

    pub successors_end : (x : ℕ) → 2 ^ 32 - 1 ≤ x → Turn k (Below OfSuccessors x) a b moved → Turn k (λ s. (n : ℕ) → OfSuccessors n s) a b moved
    successors_end x end turn = turn_all k OfSuccessors x a b moved (λ s n le j on. absurd (let few = (successor_below n j on).1 in omega (arith, few, le, end))) turn

    pub handlers_none : (x : ℕ) → handler_at app m i x ≡ None → Turn k (Below OfHandlers x) a b moved → Turn k (λ s. (n : ℕ) → OfHandlers n s) a b moved
    handlers_none x off turn = turn_all k OfHandlers x a b moved (λ s n le j on. absurd (no_handler x n j off le on)) turn

    pub handlers_end : (x : ℕ) → 2 ^ 32 - 1 ≤ x → Turn k (Below OfHandlers x) a b moved → Turn k (λ s. (n : ℕ) → OfHandlers n s) a b moved
    handlers_end x end turn = turn_all k OfHandlers x a b moved (λ s n le j on. absurd (let few = (handler_below n j on).1 in omega (arith, few, le, end))) turn

-- a step leads to an instruction
pub leads_below : (k : KnownParts) (m i j : ℕ) (change : Change) → IsSoundApp k.app → i < code_len k.app m → Leads k m i j change → j < code_len k.app m
leads_below k m i j _ sound lt (leads_after x a site is leads outside same to) = (successor_below k.app m i sound lt x j to).0
leads_below k m i j _ sound lt (leads_thrown x a is can to) = (handler_below k.app m i sound lt x j to).0
leads_below k m i j _ sound lt (leads_past x gone union to) = (successor_below k.app m i sound lt x j to).0
leads_below k m i j _ sound lt (leads_out x gone union to) = (handler_below k.app m i sound lt x j to).0

-- where there is a number, what is done for it
pub of_one : {A : Type 0} (k : KnownParts) (o : Option A) (j : A) (part : A → StateParts → Type 0) (a b : StateParts) (moved : Bool) → o ≡ Some j → Turn k (part j) a b moved → Turn k (λ s. (n : A) → o ≡ Some n → part n s) a b moved
of_one k o j part a b moved is = turn_as k (part j) (λ s. (n : _) → o ≡ Some n → part n s) a b moved (λ s h n on. (let both : Some j ≡ Some n = sym is ∙ on in let same : j ≡ n = cc in subst (λ i. part i s) same h))

-- a loop over all elements of a list
pub turn_each : {A : Type 0} (k : KnownParts) (xs : List A) (part : A → StateParts → Type 0) (a b : StateParts) (moved : Bool)
    → Turn k (Below (λ x s. (n : A) → slice_get xs x ≡ Some n → part n s) (length xs)) a b moved → Turn k (λ s. (n : A) → Contains xs n → part n s) a b moved
turn_each k xs part a b moved = turn_as k _ _ a b moved (λ s all n there. all there.0 there.1 n (slice_get-get_or xs there.0 n there.1 ∙ ap Some there.2))
