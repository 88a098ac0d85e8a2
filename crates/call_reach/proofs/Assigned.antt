-- Own stores spread to callers are the stores of the reach.
use Rattle.std.proofs.Common.{◌≡◌, ℕ, ◌+◌, ◌*◌, ◌%◌, ◌^◌, ◌≤◌, ◌<◌, List, length, Bool, true, false, set, replicate, refl, sym, ◌∙◌, subst, ⊎_elim, arith, Option, Some, None, slice_get, bit_or, w64, length-set}
use Rattle.std.specs.Prelude.{◌↔◌}
use Rattle.std.specs.Int.{bit_at}
use Rattle.std.proofs.lemmas.Bool.{cases_eq, cases_lt}
use Rattle.std.proofs.lemmas.List.{get_or-set_other, get_or-set_same}
use Rattle.std.proofs.lemmas.Nat.Bits.{bit_at-zero, bit_at_set_other, bit_at_set_same}
use Rattle.std.proofs.lemmas.Option.{slice_get_within}
use Rattle.dalvik.specs.declared.body.Place.{Place}
use Rattle.app_model.specs.CallGraph.{FitsCode, GraphParts}
use Rattle.app_model.specs.Parts.{AppParts}
use Rattle.app_model.specs.Reach.{Assigns, StoresAt, is_object_store}
use Rattle.app_model.specs.Words.{code_len, ins_of, place_at, places_of}
use Rattle.call_reach.specs.Spread.{Has}
use Rattle.call_reach.specs.Starts.{AreAssigned, AreGathered, AreStores, Stores}
use Rattle.call_reach.proofs.Adding.{row_in}
use Rattle.call_reach.proofs.Bits.{or_bit, or_left, or_right}
use Rattle.call_reach.proofs.Reached.{zero_bit}

-- ---- one bit
pub one_bit : (k : ℕ) → k < 64 → (l : ℕ) → l < 64 → (bit_at (1 * 2 ^ k % 2 ^ 64) l ≡ 1) ↔ (k ≡ l)
one_bit k lt l within = (only_it, it)
  where
    only_it : bit_at (1 * 2 ^ k % 2 ^ 64) l ≡ 1 → k ≡ l
    only_it e = ⊎_elim (λ is. sym is) (λ ne. absurd (let o = bit_at_set_other w64 0 k lt l ne in let z = bit_at-zero l in let same : bit_at (1 * 2 ^ k % 2 ^ 64) l ≡ bit_at 0 l = o in omega arith)) (cases_eq l k)

    it : k ≡ l → bit_at (1 * 2 ^ k % 2 ^ 64) l ≡ 1
    it is = subst (λ (n : ℕ). bit_at (1 * 2 ^ k % 2 ^ 64) n ≡ 1) is (bit_at_set_same w64 0 k lt)

pub no_bit : (k : ℕ) → 64 ≤ k → (l : ℕ) → l < 64 → (bit_at 0 l ≡ 1) ↔ (k ≡ l)
no_bit k le l within = ((λ e. absurd (let z = bit_at-zero l in omega arith)), λ is. absurd (omega arith))

-- ---- the stores of a method
abbrev pub StoresBelow : AppParts → (m bound l : ℕ) → Type 0
StoresBelow app m bound l = (i : ℕ) × (i < bound) × StoresAt app m i l

abbrev pub AreOwn : AppParts → (m bound mask : ℕ) → Type 0
AreOwn app m bound mask = (l : ℕ) → l < 64 → (bit_at mask l ≡ 1) ↔ StoresBelow app m bound l

pub own_none : (app : AppParts) (m : ℕ) → AreOwn app m 0 0
own_none app m l within = ((λ e. absurd (let z = bit_at-zero l in omega arith)), λ s. absurd (omega (arith, s.1)))

pub own_more : (app : AppParts) (m i mask bit : ℕ) → AreOwn app m i mask → ((l : ℕ) → l < 64 → (bit_at bit l ≡ 1) ↔ StoresAt app m i l) → AreOwn app m (i + 1) (bit_or mask bit)
own_more app m i mask bit before this l within = (
  λ e. ⊎_elim
      (λ old. (let s : StoresBelow app m i l = (before l within).0 old in (s.0, omega (arith, s.1), s.2)))
      (λ new. (i, omega arith, (this l within).0 new)) (or_bit mask bit l e),
  λ s. ⊎_elim
      (λ less. or_left mask bit l ((before l within).1 (s.0, less, s.2)))
      (λ le. or_right mask bit l ((this l within).1 (let is : s.0 ≡ i = omega (arith, le, s.1) in subst (λ (k : ℕ). StoresAt app m k l) is s.2))) (cases_lt s.0 i),
)

store_within : (app : AppParts) (m i l : ℕ) → StoresAt app m i l → i < code_len app m
unfolding place_at
store_within app m i l s = go (slice_get (places_of app m) i) refl s.store
  where
    go : (place : Option Place) → slice_get (places_of app m) i ≡ place → is_object_store (ins_of place) ≡ true → i < code_len app m
    go None is off = let none : ◌≡◌ {A = Bool} false true = off in cc
    go (Some place) is on = slice_get_within (places_of app m) i place is

stored_within : (app : AppParts) (graph : GraphParts) → FitsCode app graph → (m i l : ℕ) → StoresAt app m i l → m < length app.methods
stored_within app graph fits m i l s =
    let lt = store_within app m i l s in
    let rows = fits.rows m in
    let low = row_in graph m i (omega arith) in
    omega (arith, low, fits.methods)

pub own_whole : (app : AppParts) (m bound mask : ℕ) → code_len app m ≤ bound → AreOwn app m bound mask → (l : ℕ) → l < 64 → (bit_at mask l ≡ 1) ↔ Stores app m l
own_whole app m bound mask le own l within = (
  λ e. (let s : StoresBelow app m bound l = (own l within).0 e in (s.0, s.2)),
  λ s. (own l within).1 (s.0, (let lt = store_within app m s.0 l s.1 in omega arith), s.1),
)

-- ---- the stores of all methods
pub stores_none : (app : AppParts) (words : List ℕ) → AreStores app 0 words words
stores_none app words = record { own = λ m l lt. absurd (omega (arith, lt)); others = λ m le. refl; len = refl }

pub stores_more : (app : AppParts) (m mask : ℕ) (a b : List ℕ) → m < length b → ((l : ℕ) → l < 64 → (bit_at mask l ≡ 1) ↔ Stores app m l) → AreStores app m a b → AreStores app (m + 1) a (set b m mask)
stores_more app m mask a b low this before = record {
  own = λ n l lt within. ⊎_elim
      (λ is. subst (λ (k : ℕ). Has (set b m mask) k l ↔ Stores app k l) (sym is) (subst (λ (w : ℕ). (bit_at w l ≡ 1) ↔ Stores app m l) (sym (get_or-set_same b m mask 0 low)) (this l within)))
      (λ ne. subst (λ (w : ℕ). (bit_at w l ≡ 1) ↔ Stores app n l) (sym (get_or-set_other b m n mask 0 ne)) (before.own n l (omega (arith, lt, ne)) within))
      (cases_eq n m);
  others = λ n le. get_or-set_other b m n mask 0 (λ is. omega (arith, le, is)) ∙ before.others n (omega (arith, le));
  len = length-set b m mask ∙ before.len;
}

-- ---- the stores of the reach
-- own stores gathered are the stores of the reach
pub assigned_of : (app : AppParts) (graph : GraphParts) → FitsCode app graph → (own masks : List ℕ) → AreStores app (length app.methods) (replicate (length app.methods) 0) own → AreGathered app graph own masks
    → AreAssigned app graph masks
assigned_of app graph fits own masks stores gathered = record { exact = λ m l lt within. (to m l lt within, back m l lt within); len = gathered.len }
  where
    low : (n l : ℕ) → Has own n l → n < length app.methods
    low n l h = ⊎_elim (λ lt. lt) (λ le. absurd (zero_bit (length app.methods) n l (subst (λ (w : ℕ). bit_at w l ≡ 1) (stores.others n le) h))) (cases_lt n (length app.methods))

    to : (m l : ℕ) → m < length app.methods → l < 64 → Has masks m l → Assigns app graph m l
    to m l lt within h =
        let there = (gathered.exact m l lt within).0 h in
        let stored = (stores.own there.0 l (low there.0 l there.2) within).0 there.2 in
        record { by = there.0; reached = there.1; index = stored.0; stores = stored.1 }

    back : (m l : ℕ) → m < length app.methods → l < 64 → Assigns app graph m l → Has masks m l
    back m l lt within a = (gathered.exact m l lt within).1 (a.by, a.reached, (stores.own a.by l (stored_within app graph fits a.by a.index l a.stores) within).1 (a.index, a.stores))
