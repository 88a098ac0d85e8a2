-- Words spread to callers join those of the reach.
use Rattle.std.proofs.Common.{◌≡◌, ℕ, ◌+◌, ◌-◌, ◌≤◌, ◌<◌, ◌++◌, ◌∷◌, [], List, length, take, replicate, refl, sym, ap, ◌∙◌, subst, ⊎_elim, arith, Contains, Some, slice_get, get_or, length-append, length-take-le}
use Rattle.std.specs.Int.{bit_at}
use Rattle.std.proofs.lemmas.Bool.{cases_lt}
use Rattle.std.proofs.lemmas.List.{get_or_append_left, get_or-append_right, get_or-replicate, get_or-take, get_or_past, length-replicate}
use Rattle.std.proofs.lemmas.Nat.Bits.{bit_at-zero}
use Rattle.ns_base.specs.declared.rows.MethodNo.{MethodNo}
use Rattle.app_model.specs.CallGraph.{FitsCode, GraphParts, callees_at, callees_of}
use Rattle.app_model.specs.Parts.{AppParts}
use Rattle.app_model.specs.Reach.{IsReached, given, called}
use Rattle.call_reach.specs.declared.links.Link.{Link}
use Rattle.call_reach.specs.declared.net.Way.TheVariants.{ToCallers}
use Rattle.call_reach.specs.Net.{AreLinks, Haves, Uses, link_by}
use Rattle.call_reach.specs.Spread.{Has, IsSpread, Spreads, begins, goes_on}
use Rattle.call_reach.specs.Starts.{AreGathered}
use Rattle.call_reach.proofs.Adding.{callee_within, user_within}
use Rattle.call_reach.proofs.Reached.{callee_by_set, set_by_callee}

-- ---- the reach of a caller has that of its callees
from_caller : (graph : GraphParts) (m i : ℕ) (n : MethodNo) (by : ℕ) → Contains (callees_at graph m i) n → IsReached graph (n ∷ []) by → IsReached graph (record { 0 = m } ∷ []) by
from_caller graph m i n by among (given k one) =
    let is : n ≡ k = let at : one.0 ≡ 0 = omega (arith, one.1) in sym (ap (λ (j : ℕ). get_or (n ∷ []) j k) at) ∙ one.2 in
    subst (λ (k : MethodNo). IsReached graph (record { 0 = m } ∷ []) k.0) is (called i n (given (record { 0 = m }) (0, omega arith, refl)) among)
from_caller graph m i n by among (called {m = caller} j k reached there) = called j k (from_caller graph m i n caller among reached) there

module _ (app : AppParts) (graph : GraphParts) (fits : FitsCode app graph) (links : List Link) (are : AreLinks graph ToCallers (length app.methods) links) (start : List ℕ) (bit : ℕ)
    (none : (m : ℕ) → length app.methods ≤ m → Has start m bit → ⊥) where
  abbrev methods : ℕ
  methods = length app.methods

  abbrev begun : ℕ → Type 0
  begun x = Has start x bit

  abbrev Held : MethodNo → Type 0
  Held n = (by : ℕ) × IsReached graph (n ∷ []) by × Has start by bit

  -- the reach of a method has the bit, or that of a method that a set has
  abbrev Told : ℕ → Type 0
  Told x = (x < methods → Held (record { 0 = x })) × ((s : ℕ) → x ≡ methods + s → (k : ℕ) × (n : MethodNo) × (slice_get (callees_of graph s) k ≡ Some n) × Held n)

  step_use : (link : Link) → Uses graph ToCallers methods link → Told link.from → Told link.to
  step_use link (m, (i, (s, is, e))) at =
      let before : Told (methods + s) = rw e at at in
      let has = before.1 s refl in
      let held : Held (record { 0 = m }) = (has.3.0, from_caller graph m i has.1 has.3.0 (callee_by_set graph m i s has.0 has.1 is has.2) has.3.1, has.3.2) in
      rw e ((λ lt. held), λ t same. absurd (let lt = user_within app graph fits m i s is in omega arith))

  step_has : (link : Link) → Haves graph ToCallers methods link → Told link.from → Told link.to
  step_has link (s, (k, (n, is, e))) at =
      let before : Told n.0 = rw e at at in
      let held : Held n = before.0 (callee_within app graph fits s k n is) in
      rw e ((λ lt. absurd (omega arith)), λ t same. (k, n, (let one : s ≡ t = omega arith in subst (λ (u : ℕ). slice_get (callees_of graph u) k ≡ Some n) one is), held))

  sound : (x : ℕ) → Spreads links begun x → Told x
  sound x (begins h) = (
    λ lt. (x, given (record { 0 = x }) (0, omega arith, refl), h),
    λ s is. absurd (none x (omega arith) h),
  )
  sound x (goes_on link among rest) = ⊎_elim (λ u. step_use link u (sound link.from rest)) (λ has. step_has link has (sound link.from rest)) (are.only link among)

  complete : (m y : ℕ) → IsReached graph (record { 0 = m } ∷ []) y → Spreads links begun y → Spreads links begun m
  complete m y (given k one) s =
      let is : record { 0 = m } ≡ k = let at : one.0 ≡ 0 = omega (arith, one.1) in sym (ap (λ (j : ℕ). get_or (record { 0 = m } ∷ []) j k) at) ∙ one.2 in
      subst (Spreads links begun) (sym (ap (λ (n : MethodNo). n.0) is)) s
  complete m y (called {m = caller} i n reached among) s =
      let by = set_by_callee graph caller i n among in
      let has : Link = link_by ToCallers (methods + by.0) n.0 in
      let using_link : Link = link_by ToCallers caller (methods + by.0) in
      complete m caller reached (goes_on using_link (are.uses using_link (caller, (i, (by.0, by.2, refl)))) (goes_on has (are.has has (by.0, (by.1, (n, by.3, refl)))) s))

-- words that zeros follow
padded : (own : List ℕ) (k x : ℕ) → get_or (own ++ replicate k 0) x 0 ≡ get_or own x 0
padded own k x = ⊎_elim (λ lt. get_or_append_left own (replicate k 0) 0 x lt) past (cases_lt x (length own))
  where
    past : length own ≤ x → get_or (own ++ replicate k 0) x 0 ≡ get_or own x 0
    past le = ⊎_elim
        (λ lt. get_or-append_right own (replicate k 0) (length own) x 0 refl le ∙ get_or-replicate k (x - length own) 0 0 (omega (arith, lt, le)) ∙ sym (get_or_past own x 0 le))
        (λ out. get_or_past (own ++ replicate k 0) x 0 (let n = length-append own (replicate k 0) in let z = length-replicate {A = ℕ} k 0 in omega (arith, out, n, z)) ∙ sym (get_or_past own x 0 le))
        (cases_lt x (length own + k))

pub gathered_end : (app : AppParts) (graph : GraphParts) → FitsCode app graph → (links : List Link) → AreLinks graph ToCallers (length app.methods) links → (own start words masks : List ℕ) (k : ℕ)
    → length own ≡ length app.methods → start ≡ own ++ replicate k 0 → IsSpread links start words → masks ≡ take (length app.methods) words → AreGathered app graph own masks
gathered_end app graph fits links are own start words masks k fit is spread taken = record { exact = λ m b lt within. (to m b lt, back m b lt); len = ap length taken ∙ length-take-le (length app.methods) words enough }
  where
    enough : length app.methods ≤ length words
    enough = let n = length-append own (replicate k 0) in let s = ap length is in omega (arith, fit, n, s, spread.len)

    same : (x : ℕ) → get_or start x 0 ≡ get_or own x 0
    same x = ap (λ (ws : List ℕ). get_or ws x 0) is ∙ padded own k x

    none : (b m : ℕ) → length app.methods ≤ m → Has start m b → ⊥
    none b m le h = let z = bit_at-zero b in let e : bit_at 0 b ≡ 1 = subst (λ (w : ℕ). bit_at w b ≡ 1) (same m ∙ get_or_past own m 0 (omega (arith, fit, le))) h in omega arith

    mask_at : (m : ℕ) → m < length app.methods → get_or masks m 0 ≡ get_or words m 0
    mask_at m lt = ap (λ (ws : List ℕ). get_or ws m 0) taken ∙ get_or-take (length app.methods) words m 0 lt

    to : (m b : ℕ) → m < length app.methods → Has masks m b → (n : ℕ) × IsReached graph (record { 0 = m } ∷ []) n × Has own n b
    to m b lt h =
        let bit : Has words m b = subst (λ (w : ℕ). bit_at w b ≡ 1) (mask_at m lt) h in
        let held = (sound app graph fits links are start b (none b) m ((spread.exact m b).0 bit)).0 lt in
        (held.0, held.1, subst (λ (w : ℕ). bit_at w b ≡ 1) (same held.0) held.2)

    back : (m b : ℕ) → m < length app.methods → ((n : ℕ) × IsReached graph (record { 0 = m } ∷ []) n × Has own n b) → Has masks m b
    back m b lt there =
        let begun : Spreads links (λ (x : ℕ). Has start x b) there.0 = begins (subst (λ (w : ℕ). bit_at w b ≡ 1) (sym (same there.0)) there.2) in
        subst (λ (w : ℕ). bit_at w b ≡ 1) (sym (mask_at m lt)) ((spread.exact m b).1 (complete app graph fits links are start b (none b) m there.0 there.1 begun))
