-- The first bit spread to callees is reach.
use Rattle.std.proofs.Common.{◌≡◌, ℕ, Result, Ok, Err, IfOk, ◌+◌, ◌≤◌, ◌<◌, ◌++◌, ◌∷◌, [], List, length, Bool, true, false, map, take, set, replicate, refl, sym, ap, ap₂, length-set, take_all, length-take-le, ◌∙◌, subst, inl, inr, ⊎_elim, arith, eq-eqb, eqb-true, Contains, Option, Some, None, slice_get, get_or}
use Rattle.std.specs.List.{All}
use Rattle.std.specs.Int.{bit_at}
use Rattle.std.proofs.lemmas.Bool.{cases_eq, cases_lt}
use Rattle.std.proofs.lemmas.List.{get_or-map, get_or-replicate, get_or-set_other, get_or-set_same, get_or-take, get_or_past, length-map, length-replicate, map_more, take_more}
use Rattle.std.proofs.lemmas.List.Elements.{All-contains, Contains-append_left, Contains-push, Contains-push_cases}
use Rattle.std.proofs.lemmas.Nat.Bits.{bit_at-zero}
use Rattle.std.proofs.lemmas.Option.{slice_get_within, get_or_from_slice_get, slice_get-get_or}
use Rattle.ns_base.specs.declared.rows.MethodNo.{MethodNo}
use Rattle.app_model.specs.CallGraph.{FitsCode, GraphParts, callees_at, callees_of, set_of, targets_at, use_at}
use Rattle.app_model.specs.Parts.{AppParts}
use Rattle.app_model.specs.Reach.{IsReached, given, called}
use Rattle.call_reach.specs.declared.links.Link.{Link}
use Rattle.call_reach.specs.declared.net.Way.TheVariants.{ToCallees}
use Rattle.call_reach.specs.Net.{AreLinks, Haves, Uses, link_by}
use Rattle.call_reach.specs.Spread.{Has, IsSpread, Spreads, begins, goes_on}
use Rattle.call_reach.specs.Starts.{AreGiven, AreReached, IsGiven, has_first_bit}
use Rattle.call_reach.proofs.Adding.{callee_within, user_within}
use Rattle.call_reach.proofs.Turns.{spread_on}

-- ---- the callees of an instruction are those of the set that it uses
pub callee_by_set : (graph : GraphParts) (m i s k : ℕ) (n : MethodNo) → use_at graph m i ≡ Some (Some s) → slice_get (callees_of graph s) k ≡ Some n → Contains (callees_at graph m i) n
unfolding targets_at
callee_by_set graph m i s k n is at =
    subst (λ (found : Option (Option ℕ)). Contains (set_of graph found).callees n) (sym is) (k, slice_get_within (callees_of graph s) k n at, get_or_from_slice_get (callees_of graph s) k n n at)

pub set_by_callee : (graph : GraphParts) (m i : ℕ) (n : MethodNo) → Contains (callees_at graph m i) n → (s : ℕ) × (k : ℕ) × (use_at graph m i ≡ Some (Some s)) × (slice_get (callees_of graph s) k ≡ Some n)
unfolding targets_at
set_by_callee graph m i n among = go (use_at graph m i) refl among
  where
    go : (found : Option (Option ℕ)) → use_at graph m i ≡ found → Contains (set_of graph found).callees n → (s : ℕ) × (k : ℕ) × (use_at graph m i ≡ Some (Some s)) × (slice_get (callees_of graph s) k ≡ Some n)
    go None is off = absurd (omega (arith, off.1))
    go (Some None) is off = absurd (omega (arith, off.1))
    go (Some (Some s)) is on = (s, on.0, is, slice_get-get_or (callees_of graph s) on.0 n on.1 ∙ ap Some on.2)

module _ (app : AppParts) (graph : GraphParts) (fits : FitsCode app graph) (from : List MethodNo) (inside : All (λ (m : MethodNo). m.0 < length app.methods) from) (links : List Link)
    (are : AreLinks graph ToCallees (length app.methods) links) where
  abbrev methods : ℕ
  methods = length app.methods

  -- a method is reached, and a set is used by one that is
  abbrev Told : ℕ → Type 0
  Told x = (x < methods → IsReached graph from x) × ((s : ℕ) → x ≡ methods + s → (m : ℕ) × (i : ℕ) × IsReached graph from m × (use_at graph m i ≡ Some (Some s)))

  told_method : (x : ℕ) → x < methods → IsReached graph from x → Told x
  told_method x lt reached = (λ _. reached, λ s e. absurd (omega arith))

  step_use : (link : Link) → Uses graph ToCallees methods link → Told link.from → Told link.to
  step_use link (m, (i, (s, is, e))) at =
      let before : Told m = rw e at at in
      let reached = before.0 (user_within app graph fits m i s is) in
      rw e ((λ lt. absurd (omega arith)), λ t same. (m, i, reached, let one : s ≡ t = omega arith in subst (λ (n : ℕ). use_at graph m i ≡ Some (Some n)) one is))

  step_has : (link : Link) → Haves graph ToCallees methods link → Told link.from → Told link.to
  step_has link (s, (k, (n, is, e))) at =
      let before : Told (methods + s) = rw e at at in
      let user = before.1 s refl in
      rw e (told_method n.0 (callee_within app graph fits s k n is) (called user.1 n user.2 (callee_by_set graph user.0 user.1 s k n user.3 is)))

  sound : (x : ℕ) → Spreads links (IsGiven from) x → Told x
  sound x (begins (n, among, is)) =
      let lt : n.0 < methods = All-contains (λ (m : MethodNo). m.0 < methods) from n inside among in
      subst Told is (told_method n.0 lt (given n among))
  sound x (goes_on link among rest) = ⊎_elim (λ u. step_use link u (sound link.from rest)) (λ has. step_has link has (sound link.from rest)) (are.only link among)

  complete : (x : ℕ) → IsReached graph from x → Spreads links (IsGiven from) x
  complete x (given n among) = begins (n, among, refl)
  complete x (called {m = m} i n reached among) =
      let by = set_by_callee graph m i n among in
      let using_link : Link = link_by ToCallees m (methods + by.0) in
      let has : Link = link_by ToCallees (methods + by.0) n.0 in
      goes_on has (are.has has (by.0, (by.1, (n, by.3, refl)))) (goes_on using_link (are.uses using_link (m, (i, (by.0, by.2, refl)))) (complete m reached))

-- ---- what it begins with, and the marks
pub zero_bit : (n m bit : ℕ) → Has (replicate n 0) m bit → ⊥
zero_bit n m bit h = ⊎_elim
    (λ lt. (let z = bit_at-zero bit in let e : bit_at 0 bit ≡ 1 = subst (λ (w : ℕ). bit_at w bit ≡ 1) (get_or-replicate n m 0 0 lt) h in omega arith))
    (λ past. (let z = bit_at-zero bit in let e : bit_at 0 bit ≡ 1 = subst (λ (w : ℕ). bit_at w bit ≡ 1) (get_or_past (replicate n 0) m 0 (omega (arith, past, length-replicate {A = ℕ} n 0))) h in omega arith))
    (cases_lt m n)

pub given_none : (from : List MethodNo) (words : List ℕ) → AreGiven (take 0 from) words words
given_none from words = record { given = λ m g. absurd (omega (arith, g.1.1)); only = λ m h. inl h; len = refl }

pub given_more : (from : List MethodNo) (i : ℕ) (one : MethodNo) (a b : List ℕ) → ((d : MethodNo) → one ≡ get_or from i d) → i < length from → one.0 < length b → AreGiven (take i from) a b → AreGiven (take (i + 1) from) a (set b one.0 1)
given_more from i one a b read within low g = subst (λ (xs : List MethodNo). AreGiven xs a (set b one.0 1)) (sym (take_more from i one within ∙ ap (λ (x : MethodNo). take i from ++ x ∷ []) (sym (read one)))) (record {
  given = λ m h. ⊎_elim (λ old. keep m (g.given m (h.0, old, h.2))) (λ new. here m (ap (λ (x : MethodNo). x.0) new ∙ h.2)) (Contains-push_cases (take i from) one h.0 h.1);
  only = λ m h. ⊎_elim
      (λ is. inr (one, Contains-push (take i from) one, sym is))
      (λ ne. ⊎_elim (λ old. inl old) (λ (t : IsGiven (take i from) m). inr (t.0, Contains-append_left (take i from) (one ∷ []) t.0 t.1, t.2)) (g.only m (subst (λ (w : ℕ). bit_at w 0 ≡ 1) (get_or-set_other b one.0 m 1 0 ne) h)))
      (cases_eq m one.0);
  len = length-set b one.0 1 ∙ g.len;
})
  where
    here : (m : ℕ) → one.0 ≡ m → Has (set b one.0 1) m 0
    here m is = subst (λ (k : ℕ). Has (set b one.0 1) k 0) is (subst (λ (w : ℕ). bit_at w 0 ≡ 1) (sym (get_or-set_same b one.0 1 0 low)) refl)

    keep : (m : ℕ) → Has b m 0 → Has (set b one.0 1) m 0
    keep m h = ⊎_elim (λ is. here m (sym is)) (λ ne. subst (λ (w : ℕ). bit_at w 0 ≡ 1) (sym (get_or-set_other b one.0 m 1 0 ne)) h) (cases_eq m one.0)

pub given_whole : (from : List MethodNo) (i : ℕ) (a b : List ℕ) → length from ≤ i → AreGiven (take i from) a b → AreGiven from a b
given_whole from i a b le g = subst (λ (xs : List MethodNo). AreGiven xs a b) (take_all i from le) g

pub marks_more : (words : List ℕ) (i : ℕ) (marks : List Bool) (mark : Bool) → i < length words → marks ≡ map has_first_bit (take i words) → mark ≡ has_first_bit (get_or words i 0) → marks ++ mark ∷ [] ≡ map has_first_bit (take (i + 1) words)
marks_more words i marks mark within before is = ap₂ (λ (xs : List Bool) (x : Bool). xs ++ x ∷ []) before is ∙ sym (map_more has_first_bit words i 0 within)

module _ (app : AppParts) (graph : GraphParts) (fits : FitsCode app graph) (from : List MethodNo) (inside : All (λ (m : MethodNo). m.0 < length app.methods) from) (links : List Link)
    (are : AreLinks graph ToCallees (length app.methods) links) where
  pub reached_end : (nodes : ℕ) (start words : List ℕ) (marks : List Bool) → length app.methods ≤ nodes → AreGiven from (replicate nodes 0) start → IsSpread links start words
      → marks ≡ map has_first_bit (take (length app.methods) words) → AreReached app graph from marks
  reached_end nodes start words marks room given_start spread is = record { exact = λ m lt. (to m lt, back m lt); len = len }
    where
      enough : length app.methods ≤ length words
      enough = omega (arith, room, spread.len, given_start.len, length-replicate {A = ℕ} nodes 0)

      short : length (take (length app.methods) words) ≡ length app.methods
      short = length-take-le (length app.methods) words enough

      len : length marks ≡ length app.methods
      len = ap length is ∙ length-map (take (length app.methods) words) has_first_bit ∙ short

      mark_at : (m : ℕ) → m < length app.methods → get_or marks m false ≡ has_first_bit (get_or words m 0)
      mark_at m lt = ap (λ (bs : List Bool). get_or bs m false) is ∙ get_or-map has_first_bit (take (length app.methods) words) m 0 false (omega (arith, lt, short)) ∙ ap has_first_bit (get_or-take (length app.methods) words m 0 lt)

      to : (m : ℕ) → m < length app.methods → get_or marks m false ≡ true → IsReached graph from m
      to m lt e =
          let bit : Has words m 0 = eqb-true (bit_at (get_or words m 0) 0) 1 (sym (mark_at m lt) ∙ e) in
          let begun : (n : ℕ) → Has start n 0 → Spreads links (IsGiven from) n = λ n h. ⊎_elim (λ old. absurd (zero_bit nodes n 0 old)) (λ g. begins g) (given_start.only n h) in
          (sound app graph fits from inside links are m (spread_on links (λ (n : ℕ). Has start n 0) (IsGiven from) begun m ((spread.exact m 0).0 bit))).0 lt

      back : (m : ℕ) → m < length app.methods → IsReached graph from m → get_or marks m false ≡ true
      back m lt reached =
          let begun : (n : ℕ) → IsGiven from n → Spreads links (λ (k : ℕ). Has start k 0) n = λ n g. begins (given_start.given n g) in
          let bit : Has words m 0 = (spread.exact m 0).1 (spread_on links (IsGiven from) (λ (n : ℕ). Has start n 0) begun m (complete app graph fits from inside links are m reached)) in
          mark_at m lt ∙ eq-eqb (bit_at (get_or words m 0) 0) 1 bit

pub ok_then : {T E : Type 0} (P Q : T → Type 0) (result : Result T E) → ((value : T) → P value → Q value) → IfOk result P → IfOk result Q
ok_then P Q (Ok value) why known = why value known
ok_then P Q (Err e) why known = known
