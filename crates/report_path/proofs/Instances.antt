-- The tests of one step, and the instances of the rules that lead on from it.
use Rattle.std.proofs.Common.{◌≡◌, ℕ, Bool, true, false, List, [], ◌∷◌, Option, Some, None, refl, sym, ap, ◌∙◌, subst, ⊎_elim, inl, inr}
use Rattle.std.specs.Prelude.{◌↔◌, ◌≢◌, Contains, IsTrue, slice_get, option_map}
use Rattle.std.proofs.lemmas.Bool.{cases_Bool}
use Rattle.ns_base.specs.declared.rows.MethodNo.{MethodNo}
use Rattle.app_model.specs.Facts.{Fact, At, Ret, Exc}
use Rattle.app_model.specs.Subject.{callees_at}
use Rattle.flow_model.specs.Places.{inside_place}
use Rattle.flow_model.specs.Places as named
use Rattle.flow_model.specs.Rules.{Inside, I1, I1_return, I2, I3, I3_leaves, C1, C2, C3, C3_leaves}
use Rattle.flow_model.specs.Subject.{is_open, own_operation}
use Rattle.report_path.specs.declared.goal.Goal.{Goal}
use Rattle.report_path.specs.declared.goal.Goal.TheVariants.{Before, Returned, Thrown}
use Rattle.report_path.specs.declared.report.BodyPath.{BodyPath}
use Rattle.report_path.specs.declared.report.End.{End}
use Rattle.report_path.specs.Lookups.{Has}
use Rattle.report_path.specs.Paths.{Follows, cited_in, end_fact, end_of}
use Rattle.report_path.specs.Tests.{Spot, ByCall, ByItself, ComesFrom, end_at, fact_at, masks_of}
use Rattle.report_path.proofs.Tests.{has_none, has_test}

-- ---- what a fact tells of the goal
record IsAt (goal : Goal) (s : ℕ) (to : Goal) (t : ℕ) : Type 0 where
  goal_is : to ≡ goal
  status_is : t ≡ s

before_at : (goal : Goal) (n f j t m e s : ℕ) → At n f j t ≡ fact_at goal m e s → IsAt goal s (Before j) t
before_at (Before i) n f j t m e s is = record { goal_is = cc; status_is = cc }
before_at Returned n f j t m e s is = absurd (cc)
before_at Thrown n f j t m e s is = absurd (cc)

returned_at : (goal : Goal) (n f t m e s : ℕ) → Ret n f t ≡ fact_at goal m e s → IsAt goal s Returned t
returned_at (Before i) n f t m e s is = absurd (cc)
returned_at Returned n f t m e s is = record { goal_is = refl; status_is = cc }
returned_at Thrown n f t m e s is = absurd (cc)

thrown_at : (goal : Goal) (n f t m e s : ℕ) → Exc n f t ≡ fact_at goal m e s → IsAt goal s Thrown t
thrown_at (Before i) n f t m e s is = absurd (cc)
thrown_at Returned n f t m e s is = absurd (cc)
thrown_at Thrown n f t m e s is = record { goal_is = refl; status_is = cc }

-- ---- what an end tells of its body
pub record IsOf (thrown : Bool) (m e s : ℕ) (is : Bool) (n r t : ℕ) : Type 0 where
  pub thrown_is : thrown ≡ is
  pub method : n ≡ m
  pub entry : r ≡ e
  pub exit : t ≡ s

pub returned_by : (thrown : Bool) (m e s n r t : ℕ) → Ret n r t ≡ end_fact thrown m e s → IsOf thrown m e s false n r t
returned_by true m e s n r t is = absurd (cc)
returned_by false m e s n r t is = record { thrown_is = refl; method = cc; entry = cc; exit = cc }

thrown_by : (thrown : Bool) (m e s n r t : ℕ) → Exc n r t ≡ end_fact thrown m e s → IsOf thrown m e s true n r t
thrown_by true m e s n r t is = record { thrown_is = refl; method = cc; entry = cc; exit = cc }
thrown_by false m e s n r t is = absurd (cc)

module _ (t : Spot) (e : ℕ) (goal : Goal) (s : ℕ) where
  abbrev Here : Fact
  Here = At t.method e t.index t.status

  abbrev There : Fact
  There = fact_at goal t.method e s

  abbrev name_of : {needs : List Fact} {f : Fact} → Inside t.subject t.lock (masks_of t) needs f → named.Rule
  name_of r = (inside_place t.subject t.lock (masks_of t) r).rule

  itself : {needs : List Fact} {f : Fact} (r : Inside t.subject t.lock (masks_of t) needs f) → name_of r ≢ named.C1 → needs ≡ Here ∷ [] → f ≡ There → ByItself t goal s
  itself (I1 {m = m} {e = d} {i = i} {s = q} {j = j} {t = u} k own there mask) stays is to =
      let z = before_at goal m d j u t.method e s to in
      let method : m ≡ t.method = cc in
      let index : i ≡ t.index = cc in
      let status : q ≡ t.status = cc in
      subst (λ g. ByItself t g s) z.goal_is (inl (k, (rw (method, index) at there, rw (method, index, status, z.status_is) at mask)))
  itself (I2 {m = m} {e = d} {i = i} {s = q} {j = j} {t = u} k own there mask) stays is to =
      let z = before_at goal m d j u t.method e s to in
      let method : m ≡ t.method = cc in
      let index : i ≡ t.index = cc in
      let status : q ≡ t.status = cc in
      subst (λ g. ByItself t g s) z.goal_is (inl (k, (rw (method, index) at there, rw (method, index, status, z.status_is) at mask)))
  itself (I1_return {m = m} {e = d} {i = i} {s = q} returns) stays is to =
      let z = returned_at goal m d q t.method e s to in
      let method : m ≡ t.method = cc in
      let index : i ≡ t.index = cc in
      let status : q ≡ t.status = cc in
      subst (λ g. ByItself t g s) z.goal_is (inl (rw (method, index) at returns, sym status ∙ z.status_is))
  itself (I3 {m = m} {e = d} {i = i} {s = q} {h = h} {t = u} k there mask) stays is to =
      let z = before_at goal m d h u t.method e s to in
      let method : m ≡ t.method = cc in
      let index : i ≡ t.index = cc in
      let status : q ≡ t.status = cc in
      subst (λ g. ByItself t g s) z.goal_is (inr (rw (method, index, status, z.status_is) at mask, (k, rw (method, index) at there)))
  itself (I3_leaves {m = m} {e = d} {i = i} {s = q} {t = u} leaves mask) stays is to =
      let z = thrown_at goal m d u t.method e s to in
      let method : m ≡ t.method = cc in
      let index : i ≡ t.index = cc in
      let status : q ≡ t.status = cc in
      subst (λ g. ByItself t g s) z.goal_is (inr (rw (method, index, status, z.status_is) at mask, rw (method, index) at leaves))
  itself (C1 n callee opened) stays is to = absurd (stays refl)
  itself (C2 n callee opened there) stays is to = absurd (cc)
  itself (C3 n k callee opened there) stays is to = absurd (cc)
  itself (C3_leaves n callee opened leaves) stays is to = absurd (cc)

  -- a call by the end of its callee
  module _ (b : End) where
    by_call : {needs : List Fact} {f : Fact} (r : Inside t.subject t.lock (masks_of t) needs f) → needs ≡ Here ∷ end_at b ∷ [] → f ≡ There → ByCall t b goal s
    by_call (I1 k own there mask) is to = absurd (cc)
    by_call (I1_return returns) is to = absurd (cc)
    by_call (I2 k own there mask) is to = absurd (cc)
    by_call (I3 k there mask) is to = absurd (cc)
    by_call (I3_leaves leaves mask) is to = absurd (cc)
    by_call (C1 n callee opened) is to = absurd (cc)
    by_call (C2 {m = m} {e = d} {i = i} {s = q} {t = u} {j = j} n callee opened there) is to =
        let z = before_at goal m d j u t.method e s to in
        let method : m ≡ t.method = cc in
        let index : i ≡ t.index = cc in
        let status : q ≡ t.status = cc in
        let end : Ret n.0 q u ≡ end_at b = cc in
        let o = returned_by b.thrown b.method b.entry b.exit n.0 q u end in
        let no : n ≡ record { 0 = b.method } = ap (λ (k : ℕ). record { 0 = k }) o.method in
        record {
          called = (rw (method, index, status) at opened, rw (method, index, no) at callee);
          entry = sym o.entry ∙ status;
          exit = sym o.exit ∙ z.status_is;
          comes = subst (λ g. ComesFrom t b.thrown g) z.goal_is (subst (λ v. ComesFrom t v (Before j)) (sym o.thrown_is) (rw (method, index) at there));
        }
    by_call (C3 {m = m} {e = d} {i = i} {s = q} {t = u} {h = h} n k callee opened there) is to =
        let z = before_at goal m d h u t.method e s to in
        let method : m ≡ t.method = cc in
        let index : i ≡ t.index = cc in
        let status : q ≡ t.status = cc in
        let end : Exc n.0 q u ≡ end_at b = cc in
        let o = thrown_by b.thrown b.method b.entry b.exit n.0 q u end in
        let no : n ≡ record { 0 = b.method } = ap (λ (k : ℕ). record { 0 = k }) o.method in
        record {
          called = (rw (method, index, status) at opened, rw (method, index, no) at callee);
          entry = sym o.entry ∙ status;
          exit = sym o.exit ∙ z.status_is;
          comes = subst (λ g. ComesFrom t b.thrown g) z.goal_is (subst (λ v. ComesFrom t v (Before h)) (sym o.thrown_is) (k, rw (method, index) at there));
        }
    by_call (C3_leaves {m = m} {e = d} {i = i} {s = q} {t = u} n callee opened leaves) is to =
        let z = thrown_at goal m d u t.method e s to in
        let method : m ≡ t.method = cc in
        let index : i ≡ t.index = cc in
        let status : q ≡ t.status = cc in
        let end : Exc n.0 q u ≡ end_at b = cc in
        let o = thrown_by b.thrown b.method b.entry b.exit n.0 q u end in
        let no : n ≡ record { 0 = b.method } = ap (λ (k : ℕ). record { 0 = k }) o.method in
        record {
          called = (rw (method, index, status) at opened, rw (method, index, no) at callee);
          entry = sym o.entry ∙ status;
          exit = sym o.exit ∙ z.status_is;
          comes = subst (λ g. ComesFrom t b.thrown g) z.goal_is (subst (λ v. ComesFrom t v Thrown) (sym o.thrown_is) (rw (method, index) at leaves));
        }

-- ---- and back
module _ (t : Spot) (e : ℕ) (s : ℕ) where
  follows : (goal : Goal) → ByItself t goal s → Follows t.subject t.lock (At t.method e t.index t.status ∷ []) (fact_at goal t.method e s)
  follows (Before j) (inl z) = ⊎_elim
      (λ own. record { rule = I2 z.0 own z.1.0 z.1.1; stays = λ is. (cc) })
      (λ own. record { rule = I1 z.0 own z.1.0 z.1.1; stays = λ is. (cc) })
      (cases_Bool (own_operation t.subject t.lock t.method t.index))
  follows Returned (inl z) = record { rule = rw (← z.1) (I1_return z.0); stays = λ is. (cc) }
  follows Thrown (inl z) = absurd z
  follows (Before j) (inr z) = record { rule = I3 z.1.0 z.1.1 z.0; stays = λ is. (cc) }
  follows Returned (inr z) = absurd z.1
  follows Thrown (inr z) = record { rule = I3_leaves z.1 z.0; stays = λ is. (cc) }

  pub itself_test : (goal : Goal) (r : Bool) → (IsTrue r ↔ ByItself t goal s) → IsTrue r ↔ Follows t.subject t.lock (At t.method e t.index t.status ∷ []) (fact_at goal t.method e s)
  itself_test goal r test = (λ on. follows goal (test.0 on), λ f. test.1 (itself t e goal s f.rule f.stays refl refl))

  pub test_itself : (goal : Goal) (before : List BodyPath) (cites : Option ℕ) (r : Bool) → cites ≡ None → (IsTrue r ↔ ByItself t goal s)
      → IsTrue r ↔ Has (cited_in before cites) (λ ends. Follows t.subject t.lock (At t.method e t.index t.status ∷ ends) (fact_at goal t.method e s))
  test_itself goal before cites r none test = has_test r (cited_in before cites) [] (sym (ap (cited_in before) none)) (itself_test goal r test)

  by_end : (goal : Goal) (thrown : Bool) (n : MethodNo) → is_open t.subject t.lock t.method t.index t.status ≡ true → Contains (callees_at t.subject t.method t.index) n → ComesFrom t thrown goal
      → Follows t.subject t.lock (At t.method e t.index t.status ∷ end_fact thrown n.0 t.status s ∷ []) (fact_at goal t.method e s)
  by_end (Before j) false n opened callee comes = record { rule = C2 n callee opened comes; stays = λ is. (cc) }
  by_end Returned false n opened callee comes = absurd comes
  by_end Thrown false n opened callee comes = absurd comes
  by_end (Before j) true n opened callee comes = record { rule = C3 n comes.0 callee opened comes.1; stays = λ is. (cc) }
  by_end Returned true n opened callee comes = absurd comes
  by_end Thrown true n opened callee comes = record { rule = C3_leaves n callee opened comes; stays = λ is. (cc) }

  by_body : (goal : Goal) (b : End) → ByCall t b goal s → Follows t.subject t.lock (At t.method e t.index t.status ∷ end_at b ∷ []) (fact_at goal t.method e s)
  by_body goal b c =
      let f = by_end goal b.thrown (record { 0 = b.method }) c.called.0 c.called.1 c.comes in
      let same : end_fact b.thrown b.method t.status s ≡ end_at b = ap (λ (r : ℕ). end_fact b.thrown b.method r s) (sym c.entry) ∙ ap (λ (r : ℕ). end_fact b.thrown b.method b.entry r) (sym c.exit) in
      subst (λ (end : Fact). Follows t.subject t.lock (At t.method e t.index t.status ∷ end ∷ []) (fact_at goal t.method e s)) same f

  pub call_test : (goal : Goal) (b : End) (r : Bool) → (IsTrue r ↔ ByCall t b goal s) → IsTrue r ↔ Follows t.subject t.lock (At t.method e t.index t.status ∷ end_at b ∷ []) (fact_at goal t.method e s)
  call_test goal b r test = (λ on. by_body goal b (test.0 on), λ f. test.1 (by_call t e goal s b f.rule refl refl))

  pub test_call : (goal : Goal) (before : List BodyPath) (cites : Option ℕ) (j : ℕ) (b : BodyPath) (end : End) (r : Bool) → cites ≡ Some j → Some b ≡ slice_get before j → end_at end ≡ end_of b → (IsTrue r ↔ ByCall t end goal s)
      → IsTrue r ↔ Has (cited_in before cites) (λ ends. Follows t.subject t.lock (At t.method e t.index t.status ∷ ends) (fact_at goal t.method e s))
  test_call goal before cites j b end r some there is test =
      let ends : cited_in before cites ≡ Some (end_of b ∷ []) = ap (cited_in before) some ∙ ap (option_map (λ (x : BodyPath). end_of x ∷ [])) (sym there) in
      has_test r (cited_in before cites) (end_at end ∷ []) (ap (λ f. Some (f ∷ [])) is ∙ sym ends) (call_test goal end r test)

pub test_uncited : (before : List BodyPath) (cites : Option ℕ) (j : ℕ) {P : List Fact → Type 0} → cites ≡ Some j → None ≡ slice_get before j → IsTrue false ↔ Has (cited_in before cites) P
test_uncited before cites j some none =
    has_none (cited_in before cites) (sym (ap (cited_in before) some ∙ ap (option_map (λ (x : BodyPath). end_of x ∷ [])) (sym none)))
