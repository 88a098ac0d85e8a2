-- How the registers of a frame keep their tags.
use Rattle.std.proofs.Common.{Some, Bool, true, false, ◌≡◌, ℕ, pred, ◌+◌, ◌<◌, List, length, map, get_or, set, slice_get, sym, ap, ◌∙◌, ⊎_elim, arith, subst}
use Rattle.std.proofs.lemmas.Bool.{cases_eq}
use Rattle.std.proofs.lemmas.List.{get_or-set_same, get_or-set_other, length-set, get_or-map, length-map}
use Rattle.std.proofs.lemmas.Option.{get_or_from_slice_get, slice_get_within}
use Rattle.app_model.specs.declared.tag.Tag.{Tag}
use Rattle.app_model.specs.declared.tag.Tag.TheVariants as tag
use Rattle.act_model.specs.Changes.{put, tag_in}
use Rattle.run_model.specs.Heaps.{Value, Zero, Heap}
use Rattle.run_model.specs.Relation.{Means, AreTagged}
use Rattle.run_model.specs.Tagged.{IsUnder}
use Rattle.run_model.proofs.Meanings.{under_ok}

module _ (row : List Tag) (values : List Value) (lo hi : ℕ) (h : Heap) (ok : AreTagged row values lo hi h) where
  pub tagged_under : (row' : List Tag) → IsUnder row row' → AreTagged row' values lo hi h
  tagged_under row' u = record {
    count = ok.count ∙ u.same;
    each = λ r lt. let here : r < length row = omega (arith, u.same) in under_ok _ lo hi h (u.each r here) (ok.each r here);
  }

  pub tagged_map : (change : Tag → Tag) (hi' : ℕ) (h' : Heap) → ((t : Tag) (v : Value) → Means t v lo hi h → Means (change t) v lo hi' h') → AreTagged (map change row) values lo hi' h'
  tagged_map change hi' h' kept = record {
    count = ok.count ∙ sym (length-map row change);
    each = λ r lt.
        let here : r < length row = omega (arith, length-map row change) in
        let is : tag_in (map change row) r ≡ change (tag_in row r) = get_or-map change row r tag.Bot tag.Bot here in
        subst (λ (t : Tag). Means t (get_or values r Zero) lo hi' h') (sym is) (kept _ _ (ok.each r here));
  }

  pub tagged_kept : (hi' : ℕ) (h' : Heap) → ((t : Tag) (v : Value) → Means t v lo hi h → Means t v lo hi' h') → AreTagged row values lo hi' h'
  tagged_kept hi' h' kept = record { count = ok.count; each = λ r lt. kept _ _ (ok.each r lt) }

  -- a register that is written; one that is not there stays away
  pub tagged_set : (r : ℕ) (t : Tag) (v : Value) → Means t v lo hi h → AreTagged (set row r t) (set values r v) lo hi h
  tagged_set r t v vok = record {
    count = length-set values r v ∙ ok.count ∙ sym (length-set row r t);
    each = λ k lt.
        let here : k < length row = omega (arith, length-set row r t) in
        ⊎_elim
        (λ eq.
        (let in_row : r < length row = omega (arith, eq) in
        let in_values : r < length values = omega (arith, ok.count) in
        let a : tag_in (set row r t) k ≡ t = ap (tag_in (set row r t)) eq ∙ get_or-set_same row r t tag.Bot in_row in
        let b : get_or (set values r v) k Zero ≡ v = ap (λ i. get_or (set values r v) i Zero) eq ∙ get_or-set_same values r v Zero in_values in
        rw (a, b) vok))
        (λ ne. rw (get_or-set_other row r k t tag.Bot ne, get_or-set_other values r k v Zero ne) (ok.each k here)) (cases_eq k r);
  }

  -- a register whose tag alone changes
  pub tagged_retag : (r : ℕ) (t : Tag) → Means t (get_or values r Zero) lo hi h → AreTagged (set row r t) values lo hi h
  tagged_retag r t vok = record {
    count = ok.count ∙ sym (length-set row r t);
    each = λ k lt.
        let here : k < length row = omega (arith, length-set row r t) in
        ⊎_elim
        (λ eq.
        (let in_row : r < length row = omega (arith, eq) in
        let a : tag_in (set row r t) k ≡ t = ap (tag_in (set row r t)) eq ∙ get_or-set_same row r t tag.Bot in_row in
        let b : get_or values k Zero ≡ get_or values r Zero = ap (λ i. get_or values i Zero) eq in
        rw (a, b) vok))
        (λ ne. rw (get_or-set_other row r k t tag.Bot ne) (ok.each k here)) (cases_eq k r);
  }

  -- a register that is there
  pub tagged_read : (r : ℕ) (v : Value) → slice_get values r ≡ Some v → Means (tag_in row r) v lo hi h
  tagged_read r v is =
      let there : r < length values = slice_get_within values r v is in
      let here : r < length row = omega (arith, ok.count) in
      let value : get_or values r Zero ≡ v = get_or_from_slice_get values r v Zero is in
      subst (λ (w : Value). Means (tag_in row r) w lo hi h) value (ok.each r here)

  -- the result cell
  pub result_there : pred (length values) ≡ pred (length row)
  result_there = ap pred ok.count

-- a register, or it and the next one
pub tagged_put : (row : List Tag) (values : List Value) (lo hi : ℕ) (h : Heap) → AreTagged row values lo hi h → (wide : Bool) (r : ℕ) (t u : Tag) (v w : Value) → Means t v lo hi h → Means u w lo hi h
    → AreTagged (put wide row r t u) (put wide values r v w) lo hi h
tagged_put row values lo hi h ok false r t u v w vok wok = tagged_set row values lo hi h ok r t v vok
tagged_put row values lo hi h ok true r t u v w vok wok = tagged_set (set row r t) (set values r v) lo hi h (tagged_set row values lo hi h ok r t v vok) (r + 1) u w wok
