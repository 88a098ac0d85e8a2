-- Marks, from the last line down, and from the last view down.
use Rattle.std.proofs.Common.{suc, zero, ◌≡◌, ℕ, ◌<◌, ◌≤◌, Bool, true, List, [], ◌∷◌, length, set, Some, refl, ap, ◌∙◌, arith, subst, inl, inr, ⊎_elim, length-set}
use Rattle.std.specs.Prelude.{slice_get, ◌⊎◌}
use Rattle.std.proofs.lemmas.Bool.{cases_eq}
use Rattle.std.proofs.lemmas.Option.{slice_get_within}
use Rattle.report_path.specs.declared.report.ViewStep.{ViewStep}
use Rattle.fact_log.specs.declared.log.Line.{Line}
use Rattle.derivation.specs.Cuts.{AreAllMarked, AreNeeded, AreServed, AreSettled, AreViewsMarked, ByNeeds, IsOneDown, IsOneViewDown, IsServed, Marked, Marks, WhyNeeds, cited_by}
use Rattle.derivation.specs.declared.cutting.Exit.{Exit}
use Rattle.derivation.proofs.Needs.{line_lower, line_there, view_lower}

set_here : (ms : List Bool) (n : ℕ) → n < length ms → slice_get (set ms n true) n ≡ Some true
set_here [] n lt = absurd (omega arith)
set_here (m ∷ ms) zero lt = refl
set_here (m ∷ ms) (suc n) lt = set_here ms n (omega (arith, lt))

set_kept : (ms : List Bool) (n j : ℕ) → Marked ms j → Marked (set ms n true) j
set_kept [] n j e = absurd (cc)
set_kept (m ∷ ms) zero zero e = refl
set_kept (m ∷ ms) zero (suc j) e = e
set_kept (m ∷ ms) (suc n) zero e = e
set_kept (m ∷ ms) (suc n) (suc j) e = set_kept ms n j e

set_only : (ms : List Bool) (n j : ℕ) → Marked (set ms n true) j → Marked ms j ⊎ (j ≡ n)
set_only [] n j e = inl e
set_only (m ∷ ms) zero zero e = inr refl
set_only (m ∷ ms) zero (suc j) e = inl e
set_only (m ∷ ms) (suc n) zero e = inl e
set_only (m ∷ ms) (suc n) (suc j) e = ⊎_elim inl (λ s. inr (ap suc s)) (set_only ms n j e)

pub one_mark : (ms : List Bool) (n : ℕ) → n < length ms → Marks ms (λ j. j ≡ n) (set ms n true)
one_mark ms n lt = record { there = λ j e in_range. rw e (set_here ms n lt); kept = set_kept ms n; only = set_only ms n; len = length-set ms n true }

pub no_mark : (ms : List Bool) (n : ℕ) → length ms ≤ n → Marks ms (λ j. j ≡ n) ms
no_mark ms n past = record { there = λ j e in_range. absurd (omega (arith, e)); kept = λ j m. m; only = λ j m. inl m; len = refl }

pub nothing : (ms : List Bool) → Marks ms (λ j. ⊥) ms
nothing ms = record { there = λ j e in_range. absurd e; kept = λ j m. m; only = λ j m. inl m; len = refl }

pub both : (ms ns os : List Bool) (P Q : ℕ → Type 0) → Marks ms P ns → Marks ns Q os → Marks ms (λ j. P j ⊎ Q j) os
both ms ns os P Q a b = record {
  there = λ j e lt. ⊎_elim (λ p. b.kept j (a.there j p lt)) (λ q. b.there j q (omega (arith, a.len))) e;
  kept = λ j m. b.kept j (a.kept j m);
  only = λ j m. ⊎_elim (λ o. ⊎_elim inl (λ p. inr (inl p)) (a.only j o)) (λ q. inr (inr q)) (b.only j m);
  len = b.len ∙ a.len;
}

module _ (lines : List Line) (k : ℕ) (x : Line) (at : slice_get lines k ≡ Some x) (old : List Bool) where
  pub one_down : (new : List Bool) → Marks old (WhyNeeds x.why) new → IsOneDown lines k old new
  one_down new m = record {
    settled = λ long before t l led j z le e mark n need.
        (let lower : (i : ℕ) → WhyNeeds x.why i → i < k = λ i q. line_lower t l lines k x x.why (led k x at) i q in
        ⊎_elim
        (λ here. (let same : z ≡ x = (let e' = rw here at e in cc) in let q : WhyNeeds x.why n = rw same at need in m.there n q (omega (arith, lower n q, slice_get_within lines k x at, long))))
        (λ other. m.kept n (before t l led j z (omega arith) e (⊎_elim (λ o. o) (λ q. absurd (let lt = lower j q in omega arith)) (m.only j mark)) n need))
        (cases_eq j k));
    kept = m.kept;
    len = m.len;
  }

  pub as_before : (Marked old k → ⊥) → IsOneDown lines k old old
  as_before off = record {
    settled = λ long before t l led j z le e mark n need. ⊎_elim (λ here. absurd (off (rw here at mark))) (λ other. before t l led j z (omega arith) e mark n need) (cases_eq j k);
    kept = λ n m. m;
    len = refl;
  }

pub settled_past : (lines : List Line) (marks : List Bool) (k : ℕ) → length lines ≤ k → AreSettled lines k marks
settled_past lines marks k past t l led j z le e = absurd (let lt = slice_get_within lines j z e in omega arith)

module _ (lines : List Line) (views : List ViewStep) (k : ℕ) (v : ViewStep) (at : slice_get views k ≡ Some v) (seen marks : List Bool) where
  pub one_view_down : (seen' marks' : List Bool) → Marks seen (ByNeeds v.by) seen' → Marks marks (λ n. cited_by v.by ≡ Some n) marks' → IsOneViewDown lines views k seen marks seen' marks'
  one_view_down seen' marks' m q = record {
    served = λ sizes before t l log j z le e mark. ⊎_elim
        (λ here. (let same : v ≡ z = (let e' = rw here at e in cc) in
        subst (λ (z : ViewStep). IsServed z seen' marks') same (record {
          places = λ n need. m.there n need (let low = view_lower t l lines views k v v.by (log.seen k v at) n need in let in_range = slice_get_within views k v at in let size = sizes.of_views in omega arith);
          line = λ n cited. q.there n cited (let low = line_there t l lines views k v v.by (log.seen k v at) n cited in let size = sizes.of_lines in omega arith);
        })))
        (λ other. (let s = before t l log j z (omega arith) e (⊎_elim (λ o. o) (λ need. absurd (let low = view_lower t l lines views k v v.by (log.seen k v at) j need in omega arith)) (m.only j mark)) in
        record { places = λ n need. m.kept n (s.places n need); line = λ n cited. q.kept n (s.line n cited) }))
        (cases_eq j k);
    kept_views = m.kept;
    kept_lines = q.kept;
    len_views = m.len;
    len_lines = q.len;
  }

  pub view_as_before : (Marked seen k → ⊥) → IsOneViewDown lines views k seen marks seen marks
  view_as_before off = record {
    served = λ sizes before t l log j z le e mark. ⊎_elim (λ here. absurd (off (rw here at mark))) (λ other. before t l log j z (omega arith) e mark) (cases_eq j k);
    kept_views = λ n m. m;
    kept_lines = λ n m. m;
    len_views = refl;
    len_lines = refl;
  }

pub served_past : (lines : List Line) (views : List ViewStep) (seen marks : List Bool) (k : ℕ) → length views ≤ k → AreServed lines views k seen marks
served_past lines views seen marks k past t l log j z le e = absurd (let lt = slice_get_within views j z e in omega arith)

-- a view and a line were marked first, then views, then lines
pub all_needed : (lines : List Line) (views : List ViewStep) (exit : Exit) (s0 s1 s2 m0 m1 m2 m3 : List Bool) → length s0 ≡ length views → length m0 ≡ length lines → Marks s0 (λ n. n ≡ exit.view) s1 → Marks m0 (λ n. exit.end ≡ Some n) m1
    → AreViewsMarked lines views s1 m1 s2 m2 → AreAllMarked lines m2 m3 → AreNeeded lines views exit s2 m3
all_needed lines views exit s0 s1 s2 m0 m1 m2 m3 places numbers one other seen all = record {
  settled = all.settled;
  served = λ t l log j v le at mark. (let s = seen.served t l log j v le at mark in record { places = s.places; line = λ n cited. all.kept n (s.line n cited) });
  view = λ lt. seen.kept_views exit.view (one.there exit.view refl (omega (arith, places, lt)));
  line = λ n is lt. all.kept n (seen.kept_lines n (other.there n is (omega (arith, numbers, lt))));
}
