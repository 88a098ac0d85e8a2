-- Ends of callbacks as masks, and the first violation by loops.
use Rattle.std.proofs.Common.{◌≡◌, ◌+◌, ◌<◌, ◌≤◌, ℕ, Bool, true, false, Option, Some, None, length, refl, sym, ap, ◌∙◌, subst, ⊎_elim, arith}
use Rattle.std.specs.Prelude.{is_some}
use Rattle.std.proofs.lemmas.Bool.{cases_lt, false≢true, true≢false}
use Rattle.app_model.specs.declared.component.Edge.{Edge}
use Rattle.app_model.specs.Components.{edge_at, exits_at}
use Rattle.app_model.specs.Facts.{View}
use Rattle.app_model.specs.Masks.{in_mask, held_statuses}
use Rattle.app_model.specs.Subject.{answers_at}
use Rattle.flow_model.specs.Images.{IsCut}
use Rattle.flow_model.proofs.MaskLaws.{IsIn-lt}
use Rattle.flow_model.specs.declared.policy.Violation.{Violation}
use Rattle.solution.specs.Words.{IsMask}
use Rattle.solution.proofs.Bits.{mask_empty}
use Rattle.cert_facts.specs.Cases.{Case, IsCase, set_of}
use Rattle.cert_check.specs.Ends.{LeadsFrom, Leads, EndsBy, Ends, Violates, IsFirstStatus, IsFirstCallback, IsFirstOf}
use Rattle.cert_check.proofs.Searches.{NoneBelow}
use Rattle.cert_facts.proofs.Told.{view_ranges}

module _ (t : Case) (c k : ℕ) where
  pub ends_none : (e : ℕ) → edge_at t.subject.list c e ≡ None → IsMask (EndsBy t c k e) 0
  ends_none e none = mask_empty (EndsBy t c k e) (λ u z. let is = z.1 in cc)

  pub ends_other : (e : ℕ) (edge : Edge) → edge_at t.subject.list c e ≡ Some edge → ¬ (edge.callback ≡ k) → IsMask (EndsBy t c k e) 0
  ends_other e edge is other = mask_empty (EndsBy t c k e) (λ u z. other (let eq : z.0 ≡ edge = (let at = z.1 in cc) in ap (λ (g : Edge). g.callback) (sym eq) ∙ z.2))

  pub ends_one : (e mask : ℕ) (edge : Edge) → edge_at t.subject.list c e ≡ Some edge → edge.callback ≡ k → IsMask (Leads t c edge) mask → IsMask (EndsBy t c k e) mask
  ends_one e mask edge is called leads = record {
    there = λ u z. (let eq : z.0 ≡ edge = (let at = z.1 in cc) in leads.there u (subst (λ (g : Edge). Leads t c g u) eq z.3));
    only = λ u h. (edge, is, called, leads.only u h);
  }

  pub violates_none : (b : Bool) → ((s : ℕ) → Violates t c k s → b ≡ true) → b ≡ false → IsMask (Violates t c k) 0
  violates_none b needs off = mask_empty (Violates t c k) (λ s v. false≢true (sym off ∙ needs s v))

  pub violates_some : (ends cut : ℕ) → IsCase t → answers_at t.subject c t.lock ≡ true → in_mask (exits_at t.subject.list c) k ≡ true → IsMask (Ends t c k) ends → IsCut ends held_statuses cut → IsMask (Violates t c k) cut
  violates_some ends cut is answers exit e h = record {
    there = λ s v. h.there s (e.there s (v.number, (v.edge, v.there, v.callback, (v.before, subst (λ q. set_of t (View c q v.before) ≡ true) (sym v.from) v.holds.0, (v.needs, v.carried, v.holds.1))))) v.held;
    only = λ s m. (let z = h.only s m in let w = e.only s z.0 in let y = w.1.3 in record {
      state = w.1.0.from;
      before = y.0;
      number = w.0;
      edge = w.1.0;
      needs = y.2.0;
      slot = is.fits.slot;
      there = w.1.1;
      from = refl;
      callback = w.1.2;
      carried = y.2.1;
      holds = (y.1, y.2.2);
      exit = exit;
      held = z.1;
      answers = answers;
    });
  }

  pub leads_all : (edge : Edge) (seen mask : ℕ) → ((s : ℕ) → in_mask seen s ≡ set_of t (View c edge.from s)) → IsMask (λ u. (s : ℕ) × LeadsFrom t c edge seen s u) mask → IsMask (Leads t c edge) mask
  leads_all edge seen mask reads is = record {
    there = λ u z. is.there u (z.0, (reads z.0 ∙ z.1, z.2));
    only = λ u h. (let z = is.only u h in (z.0, sym (reads z.0) ∙ z.1.0, z.1.1));
  }

-- ---- callbacks and statuses of a violation are low, its component is one of the list
pub violates_low : (t : Case) (c k s : ℕ) → IsCase t → Violates t c k s → (c < length t.subject.list) × (k < 8) × (s < 8)
violates_low t c k s is v = ((view_ranges t c v.state v.before is v.holds.0).0, IsIn-lt (exits_at t.subject.list c) k v.exit, IsIn-lt held_statuses s v.held)

-- ---- a status, a callback, a component after another
module _ (t : Case) (c k : ℕ) (mask : ℕ) (is : IsMask (Violates t c k) mask) where
  pub status_more : (n : ℕ) (b : Bool) → NoneBelow (Violates t c k) n → b ≡ in_mask mask n → b ≡ false → NoneBelow (Violates t c k) (n + 1)
  status_more n b none at off = λ s lt v. ⊎_elim (λ below. none s below v) (λ from. (let same : s ≡ n = omega arith in false≢true (sym off ∙ at ∙ is.there n (rw same at v)))) (cases_lt s n)

  pub status_some : (n : ℕ) (b : Bool) → NoneBelow (Violates t c k) n → b ≡ in_mask mask n → b ≡ true → IsFirstStatus t c k (Some n)
  status_some n b none at on = (is.only n (sym at ∙ on), none)

  pub status_none : (n : ℕ) → 8 ≤ n → NoneBelow (Violates t c k) n → IsFirstStatus t c k None
  status_none n le none = λ s v. none s (let low = IsIn-lt mask s (is.there s v) in omega arith) v

module _ (t : Case) (c : ℕ) where
  abbrev pub NoneAt : ℕ → Type 0
  NoneAt n = (k s : ℕ) → k < n → Violates t c k s → ⊥

  pub callback_more : (n : ℕ) → NoneAt n → IsFirstStatus t c n None → NoneAt (n + 1)
  callback_more n none first = λ k s lt v. ⊎_elim (λ below. none k s below v) (λ from. (let same : k ≡ n = omega arith in first s (rw same at v))) (cases_lt k n)

  pub callback_some : (n s lock : ℕ) → NoneAt n → lock ≡ t.lock → IsFirstStatus t c n (Some s) → IsFirstCallback t c (Some (record { component = c; callback = n; lock = lock; status = s }))
  callback_some n s lock none at first = (refl, at, first.0, (λ k r before v. ⊎_elim (λ lt. none k r lt v) (λ z. ⊎_elim (λ lt. first.1 r lt (rw z.0 at v)) (λ w. w.1) z.1) before))

  pub callback_none : IsCase t → (n : ℕ) → 8 ≤ n → NoneAt n → IsFirstCallback t c None
  callback_none is n le none = λ k s v. none k s (let low = (violates_low t c k s is v).1 in omega arith) v

module _ (t : Case) where
  abbrev pub NoneOf : ℕ → Type 0
  NoneOf n = (c k s : ℕ) → c < n → Violates t c k s → ⊥

  pub component_more : (n : ℕ) (o : Option Violation) → NoneOf n → IsFirstCallback t n o → is_some o ≡ false → NoneOf (n + 1)
  component_more n (Some f) none first off = absurd (true≢false off)
  component_more n None none first off = λ c k s lt v. ⊎_elim (λ below. none c k s below v) (λ from. (let same : c ≡ n = omega arith in first k s (rw same at v))) (cases_lt c n)

  pub component_some : (n : ℕ) (o : Option Violation) → NoneOf n → IsFirstCallback t n o → is_some o ≡ true → IsFirstOf t o
  component_some n None none first on = absurd (false≢true on)
  component_some n (Some f) none first on = (
    first.1,
    rw first.0 first.2,
    (λ c k s before v. ⊎_elim
        (λ lt. none c k s (rw first.0 at lt) v)
        (λ z. first.3 k s z.1 (let same : c ≡ n = z.0 ∙ first.0 in rw same at v))
        before),
  )

  pub component_none : IsCase t → (n : ℕ) → length t.subject.list ≤ n → NoneOf n → IsFirstOf t None
  component_none is n le none = λ c k s v. none c k s (let low = (violates_low t c k s is v).0 in omega arith) v
