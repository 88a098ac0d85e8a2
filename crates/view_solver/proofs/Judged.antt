-- Violations, by masks and in lists.
use Rattle.std.proofs.Common.{◌≡◌, ℕ, ◌+◌, ◌*◌, ◌<◌, Bool, true, false, List, [], ◌∷◌, ◌++◌, Some, None, length, get_or, Contains, refl, sym, ap, ◌∙◌, subst, inl, inr, ⊎_elim, arith, append-nil}
use Rattle.std.proofs.lemmas.Bool.{cases_lt, false≢true}
use Rattle.std.proofs.lemmas.List.Elements.{Contains-push, Contains-push_cases, Contains-append_left, All-contains_itself}
use Rattle.std.proofs.lemmas.List.Quantifiers.{all_pairs_push}
use Rattle.app_model.specs.Components.{edge_at, exits_at}
use Rattle.app_model.specs.Facts.{Fact, View}
use Rattle.app_model.specs.Masks.{in_mask, held_statuses}
use Rattle.app_model.specs.Subject.{SubjectParts, answers_at}
use Rattle.app_model.specs.declared.component.Edge.{Edge}
use Rattle.flow_model.specs.Derived.{Derived, HasAll, Set, IsLeast}
use Rattle.flow_model.specs.Images.{IsCut}
use Rattle.flow_model.specs.Policy.{IsViolation, ComesBefore, none_given}
use Rattle.flow_model.specs.Rules.{Carries, Rules}
use Rattle.flow_model.specs.declared.policy.Violation.{Violation}
use Rattle.flow_model.proofs.Laws.{in_closed}
use Rattle.solution.specs.Facts.{Facts, holds, HasPlaces}
use Rattle.solution.proofs.Facts.{view_place}
use Rattle.solution.specs.Words.{IsMask, AreRows, Leads}
use Rattle.solution.proofs.Bits.{mask_true, mask_empty}
use Rattle.solver.specs.Turns.{AreFacts}
use Rattle.solver.proofs.Turns.{all_derived}
use Rattle.view_solver.specs.Judged.{AreViolationsBy, AreListed, EndsBy, Ends, Violates, number_of, one_if}
use Rattle.view_solver.specs.Views.{Carried}
use Rattle.view_solver.proofs.Closed.{least_closed}

module _ (x : SubjectParts) (l : ℕ) (t : Facts) (c k : ℕ) where
  -- ---- where a callback ends
  pub ends_none : (e : ℕ) → edge_at x.list c e ≡ None → IsMask (EndsBy x l t c k e) 0
  ends_none e none = mask_empty (EndsBy x l t c k e) (λ u z. let is = z.2 in cc)

  pub ends_other : (e : ℕ) (edge : Edge) → edge_at x.list c e ≡ Some edge → ¬ (edge.callback ≡ k) → IsMask (EndsBy x l t c k e) 0
  ends_other e edge is other = mask_empty (EndsBy x l t c k e) (λ u z. other (let eq : z.0 ≡ edge = (let at = z.2 in cc) in ap (λ (g : Edge). g.callback) (sym eq) ∙ z.3))

  pub ends_one : (e seen carry mask : ℕ) (edge : Edge) → edge_at x.list c e ≡ Some edge → edge.callback ≡ k → ((s : ℕ) → in_mask seen s ≡ holds t (View c edge.from s)) → AreRows (Carried x l t c edge) 8 carry → IsMask (λ u. (s : ℕ) × Leads seen carry s u) mask
      → IsMask (EndsBy x l t c k e) mask
  ends_one e seen carry mask edge is called view cw lead = record {
    there = λ u z. (let eq : z.0 ≡ edge = (let at = z.2 in cc) in
        let v : holds t (View c edge.from z.1) ≡ true = subst (λ (g : Edge). holds t (View c g.from z.1) ≡ true) eq z.4 in
        let w : Carried x l t c edge z.1 u = subst (λ (g : Edge). Carried x l t c g z.1 u) eq z.5 in
        let m = view z.1 ∙ v in
        lead.there u (z.1, (m, cw.there z.1 u (mask_true seen z.1 m).0 w)));
    only = λ u h. (let d = lead.only u h in (edge, d.0, is, called, sym (view d.0) ∙ d.1.0, cw.only d.0 u d.1.1));
  }

  -- ---- which ends are violations
  pub bad_none : (b : Bool) → ((s : ℕ) → Violates x l t c k s → b ≡ true) → b ≡ false → IsMask (Violates x l t c k) 0
  bad_none b needs off = mask_empty (Violates x l t c k) (λ s v. false≢true (sym off ∙ needs s v))

  pub bad_some : (ends cut : ℕ) → AreFacts x l t → answers_at x c l ≡ true → in_mask (exits_at x.list c) k ≡ true → IsMask (Ends x l t c k) ends → IsCut ends held_statuses cut → IsMask (Violates x l t c k) cut
  bad_some ends cut facts answers exit e h = record {
    there = λ s v. h.there s (e.there s (v.number, (v.edge, v.before, v.there, v.callback, subst (λ q. holds t (View c q v.before) ≡ true) (sym v.from) v.holds.0, (v.needs, v.carried, v.holds.1)))) v.held;
    only = λ s m. (let z = h.only s m in let w = e.only s z.0 in let y = w.1.5 in record {
      state = w.1.0.from;
      before = w.1.1;
      number = w.0;
      edge = w.1.0;
      needs = y.0;
      slot = facts.lock;
      there = w.1.2;
      from = refl;
      callback = w.1.3;
      carried = y.1;
      holds = (w.1.4, y.2);
      exit = exit;
      held = z.1;
      answers = answers;
    });
  }

  -- callbacks and statuses are below eight
  pub violates_below : (s : ℕ) → Violates x l t c k s → (k < 8) × (s < 8)
  violates_below s v = ((mask_true (exits_at x.list c) k v.exit).0, (mask_true held_statuses s v.held).0)

-- ---- lists
pub same_violation : (v w : Violation) → v.component ≡ w.component → v.callback ≡ w.callback → v.lock ≡ w.lock → v.status ≡ w.status → v ≡ w
same_violation v w a b d e = rw (a, b, d, e) refl

comes_before : (v w : Violation) → v.lock ≡ w.lock → v.callback < 8 → v.status < 8 → w.callback < 8 → w.status < 8 → number_of v < number_of w → ComesBefore v w
comes_before v w lock vk vs wk ws lt =
    ⊎_elim inl (λ c. let same : v.component ≡ w.component = omega arith in inr (
      same,
      ⊎_elim inl (λ k. let equal : v.callback ≡ w.callback = omega arith in inr (equal, inr (lock, omega arith))) (cases_lt v.callback w.callback),
    ))
    (cases_lt v.component w.component)

module _ (x : SubjectParts) (l : ℕ) (t : Facts) where
  pub listed_none : AreListed x l t 0 []
  listed_none = record {
    only = λ v h. absurd (let lt = h.1 in omega arith);
    there = λ v is lt. absurd (omega arith);
    ordered = λ i j d lt within. absurd (omega arith);
  }

  with_one : (n : ℕ) (vs : List Violation) (v : Violation) → AreListed x l t n vs → v.lock ≡ l → number_of v ≡ n → Violates x l t v.component v.callback v.status → AreListed x l t (n + 1) (vs ++ v ∷ [])
  with_one n vs v listed lock is bad =
      let own = violates_below x l t v.component v.callback v.status bad in
      record {
        only = λ w h. ⊎_elim (λ old. (let o = listed.only w old in (o.0, (let lt = o.1 in omega arith), o.2)))
            (λ new. subst (λ (z : Violation). (z.lock ≡ l) × (number_of z < n + 1) × Violates x l t z.component z.callback z.status) new (lock, omega arith, bad)) (Contains-push_cases vs v w h);
        there = λ w other lt more. ⊎_elim (λ less. Contains-append_left vs (v ∷ []) w (listed.there w other less more))
            (λ le. (let low = violates_below x l t w.component w.callback w.status more in
            let a : v.component ≡ w.component = omega (arith, own.0, own.1, low.0, low.1) in
            let b : v.callback ≡ w.callback = omega (arith, own.0, own.1, low.0, low.1) in
            let d : v.status ≡ w.status = omega (arith, own.0, own.1, low.0, low.1) in
            subst (λ z. Contains (vs ++ v ∷ []) z) (same_violation v w a b (lock ∙ sym other) d) (Contains-push vs v))) (cases_lt (number_of w) n);
        ordered = all_pairs_push ComesBefore vs v listed.ordered (λ i d lt.
            (let w = get_or vs i d in let o = listed.only w (All-contains_itself vs i d lt) in
            let low = violates_below x l t w.component w.callback w.status o.2 in
            comes_before w v (o.0 ∙ sym lock) low.0 low.1 own.0 own.1 (let less = o.1 in omega arith)));
      }

  without : (n : ℕ) (vs : List Violation) (v : Violation) → AreListed x l t n vs → v.lock ≡ l → number_of v ≡ n → v.callback < 8 → v.status < 8 → ¬ Violates x l t v.component v.callback v.status → AreListed x l t (n + 1) vs
  without n vs v listed lock is k8 s8 not_bad = record {
    only = λ w h. (let o = listed.only w h in (o.0, (let lt = o.1 in omega arith), o.2));
    there = λ w other lt more. ⊎_elim (λ less. listed.there w other less more)
        (λ le. absurd (let low = violates_below x l t w.component w.callback w.status more in
        let a : w.component ≡ v.component = omega (arith, k8, s8, low.0, low.1) in
        let b : w.callback ≡ v.callback = omega (arith, k8, s8, low.0, low.1) in
        let d : w.status ≡ v.status = omega (arith, k8, s8, low.0, low.1) in
        not_bad (subst (λ (z : Violation). Violates x l t z.component z.callback z.status) (same_violation w v a b (other ∙ sym lock) d) more))) (cases_lt (number_of w) n);
    ordered = listed.ordered;
  }

  one_or_none : (b : Bool) (n : ℕ) (vs : List Violation) (v : Violation) → (b ≡ true → Violates x l t v.component v.callback v.status) → (b ≡ false → ¬ Violates x l t v.component v.callback v.status) → AreListed x l t n vs → v.lock ≡ l → number_of v ≡ n → v.callback < 8 → v.status < 8
      → AreListed x l t (n + 1) (vs ++ one_if b v)
  one_or_none true n vs v bad fine listed lock at k8 s8 = with_one n vs v listed lock at (bad refl)
  one_or_none false n vs v bad fine listed lock at k8 s8 = rw (append-nil vs) (without n vs v listed lock at k8 s8 (fine refl))

  -- one status more
  pub next_listed : (n mask : ℕ) (vs new : List Violation) (v : Violation) → IsMask (Violates x l t v.component v.callback) mask → v.lock ≡ l → number_of v ≡ n → v.callback < 8 → v.status < 8 → new ≡ vs ++ one_if (in_mask mask v.status) v → AreListed x l t n vs → AreListed x l t (n + 1) new
  next_listed n mask vs new v is lock at k8 s8 same listed =
      rw same (one_or_none (in_mask mask v.status) n vs v (λ bad. is.only v.status bad) (λ fine bad. false≢true (sym fine ∙ is.there v.status bad)) listed lock at k8 s8)

  -- the same bound
  pub listed_at : (n m : ℕ) (vs : List Violation) → n ≡ m → AreListed x l t n vs → AreListed x l t m vs
  listed_at n m vs same listed = subst (λ k. AreListed x l t k vs) same listed

-- ---- all of them
pub all_listed : (x : SubjectParts) (l : ℕ) (t : Facts) (vs : List Violation) → HasPlaces x t → AreListed x l t (64 * length x.list) vs → AreViolationsBy x l (HasAll (holds t)) vs
all_listed x l t vs places listed = record {
  ordered = listed.ordered;
  exact = λ v. (
    (λ h. let o = listed.only v h in (o.0, o.2)),
    (λ z. let c : v.component < length x.list = rw places.views at (view_place t v.component z.1.state z.1.before z.1.holds.0) in let low = violates_below x l t v.component v.callback v.status z.1 in
        listed.there v z.0 (let k8 = low.0 in let s8 = low.1 in omega arith) z.1),
  );
}

violation_by : (x : SubjectParts) (l : ℕ) (P Q : List Fact → Type 0) → ((fs : List Fact) → P fs → Q fs) → (c k s : ℕ) → IsViolation x (Carries x l) l P c k s → IsViolation x (Carries x l) l Q c k s
violation_by x l P Q to c k s v = record {
  state = v.state;
  before = v.before;
  number = v.number;
  edge = v.edge;
  needs = v.needs;
  slot = v.slot;
  there = v.there;
  from = v.from;
  callback = v.callback;
  carried = v.carried;
  holds = to _ v.holds;
  exit = v.exit;
  held = v.held;
  answers = v.answers;
}

-- by the least solution they are derived
pub derived_violation : (x : SubjectParts) (l : ℕ) (set : Set) (c k s : ℕ) → IsLeast (Rules x l) none_given set → IsViolation x (Carries x l) l (HasAll set) c k s → IsViolation x (Carries x l) l (Derived (Rules x l) none_given) c k s
derived_violation x l set c k s least v = violation_by x l (HasAll set) (Derived (Rules x l) none_given) (λ fs has. all_derived (Rules x l) none_given set least.sound fs has) c k s v

pub given_violation : (x : SubjectParts) (l : ℕ) (set : Set) (c k s : ℕ) → IsLeast (Rules x l) none_given set → IsViolation x (Carries x l) l (Derived (Rules x l) none_given) c k s → IsViolation x (Carries x l) l (HasAll set) c k s
given_violation x l set c k s least v =
    violation_by x l (Derived (Rules x l) none_given) (HasAll set) (λ fs d. in_closed (Rules x l) none_given set (λ f given. absurd (cc)) (least_closed (Rules x l) none_given set least) d) c k s v

pub all_derivable : (x : SubjectParts) (l : ℕ) (set : Set) (vs : List Violation) → IsLeast (Rules x l) none_given set → AreViolationsBy x l (HasAll set) vs → AreViolationsBy x l (Derived (Rules x l) none_given) vs
all_derivable x l set vs least by = record {
  ordered = by.ordered;
  exact = λ v. (
    (λ h. let z = (by.exact v).0 h in (z.0, derived_violation x l set v.component v.callback v.status least z.1)),
    (λ z. (by.exact v).1 (z.0, given_violation x l set v.component v.callback v.status least z.1)),
  );
}
