-- Masks of all lock fields, and the list that is made of them.
use Rattle.std.proofs.Common.{◌≡◌, ℕ, ◌+◌, ◌*◌, ◌<◌, ◌≤◌, Bool, true, false, List, [], ◌∷◌, ◌++◌, length, map, get_or, slice_get, Option, Some, None, Contains, refl, sym, ap, ◌∙◌, subst, inl, inr, ⊎_elim, arith, append-nil, length-append}
use Rattle.std.proofs.lemmas.Bool.{cases_lt, false≢true}
use Rattle.std.proofs.lemmas.Option.{slice_get_within}
use Rattle.std.proofs.lemmas.List.{get_or-map, get_or_append_left, length-map, map-append}
use Rattle.std.specs.declared.alloc.Global.{Global}
use Rattle.std.specs.declared.vec.Vec.{Vec}
use Rattle.std.proofs.Math.Seq.{get_or-append_seam}
use Rattle.std.proofs.lemmas.List.Elements.{Contains-push, Contains-push_cases, Contains-append_left, All-contains_itself}
use Rattle.std.proofs.lemmas.List.Quantifiers.{all_pairs_push}
use Rattle.app_model.specs.declared.component.Edge.{Edge}
use Rattle.app_model.specs.Components.{ComponentParts, edge_at, edge_of, exits_at}
use Rattle.app_model.specs.Masks.{in_mask, held_statuses}
use Rattle.app_model.specs.Subject.{SubjectParts, IsSubject, slot_count}
use Rattle.flow_model.specs.Derived.{IsLeast}
use Rattle.flow_model.specs.Policy.{AreViolations, ComesBefore, IsDerivableViolation, none_given}
use Rattle.flow_model.specs.Rules.{Rules}
use Rattle.flow_model.specs.declared.policy.Violation.{Violation}
use Rattle.solution.specs.Facts.{Facts, holds}
use Rattle.solution.specs.Words.{IsMask}
use Rattle.solution.proofs.Bits.{mask_true}
use Rattle.view_solver.specs.Judged.{Violates, one_if}
use Rattle.view_solver.specs.Reported.{HasLeast, AreAllMasks, AreLockMasks, AreMasksTo, AreReported, report_number}
use Rattle.view_solver.proofs.Judged.{same_violation, derived_violation, given_violation}

-- ---- masks of one lock field
module _ (x : SubjectParts) (l : ℕ) (t : Facts) where
  pub no_masks : AreMasksTo x l t 0 []
  no_masks = record { len = refl; each = λ c k k8 below. absurd (omega (arith, below)) }

  one_mask : (c k n mask : ℕ) (masks : List ℕ) → k < 8 → n ≡ 8 * c + k → IsMask (Violates x l t c k) mask → AreMasksTo x l t n masks → AreMasksTo x l t (n + 1) (masks ++ mask ∷ [])
  one_mask c k n mask masks k8 at is old = record {
    len = length-append masks (mask ∷ []) ∙ ap (λ (m : ℕ). m + 1) old.len;
    each = λ d j j8 below.
        ⊎_elim
        (λ less. subst (IsMask (Violates x l t d j)) (sym (get_or_append_left masks (mask ∷ []) 0 (8 * d + j) (omega (arith, less, old.len)))) (old.each d j j8 less))
        (λ past.
        (let here : 8 * d + j ≡ n = omega (arith, below, past) in
        let same_c : c ≡ d = omega (arith, here, at, k8, j8) in
        let same_k : k ≡ j = omega (arith, here, at, k8, j8) in
        let got : get_or (masks ++ mask ∷ []) (8 * d + j) 0 ≡ mask = ap (λ (i : ℕ). get_or (masks ++ mask ∷ []) i 0) (here ∙ sym old.len) ∙ get_or-append_seam masks mask [] 0 in
        rw (got, sym same_c, sym same_k) is))
        (cases_lt (8 * d + j) n);
  }

  pub next_mask : (c k n mask : ℕ) (masks new : List ℕ) → k < 8 → n ≡ 8 * c + k → IsMask (Violates x l t c k) mask → new ≡ masks ++ mask ∷ [] → AreMasksTo x l t n masks → AreMasksTo x l t (n + 1) new
  next_mask c k n mask masks new k8 at is same old = rw same (one_mask c k n mask masks k8 at is old)

  pub masks_at : (n m : ℕ) (masks : List ℕ) → n ≡ m → AreMasksTo x l t n masks → AreMasksTo x l t m masks
  masks_at n m masks same are = subst (λ k. AreMasksTo x l t k masks) same are

  -- by the least solution
  pub least_masks : (masks : List ℕ) → IsLeast (Rules x l) none_given (holds t) → AreMasksTo x l t (8 * length x.list) masks → AreLockMasks x l masks
  least_masks masks least are = record {
    len = are.len;
    each = λ c k k8 below. (let is = are.each c k k8 below in record {
      there = λ s v. is.there s (given_violation x l (holds t) c k s least v);
      only = λ s m. derived_violation x l (holds t) c k s least (is.only s m);
    });
    least = (holds t, least);
  }

-- ---- masks of all of them
module _ (x : SubjectParts) where
  pub no_locks : AreAllMasks x 0 []
  no_locks = record { len = refl; each = λ l below. absurd (omega (arith, below)) }

  pub next_lock : (n : ℕ) (all : List (List ℕ)) (masks : List ℕ) → AreLockMasks x n masks → AreAllMasks x n all → AreAllMasks x (n + 1) (all ++ masks ∷ [])
  next_lock n all masks is old = record {
    len = length-append all (masks ∷ []) ∙ ap (λ (m : ℕ). m + 1) old.len;
    each = λ l below.
        ⊎_elim
        (λ less. subst (AreLockMasks x l) (sym (get_or_append_left all (masks ∷ []) [] l (omega (arith, less, old.len)))) (old.each l less))
        (λ past.
        (let here : l ≡ n = omega (arith, below, past) in
        let got : get_or (all ++ masks ∷ []) l [] ≡ masks = ap (λ (i : ℕ). get_or (all ++ masks ∷ []) i []) (here ∙ sym old.len) ∙ get_or-append_seam all masks [] [] in
        rw (got, here) is))
        (cases_lt l n);
  }

  pub push_lock : (n : ℕ) (all new : List (Vec ℕ Global)) (masks : Vec ℕ Global) → AreLockMasks x n masks.items → new ≡ all ++ masks ∷ [] → AreAllMasks x n (map (λ (masks : Vec ℕ Global). masks.items) all)
      → AreAllMasks x (n + 1) (map (λ (masks : Vec ℕ Global). masks.items) new)
  push_lock n all new masks is same old =
      let items = λ (masks : Vec ℕ Global). masks.items in
      rw same (subst (AreAllMasks x (n + 1)) (sym (map-append items all (masks ∷ []))) (next_lock n (map items all) masks.items is old))

  -- the masks of a lock field, by their vector
  pub masks_there : (n l : ℕ) (all : List (Vec ℕ Global)) (d : Vec ℕ Global) → l < n → AreAllMasks x n (map (λ (masks : Vec ℕ Global). masks.items) all) → AreLockMasks x l (get_or all l d).items
  masks_there n l all d below are =
      let within : l < length all = omega (arith, below, are.len, length-map all (λ (masks : Vec ℕ Global). masks.items)) in
      subst (AreLockMasks x l) (get_or-map (λ (masks : Vec ℕ Global). masks.items) all l d [] within) (are.each l below)

  pub all_least : (n : ℕ) (all : List (List ℕ)) → AreAllMasks x n all → (l : ℕ) → l < n → HasLeast x l
  all_least n all are l below = (are.each l below).least

  -- ---- the list
  -- lock fields are below 64, callbacks and statuses below eight
  pub record IsSmall (v : Violation) : Type 0 where
    pub lock : v.lock < 64
    pub callback : v.callback < 8
    pub status : v.status < 8

  pub derivable_small : IsSubject x → (v : Violation) → IsDerivableViolation x v.lock v.component v.callback v.status → IsSmall v
  derivable_small sound v d = record {
    lock = (let slot = d.slot in omega (arith, slot, sound.slots));
    callback = (mask_true (exits_at x.list v.component) v.callback d.exit).0;
    status = (mask_true held_statuses v.status d.held).0;
  }

  pub goes_before : (v w : Violation) → IsSmall v → IsSmall w → report_number v < report_number w → ComesBefore v w
  goes_before v w a b lt =
      ⊎_elim inl
      (λ c.
      (let same_c : v.component ≡ w.component = omega (arith, c, lt, a.lock, a.callback, a.status, b.lock, b.callback, b.status) in inr (
        same_c,
        ⊎_elim inl
            (λ k.
            (let same_k : v.callback ≡ w.callback = omega (arith, k, lt, same_c, a.lock, a.status, b.lock, b.status) in inr (
              same_k,
              ⊎_elim inl (λ o. (let same_l : v.lock ≡ w.lock = omega (arith, o, lt, same_c, same_k, a.status, b.status) in inr (same_l, omega (arith, lt, same_c, same_k, same_l)))) (cases_lt v.lock w.lock),
            ))) (cases_lt v.callback w.callback),
      )))
      (cases_lt v.component w.component)

  pub same_number : (v w : Violation) → IsSmall v → IsSmall w → report_number v ≡ report_number w → v ≡ w
  same_number v w a b same =
      same_violation v w (omega (arith, same, a.lock, a.callback, a.status, b.lock, b.callback, b.status)) (omega (arith, same, a.lock, a.callback, a.status, b.lock, b.callback, b.status))
      (omega (arith, same, a.lock, a.callback, a.status, b.lock, b.callback, b.status)) (omega (arith, same, a.lock, a.callback, a.status, b.lock, b.callback, b.status))

  pub none_reported : AreReported x 0 []
  none_reported = record {
    only = λ v h. absurd (let lt = h.1 in omega (arith, lt));
    there = λ v lt d. absurd (omega (arith, lt));
    ordered = λ i j d lt within. absurd (omega (arith, within));
  }

  module _ (sound : IsSubject x) where
    -- a bound that no violation lies before
    pub reported_to : (n m : ℕ) (vs : List Violation) → n ≤ m → ((v : Violation) → IsSmall v → v.lock < slot_count x → report_number v < m → report_number v < n) → AreReported x n vs → AreReported x m vs
    reported_to n m vs le gap old = record {
      only = λ v h. (let o = old.only v h in (omega (arith, o.0, le), o.1));
      there = λ v lt d. old.there v (gap v (derivable_small sound v d) d.slot lt) d;
      ordered = old.ordered;
    }

    pub reported_at : (n m : ℕ) (vs : List Violation) → n ≡ m → AreReported x n vs → AreReported x m vs
    reported_at n m vs same are = subst (λ k. AreReported x k vs) same are

    with_one : (n : ℕ) (vs : List Violation) (v : Violation) → AreReported x n vs → report_number v ≡ n → IsSmall v → IsDerivableViolation x v.lock v.component v.callback v.status → AreReported x (n + 1) (vs ++ v ∷ [])
    with_one n vs v old at small bad = record {
      only = λ w h.
          ⊎_elim (λ before. (let o = old.only w before in (omega (arith, o.0), o.1)))
          (λ new. subst (λ (z : Violation). (report_number z < n + 1) × IsDerivableViolation x z.lock z.component z.callback z.status) new (omega (arith, at), bad)) (Contains-push_cases vs v w h);
      there = λ w lt d.
          ⊎_elim (λ less. Contains-append_left vs (v ∷ []) w (old.there w less d))
          (λ past. (let same : v ≡ w = same_number v w small (derivable_small sound w d) (omega (arith, at, lt, past)) in subst (λ z. Contains (vs ++ v ∷ []) z) same (Contains-push vs v))) (cases_lt (report_number w) n);
      ordered = all_pairs_push ComesBefore vs v old.ordered (λ i d lt.
          (let w = get_or vs i d in let o = old.only w (All-contains_itself vs i d lt) in goes_before w v (derivable_small sound w o.1) small (omega (arith, o.0, at))));
    }

    without : (n : ℕ) (vs : List Violation) (v : Violation) → AreReported x n vs → report_number v ≡ n → IsSmall v → ¬ IsDerivableViolation x v.lock v.component v.callback v.status → AreReported x (n + 1) vs
    without n vs v old at small fine = record {
      only = λ w h. (let o = old.only w h in (omega (arith, o.0), o.1));
      there = λ w lt d.
          ⊎_elim (λ less. old.there w less d)
          (λ past. (let same : w ≡ v = same_number w v (derivable_small sound w d) small (omega (arith, at, lt, past)) in
          absurd (fine (subst (λ (z : Violation). IsDerivableViolation x z.lock z.component z.callback z.status) same d)))) (cases_lt (report_number w) n);
      ordered = old.ordered;
    }

    one_or_none : (b : Bool) (n : ℕ) (vs : List Violation) (v : Violation) → (b ≡ true → IsDerivableViolation x v.lock v.component v.callback v.status) → (b ≡ false → ¬ IsDerivableViolation x v.lock v.component v.callback v.status) → AreReported x n vs → report_number v ≡ n → IsSmall v
        → AreReported x (n + 1) (vs ++ one_if b v)
    one_or_none true n vs v bad fine old at small = with_one n vs v old at small (bad refl)
    one_or_none false n vs v bad fine old at small = rw (append-nil vs) (without n vs v old at small (fine refl))

    -- one status more
    pub next_reported : (n mask : ℕ) (vs new : List Violation) (v : Violation) → IsMask (IsDerivableViolation x v.lock v.component v.callback) mask → report_number v ≡ n → IsSmall v → new ≡ vs ++ one_if (in_mask mask v.status) v → AreReported x n vs → AreReported x (n + 1) new
    next_reported n mask vs new v is at small same old =
        rw same (one_or_none (in_mask mask v.status) n vs v (λ bad. is.only v.status bad) (λ fine bad. false≢true (sym fine ∙ is.there v.status bad)) old at small)

    -- all lock fields of a callback
    pub past_locks : (c k n : ℕ) (vs : List Violation) → slot_count x ≤ n → n ≤ 64 → AreReported x (4096 * c + 512 * k + 8 * n) vs → AreReported x (4096 * c + 512 * (k + 1)) vs
    past_locks c k n vs le few old =
        reported_to (4096 * c + 512 * k + 8 * n) (4096 * c + 512 * (k + 1)) vs (omega (arith, few))
        (λ v small lock lt. omega (arith, small.lock, small.callback, small.status, lock, lt, le)) old

  -- all of them
  component_there : (o : Option ComponentParts) (c e : ℕ) (edge : Edge) → slice_get x.list c ≡ o → edge_of o e ≡ Some edge → c < length x.list
  component_there None c e edge there is = cc
  component_there (Some component) c e edge there is = slice_get_within x.list c component there

  within : (v : Violation) → IsDerivableViolation x v.lock v.component v.callback v.status → v.component < length x.list
  unfolding edge_at
  within v d = component_there (slice_get x.list v.component) v.component d.number d.edge refl d.there

  pub all_reported : IsSubject x → (vs : List Violation) → AreReported x (4096 * length x.list) vs → AreViolations x vs
  all_reported sound vs are = record {
    ordered = are.ordered;
    exact = λ v. (
      λ h. (are.only v h).1,
      λ d. (let small = derivable_small sound v d in are.there v (omega (arith, within v d, small.lock, small.callback, small.status)) d),
    );
  }
