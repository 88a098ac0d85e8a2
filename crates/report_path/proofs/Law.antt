-- The violation of a valid report is derived: bodies and views are shown in their order, each from those before it.
use Rattle.std.proofs.Common.{suc, zero, ◌-◌, ◌≡◌, ℕ, ◌<◌, Bool, true, false, List, [], ◌∷◌, length, get_or, Option, Some, None, refl, ap, ◌∙◌, subst, inl, inr, arith, add-one}
use Rattle.std.specs.Prelude.{slice_get, take, option_map}
use Rattle.std.proofs.lemmas.Option.{slice_get-get_or, slice_get_within}
use Rattle.app_model.specs.declared.component.Edge.{Edge}
use Rattle.app_model.specs.Components.{edge_at}
use Rattle.app_model.specs.Facts.{Fact, View, At, Ret, Exc}
use Rattle.app_model.specs.Subject.{SubjectParts, IsSubject}
use Rattle.flow_model.specs.Derived.{Derived, all_done, is_given, by_rule}
use Rattle.flow_model.specs.Policy.{IsDerivableViolation, none_given}
use Rattle.flow_model.specs.Rules.{Rules, Inside, Starts, Between, Carries, I1, I1_return, I2, I3, I3_leaves, C1, C2, C3, C3_leaves, V1, V2, V3, V4, V5, outside, by_method}
use Rattle.flow_model.specs.Subject.{status_masks}
use Rattle.report_path.specs.declared.report.BodyPath.{BodyPath}
use Rattle.report_path.specs.declared.report.By.{By}
use Rattle.report_path.specs.declared.report.By.TheVariants.{Start, Outside, Own, Other}
use Rattle.report_path.specs.declared.report.Report.{Report}
use Rattle.report_path.specs.declared.report.Step.{Step}
use Rattle.report_path.specs.declared.report.ViewStep.{ViewStep}
use Rattle.report_path.specs.Paths.{Entry, Begins, IsPath, LeadsTo, cited_in, end_fact, end_of, index_at}
use Rattle.report_path.specs.Reports.{IsValidReport, RightBody, RightView}
use Rattle.report_path.specs.Views.{Case, IsBy, IsOwn, Moves, fact_of}
use Rattle.report_path.proofs.Lists.{take_get, from_below}

-- ---- what a citation stands for
record IsCited (bodies : List BodyPath) (j : ℕ) (ends : List Fact) : Type 0 where
  body : BodyPath
  there : slice_get bodies j ≡ Some body
  is : ends ≡ end_of body ∷ []

cited : (bodies : List BodyPath) (j : ℕ) (ends : List Fact) → cited_in bodies (Some j) ≡ Some ends → IsCited bodies j ends
cited bodies j ends is = go (slice_get bodies j) refl is
  where
    go : (o : Option BodyPath) → slice_get bodies j ≡ o → option_map (λ b. end_of b ∷ []) o ≡ Some ends → IsCited bodies j ends
    go None at e = absurd (cc)
    go (Some b) at e = record { body = b; there = at; is = cc }

-- which method an end tells of, and at which status that was entered
record IsOf (m e n s : ℕ) : Type 0 where
  method : m ≡ n
  status : e ≡ s

returned_of : (thrown : Bool) (m e s n r t : ℕ) → Ret n r t ≡ end_fact thrown m e s → IsOf m e n r
returned_of true m e s n r t is = absurd (cc)
returned_of false m e s n r t is = record { method = cc; status = cc }

thrown_of : (thrown : Bool) (m e s n r t : ℕ) → Exc n r t ≡ end_fact thrown m e s → IsOf m e n r
thrown_of true m e s n r t is = record { method = cc; status = cc }
thrown_of false m e s n r t is = absurd (cc)

module _ (x : SubjectParts) (l : ℕ) where
  abbrev All : List Fact → Type 0
  All fs = Derived (Rules x l) none_given fs

  abbrev Is : Fact → Type 0
  Is f = All (f ∷ [])

  both : {f : Fact} {fs : List Fact} → Is f → All fs → All (f ∷ fs)
  both (is_given h rest) ds = is_given h ds
  both (by_rule r needs rest) ds = by_rule r needs ds

  inside : {needs : List Fact} {f : Fact} → Inside x l (status_masks x l) needs f → All needs → Is f
  inside r ds = by_rule (inl (inl r)) ds all_done

  -- where a body is entered, its end is derived
  abbrev Shown : BodyPath → Type 0
  Shown b = Is (At b.method b.entry 0 b.entry) → Is (end_of b)

  -- a step that needs the end of a body enters it
  module _ (m e i s : ℕ) (b : BodyPath) where
    abbrev Enters : Type 0
    Enters = Inside x l (status_masks x l) (At m e i s ∷ []) (At b.method b.entry 0 b.entry)

    same_at : (m' e' i' s' : ℕ) (f : Fact) → At m' e' i' s' ∷ f ∷ [] ≡ At m e i s ∷ end_of b ∷ [] → (At m' e' i' s' ≡ At m e i s) × (f ≡ end_of b)
    same_at m' e' i' s' f is = (cc, cc)

    enters : {needs : List Fact} {f : Fact} → Inside x l (status_masks x l) needs f → needs ≡ At m e i s ∷ end_of b ∷ [] → Enters
    enters (I1 k own there mask) is = absurd (cc)
    enters (I1_return returns) is = absurd (cc)
    enters (I2 k own there mask) is = absurd (cc)
    enters (I3 k there mask) is = absurd (cc)
    enters (I3_leaves leaves mask) is = absurd (cc)
    enters (C1 n callee opened) is = absurd (cc)
    enters (C2 {m = m'} {e = e'} {i = i'} {s = s'} {t = t} n callee opened there) is =
        let same = same_at m' e' i' s' (Ret n.0 s' t) is in
        let of = returned_of b.thrown b.method b.entry b.exit n.0 s' t same.1 in
        rw (of.method, of.status, ← same.0) (C1 n callee opened)
    enters (C3 {m = m'} {e = e'} {i = i'} {s = s'} {t = t} n k callee opened there) is =
        let same = same_at m' e' i' s' (Exc n.0 s' t) is in
        let of = thrown_of b.thrown b.method b.entry b.exit n.0 s' t same.1 in
        rw (of.method, of.status, ← same.0) (C1 n callee opened)
    enters (C3_leaves {m = m'} {e = e'} {i = i'} {s = s'} {t = t} n callee opened leaves) is =
        let same = same_at m' e' i' s' (Exc n.0 s' t) is in
        let of = thrown_of b.thrown b.method b.entry b.exit n.0 s' t same.1 in
        rw (of.method, of.status, ← same.0) (C1 n callee opened)

  -- ---- a body, where those before it are shown
  module _ (sound : IsSubject x) (before : List BodyPath) (shown : (j : ℕ) (b : BodyPath) → slice_get before j ≡ Some b → Shown b) (m e : ℕ) where
    abbrev entry : Entry
    entry = record { subject = x; lock = l; before = before; method = m; status = e }

    by_ends : (i s : ℕ) (cites : Option ℕ) (ends : List Fact) (f : Fact) → cited_in before cites ≡ Some ends → Inside x l (status_masks x l) (At m e i s ∷ ends) f → Is (At m e i s) → Is f
    by_ends i s None ends f is r d = let none : [] ≡ ends = cc in inside r (rw (← none) d)
    by_ends i s (Some j) ends f is r d =
        let c = cited before j ends is in
        inside r (both d (rw c.is (shown j c.body c.there (inside (enters m e i s c.body r (ap (λ fs. At m e i s ∷ fs) c.is)) d))))

    -- before a step, wherever its pc is
    abbrev IsBefore : Step → Type 0
    IsBefore a = (i : ℕ) → index_at x.app m a.pc ≡ Some i → Is (At m e i a.status)

    leads : (a : Step) (f : Fact) → LeadsTo entry a f → IsBefore a → Is f
    leads a f to d = let h = to.by.holds in by_ends to.by.value a.status a.cites h.value f h.at h.holds.rule (d to.by.value to.by.at)

    module _ (steps : List Step) (f : Fact) (path : IsPath entry steps f) (enter : Is (At m e 0 e)) where
      first : (steps : List Step) (a : Step) → Begins entry steps → slice_get steps 0 ≡ Some a → IsBefore a
      first [] a b at i is = absurd b
      first (c ∷ steps) a b at i is =
          let same : c ≡ a = cc in
          let begins : index_at x.app m a.pc ≡ Some 0 = rw same at b.0 in
          let status : a.status ≡ e = rw same at b.1 in
          let zero : i ≡ 0 = (let found = is in cc) in
          rw (status, zero) enter

      before_step : (k : ℕ) (a : Step) → slice_get steps k ≡ Some a → IsBefore a
      before_step zero a at i is = first steps a path.begins at i is
      before_step (suc k) a at i is =
          let within = slice_get_within steps (suc k) a at in
          let c = get_or steps k a in
          let there = slice_get-get_or steps k a (omega arith) in
          let to = (path.goes_on k (omega arith)).next c a there (ap (slice_get steps) (add-one k) ∙ at) in
          let same : to.value ≡ i = (let found = to.at in cc) in
          subst (λ j. Is (At m e j a.status)) same (leads c (At m e to.value a.status) to.holds (before_step k c there))

      some : (steps : List Step) → Begins entry steps → 0 < length steps
      some [] b = absurd b
      some (a ∷ steps) b = omega arith

      one : (steps : List Step) → Begins entry steps → Step
      one [] b = absurd b
      one (a ∷ steps) b = a

      at_end : Is f
      at_end =
          let d = one steps path.begins in
          let lt = some steps path.begins in
          let k = length steps - 1 in
          let a = get_or steps k d in
          let there = slice_get-get_or steps k d (omega arith) in
          leads a f ((path.goes_on k (omega arith)).last a there (omega arith)) (before_step k a there)

  -- ---- all bodies, then all views
  module _ (sound : IsSubject x) (bodies : List BodyPath) (right : (k : ℕ) → RightBody x l bodies k) where
    abbrev case : Case
    case = record { subject = x; lock = l; ends = cited_in bodies }

    abbrev ShownAt : ℕ → Type 0
    ShownAt k = (b : BodyPath) → slice_get bodies k ≡ Some b → Shown b

    body_shown : (k : ℕ) → ((j : ℕ) → j < k → ShownAt j) → ShownAt k
    body_shown k below b at enter =
        at_end sound (take k bodies) (λ j c e. (let r = take_get bodies k j c e in below j r.0 c r.1)) b.method b.entry b.steps.items (end_of b) (right k b at) enter

    all_shown : (j : ℕ) (b : BodyPath) → slice_get bodies j ≡ Some b → Shown b
    all_shown j b at = from_below ShownAt body_shown (length bodies) j (slice_get_within bodies j b at) b at

    -- an edge from a view enters the body of its method
    begins : (c q s t e : ℕ) (edge : Edge) (b : BodyPath) {needs : List Fact} → Carries x l c edge s t needs → needs ≡ end_of b ∷ [] → edge_at x.list c e ≡ Some edge → edge.from ≡ q → Starts x l (View c q s ∷ []) (At b.method b.entry 0 b.entry)
    begins c q s t e edge b (outside none eq) is there from = absurd (cc)
    begins c q s t e edge b (by_method m method) is there from =
        let same : Ret m (Rattle.flow_model.specs.Rules.entered x l c edge s) t ≡ end_of b = cc in
        let of = returned_of b.thrown b.method b.entry b.exit m _ t same in
        rw (of.method, of.status) (V3 e there from method)

    ends_derived : (c q s t e : ℕ) (edge : Edge) (body : Option ℕ) (ends : List Fact) → cited_in bodies body ≡ Some ends → edge_at x.list c e ≡ Some edge → edge.from ≡ q → Carries x l c edge s t ends → Is (View c q s) → All ends
    ends_derived c q s t e edge None ends is there from carries d = let none : [] ≡ ends = cc in rw (← none) all_done
    ends_derived c q s t e edge (Some j) ends is there from carries d =
        let z = cited bodies j ends is in
        rw z.is (all_shown j z.body z.there (by_rule (inl (inr (begins c q s t e edge z.body carries z.is there from))) d all_done))

    carried : (v : ViewStep) (e s : ℕ) (edge : Edge) (body : Option ℕ) → edge_at x.list v.component e ≡ Some edge → (moves : Moves case v edge body s) → Is (fact_of v) → All moves.carried.value
    carried v e s edge body there moves d = ends_derived v.component v.state v.status s e edge body moves.carried.value moves.carried.at there moves.state moves.carried.holds d

    -- the rule for the edge of a view's own component
    own : (c q s t to e : ℕ) (edge : Edge) {needs : List Fact} → edge_at x.list c e ≡ Some edge → edge.from ≡ q → edge.to ≡ to → Carries x l c edge s t needs → Between x (Carries x l) (View c q s ∷ needs) (View c to t)
    own c q s t to e edge there from at (outside none eq) = V2 e there from at none (outside none eq)
    own c q s t to e edge there from at (by_method m method) = V4 e m there from at method (by_method m method)

    module _ (before : List ViewStep) (viewed : (j : ℕ) (v : ViewStep) → slice_get before j ≡ Some v → Is (fact_of v)) (v : ViewStep) where
      view_own : (j e : ℕ) (body : Option ℕ) → IsOwn case before v j e body → Is (fact_of v)
      view_own j e body h =
          let first = h.value in
          let edge = h.holds.value in
          let after = h.holds.holds in
          let d = viewed j first h.at in
          let r = own first.component first.state first.status v.status v.state e edge h.holds.at after.moves.state after.enters after.moves.carried.holds in
          let seen : Is (View first.component v.state v.status) = by_rule (inr r) (both d (carried first e v.status edge body h.holds.at after.moves d)) all_done in
          rw after.component at seen

      view_by : (by : By) → IsBy case before v by → Is (fact_of v)
      view_by Start h = rw (h.1, h.2) (by_rule (inr (V1 h.0)) all_done all_done)
      view_by (Outside j e) h = view_own j e None h
      view_by (Own j e body) h = view_own j e (Some body) h
      view_by (Other j w e body) h =
          let first = h.value in
          let mover = h.holds.value in
          let edge = h.holds.holds.value in
          let beside = h.holds.holds.holds in
          let d = viewed w mover h.holds.at in
          let f = viewed j first h.at in
          let r = V5 e beside.apart h.holds.holds.at beside.moves.state beside.moves.carried.holds in
          by_rule (inr r) (both (rw (beside.component, beside.state, beside.status) at f) (both d (carried mover e v.status edge body h.holds.holds.at beside.moves d))) all_done

    module _ (views : List ViewStep) (rights : (k : ℕ) → RightView case views k) where
      abbrev ViewedAt : ℕ → Type 0
      ViewedAt k = (v : ViewStep) → slice_get views k ≡ Some v → Is (fact_of v)

      view_step : (k : ℕ) → ((j : ℕ) → j < k → ViewedAt j) → ViewedAt k
      view_step k below v at = view_by (take k views) (λ j c e. (let r = take_get views k j c e in below j r.0 c r.1)) v v.by (rights k v at)

      all_viewed : (j : ℕ) (v : ViewStep) → slice_get views j ≡ Some v → Is (fact_of v)
      all_viewed j v at = from_below ViewedAt view_step (length views) j (slice_get_within views j v at) v at

pub derivable : (x : SubjectParts) (r : Report) → IsSubject x → IsValidReport x r → IsDerivableViolation x r.lock r.component r.callback r.status
derivable x r sound valid =
    let v = valid.exit.value in
    let ends = valid.exit.holds.value in
    let bad = valid.exit.holds.holds.violation in
    let d = all_viewed x r.lock sound r.bodies.items valid.bodies r.views.items valid.views r.view v valid.exit.at in
    let seen : fact_of v ≡ View r.component bad.state bad.before = (let is = bad.holds in cc) in
    let needs : ends ≡ bad.needs = (let is = bad.holds in cc) in
    let mine : Derived (Rules x r.lock) none_given (View r.component bad.state bad.before ∷ []) = rw seen at d in
    let rest = ends_derived x r.lock sound r.bodies.items valid.bodies r.component bad.state bad.before r.status bad.number bad.edge r.body ends valid.exit.holds.at bad.there bad.from (rw (← needs) at bad.carried) mine in
    record {
      state = bad.state;
      before = bad.before;
      number = bad.number;
      edge = bad.edge;
      needs = bad.needs;
      slot = bad.slot;
      there = bad.there;
      from = bad.from;
      callback = bad.callback;
      carried = bad.carried;
      holds = both x r.lock mine (rw needs at rest);
      exit = bad.exit;
      held = bad.held;
      answers = bad.answers;
    }
