-- The way from an end back to the entry of its method.
use Rattle.std.proofs.Common.{suc, zero, ◌≡◌, ℕ, ◌+◌, ◌<◌, ◌≤◌, Bool, false, List, [], ◌∷◌, ◌++◌, length, Option, Some, None, refl, sym, ap, ◌∙◌, arith, subst, inl, inr, ⊎_elim}
use Rattle.std.specs.Prelude.{slice_get, take, reverse}
use Rattle.std.proofs.lemmas.Bool.{cases_lt}
use Rattle.std.proofs.lemmas.List.{reverse-append}
use Rattle.app_model.specs.Facts.{Fact, At}
use Rattle.app_model.specs.Parts.{AppParts}
use Rattle.app_model.specs.Subject.{SubjectParts, IsSubject}
use Rattle.app_model.specs.Words.{code_len, pc_at, places_of}
use Rattle.report_path.specs.declared.goal.Goal.{Goal}
use Rattle.report_path.specs.declared.goal.Goal.TheVariants.{Before}
use Rattle.report_path.specs.declared.report.BodyPath.{BodyPath}
use Rattle.report_path.specs.declared.report.Step.{Step}
use Rattle.report_path.specs.Lookups.{Has}
use Rattle.report_path.specs.Paths.{Entry, Follows, GoesOn, IsNext, IsPath, LeadsTo, cited_in, index_at}
use Rattle.report_path.specs.Tests.{fact_at}
use Rattle.report_path.proofs.Pcs.{index_is, place_pc}
use Rattle.fact_log.specs.declared.log.Line.{Line}
use Rattle.fact_log.specs.declared.log.Why.{Why}
use Rattle.fact_log.specs.declared.log.Why.TheVariants.{Entered, Led}
use Rattle.fact_log.specs.Logs.{IsLineBy, LeadsOn, end_in, line_fact}
use Rattle.fact_log.proofs.Citing.{no_place}
use Rattle.derivation.specs.Cuts.{AreNumbered, IsPathOf, IsPc, IsReady, Marked, WhyNeeds, before_of, ended_by, entry_at, number_in, thrown_by}
use Rattle.derivation.proofs.Needs.{end_take}

get_in : {A : Type 0} → (xs : List A) (i : ℕ) → i < length xs → (x : A) × (slice_get xs i ≡ Some x)
get_in [] i lt = absurd (omega arith)
get_in (x ∷ xs) zero lt = (x, refl)
get_in (x ∷ xs) (suc i) lt = get_in xs i (omega (arith, lt))

pc_in : (app : AppParts) (m i : ℕ) → i < code_len app m → (p : ℕ) × (pc_at app m i ≡ Some p)
pc_in app m i lt = let g = get_in (places_of app m) i lt in (g.0.pc, place_pc app m i g.0 g.1)

-- a step stands where a line does
pub record IsStep (app : AppParts) (x : Line) (a : Step) : Type 0 where
  pub index : ℕ
  pub place : x.goal ≡ Before index
  pub at : index_at app x.method a.pc ≡ Some index
  pub pc : pc_at app x.method index ≡ Some a.pc
  pub status : a.status ≡ x.status

-- the step of line y leads to line x
pub record IsJoined (t : SubjectParts) (l : ℕ) (bodies : List BodyPath) (y x : Line) (a : Step) : Type 0 where
  pub method : y.method ≡ x.method
  pub entry : y.entry ≡ x.entry
  pub is : IsStep t.app y a
  pub leads : LeadsTo (entry_at t l bodies x) a (line_fact x)

module _ (t : SubjectParts) (l : ℕ) (lines : List Line) (marks : List Bool) (numbers : List ℕ) (bodies : List BodyPath) (here : ℕ) (sound : IsSubject t) (numbered : AreNumbered lines marks numbers bodies here) where
  cited : (end : Option ℕ) (ends : List Fact) → end_in (take here lines) end ≡ Some ends → ((n : ℕ) → end ≡ Some n → Marked marks n) → cited_in bodies (number_in numbers end) ≡ Some ends
  cited None ends at mark = at
  cited (Some n) ends at mark = let g = end_take lines here n ends at in numbered.body n ends g.0 (mark n refl) g.1

  module _ (before : List Line) (end : Option ℕ) (m e i s : ℕ) (f : Fact) (h : Has (end_in before end) (λ ends. Follows t l (At m e i s ∷ ends) f)) where
    abbrev InRange : Type 0
    InRange = (m < length t.app.methods) × (i < code_len t.app m)

    off : (InRange → ⊥) → InRange
    off none = absurd (let z = (no_place t l sound false before end m e i s f (λ on. absurd (cc), λ in_range. absurd (none in_range)) refl).1 h in cc)

    range : InRange
    range = ⊎_elim
        (λ lt. ⊎_elim (λ low. (lt, low)) (λ past. off (λ r. (let z = r.1 in omega arith))) (cases_lt i (code_len t.app m)))
        (λ past. off (λ r. (let z = r.0 in omega arith)))
        (cases_lt m (length t.app.methods))

  pub joined : (y x : Line) (end : Option ℕ) (pc : ℕ) → LeadsOn t l (take here lines) end x y → ((n : ℕ) → end ≡ Some n → Marked marks n) → IsPc t.app y.method y.goal pc
      → IsJoined t l bodies y x (record { pc = pc; status = y.status; cites = number_in numbers end })
  joined y x end pc h mark is =
      let r = range (take here lines) end y.method y.entry h.index y.status (line_fact x) h.by in
      let p = pc_in t.app y.method h.index r.1 in
      let same : pc ≡ p.0 = is h.index p.0 h.place r.0 r.1 p.1 in
      let own : pc_at t.app y.method h.index ≡ Some pc = p.1 ∙ ap Some (sym same) in
      let found : index_at t.app y.method pc ≡ Some h.index = sym (index_is t.app y.method sound.sound r.0 h.index pc own) in
      record {
        method = h.method;
        entry = h.entry;
        is = record { index = h.index; place = h.place; at = found; pc = own; status = refl };
        leads = record {
          status = h.status;
          by = record {
            value = h.index;
            at = subst (λ (m : ℕ). index_at t.app m pc ≡ Some h.index) h.method found;
            holds = record {
              value = h.by.value;
              at = cited end h.by.value h.by.at mark;
              holds = subst (λ (m : ℕ). Follows t l (At m x.entry h.index y.status ∷ h.by.value) (line_fact x)) h.method (subst (λ (e : ℕ). Follows t l (At y.method e h.index y.status ∷ h.by.value) (line_fact x)) h.entry h.by.holds);
            };
          };
        };
      }

module _ (t : Entry) (f : Fact) where
  pub one_item : (a : Step) → LeadsTo t a f → (k : ℕ) → k < length (a ∷ []) → GoesOn t (a ∷ []) f k
  one_item a h zero lt = record { next = λ x y ex ey. absurd (cc); last = λ x ex e. (let same : a ≡ x = cc in subst (λ a. LeadsTo t a f) same h) }
  one_item a h (suc i) lt = absurd (omega arith)

  pub more_items : (a b : Step) (steps : List Step) → IsNext t a b → ((k : ℕ) → k < length (b ∷ steps) → GoesOn t (b ∷ steps) f k) → (k : ℕ) → k < length (a ∷ b ∷ steps) → GoesOn t (a ∷ b ∷ steps) f k
  more_items a b steps h rest zero lt = record {
    next = λ x y ex ey. (let same : a ≡ x = cc in let other : b ≡ y = cc in subst (λ b. IsNext t x b) other (subst (λ a. IsNext t a b) same h));
    last = λ x ex e. absurd (omega arith);
  }
  more_items a b steps h rest (suc i) lt =
      let g = rest i (omega (arith, lt)) in
      let shift : suc i + 1 ≡ suc (i + 1) = omega arith in
      record {
        next = λ x y ex ey. g.next x y ex (sym (ap (slice_get (a ∷ b ∷ steps)) shift) ∙ ey);
        last = λ x ex e. g.last x ex (omega (arith, e));
      }

-- the steps from a line on to the end, which is the line x0
abbrev pub IsRest : SubjectParts → (l : ℕ) → List BodyPath → (x0 x : Line) → List Step → Type 0
IsRest t l bodies x0 x [] = x ≡ x0
IsRest t l bodies x0 x (a ∷ steps) = (x.method ≡ x0.method) × (x.entry ≡ x0.entry) × IsStep t.app x a × ((k : ℕ) → k < length (a ∷ steps) → GoesOn (entry_at t l bodies x0) (a ∷ steps) (line_fact x0) k)

abbrev entry_of : SubjectParts → (l : ℕ) → List BodyPath → (m e : ℕ) → Entry
entry_of t l bodies m e = record { subject = t; lock = l; before = bodies; method = m; status = e }

next_to : (t : SubjectParts) (l : ℕ) (bodies : List BodyPath) (x0 x y : Line) (a b : Step) → x.method ≡ x0.method → x.entry ≡ x0.entry → IsStep t.app x b → IsJoined t l bodies y x a → IsNext (entry_at t l bodies x0) a b
next_to t l bodies x0 x y a b same from is j =
    let fact : line_fact x ≡ At x.method x.entry is.index b.status = ap (λ (g : Goal). fact_at g x.method x.entry x.status) is.place ∙ ap (λ (s : ℕ). At x.method x.entry is.index s) (sym is.status) in
    let one : LeadsTo (entry_of t l bodies x.method x.entry) a (At x.method x.entry is.index b.status) = subst (λ (f : Fact). LeadsTo (entry_of t l bodies x.method x.entry) a f) fact j.leads in
    record {
      value = is.index;
      at = subst (λ (m : ℕ). index_at t.app m b.pc ≡ Some is.index) same is.at;
      holds = subst (λ (e : ℕ). LeadsTo (entry_of t l bodies x0.method e) a (At x0.method e is.index b.status)) from (subst (λ (m : ℕ). LeadsTo (entry_of t l bodies m x.entry) a (At m x.entry is.index b.status)) same one);
    }

pub rest_more : (t : SubjectParts) (l : ℕ) (bodies : List BodyPath) (x0 x y : Line) (a : Step) (steps : List Step) → IsRest t l bodies x0 x steps → IsJoined t l bodies y x a → IsRest t l bodies x0 y (a ∷ steps)
rest_more t l bodies x0 x y a [] r j =
    subst (λ (x : Line). IsJoined t l bodies y x a → IsRest t l bodies x0 y (a ∷ [])) (sym r) (λ k. (k.method, k.entry, k.is, one_item (entry_at t l bodies x0) (line_fact x0) a k.leads)) j
rest_more t l bodies x0 x y a (b ∷ steps) r j =
    (j.method ∙ r.0, j.entry ∙ r.1, j.is, more_items (entry_at t l bodies x0) (line_fact x0) a b steps (next_to t l bodies x0 x y a b r.0 r.1 r.2 j) r.3)

pub why_led : (w : Why) (from : ℕ) → Some from ≡ before_of w → w ≡ Led from (ended_by w)
why_led Entered from is = absurd (cc)
why_led (Led f end) from is = let same : f ≡ from = cc in ap (λ (n : ℕ). Led n end) same

pub why_entered : (w : Why) → None ≡ before_of w → w ≡ Entered
why_entered Entered is = refl
why_entered (Led f end) is = absurd (cc)

-- what the walk keeps
abbrev pub IsWalk : SubjectParts → List Line → List ℕ → ℕ → Line → ℕ → Line → List Step → Type 0
IsWalk t lines numbers k x0 here x steps = (l : ℕ) (marks : List Bool) (bodies : List BodyPath) → IsReady t l lines marks numbers bodies k → Marked marks k → Marked marks here × IsRest t l bodies x0 x steps

abbrev pub AreWalks : AppParts → List Line → List ℕ → ℕ → Line → ℕ → Line → List Step → Type 0
AreWalks app lines numbers k x0 here x steps = (t : SubjectParts) → t.app ≡ app → IsWalk t lines numbers k x0 here x steps

module _ (app : AppParts) (lines : List Line) (numbers : List ℕ) (k : ℕ) (x0 : Line) (here : ℕ) (x : Line) (steps : List Step) (at : slice_get lines here ≡ Some x) (low : here ≤ k) (walks : AreWalks app lines numbers k x0 here x (reverse steps)) where
  module _ (from : ℕ) (end : Option ℕ) (why : x.why ≡ Led from end) where
    pub walk_more : (y : Line) (pc : ℕ) → slice_get (take here lines) from ≡ Some y → IsPc app y.method y.goal pc
        → AreWalks app lines numbers k x0 from y (reverse (steps ++ record { pc = pc; status = y.status; cites = number_in numbers end } ∷ []))
    walk_more y pc there is t own l marks bodies ready mark =
        let w = walks t own l marks bodies ready mark in
        let needs : (n : ℕ) → WhyNeeds (Led from end) n → Marked marks n = subst (λ (r : Why). (n : ℕ) → WhyNeeds r n → Marked marks n) why (ready.settled t l ready.led here x (omega arith) at w.0) in
        let h : IsLineBy t l (take here lines) x (Led from end) = subst (λ (r : Why). IsLineBy t l (take here lines) x r) why (ready.led here x at) in
        let same : h.value ≡ y = (let e = h.at in cc) in
        let leads : LeadsOn t l (take here lines) end x y = subst (λ (y : Line). LeadsOn t l (take here lines) end x y) same h.holds in
        let pcs : IsPc t.app y.method y.goal pc = subst (λ (a : AppParts). IsPc a y.method y.goal pc) (sym own) is in
        let numbered : AreNumbered lines marks numbers bodies here = record { body = λ j ends lt. ready.numbered.body j ends (omega arith) } in
        let a : Step = record { pc = pc; status = y.status; cites = number_in numbers end } in (
          needs from (inl refl),
          rw (reverse-append steps (a ∷ [])) (rest_more t l bodies x0 x y a (reverse steps) w.1 (joined t l lines marks numbers bodies here ready.sound numbered y x end pc leads (λ n cites. needs n (inr cites)) pcs)),
        )

    pub walk_stops : None ≡ slice_get (take here lines) from → (t : SubjectParts) → t.app ≡ app → IsPathOf t lines numbers k x0 (reverse steps)
    walk_stops off t own l marks bodies thrown ready mark is =
        let h : IsLineBy t l (take here lines) x (Led from end) = subst (λ (r : Why). IsLineBy t l (take here lines) x r) why (ready.led here x at) in
        absurd (let e = h.at in cc)

  rest_path : (t : SubjectParts) (l : ℕ) (bodies : List BodyPath) (thrown : Bool) (rest : List Step) → (x.goal ≡ Before 0) × (x.status ≡ x.entry) → IsRest t l bodies x0 x rest → thrown_by x0.goal ≡ Some thrown → IsPath (entry_at t l bodies x0) rest (line_fact x0)
  rest_path t l bodies thrown [] first r is = absurd (let g : thrown_by (Before 0) ≡ Some thrown = subst (λ (g : Goal). thrown_by g ≡ Some thrown) first.0 (subst (λ (z : Line). thrown_by z.goal ≡ Some thrown) (sym r) is) in cc)
  rest_path t l bodies thrown (b ∷ rest) first r is =
      let zeroth : r.2.index ≡ 0 = (let g : Before r.2.index ≡ Before 0 = sym r.2.place ∙ first.0 in cc) in
      let at : index_at t.app x.method b.pc ≡ Some 0 = r.2.at ∙ ap Some zeroth in
      record { begins = (subst (λ (m : ℕ). index_at t.app m b.pc ≡ Some 0) r.0 at, r.2.status ∙ first.1 ∙ r.1); goes_on = r.3 }

  pub walk_ends : x.why ≡ Entered → (t : SubjectParts) → t.app ≡ app → IsPathOf t lines numbers k x0 (reverse steps)
  walk_ends why t own l marks bodies thrown ready mark is =
      let w = walks t own l marks bodies ready mark in
      let first : IsLineBy t l (take here lines) x Entered = subst (λ (r : Why). IsLineBy t l (take here lines) x r) why (ready.led here x at) in
      rest_path t l bodies thrown (reverse steps) first w.1 is
