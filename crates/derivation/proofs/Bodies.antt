-- One more body.
use Rattle.std.proofs.Common.{suc, zero, ◌≡◌, ℕ, ◌<◌, Bool, true, false, List, [], ◌∷◌, ◌++◌, length, Option, Some, None, refl, sym, ap, ◌∙◌, arith, subst, inl, inr, ⊎_elim}
use Rattle.std.specs.Prelude.{slice_get, slice_index, option_map, ◌⊎◌}
use Rattle.std.specs.Option.{option_and_then}
use Rattle.std.proofs.lemmas.Bool.{cases_lt}
use Rattle.std.proofs.lemmas.List.{take-append-le, length-append}
use Rattle.std.proofs.Math.Seq.{take-append_seam}
use Rattle.app_model.specs.Facts.{Fact}
use Rattle.app_model.specs.Subject.{SubjectParts}
use Rattle.report_path.specs.declared.goal.Goal.{Goal}
use Rattle.report_path.specs.declared.goal.Goal.TheVariants.{Before, Returned, Thrown}
use Rattle.report_path.specs.declared.report.BodyPath.{BodyPath}
use Rattle.report_path.specs.Paths.{IsBody, IsPath, cited_in, end_fact, end_of}
use Rattle.report_path.specs.Reports.{RightBody}
use Rattle.report_path.specs.Tests.{fact_at}
use Rattle.fact_log.specs.declared.log.Line.{Line}
use Rattle.fact_log.specs.Logs.{end_by, end_in, end_of_line, line_fact}
use Rattle.derivation.specs.Cuts.{IsOneMore, IsPathOf, IsReady, Marked, entry_at, thrown_by}

-- places of a list with one more
pub push_old : {A : Type 0} → (xs : List A) (y : A) (k : ℕ) (x : A) → slice_get xs k ≡ Some x → slice_get (xs ++ y ∷ []) k ≡ Some x
push_old [] y k x e = absurd (cc)
push_old (z ∷ xs) y zero x e = e
push_old (z ∷ xs) y (suc k) x e = push_old xs y k x e

pub push_new : {A : Type 0} → (xs : List A) (y : A) → slice_get (xs ++ y ∷ []) (length xs) ≡ Some y
push_new [] y = refl
push_new (z ∷ xs) y = push_new xs y

pub push_cases : {A : Type 0} → (xs : List A) (y : A) (k : ℕ) (x : A) → slice_get (xs ++ y ∷ []) k ≡ Some x → ((k < length xs) × (slice_get xs k ≡ Some x)) ⊎ ((k ≡ length xs) × (y ≡ x))
push_cases [] y zero x e = inr (refl, cc)
push_cases [] y (suc k) x e = absurd (cc)
push_cases (z ∷ xs) y zero x e = inl (omega arith, e)
push_cases (z ∷ xs) y (suc k) x e = ⊎_elim (λ l. inl (omega (arith, l.0), l.1)) (λ r. inr (ap suc r.0, r.1)) (push_cases xs y k x e)

pub index_old : (ns : List ℕ) (n j : ℕ) → j < length ns → slice_index (ns ++ n ∷ []) j ≡ slice_index ns j
index_old [] n j lt = absurd (omega arith)
index_old (m ∷ ns) n zero lt = refl
index_old (m ∷ ns) n (suc j) lt = index_old ns n j (omega (arith, lt))

pub index_new : (ns : List ℕ) (n : ℕ) → slice_index (ns ++ n ∷ []) (length ns) ≡ n
index_new [] n = refl
index_new (m ∷ ns) n = index_new ns n

pub cited_more : (bodies : List BodyPath) (b : BodyPath) (j : ℕ) (ends : List Fact) → cited_in bodies (Some j) ≡ Some ends → cited_in (bodies ++ b ∷ []) (Some j) ≡ Some ends
cited_more bodies b j ends is = go (slice_get bodies j) refl is
  where
    go : (o : Option BodyPath) → slice_get bodies j ≡ o → option_map (λ (b : BodyPath). end_of b ∷ []) o ≡ Some ends → cited_in (bodies ++ b ∷ []) (Some j) ≡ Some ends
    go None at e = absurd (cc)
    go (Some c) at e = ap (option_map (λ (b : BodyPath). end_of b ∷ [])) (push_old bodies b j c at) ∙ e

right_more : (t : SubjectParts) (l : ℕ) (bodies : List BodyPath) (b : BodyPath) → ((j : ℕ) → RightBody t l bodies j) → IsBody t l bodies b → (j : ℕ) → RightBody t l (bodies ++ b ∷ []) j
right_more t l bodies b right is j x at =
    ⊎_elim
    (λ low. rw (take-append-le j bodies (b ∷ []) (omega (arith, low.0))) (right j x low.1))
    (λ r. rw (r.0, take-append_seam bodies (b ∷ [])) (subst (λ (x : BodyPath). IsBody t l bodies x) r.1 is))
    (push_cases bodies b j x at)

-- what a line shows where it is an end
end_shown : (g : Goal) (m e s : ℕ) (thrown : Bool) → thrown_by g ≡ Some thrown → fact_at g m e s ≡ end_fact thrown m e s
end_shown (Before i) m e s thrown is = absurd (cc)
end_shown Returned m e s true is = absurd (cc)
end_shown Returned m e s false is = refl
end_shown Thrown m e s true is = refl
end_shown Thrown m e s false is = absurd (cc)

end_is : (g : Goal) (f : Fact) (thrown : Bool) (ends : List Fact) → thrown_by g ≡ Some thrown → end_by g f ≡ Some ends → ends ≡ f ∷ []
end_is (Before i) f thrown ends is e = absurd (cc)
end_is Returned f thrown ends is e = cc
end_is Thrown f thrown ends is e = cc

no_end : (g : Goal) (f : Fact) (ends : List Fact) → None ≡ thrown_by g → end_by g f ≡ Some ends → ⊥
no_end (Before i) f ends off e = cc
no_end Returned f ends off e = cc
no_end Thrown f ends off e = cc

module _ (t : SubjectParts) (lines : List Line) (marks : List Bool) (k : ℕ) (numbers : List ℕ) (bodies : List BodyPath) (x : Line) (at : slice_get lines k ≡ Some x) where
  shows : (j : ℕ) (ends : List Fact) → j ≡ k → end_in lines (Some j) ≡ Some ends → end_of_line x ≡ Some ends
  shows j ends here e = sym (ap (option_and_then end_of_line) (ap (slice_get lines) here ∙ at)) ∙ e

  pub none_more : ((ends : List Fact) → Marked marks k → end_of_line x ≡ Some ends → ⊥) → IsOneMore t lines marks k numbers bodies (numbers ++ 0 ∷ []) bodies
  none_more off made l sound led settled =
      let m = made l sound led settled in
      record {
        numbered = record {
          body = λ j ends lt mark e. ⊎_elim
              (λ below. rw (index_old numbers 0 j (omega (arith, below, m.len))) (m.numbered.body j ends below mark e))
              (λ past. absurd (let here : j ≡ k = omega arith in off ends (rw here at mark) (shows j ends here e)))
              (cases_lt j k);
        };
        valid = m.valid;
        len = rw length-append (omega (arith, m.len));
      }

  pub no_body : None ≡ thrown_by x.goal → IsOneMore t lines marks k numbers bodies (numbers ++ 0 ∷ []) bodies
  no_body off = none_more (λ ends mark e. no_end x.goal (line_fact x) ends off e)

  module _ (thrown : Bool) (is_end : thrown_by x.goal ≡ Some thrown) (mark_here : Marked marks k) (b : BodyPath) (method : b.method ≡ x.method) (entry : b.entry ≡ x.entry) (kind : b.thrown ≡ thrown) (exit : b.exit ≡ x.status) (path : IsPathOf t lines numbers k x b.steps.items) where
    end_same : end_of b ≡ line_fact x
    end_same = rw (method, entry, kind, exit) (sym (end_shown x.goal x.method x.entry x.status thrown is_end))

    pub one_more : IsOneMore t lines marks k numbers bodies (numbers ++ length bodies ∷ []) (bodies ++ b ∷ [])
    one_more made l sound led settled =
        let m = made l sound led settled in
        let ready : IsReady t l lines marks numbers bodies k = record { sound = sound; led = led; settled = settled; numbered = m.numbered } in
        let way : IsPath (entry_at t l bodies x) b.steps.items (end_of b) = rw end_same (path l marks bodies thrown ready mark_here is_end) in
        let body : IsBody t l bodies b = subst (λ (e : ℕ). IsPath (record { subject = t; lock = l; before = bodies; method = b.method; status = e }) b.steps.items (end_of b)) (sym entry) (subst (λ (m : ℕ). IsPath (record { subject = t; lock = l; before = bodies; method = m; status = x.entry }) b.steps.items (end_of b)) (sym method) way) in
        record {
          numbered = record {
            body = λ j ends lt mark e. ⊎_elim
                (λ below. rw (index_old numbers (length bodies) j (omega (arith, below, m.len))) (cited_more bodies b _ ends (m.numbered.body j ends below mark e)))
                (λ past. (let here : j ≡ k = omega arith in
                let there : j ≡ length numbers = omega (arith, m.len) in
                let fact : ends ≡ line_fact x ∷ [] = end_is x.goal (line_fact x) thrown ends is_end (shows j ends here e) in
                let shown : cited_in (bodies ++ b ∷ []) (Some (length bodies)) ≡ Some (end_of b ∷ []) = ap (option_map (λ (b : BodyPath). end_of b ∷ [])) (push_new bodies b) in
                rw (there, index_new numbers (length bodies)) (shown ∙ ap (λ (f : Fact). Some (f ∷ [])) end_same ∙ ap Some (sym fact))))
                (cases_lt j k);
          };
          valid = right_more t l bodies b m.valid body;
          len = rw length-append (omega (arith, m.len));
        }
