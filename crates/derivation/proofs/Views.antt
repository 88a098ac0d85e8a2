-- One more view.
use Rattle.std.proofs.Common.{◌≡◌, ℕ, Bool, List, [], ◌∷◌, ◌++◌, length, Option, Some, None, refl, sym, ◌∙◌, arith, subst, inl, inr, ⊎_elim}
use Rattle.std.specs.Prelude.{slice_get, slice_index, take}
use Rattle.std.proofs.lemmas.Bool.{cases_lt}
use Rattle.std.proofs.lemmas.List.{take-append-le, length-append}
use Rattle.std.proofs.Math.Seq.{take-append_seam}
use Rattle.app_model.specs.Components.{edge_at}
use Rattle.app_model.specs.declared.component.Edge.{Edge}
use Rattle.app_model.specs.Facts.{Fact}
use Rattle.app_model.specs.Subject.{SubjectParts}
use Rattle.report_path.specs.declared.report.BodyPath.{BodyPath}
use Rattle.report_path.specs.declared.report.By.{By}
use Rattle.report_path.specs.declared.report.By.TheVariants.{Start, Outside, Own, Other}
use Rattle.report_path.specs.declared.report.ViewStep.{ViewStep}
use Rattle.report_path.specs.Lookups.{Has}
use Rattle.report_path.specs.Paths.{cited_in}
use Rattle.report_path.specs.Reports.{RightView}
use Rattle.report_path.specs.Views.{Case, IsBy, IsOwn, IsView, Moves}
use Rattle.report_path.proofs.Lists.{take_get}
use Rattle.fact_log.specs.declared.log.Line.{Line}
use Rattle.fact_log.specs.Logs.{case_of_lines, end_in}
use Rattle.derivation.specs.Cuts.{AreNumbered, AreViewed, ByNeeds, IsOneMoreView, IsSameView, Marked, by_of, case_by, cited_by, number_in, view_of}
use Rattle.derivation.proofs.Bodies.{index_new, index_old, push_cases, push_new, push_old}
use Rattle.derivation.proofs.Needs.{end_there}

pub cites : (lines : List Line) (marks : List Bool) (numbers : List ℕ) (bodies : List BodyPath) (end : Option ℕ) (ends : List Fact) → AreNumbered lines marks numbers bodies (length lines) → end_in lines end ≡ Some ends → ((n : ℕ) → end ≡ Some n → Marked marks n) → cited_in bodies (number_in numbers end) ≡ Some ends
cites lines marks numbers bodies None ends numbered at mark = at
cites lines marks numbers bodies (Some n) ends numbered at mark = numbered.body n ends (end_there lines n ends at) (mark n refl) at

module _ (t : SubjectParts) (l : ℕ) (lines : List Line) (marks : List Bool) (numbers : List ℕ) (bodies : List BodyPath) (numbered : AreNumbered lines marks numbers bodies (length lines)) where
  moved : (from y : ViewStep) (edge : Edge) (end : Option ℕ) (s : ℕ) → IsSameView from y → ((n : ℕ) → end ≡ Some n → Marked marks n) → Moves (case_of_lines t l lines) y edge end s → Moves (case_by t l bodies) from edge (number_in numbers end) s
  moved from y edge end s same mark m = record {
    state = m.state ∙ sym same.state;
    carried = record {
      value = m.carried.value;
      at = cites lines marks numbers bodies end m.carried.value numbered m.carried.at mark;
      holds = rw (same.component, same.status) m.carried.holds;
    };
  }

  module _ (views : List ViewStep) (seen : List Bool) (places : List ℕ) (made : List ViewStep) (k : ℕ) (viewed : AreViewed views seen places made k) (v w : ViewStep) (is : IsSameView w v) where
    there : (j : ℕ) (y : ViewStep) → slice_get (take k views) j ≡ Some y → Marked seen j → Has (slice_get made (slice_index places j)) (λ from. IsSameView from y)
    there j y at mark = let g = take_get views k j y at in viewed.view j y g.0 g.1 mark

    edge_same : (from y : ViewStep) (e : ℕ) (edge : Edge) → IsSameView from y → edge_at t.list y.component e ≡ Some edge → edge_at t.list from.component e ≡ Some edge
    edge_same from y e edge same at = rw same.component at

    own : (j e : ℕ) (end : Option ℕ) → IsOwn (case_of_lines t l lines) (take k views) v j e end → Marked seen j → ((n : ℕ) → end ≡ Some n → Marked marks n) → IsOwn (case_by t l bodies) made w (slice_index places j) e (number_in numbers end)
    own j e end h mark line =
        let y = h.value in
        let edge = h.holds.value in
        let m = h.holds.holds in
        let s = there j y h.at mark in
        record {
          value = s.value;
          at = s.at;
          holds = record {
            value = edge;
            at = edge_same s.value y e edge s.holds h.holds.at;
            holds = record {
              component = s.holds.component ∙ m.component ∙ sym is.component;
              enters = m.enters ∙ sym is.state;
              moves = subst (λ (u : ℕ). Moves (case_by t l bodies) s.value edge (number_in numbers end) u) (sym is.status) (moved s.value y edge end v.status s.holds line m.moves);
            };
          };
        }

    view_by : (by : By) → IsBy (case_of_lines t l lines) (take k views) v by → ((n : ℕ) → ByNeeds by n → Marked seen n) → ((n : ℕ) → cited_by by ≡ Some n → Marked marks n) → IsBy (case_by t l bodies) made w (by_of places numbers by)
    view_by Start h needs line = (rw is.component h.0, is.state ∙ h.1, is.status ∙ h.2)
    view_by (Outside j e) h needs line = own j e None h (needs j refl) line
    view_by (Own j e body) h needs line = own j e (Some body) h (needs j refl) line
    view_by (Other j n e body) h needs line =
        let y = h.value in
        let mover = h.holds.value in
        let edge = h.holds.holds.value in
        let m = h.holds.holds.holds in
        let s = there j y h.at (needs j (inl refl)) in
        let o = there n mover h.holds.at (needs n (inr refl)) in
        record {
          value = s.value;
          at = s.at;
          holds = record {
            value = o.value;
            at = o.at;
            holds = record {
              value = edge;
              at = edge_same o.value mover e edge o.holds h.holds.holds.at;
              holds = record {
                component = s.holds.component ∙ m.component ∙ sym is.component;
                state = s.holds.state ∙ m.state ∙ sym is.state;
                status = s.holds.status ∙ m.status ∙ sym o.holds.status;
                apart = λ e. m.apart (sym o.holds.component ∙ e ∙ is.component);
                moves = subst (λ (u : ℕ). Moves (case_by t l bodies) o.value edge (number_in numbers body) u) (sym is.status) (moved o.value mover edge body v.status o.holds line m.moves);
              };
            };
          };
        }

right_more : (t : Case) (views : List ViewStep) (v : ViewStep) → ((j : ℕ) → RightView t views j) → IsView t views v → (j : ℕ) → RightView t (views ++ v ∷ []) j
right_more t views v right is j x at =
    ⊎_elim
    (λ low. rw (take-append-le j views (v ∷ []) (omega (arith, low.0))) (right j x low.1))
    (λ r. rw (r.0, take-append_seam views (v ∷ [])) (subst (λ (x : ViewStep). IsView t views x) r.1 is))
    (push_cases views v j x at)

module _ (views : List ViewStep) (seen : List Bool) (numbers : List ℕ) (k : ℕ) (places : List ℕ) (made : List ViewStep) (v : ViewStep) (at : slice_get views k ≡ Some v) where
  pub no_view : (Marked seen k → ⊥) → IsOneMoreView views seen numbers k places made (places ++ 0 ∷ []) made
  no_view off lines before t l marks bodies serving =
      let m = before t l marks bodies serving in
      record {
        viewed = record {
          view = λ j z lt e mark. ⊎_elim
              (λ below. rw (index_old places 0 j (omega (arith, below, m.len))) (m.viewed.view j z below e mark))
              (λ past. absurd (let here : j ≡ k = omega arith in off (rw here at mark)))
              (cases_lt j k);
        };
        valid = m.valid;
        len = rw length-append (omega (arith, m.len));
      }

  pub one_view : Marked seen k → IsOneMoreView views seen numbers k places made (places ++ length made ∷ []) (made ++ view_of places numbers v ∷ [])
  one_view mark_here lines before t l marks bodies serving =
      let m = before t l marks bodies serving in
      let w = view_of places numbers v in
      let same : IsSameView w v = record { component = refl; state = refl; status = refl } in
      let served = serving.served t l serving.log k v (omega arith) at mark_here in
      let ok : IsView (case_by t l bodies) made w = view_by t l lines marks numbers bodies serving.numbered views seen places made k m.viewed v w same v.by (serving.log.seen k v at) served.places served.line in
      record {
        viewed = record {
          view = λ j z lt e mark. ⊎_elim
              (λ below. rw (index_old places (length made) j (omega (arith, below, m.len))) (let s = m.viewed.view j z below e mark in record { value = s.value; at = push_old made w _ s.value s.at; holds = s.holds }))
              (λ past. (let here : j ≡ length places = omega (arith, m.len) in
              let there : k ≡ length places = omega (arith, m.len) in
              let one : v ≡ z = (let e' = rw (here ∙ sym there) at e in cc) in
              rw (here, index_new places (length made)) (record { value = w; at = push_new made w; holds = subst (λ (z : ViewStep). IsSameView w z) one same })))
              (cases_lt j k);
        };
        valid = right_more (case_by t l bodies) made w m.valid ok;
        len = rw length-append (omega (arith, m.len));
      }
