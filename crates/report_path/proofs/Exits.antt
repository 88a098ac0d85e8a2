-- The last step of a report.
use Rattle.std.proofs.Common.{◌≡◌, ℕ, Bool, true, List, ◌∷◌, Option, Some, None, refl, sym, ap, ◌∙◌, subst, ◌<◌}
use Rattle.std.specs.Prelude.{◌↔◌, IsTrue, length, slice_get}
use Rattle.std.proofs.lemmas.Option.{slice_get_within}
use Rattle.app_model.specs.declared.component.Edge.{Edge}
use Rattle.app_model.specs.Components.{ComponentParts, exits_at, exits_of}
use Rattle.app_model.specs.Facts.{Fact, View}
use Rattle.app_model.specs.Masks.{in_mask, is_held}
use Rattle.app_model.specs.Subject.{SubjectParts, answers_at, slot_count}
use Rattle.flow_model.proofs.MaskLaws.{IsIn-zero}
use Rattle.flow_model.specs.Rules.{Carries}
use Rattle.report_path.specs.declared.report.Report.{Report}
use Rattle.report_path.specs.Lookups.{Has}
use Rattle.report_path.specs.Reports.{IsExit, case_of}
use Rattle.report_path.specs.Tests.{IsEnd, IsUnmet}

-- a component with an exit is listed
pub exit_within : (list : List ComponentParts) (c k : ℕ) → in_mask (exits_at list c) k ≡ true → c < length list
unfolding exits_at
exit_within list c k on = go (slice_get list c) refl on
  where
    go : (o : Option ComponentParts) → slice_get list c ≡ o → in_mask (exits_of o) k ≡ true → c < length list
    go None at on = absurd (IsIn-zero k on)
    go (Some row) at on = slice_get_within list c row at

module _ (x : SubjectParts) (l c : ℕ) (edge : Edge) (t : ℕ) where
  carries_as : (c' s s' : ℕ) (ends ends' : List Fact) → c ≡ c' → s ≡ s' → ends ≡ ends' → Carries x l c edge s t ends → Carries x l c' edge s' t ends'
  carries_as c' s s' ends ends' component status facts is =
      subst (λ k. Carries x l k edge s' t ends') component (subst (λ u. Carries x l c edge u t ends') status (subst (λ fs. Carries x l c edge s t fs) facts is))

-- what two views with what is cited have in common
record IsSame (c q s d p u : ℕ) (ends others : List Fact) : Type 0 where
  component : c ≡ d
  state : q ≡ p
  status : s ≡ u
  facts : ends ≡ others

same_views : (c q s d p u : ℕ) (ends others : List Fact) → View c q s ∷ ends ≡ View d p u ∷ others → IsSame c q s d p u ends others
same_views c q s d p u ends others is = record { component = cc; state = cc; status = cc; facts = cc }

module _ (x : SubjectParts) (r : Report) where
  pub unmet_of : IsExit x r → IsUnmet x r
  unmet_of h = (let v = h.holds.holds.violation in record { slot = v.slot; exit = v.exit; held = v.held; answers = v.answers })

  pub unmet_test : (on : Bool) → r.lock < slot_count x → in_mask (exits_at x.list r.component) r.callback ≡ true → is_held r.status ≡ true → on ≡ answers_at x r.component r.lock → IsTrue on ↔ IsUnmet x r
  unmet_test on slot exit held is = (λ t. record { slot = slot; exit = exit; held = held; answers = (let on = t in cc) }, λ u. (let answers = u.answers in cc))

  pub end_of_exit : IsExit x r → Has (slice_get r.views.items r.view) (λ v. IsEnd (case_of x r) r v)
  end_of_exit h =
      let v = h.value in
      let cited = h.holds in
      let i = cited.holds.violation in
      let same = same_views r.component i.state i.before v.component v.state v.status i.needs cited.value i.holds in
      record {
        value = v;
        at = h.at;
        holds = (
          sym same.component,
          record {
            value = i.edge;
            at = (let there = i.there in let number = cited.holds.edge in rw number at there);
            holds = record {
              callback = i.callback;
              moves = record {
                state = i.from ∙ same.state;
                carried = record {
                  value = cited.value;
                  at = cited.at;
                  holds = carries_as x r.lock r.component i.edge r.status v.component i.before v.status i.needs cited.value same.component same.status same.facts i.carried;
                };
              };
            };
          },
        );
      }

  pub exit_of_end : IsUnmet x r → Has (slice_get r.views.items r.view) (λ v. IsEnd (case_of x r) r v) → IsExit x r
  exit_of_end unmet h =
      let v = h.value in
      let by = h.holds.1 in
      let cited = by.holds.moves.carried in
      record {
        value = v;
        at = h.at;
        holds = record {
          value = cited.value;
          at = cited.at;
          holds = record {
            violation = record {
              state = v.state;
              before = v.status;
              number = r.edge;
              edge = by.value;
              needs = cited.value;
              slot = unmet.slot;
              there = by.at;
              from = by.holds.moves.state;
              callback = by.holds.callback;
              carried = subst (λ c. Carries x r.lock c by.value v.status r.status cited.value) h.holds.0 cited.holds;
              holds = ap (λ c. View c v.state v.status ∷ cited.value) (sym h.holds.0);
              exit = unmet.exit;
              held = unmet.held;
              answers = unmet.answers;
            };
            edge = refl;
          };
        };
      }
