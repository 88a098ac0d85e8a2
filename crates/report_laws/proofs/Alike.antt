-- Subjects that are alike have the same valid reports.
use Rattle.std.proofs.Common.{◌≡◌, ℕ, List, [], ◌∷◌, Option, Some, None, sym, ap, ◌∙◌, subst}
use Rattle.std.specs.Prelude.{take}
use Rattle.app_model.specs.declared.component.Edge.{Edge}
use Rattle.app_model.specs.Facts.{Fact, At}
use Rattle.app_model.specs.Subject.{SubjectParts}
use Rattle.flow_model.specs.InScope.{IsInScope}
use Rattle.flow_model.specs.Places.{Place}
use Rattle.one_scope.specs.Alike.{AreAlike}
use Rattle.one_scope.proofs.Instances.{inside_at}
use Rattle.one_scope.proofs.Owners.{beside, in_scope, is_second}
use Rattle.one_scope.proofs.Rules.{carries_over, violation_over}
use Rattle.report_path.specs.declared.report.BodyPath.{BodyPath}
use Rattle.report_path.specs.declared.report.By.{By}
use Rattle.report_path.specs.declared.report.By.TheVariants.{Start, Outside, Own, Other}
use Rattle.report_path.specs.declared.report.Report.{Report}
use Rattle.report_path.specs.declared.report.Step.{Step}
use Rattle.report_path.specs.declared.report.ViewStep.{ViewStep}
use Rattle.report_path.specs.Paths.{Begins, Entry, Follows, IsNext, IsPath, LeadsTo}
use Rattle.report_path.specs.Reports.{IsLast, IsValidReport}
use Rattle.report_path.specs.Views.{Case, IsBy, IsOther, IsOwn, Moves, fact_of}

module _ (x y : SubjectParts) (left : IsInScope x) (right : IsInScope (beside x y)) (l : ℕ) where
  abbrev z : SubjectParts
  z = beside x y

  follows_over : (needs : List Fact) (f : Fact) → Follows x l needs f → Follows z l needs f
  follows_over needs f h =
      let a = inside_at x y left right l h.rule in
      record { rule = a.0; stays = λ is. h.stays (ap (λ (p : Place). p.rule) (sym a.1) ∙ is) }

  -- ---- bodies
  module _ (before : List BodyPath) (m e : ℕ) where
    abbrev one : Entry
    one = record { subject = x; lock = l; before = before; method = m; status = e }

    abbrev other : Entry
    other = record { subject = z; lock = l; before = before; method = m; status = e }

    leads_over : (a : Step) (f : Fact) → LeadsTo one a f → LeadsTo other a f
    leads_over a f h = record {
      status = h.status;
      by = record {
        value = h.by.value;
        at = h.by.at;
        holds = record {
          value = h.by.holds.value;
          at = h.by.holds.at;
          holds = follows_over (At m e h.by.value a.status ∷ h.by.holds.value) f h.by.holds.holds;
        };
      };
    }

    next_over : (a b : Step) → IsNext one a b → IsNext other a b
    next_over a b h = record { value = h.value; at = h.at; holds = leads_over a (At m e h.value b.status) h.holds }

    path_over : (steps : List Step) (f : Fact) → IsPath one steps f → IsPath other steps f
    path_over steps f h = record {
      begins = begins_over steps h.begins;
      goes_on = λ k lt. (let g = h.goes_on k lt in record {
        next = λ a b ea eb. next_over a b (g.next a b ea eb);
        last = λ a ea e. leads_over a f (g.last a ea e);
      });
    }
      where
        begins_over : (steps : List Step) → Begins one steps → Begins other steps
        begins_over [] b = b
        begins_over (a ∷ steps) b = b

  -- ---- views
  module _ (ends : Option ℕ → Option (List Fact)) where
    abbrev first_case : Case
    first_case = record { subject = x; lock = l; ends = ends }

    abbrev second_case : Case
    second_case = record { subject = z; lock = l; ends = ends }

    moves_over : (v : ViewStep) (edge : Edge) (body : Option ℕ) (s : ℕ) → Moves first_case v edge body s → Moves second_case v edge body s
    moves_over v edge body s h = record {
      state = h.state;
      carried = record { value = h.carried.value; at = h.carried.at; holds = carries_over x y left right l h.carried.holds };
    }

    own_over : (before : List ViewStep) (v : ViewStep) (j e : ℕ) (body : Option ℕ) → IsOwn first_case before v j e body → IsOwn second_case before v j e body
    own_over before v j e body h =
        let is = h.holds.holds in
        record {
          value = h.value;
          at = h.at;
          holds = record {
            value = h.holds.value;
            at = h.holds.at;
            holds = record { component = is.component; enters = is.enters; moves = moves_over h.value h.holds.value body v.status is.moves };
          };
        }

    other_over : (before : List ViewStep) (v : ViewStep) (j w e : ℕ) (body : Option ℕ) → IsOther first_case before v j w e body → IsOther second_case before v j w e body
    other_over before v j w e body h =
        let is = h.holds.holds.holds in
        record {
          value = h.value;
          at = h.at;
          holds = record {
            value = h.holds.value;
            at = h.holds.at;
            holds = record {
              value = h.holds.holds.value;
              at = h.holds.holds.at;
              holds = record {
                component = is.component;
                state = is.state;
                status = is.status;
                apart = is.apart;
                moves = moves_over h.holds.value h.holds.holds.value body v.status is.moves;
              };
            };
          };
        }

    by_over : (before : List ViewStep) (v : ViewStep) (by : By) → IsBy first_case before v by → IsBy second_case before v by
    by_over before v Start h = h
    by_over before v (Outside j e) h = own_over before v j e None h
    by_over before v (Own j e body) h = own_over before v j e (Some body) h
    by_over before v (Other j w e body) h = other_over before v j w e body h

last_over : (x y : SubjectParts) (left : IsInScope x) (right : IsInScope (beside x y)) (r : Report) (v : ViewStep) (ends : List Fact) → IsLast x r v ends → IsLast (beside x y) r v ends
unfolding violation_over
last_over x y left right r v ends h = record {
  violation = violation_over x y left right r.lock (λ facts. facts ≡ fact_of v ∷ ends) (λ facts. facts ≡ fact_of v ∷ ends) (λ fs is. is) r.component r.callback r.status h.violation;
  edge = h.edge;
}

report_over : (x y : SubjectParts) → IsInScope x → IsInScope (beside x y) → (r : Report) → IsValidReport x r → IsValidReport (beside x y) r
report_over x y left right r h = record {
  bodies = λ k b there. path_over x y left right r.lock (take k r.bodies.items) b.method b.entry b.steps.items _ (h.bodies k b there);
  views = λ k v there. by_over x y left right r.lock _ (take k r.views.items) v v.by (h.views k v there);
  exit = record {
    value = h.exit.value;
    at = h.exit.at;
    holds = record {
      value = h.exit.holds.value;
      at = h.exit.holds.at;
      holds = last_over x y left right r h.exit.value h.exit.holds.value h.exit.holds.holds;
    };
  };
}

pub same_reports : (x y : SubjectParts) → AreAlike x y → (r : Report) → IsValidReport x r → IsValidReport y r
same_reports x y alike r h = subst (λ (z : SubjectParts). IsValidReport z r) (is_second x y alike) (report_over x y alike.first (in_scope x y alike) r h)
