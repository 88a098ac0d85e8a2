-- What searches leave out is out of range.
use Rattle.std.proofs.Common.{◌≡◌, ℕ, ◌<◌, ◌≤◌, true, List, length, Option, Some, None, refl, ap, ⊎_elim, arith}
use Rattle.std.specs.Prelude.{slice_get}
use Rattle.std.specs.Option.{option_and_then}
use Rattle.std.proofs.lemmas.Bool.{cases_lt}
use Rattle.std.proofs.lemmas.Option.{slice_get_past}
use Rattle.app_model.specs.Components.{ComponentParts, edge_at, edge_of, edges_of}
use Rattle.app_model.specs.declared.component.Edge.{Edge}
use Rattle.app_model.specs.declared.component.Kind.{Kind}
use Rattle.app_model.specs.declared.component.Kind.TheVariants.{Activity, Service, Receiver, Runnable}
use Rattle.app_model.specs.Facts.{View}
use Rattle.report_path.specs.declared.goal.Goal.{Goal}
use Rattle.report_path.specs.declared.goal.Goal.TheVariants.{Before, Returned, Thrown}
use Rattle.report_path.specs.declared.report.By.{By}
use Rattle.report_path.specs.declared.report.By.TheVariants.{Start, Outside, Own, Other}
use Rattle.report_path.specs.declared.report.ViewStep.{ViewStep}
use Rattle.report_path.specs.Lookups.{Has}
use Rattle.report_path.specs.Tests.{fact_at}
use Rattle.report_path.specs.Views.{IsBy, Moves}
use Rattle.solution.specs.Facts.{holds, place_count}
use Rattle.solution.proofs.Bits.{none_has}
use Rattle.fact_log.specs.declared.log.Line.{Line}
use Rattle.fact_log.specs.declared.log.Why.{Why}
use Rattle.fact_log.specs.declared.log.Why.TheVariants.{Entered, Led}
use Rattle.fact_log.specs.Logs.{end_in, end_of_line}
use Rattle.fact_log.specs.Work.{AreMissing, IsNewLine, IsNewView, IsWork, WorkParts, case_in, led, line, moved, moved_by, view}
use Rattle.fact_log.proofs.Growing.{small_at, small_view}
use Rattle.fact_log.proofs.Ranges.{at_place, ret_within, exc_within, view_within}

nothing : {A : Type 0} {P : A → Type 0} (o : Option A) → o ≡ None → Has o P → ⊥
nothing o none h = (let at = h.at in absurd (cc))

past_end : (lines : List Line) (j : ℕ) → length lines ≤ j → end_in lines (Some j) ≡ None
past_end lines j past = ap (option_and_then end_of_line) (slice_get_past lines j past)

few_edges : (kind : Kind) → length (edges_of kind) ≤ 16
few_edges Activity = omega arith
few_edges Service = omega arith
few_edges Receiver = omega arith
few_edges Runnable = omega arith

no_edge : (list : List ComponentParts) (c e : ℕ) → 16 ≤ e → edge_at list c e ≡ None
unfolding edge_at
no_edge list c e past = go (slice_get list c)
  where
    go : (o : Option ComponentParts) → edge_of o e ≡ None
    go None = refl
    go (Some row) = slice_get_past (edges_of row.kind) e (let few = few_edges row.kind in omega arith)

module _ (w : WorkParts) where
  module _ (x : Line) (n : ℕ) where
    pub all_ends : (from : ℕ) → length w.lines ≤ n → (¬ IsNewLine w (led x from None)) × ((k : ℕ) → k < n → ¬ IsNewLine w (led x from (Some k))) → (end : Option ℕ) → ¬ IsNewLine w (led x from end)
    all_ends from past off None = off.0
    all_ends from past off (Some j) = λ new. ⊎_elim (λ lt. off.1 j lt new) (λ ge. nothing (end_in w.lines (Some j)) (past_end w.lines j (omega arith)) new.led.holds.by) (cases_lt j n)

    pub all_whys : length w.lines ≤ n → (¬ IsNewLine w (line x.method x.entry x.goal x.status Entered)) × ((k : ℕ) → k < n → (end : Option ℕ) → ¬ IsNewLine w (led x k end)) → (why : Why) → ¬ IsNewLine w (line x.method x.entry x.goal x.status why)
    all_whys past off Entered = off.0
    all_whys past off (Led from end) = λ new. ⊎_elim (λ lt. off.1 from lt end new) (λ ge. nothing (slice_get w.lines from) (slice_get_past w.lines from (omega arith)) new.led) (cases_lt from n)

  pub all_statuses : (m e : ℕ) (goal : Goal) (n : ℕ) → 8 ≤ n → ((k : ℕ) → k < n → (why : Why) → ¬ IsNewLine w (line m e goal k why)) → (s : ℕ) (why : Why) → ¬ IsNewLine w (line m e goal s why)
  all_statuses m e goal n past off s why = λ new. off s (let p = (small_at w.solution goal m e s new.missing.0).1 in omega arith) why new

  pub all_entries : (m : ℕ) (goal : Goal) (n : ℕ) → 8 ≤ n → ((k : ℕ) → k < n → (s : ℕ) (why : Why) → ¬ IsNewLine w (line m k goal s why)) → (e s : ℕ) (why : Why) → ¬ IsNewLine w (line m e goal s why)
  all_entries m goal n past off e s why = λ new. off e (let p = (small_at w.solution goal m e s new.missing.0).0 in omega arith) s why new

  pub none_there : (m : ℕ) (goal : Goal) (word : ℕ) → word ≡ 0 → AreMissing w (λ e s. fact_at goal m e s) word → (e s : ℕ) (why : Why) → ¬ IsNewLine w (line m e goal s why)
  none_there m goal word zero are e s why = λ new. none_has e s (rw zero at ((are e s).1 new.missing))

  pub all_goals : (m n : ℕ) → IsWork w → place_count w.subject m ≤ n
      → ((e s : ℕ) (why : Why) → ¬ IsNewLine w (line m e Returned s why)) × ((e s : ℕ) (why : Why) → ¬ IsNewLine w (line m e Thrown s why)) × ((k : ℕ) → k < n → (e s : ℕ) (why : Why) → ¬ IsNewLine w (line m e (Before k) s why))
      → (goal : Goal) (e s : ℕ) (why : Why) → ¬ IsNewLine w (line m e goal s why)
  all_goals m n is past off Returned e s why = off.0 e s why
  all_goals m n is past off Thrown e s why = off.1 e s why
  all_goals m n is past off (Before i) e s why = λ new. off.2 i (let p = (at_place w.subject w.solution is.sound is.places m e i s new.missing.0).1 in omega arith) e s why new

  method_in : IsWork w → (goal : Goal) (m e s : ℕ) → holds w.solution (fact_at goal m e s) ≡ true → m < length w.subject.app.methods
  method_in is (Before i) m e s h = (at_place w.subject w.solution is.sound is.places m e i s h).0
  method_in is Returned m e s h = let lt = ret_within w.solution m e s h in let len = is.places.rets in omega arith
  method_in is Thrown m e s h = let lt = exc_within w.solution m e s h in let len = is.places.excs in omega arith

  pub all_lines : (n : ℕ) → IsWork w → length w.subject.app.methods ≤ n → ((k : ℕ) → k < n → (goal : Goal) (e s : ℕ) (why : Why) → ¬ IsNewLine w (line k e goal s why)) → (x : Line) → ¬ IsNewLine w x
  all_lines n is past off x = λ new. off x.method (let lt = method_in is x.goal x.method x.entry x.status new.missing.0 in omega arith) x.goal x.entry x.status x.why new

  -- ---- views
  no_move : (u : ViewStep) (edge : Edge) (body : Option ℕ) (s : ℕ) → end_in w.lines body ≡ None → Moves (case_in w) u edge body s → ⊥
  no_move u edge body s none m = nothing (end_in w.lines body) none m.carried

  no_body : (v : ViewStep) (first : Option ℕ) (mover e j : ℕ) → end_in w.lines (Some j) ≡ None → IsBy (case_in w) w.views (moved v first mover e (Some j)) (moved_by first mover e (Some j)) → ⊥
  no_body v None mover e j none h = no_move h.value h.holds.value (Some j) v.status none h.holds.holds.moves
  no_body v (Some i) mover e j none h = no_move h.holds.value h.holds.holds.value (Some j) v.status none h.holds.holds.holds.moves

  pub all_bodies : (v : ViewStep) (first : Option ℕ) (mover e n : ℕ) → length w.lines ≤ n → (¬ IsNewView w (moved v first mover e None)) × ((k : ℕ) → k < n → ¬ IsNewView w (moved v first mover e (Some k))) → (body : Option ℕ) → ¬ IsNewView w (moved v first mover e body)
  all_bodies v first mover e n past off None = off.0
  all_bodies v first mover e n past off (Some j) = λ new. ⊎_elim (λ lt. off.1 j lt new) (λ ge. no_body v first mover e j (past_end w.lines j (omega arith)) new.seen) (cases_lt j n)

  far_edge : (v : ViewStep) (first : Option ℕ) (mover e : ℕ) (body : Option ℕ) → 16 ≤ e → IsBy (case_in w) w.views (moved v first mover e body) (moved_by first mover e body) → ⊥
  far_edge v None mover e None past h = nothing (edge_at w.subject.list h.value.component e) (no_edge w.subject.list h.value.component e past) h.holds
  far_edge v None mover e (Some b) past h = nothing (edge_at w.subject.list h.value.component e) (no_edge w.subject.list h.value.component e past) h.holds
  far_edge v (Some i) mover e body past h = nothing (edge_at w.subject.list h.holds.value.component e) (no_edge w.subject.list h.holds.value.component e past) h.holds.holds

  pub all_edges : (v : ViewStep) (first : Option ℕ) (mover n : ℕ) → 16 ≤ n → ((k : ℕ) → k < n → (body : Option ℕ) → ¬ IsNewView w (moved v first mover k body)) → (e : ℕ) (body : Option ℕ) → ¬ IsNewView w (moved v first mover e body)
  all_edges v first mover n past off e body = λ new. ⊎_elim (λ lt. off e lt body new) (λ ge. far_edge v first mover e body (omega arith) new.seen) (cases_lt e n)

  far_mover : (v : ViewStep) (first : Option ℕ) (mover e : ℕ) (body : Option ℕ) → length w.views ≤ mover → IsBy (case_in w) w.views (moved v first mover e body) (moved_by first mover e body) → ⊥
  far_mover v None mover e None past h = nothing (slice_get w.views mover) (slice_get_past w.views mover past) h
  far_mover v None mover e (Some b) past h = nothing (slice_get w.views mover) (slice_get_past w.views mover past) h
  far_mover v (Some i) mover e body past h = nothing (slice_get w.views mover) (slice_get_past w.views mover past) h.holds

  pub all_movers : (v : ViewStep) (first : Option ℕ) (n : ℕ) → length w.views ≤ n → ((k : ℕ) → k < n → (e : ℕ) (body : Option ℕ) → ¬ IsNewView w (moved v first k e body)) → (mover e : ℕ) (body : Option ℕ) → ¬ IsNewView w (moved v first mover e body)
  all_movers v first n past off mover e body = λ new. ⊎_elim (λ lt. off mover lt e body new) (λ ge. far_mover v first mover e body (omega arith) new.seen) (cases_lt mover n)

  pub all_bys : (v : ViewStep) (n : ℕ) → length w.views ≤ n
      → (¬ IsNewView w (view v.component v.state v.status Start)) × ((m e : ℕ) (body : Option ℕ) → ¬ IsNewView w (moved v None m e body)) × ((k : ℕ) → k < n → (m e : ℕ) (body : Option ℕ) → ¬ IsNewView w (moved v (Some k) m e body))
      → (by : By) → ¬ IsNewView w (view v.component v.state v.status by)
  all_bys v n past off Start = off.0
  all_bys v n past off (Outside m e) = off.1 m e None
  all_bys v n past off (Own m e b) = off.1 m e (Some b)
  all_bys v n past off (Other i m e body) = λ new. ⊎_elim (λ lt. off.2 i lt m e body new) (λ ge. nothing (slice_get w.views i) (slice_get_past w.views i (omega arith)) new.seen) (cases_lt i n)

  pub all_seen : (c q n : ℕ) → 8 ≤ n → ((k : ℕ) → k < n → (by : By) → ¬ IsNewView w (view c q k by)) → (s : ℕ) (by : By) → ¬ IsNewView w (view c q s by)
  all_seen c q n past off s by = λ new. off s (let p = (small_view w.solution (view c q s by) new.missing.0).1 in omega arith) by new

  pub all_states : (c n : ℕ) → 8 ≤ n → ((k : ℕ) → k < n → (s : ℕ) (by : By) → ¬ IsNewView w (view c k s by)) → (q s : ℕ) (by : By) → ¬ IsNewView w (view c q s by)
  all_states c n past off q s by = λ new. off q (let p = (small_view w.solution (view c q s by) new.missing.0).0 in omega arith) s by new

  pub none_seen : (c word : ℕ) → word ≡ 0 → AreMissing w (λ q s. View c q s) word → (q s : ℕ) (by : By) → ¬ IsNewView w (view c q s by)
  none_seen c word zero are q s by = λ new. none_has q s (rw zero at ((are q s).1 new.missing))

  pub all_views : (n : ℕ) → IsWork w → length w.subject.list ≤ n → ((k : ℕ) → k < n → (q s : ℕ) (by : By) → ¬ IsNewView w (view k q s by)) → (v : ViewStep) → ¬ IsNewView w v
  all_views n is past off v = λ new. off v.component (let lt = view_within w.solution v.component v.state v.status new.missing.0 in let len = is.places.views in omega arith) v.state v.status v.by new
