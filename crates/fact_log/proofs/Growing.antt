-- A work whose log grows.
use Rattle.std.proofs.Common.{◌≡◌, ℕ, ◌<◌, ◌++◌, true, List, [], ◌∷◌, length, sym, ap, ◌∙◌, subst, arith, length-append}
use Rattle.app_model.specs.Subject.{SubjectParts}
use Rattle.report_path.specs.declared.goal.Goal.{Goal}
use Rattle.report_path.specs.declared.goal.Goal.TheVariants.{Before, Returned, Thrown}
use Rattle.report_path.specs.declared.report.ViewStep.{ViewStep}
use Rattle.report_path.specs.Tests.{fact_at}
use Rattle.report_path.specs.Views.{fact_of}
use Rattle.solution.specs.Facts.{Facts, holds, HasPlaces, SameSize}
use Rattle.solution.specs.Table.{row_len}
use Rattle.solution.proofs.Bits.{has_true}
use Rattle.fact_log.specs.declared.log.Line.{Line}
use Rattle.fact_log.specs.Logs.{HasFacts, IsLog, line_fact}
use Rattle.fact_log.specs.Work.{Came, HasRoom, IsNewLine, IsNewView, IsWork, WorkParts}
use Rattle.fact_log.proofs.Pushing.{log_line, logged_line, log_view, logged_view}
use Rattle.fact_log.proofs.Ranges.{at_within, ret_within, exc_within, view_within}

pub small_at : (t : Facts) (g : Goal) (m e s : ℕ) → holds t (fact_at g m e s) ≡ true → (e < 8) × (s < 8)
unfolding holds
small_at t (Before i) m e s h = let p = has_true _ e s h in (p.0, p.1)
small_at t Returned m e s h = let p = has_true _ e s h in (p.0, p.1)
small_at t Thrown m e s h = let p = has_true _ e s h in (p.0, p.1)

pub small_view : (t : Facts) (v : ViewStep) → holds t (fact_of v) ≡ true → (v.state < 8) × (v.status < 8)
unfolding holds
small_view t v h = let p = has_true _ v.state v.status h in (p.0, p.1)

room_at : (x : SubjectParts) (t k : Facts) → HasPlaces x t → HasPlaces x k → (g : Goal) (m e s : ℕ) → holds t (fact_at g m e s) ≡ true → HasRoom k g m
room_at x t k a b (Before i) m e s h = let lt = at_within t m e i s h in let p = a.code m in let q = b.code m in omega arith
room_at x t k a b Returned m e s h = let lt = ret_within t m e s h in let p = a.rets in let q = b.rets in omega arith
room_at x t k a b Thrown m e s h = let lt = exc_within t m e s h in let p = a.excs in let q = b.excs in omega arith

places_kept : (x : SubjectParts) (a b : Facts) → SameSize a b → HasPlaces x a → HasPlaces x b
places_kept x a b size places = record {
  code = λ m. size.code m ∙ places.code m;
  rets = size.ends 0 ∙ places.rets;
  excs = size.ends 1 ∙ places.excs;
  views = size.ends 2 ∙ places.views;
}

module _ (raw w : WorkParts) (same : raw ≡ w) (is : IsWork raw) where
  module _ (x : Line) (new : IsNewLine w x) where
    here : IsNewLine raw x
    here = subst (λ (w : WorkParts). IsNewLine w x) (sym same) new

    pub line_small : (x.entry < 8) × (x.status < 8)
    line_small = small_at raw.solution x.goal x.method x.entry x.status here.missing.0

    pub line_room : HasRoom raw.known x.goal x.method
    line_room = room_at raw.subject raw.solution raw.known is.places is.known_places x.goal x.method x.entry x.status here.missing.0

    pub line_work : (known : Facts) (lines : List Line) → length raw.lines < 4294967295 → lines ≡ raw.lines ++ x ∷ [] → Came raw.known (line_fact x) known
        → IsWork (record { subject = raw.subject; lock = raw.lock; solution = raw.solution; known = known; lines = lines; views = raw.views })
    line_work known lines few more came = record {
      few_lines = (let n = ap (λ (ls : List Line). length ls) more ∙ length-append raw.lines (x ∷ []) in omega arith);
      few_views = is.few_views;
      sound = is.sound;
      lock = is.lock;
      places = is.places;
      known_places = places_kept raw.subject raw.known known came.size is.known_places;
      log = subst (λ (ls : List Line). IsLog raw.subject raw.lock ls raw.views) (sym more) (log_line raw.subject raw.lock raw.lines x raw.views is.log here.led);
      logged = subst (λ (ls : List Line). HasFacts ls raw.views (holds known)) (sym more) (logged_line raw.subject raw.lock raw.lines x raw.views raw.known known is.logged came);
    }

  module _ (v : ViewStep) (new : IsNewView w v) where
    there : IsNewView raw v
    there = subst (λ (w : WorkParts). IsNewView w v) (sym same) new

    pub view_small : (v.state < 8) × (v.status < 8)
    view_small = small_view raw.solution v there.missing.0

    pub view_room : v.component < row_len raw.known.ends 2
    view_room = let lt = view_within raw.solution v.component v.state v.status there.missing.0 in let a = is.places.views in let b = is.known_places.views in omega arith

    pub view_work : (known : Facts) (views : List ViewStep) → length raw.views < 4294967295 → views ≡ raw.views ++ v ∷ [] → Came raw.known (fact_of v) known
        → IsWork (record { subject = raw.subject; lock = raw.lock; solution = raw.solution; known = known; lines = raw.lines; views = views })
    view_work known views few more came = record {
      few_lines = is.few_lines;
      few_views = (let n = ap (λ (vs : List ViewStep). length vs) more ∙ length-append raw.views (v ∷ []) in omega arith);
      sound = is.sound;
      lock = is.lock;
      places = is.places;
      known_places = places_kept raw.subject raw.known known came.size is.known_places;
      log = subst (λ (vs : List ViewStep). IsLog raw.subject raw.lock raw.lines vs) (sym more) (log_view raw.subject raw.lock raw.lines raw.views v is.log there.seen);
      logged = subst (λ (vs : List ViewStep). HasFacts raw.lines vs (holds known)) (sym more) (logged_view raw.subject raw.lock raw.lines raw.views v raw.known known is.logged came);
    }
