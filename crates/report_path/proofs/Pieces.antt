-- The first wrong piece of a report.
use Rattle.std.proofs.Common.{◌≡◌, ℕ, ◌+◌, ◌<◌, ◌≤◌, List, length, get_or, Some, None, refl, ⊎_elim, arith, subst}
use Rattle.std.specs.Prelude.{take}
use Rattle.std.proofs.lemmas.Bool.{cases_lt}
use Rattle.std.proofs.lemmas.Option.{slice_get_within, slice_get_read, slice_get-get_or}
use Rattle.app_model.specs.Subject.{SubjectParts}
use Rattle.report_path.specs.declared.report.BodyPath.{BodyPath}
use Rattle.report_path.specs.declared.report.Report.{Report}
use Rattle.report_path.specs.declared.report.ViewStep.{ViewStep}
use Rattle.report_path.specs.Paths.{IsBody}
use Rattle.report_path.specs.Reports.{FirstWrong, IsExit, IsRight, RightBody, RightView, case_of}
use Rattle.report_path.specs.Views.{Case, IsView}

-- ---- the body and the view at a number, where they were read
module _ (x : SubjectParts) (l : ℕ) (bodies before : List BodyPath) (k : ℕ) (b : BodyPath) (lt : k < length bodies) (read : b ≡ get_or bodies k b) (front : before ≡ take k bodies) where
  pub right_body : IsBody x l before b → RightBody x l bodies k
  right_body is a at =
      let here = slice_get_read bodies (length bodies) k b refl lt read in
      let same : b ≡ a = cc in
      subst (λ b. IsBody x l (take k bodies) b) same (rw (← front) is)

  pub body_of : RightBody x l bodies k → IsBody x l before b
  body_of right = rw front (right b (slice_get_read bodies (length bodies) k b refl lt read))

module _ (t : Case) (views before : List ViewStep) (k : ℕ) (d : ViewStep) (lt : k < length views) (front : before ≡ take k views) where
  pub right_view : IsView t before (get_or views k d) → RightView t views k
  right_view is v at =
      let here = slice_get-get_or views k d lt in
      let same : get_or views k d ≡ v = cc in
      subst (λ v. IsView t (take k views) v) same (rw (← front) is)

  pub view_of : RightView t views k → IsView t before (get_or views k d)
  view_of right = rw front (right (get_or views k d) (slice_get-get_or views k d lt))

-- ---- past the end all are right
pub all_bodies : (x : SubjectParts) (l : ℕ) (bodies : List BodyPath) (n : ℕ) → length bodies ≤ n → ((k : ℕ) → k < n → RightBody x l bodies k) → (k : ℕ) → RightBody x l bodies k
all_bodies x l bodies n past each k b at = each k (let lt = slice_get_within bodies k b at in omega arith) b at

pub all_views : (t : Case) (views : List ViewStep) (n : ℕ) → length views ≤ n → ((k : ℕ) → k < n → RightView t views k) → (k : ℕ) → RightView t views k
all_views t views n past each k v at = each k (let lt = slice_get_within views k v at in omega arith) v at

module _ (x : SubjectParts) (r : Report) where
  past_body : (n : ℕ) → length r.bodies.items ≤ n → RightBody x r.lock r.bodies.items n
  past_body n past b at = absurd (let lt = slice_get_within r.bodies.items n b at in omega arith)

  past_view : (n : ℕ) → length r.views.items ≤ n → RightView (case_of x r) r.views.items n
  past_view n past v at = absurd (let lt = slice_get_within r.views.items n v at in omega arith)

  pub body_within : (k : ℕ) → FirstWrong (RightBody x r.lock r.bodies.items) (Some k) → k < length r.bodies.items
  body_within k first = ⊎_elim (λ lt. lt) (λ past. absurd (first.0 (past_body k past))) (cases_lt k (length r.bodies.items))

  pub view_within : (k : ℕ) → FirstWrong (RightView (case_of x r) r.views.items) (Some k) → k < length r.views.items
  view_within k first = ⊎_elim (λ lt. lt) (λ past. absurd (first.0 (past_view k past))) (cases_lt k (length r.views.items))

  -- ---- the first wrong piece is a body, a view, or the last step
  pub body_first : (k : ℕ) → FirstWrong (RightBody x r.lock r.bodies.items) (Some k) → FirstWrong (IsRight x r) (Some k)
  body_first k first = let lt = body_within k first in (
    λ right. first.0 right.body,
    λ j below. record {
      body = first.1 j below;
      view = λ m e. absurd (omega arith);
      exit = λ e. absurd (omega arith);
    },
  )

  pub view_first : (k : ℕ) → FirstWrong (RightBody x r.lock r.bodies.items) None → FirstWrong (RightView (case_of x r) r.views.items) (Some k) → FirstWrong (IsRight x r) (Some (length r.bodies.items + k))
  view_first k all first = let lt = view_within k first in (
    λ right. first.0 (right.view k refl),
    λ j below. record {
      body = all j;
      view = λ m e. first.1 m (omega arith);
      exit = λ e. absurd (omega arith);
    },
  )

  pub exit_first : FirstWrong (RightBody x r.lock r.bodies.items) None → FirstWrong (RightView (case_of x r) r.views.items) None → (IsExit x r → ⊥) → FirstWrong (IsRight x r) (Some (length r.bodies.items + length r.views.items))
  exit_first all each off = (
    λ right. off (right.exit refl),
    λ j below. record {
      body = all j;
      view = λ m e. each m;
      exit = λ e. absurd (omega arith);
    },
  )
