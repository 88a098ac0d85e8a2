-- The text of reports.
use Rattle.std.specs.Prelude.{ℕ, ◌≡◌, ◌+◌, ◌^◌, ◌<◌, ◌≤◌, false, List, ◌++◌, ◌==◌, map, length, codes, decimal, Option, Some, None}
use Rattle.std.specs.List.{AllByRecursion, flat_map}
use Rattle.path_text.specs.Lines.{body_field, end_field, field, lines_below, path_text, status_field, step_text, view_line}
use Rattle.path_reader.specs.Parts.{BodyParts, ReportParts}
use Rattle.report_path.specs.declared.report.BodyPath.{BodyPath}
use Rattle.report_path.specs.declared.report.By.{By}
use Rattle.report_path.specs.declared.report.By.TheVariants.{Start, Outside, Own, Other}
use Rattle.report_path.specs.declared.report.Report.{Report}
use Rattle.report_path.specs.declared.report.Step.{Step}
use Rattle.report_path.specs.declared.report.ViewStep.{ViewStep}

abbrev pub body_parts : BodyPath → BodyParts
body_parts b = record { method = b.method; entry = b.entry; thrown = b.thrown; exit = b.exit; steps = b.steps.items }

abbrev pub report_parts : Report → ReportParts
report_parts r =
    record {
      component = r.component;
      callback = r.callback;
      lock = r.lock;
      status = r.status;
      bodies = map body_parts r.bodies.items;
      views = r.views.items;
      view = r.view;
      edge = r.edge;
      body = r.body;
    }

-- ---- the lines of a report, as path_text has them

unfoldable pub body_text : ℕ → BodyParts → List ℕ
body_text j b =
    codes "body " ++ decimal j ++ field b.method ++ status_field b.entry ++ end_field b.thrown ++ status_field b.exit ++ flat_map step_text b.steps ++ codes "\n"

unfoldable pub exit_text : ReportParts → List ℕ
exit_text r =
    codes "exit " ++ decimal r.component ++ field r.edge ++ status_field r.status ++ field r.view ++ body_field r.body ++ field r.lock ++ codes "\n"

unfoldable pub report_text : ReportParts → List ℕ
report_text r = lines_below body_text r.bodies (length r.bodies) ++ lines_below view_line r.views (length r.views) ++ exit_text r

-- ---- all of a text

-- a report, and the rest of its head line
pub record Told : Type 0 where
  pub rest : List ℕ
  pub report : ReportParts

unfoldable pub head_text : (number total : ℕ) → List ℕ → List ℕ
head_text i n rest = codes "report " ++ decimal i ++ codes " of " ++ decimal n ++ codes ": " ++ rest ++ codes "\n"

-- report k of n, counted from 0
abbrev pub told_text : (total : ℕ) → ℕ → Told → List ℕ
told_text n k t = head_text (k + 1) n t.rest ++ report_text t.report

-- ---- numbers and statuses that fit

abbrev pub FitsRow : ℕ → Type 0
FitsRow n = n < 2 ^ 32

abbrev pub FitsMaybe : Option ℕ → Type 0
FitsMaybe None = Unit {0}
FitsMaybe (Some n) = FitsRow n

abbrev pub FitsStep : Step → Type 0
FitsStep a = FitsRow a.pc × (a.status < 8) × FitsMaybe a.cites

pub record FitsBody (b : BodyParts) : Type 0 where
  pub methods : FitsRow b.method
  pub entries : b.entry < 8
  pub exits : b.exit < 8
  pub each_step : AllByRecursion FitsStep b.steps

abbrev pub FitsBy : By → Type 0
FitsBy Start = Unit {0}
FitsBy (Outside v e) = FitsRow v × FitsRow e
FitsBy (Own v e b) = FitsRow v × FitsRow e × FitsRow b
FitsBy (Other v w e b) = FitsRow v × FitsRow w × FitsRow e × FitsMaybe b

pub record FitsView (v : ViewStep) : Type 0 where
  pub components : FitsRow v.component
  pub states : v.state < 256
  pub statuses : v.status < 8
  pub ways : FitsBy v.by

pub record FitsExit (r : ReportParts) : Type 0 where
  pub components : FitsRow r.component
  pub edges : FitsRow r.edge
  pub statuses : r.status < 8
  pub last_view : FitsRow r.view
  pub last_body : FitsMaybe r.body
  pub locks : FitsRow r.lock

-- a report as it is read: its callback is the number of its edge
pub record IsRead (r : ReportParts) : Type 0 where
  pub by_edge : r.callback ≡ r.edge
  pub each_body : AllByRecursion FitsBody r.bodies
  pub each_view : AllByRecursion FitsView r.views
  pub few_bodies : length r.bodies ≤ 2 ^ 32
  pub few_views : length r.views ≤ 2 ^ 32
  pub last : FitsExit r

abbrev pub NoFeed : List ℕ → Type 0
NoFeed bs = AllByRecursion (λ b. (b == 10) ≡ false) bs

pub record IsTold (t : Told) : Type 0 where
  pub no_feed : NoFeed t.rest
  pub read : IsRead t.report

-- ---- bytes that are the texts of reports, one behind the other
pub record AreTexts (ts : List Told) (bytes : List ℕ) (rs : List ReportParts) : Type 0 where
  pub reports : map (λ t. t.report) ts ≡ rs
  pub told : AllByRecursion IsTold ts
  pub counted : FitsRow (length ts)
  pub spelled : bytes ≡ lines_below (told_text (length ts)) ts (length ts)

abbrev pub IsReportsText : List ℕ → List ReportParts → Type 0
IsReportsText bytes rs = (ts : List Told) × AreTexts ts bytes rs

-- ---- what is written

-- a report as it is read back
abbrev pub as_read : ReportParts → ReportParts
as_read r = record r { callback = r.edge }

-- a report that is written, behind a head line with that rest
pub record Written : Type 0 where
  pub head_rest : List ℕ
  pub written : Report

abbrev pub written_at : (total : ℕ) → ℕ → Written → List ℕ
written_at n k w = head_text (k + 1) n w.head_rest ++ path_text w.written

abbrev pub IsWritten : Written → Type 0
IsWritten w = NoFeed w.head_rest × IsRead (as_read (report_parts w.written))

-- What was written is the text of what is read back.
abbrev pub IsReadBack : List Written → Type 0
IsReadBack ws =
    AllByRecursion IsWritten ws → FitsRow (length ws) →
    IsReportsText (lines_below (written_at (length ws)) ws (length ws)) (map (λ w. as_read (report_parts w.written)) ws)
