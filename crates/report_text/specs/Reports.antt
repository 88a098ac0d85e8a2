-- Reports with their paths: of each its head, and the lines behind it.
use Rattle.std.specs.Prelude.{ℕ, zero, suc, List, [], ◌++◌, length, Option, Some, None, slice_get}
use Rattle.app_model.specs.Components.{ComponentParts}
use Rattle.app_model.specs.Parts.{AppParts}
use Rattle.path_text.specs.Lines.{path_text}
use Rattle.report_path.specs.declared.report.Report.{Report}
use Rattle.report_path.specs.Reports.{violation_of}
use Rattle.report_text.specs.Heads.{head_text}

-- report i of n
abbrev pub part_at : AppParts → List ComponentParts → (i n : ℕ) → Option Report → List ℕ
part_at app list i n None = []
part_at app list i n (Some r) = head_text app list i n (violation_of r) ++ path_text r

-- the first i of some reports
abbrev pub reports_before : AppParts → List ComponentParts → List Report → ℕ → List ℕ
reports_before app list reports zero = []
reports_before app list reports (suc i) =
    reports_before app list reports i ++ part_at app list (suc i) (length reports) (slice_get reports i)

abbrev pub reports_text : AppParts → List ComponentParts → List Report → List ℕ
reports_text app list reports = reports_before app list reports (length reports)
