-- The text of reports is put together as the reader has it.
use Rattle.std.proofs.Common.{◌≡◌, ℕ, zero, suc, List, [], ◌∷◌, ◌++◌, length, map, Option, Some, None, refl, sym, ap, ◌∙◌, subst, add-one}
use Rattle.std.specs.Prelude.{option_map, slice_get}
use Rattle.std.specs.List.{AllByRecursion}
use Rattle.std.proofs.lemmas.List.{length-map}
use Rattle.std.proofs.lemmas.Option.{slice_get-map}
use Rattle.app_model.specs.Components.{ComponentParts}
use Rattle.app_model.specs.Parts.{AppParts}
use Rattle.path_text.specs.Lines.{line_at, lines_below, path_text}
use Rattle.path_reader.specs.Parts.{ReportParts}
use Rattle.path_reader.specs.Texts.{FitsRow, IsReportsText, IsWritten, Written, as_read, report_parts, written_at}
use Rattle.path_reader.specs.Texts as read
use Rattle.path_reader.proofs.Written.{read_back}
use Rattle.report_path.specs.declared.report.Report.{Report}
use Rattle.report_path.specs.Reports.{violation_of}
use Rattle.report_text.specs.Heads.{head_text, violation_text}
use Rattle.report_text.specs.Reports.{part_at, reports_before, reports_text}
use Rattle.read_back.specs.Fitting.{IsReadable}
use Rattle.read_back.proofs.Feeds.{violation_feeds}

module _ (app : AppParts) (list : List ComponentParts) where
  abbrev written_of : Report → Written
  written_of r = record { head_rest = violation_text app list (violation_of r); written = r }

  head_same : (i n : ℕ) (r : Report) → head_text app list i n (violation_of r) ≡ read.head_text i n (violation_text app list (violation_of r))
  unfolding head_text read.head_text
  head_same i n r = refl

  part_same : (n k : ℕ) (o : Option Report) → part_at app list (suc k) n o ≡ line_at (written_at n) k (option_map written_of o)
  part_same n k None = refl
  part_same n k (Some r) =
      ap (λ (l : List ℕ). l ++ path_text r) (head_same (suc k) n r ∙ ap (λ (i : ℕ). read.head_text i n (violation_text app list (violation_of r))) (sym (add-one k)))

  before_same : (reports : List Report) (k : ℕ) → reports_before app list reports k ≡ lines_below (written_at (length reports)) (map written_of reports) k
  before_same reports zero = refl
  before_same reports (suc k) =
      let n = length reports in
      ap (λ (l : List ℕ). l ++ part_at app list (suc k) n (slice_get reports k)) (before_same reports k)
      ∙ ap (λ (l : List ℕ). lines_below (written_at n) (map written_of reports) k ++ l) (part_same n k (slice_get reports k))
      ∙ ap (λ (o : Option Written). lines_below (written_at n) (map written_of reports) k ++ line_at (written_at n) k o) (sym (slice_get-map written_of reports k))

  all_written : (reports : List Report) → AllByRecursion IsReadable reports → AllByRecursion IsWritten (map written_of reports)
  all_written [] h = tt
  all_written (r ∷ reports) h = ((violation_feeds app list (violation_of r), h.0), all_written reports h.1)

  reports_same : (reports : List Report) → map (λ w. as_read (report_parts w.written)) (map written_of reports) ≡ map (λ r. as_read (report_parts r)) reports
  reports_same [] = refl
  reports_same (r ∷ reports) = ap (λ (l : List ReportParts). as_read (report_parts r) ∷ l) (reports_same reports)

  pub written_reports : (reports : List Report) → AllByRecursion IsReadable reports → FitsRow (length reports) → IsReportsText (reports_text app list reports) (map (λ r. as_read (report_parts r)) reports)
  written_reports reports fit few =
      let ws = map written_of reports in
      let len : length ws ≡ length reports = length-map reports written_of in
      let back : IsReportsText (lines_below (written_at (length ws)) ws (length ws)) (map (λ w. as_read (report_parts w.written)) ws) = read_back ws (all_written reports fit) (subst FitsRow (sym len) few) in
      let text : lines_below (written_at (length ws)) ws (length ws) ≡ reports_text app list reports =
      ap (λ (n : ℕ). lines_below (written_at n) ws n) len ∙ sym (before_same reports (length reports)) in
      subst (λ (bytes : List ℕ). IsReportsText bytes (map (λ r. as_read (report_parts r)) reports)) text (subst (IsReportsText (lines_below (written_at (length ws)) ws (length ws))) (reports_same reports) back)
