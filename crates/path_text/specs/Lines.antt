-- The lines of a report behind its head. Numbers are decimal, statuses have their names; bodies and views are numbered
-- from 0.
use Rattle.std.specs.Prelude.{ℕ, zero, suc, Bool, true, false, List, [], ◌++◌, length, codes, decimal, Option, Some, None, slice_get}
use Rattle.std.specs.List.{flat_map}
use Rattle.cert_line.specs.Fields.{status_name}
use Rattle.report_path.specs.declared.report.BodyPath.{BodyPath}
use Rattle.report_path.specs.declared.report.By.{By}
use Rattle.report_path.specs.declared.report.By.TheVariants.{Start, Outside, Own, Other}
use Rattle.report_path.specs.declared.report.Report.{Report}
use Rattle.report_path.specs.declared.report.Step.{Step}
use Rattle.report_path.specs.declared.report.ViewStep.{ViewStep}

-- ---- fields, each behind a space
unfoldable pub field : ℕ → List ℕ
field n = codes " " ++ decimal n

unfoldable pub status_field : ℕ → List ℕ
status_field s = codes " " ++ status_name s

-- the number of a body, or a dash where the callback is found outside
abbrev pub body_field : Option ℕ → List ℕ
body_field None = codes " -"
body_field (Some b) = field b

abbrev pub end_field : (thrown : Bool) → List ℕ
end_field true = codes " exc"
end_field false = codes " ret"

-- ---- a body: method, entry, end, status, and its steps, which are PC/STATUS, or PC/STATUS/J with a body that is cited
abbrev pub cited : Option ℕ → List ℕ
cited None = []
cited (Some j) = codes "/" ++ decimal j

unfoldable pub step_text : Step → List ℕ
step_text a = field a.pc ++ codes "/" ++ status_name a.status ++ cited a.cites

unfoldable pub body_front : ℕ → BodyPath → List ℕ
body_front j b = codes "body " ++ decimal j ++ field b.method ++ status_field b.entry ++ end_field b.thrown ++ status_field b.exit

unfoldable pub body_line : ℕ → BodyPath → List ℕ
body_line j b = body_front j b ++ flat_map step_text b.steps.items ++ codes "\n"

-- ---- a view: component, state, status, and the way to it from earlier views
abbrev pub way : By → List ℕ
way Start = codes " start"
way (Outside v e) = codes " outside" ++ field v ++ field e
way (Own v e b) = codes " own" ++ field v ++ field e ++ field b
way (Other v w e b) = codes " other" ++ field v ++ field w ++ field e ++ body_field b

unfoldable pub view_line : ℕ → ViewStep → List ℕ
view_line j v = codes "view " ++ decimal j ++ field v.component ++ field v.state ++ status_field v.status ++ way v.by ++ codes "\n"

-- ---- the last step: component, edge, status, view, body, lock field
unfoldable pub exit_front : Report → List ℕ
exit_front r = codes "exit " ++ decimal r.component ++ field r.edge ++ status_field r.status

unfoldable pub exit_line : Report → List ℕ
exit_line r = exit_front r ++ field r.view ++ body_field r.body ++ field r.lock ++ codes "\n"

-- ---- the lines of the first n of a list
abbrev pub line_at : {A : Type 0} → (ℕ → A → List ℕ) → ℕ → Option A → List ℕ
line_at line k None = []
line_at line k (Some x) = line k x

abbrev pub lines_below : {A : Type 0} → (ℕ → A → List ℕ) → List A → ℕ → List ℕ
lines_below line xs zero = []
lines_below line xs (suc k) = lines_below line xs k ++ line_at line k (slice_get xs k)

-- ---- all of them
unfoldable pub path_text : Report → List ℕ
path_text r =
    lines_below body_line r.bodies.items (length r.bodies.items) ++ lines_below view_line r.views.items (length r.views.items) ++ exit_line r
