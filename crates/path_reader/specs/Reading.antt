-- How the text of reports is read, line by line.
use Rattle.std.specs.Prelude.{ℕ, ◌+◌, ◌^◌, Bool, true, false, List, [], ◌∷◌, ◌++◌, length, Option, Some, None, option_map, Result, Ok, Err, nat_le, ◌==◌, ◌&&◌, ◌||◌, not, if◌then◌else◌, codes, bytes_eq}
use Rattle.cert_line.specs.Reading.{◌>>=◌, below_in, pieces, status_in, three, two}
use Rattle.path_reader.specs.Parts.{BodyNo, ReportParts, State}
use Rattle.path_reader.specs.declared.lines.Front.{Front}
use Rattle.path_reader.specs.declared.lines.Head.{Head}
use Rattle.path_reader.specs.declared.lines.Last.{Last}
use Rattle.path_reader.specs.declared.lines.NumberedView.{NumberedView}
use Rattle.path_reader.specs.declared.lines.Line.{Line}
use Rattle.path_reader.specs.declared.lines.Line.TheVariants as lines
use Rattle.report_path.specs.declared.report.By.{By}
use Rattle.report_path.specs.declared.report.By.TheVariants.{Start, Outside, Own, Other}
use Rattle.report_path.specs.declared.report.Step.{Step}

-- the pieces of what is left, if anything is
abbrev pub left_by : ℕ → Option (List ℕ) → List (List ℕ)
left_by c None = []
left_by c (Some rest) = pieces c rest

abbrev pub four : List (List ℕ) → Option (List ℕ × List ℕ × List ℕ × List ℕ)
four (a ∷ b ∷ c ∷ d ∷ []) = Some (a, b, c, d)
four _ = None

abbrev pub row_in : List ℕ → Option ℕ
row_in f = below_in (2 ^ 32) f

-- ---- fields

-- a number, or a dash for none
unfoldable pub dash_in : List ℕ → Option (Option ℕ)
dash_in f = if bytes_eq f (codes "-") then Some None else option_map Some (row_in f)

unfoldable pub end_in : List ℕ → Option Bool
end_in f = if bytes_eq f (codes "ret") then Some false else (if bytes_eq f (codes "exc") then Some true else None)

-- a number with a colon behind it
unfoldable pub colon_in : List (List ℕ) → Option ℕ
colon_in fs = two fs >>= λ f. if length f.1 == 0 then row_in f.0 else None

-- ---- a body

unfoldable pub cites_in : List (List ℕ) → Option (Option ℕ)
cites_in [] = Some None
cites_in (c ∷ []) = option_map Some (row_in c)
cites_in _ = None

unfoldable pub step_of : List ℕ → List ℕ → Option ℕ → Option Step
step_of p s cites = row_in p >>= λ pc. status_in s >>= λ status. Some (record { pc = pc; status = status; cites = cites })

unfoldable pub step_in : List (List ℕ) → Option Step
step_in (p ∷ s ∷ more) = cites_in more >>= λ cites. step_of p s cites
step_in _ = None

unfoldable pub steps_in : List (List ℕ) → Option (List Step)
steps_in [] = Some []
steps_in (f ∷ fs) = step_in (pieces 47 f) >>= λ a. steps_in fs >>= λ more. Some (a ∷ more)

unfoldable pub front_of : List ℕ → List ℕ → List ℕ → List ℕ → List ℕ → Option Front
front_of n m s e x =
    row_in n >>= λ number. row_in m >>= λ method. status_in s >>= λ entry. end_in e >>= λ thrown. status_in x >>= λ exit.
    Some (record { number = number; method = method; entry = entry; thrown = thrown; exit = exit })

unfoldable pub front_in : List (List ℕ) → Option (Front × List (List ℕ))
front_in (n ∷ m ∷ s ∷ e ∷ x ∷ more) = front_of n m s e x >>= λ f. Some (f, more)
front_in _ = None

abbrev pub body_of : Front → List Step → BodyNo
body_of f steps =
    record { number = f.number; body = record { method = f.method; entry = f.entry; thrown = f.thrown; exit = f.exit; steps = steps } }

unfoldable pub body_in : List (List ℕ) → Option BodyNo
body_in fs = front_in fs >>= λ f. steps_in f.1 >>= λ steps. Some (body_of f.0 steps)

-- ---- a view

unfoldable pub start_in : List (List ℕ) → Option By
start_in [] = Some Start
start_in _ = None

unfoldable pub outside_in : List (List ℕ) → Option By
outside_in fs = two fs >>= λ f. row_in f.0 >>= λ v. row_in f.1 >>= λ e. Some (Outside v e)

unfoldable pub own_in : List (List ℕ) → Option By
own_in fs = three fs >>= λ f. row_in f.0 >>= λ v. row_in f.1 >>= λ e. row_in f.2 >>= λ b. Some (Own v e b)

unfoldable pub other_in : List (List ℕ) → Option By
other_in fs = four fs >>= λ f. row_in f.0 >>= λ v. row_in f.1 >>= λ w. row_in f.2 >>= λ e. dash_in f.3 >>= λ b. Some (Other v w e b)

unfoldable pub way_in : List (List ℕ) → Option By
way_in [] = None
way_in (word ∷ more) =
    if bytes_eq word (codes "start") then start_in more else
    if bytes_eq word (codes "outside") then outside_in more else
    if bytes_eq word (codes "own") then own_in more else
    if bytes_eq word (codes "other") then other_in more else None

unfoldable pub view_of : List ℕ → List ℕ → List ℕ → List ℕ → By → Option NumberedView
view_of n c q s by =
    row_in n >>= λ number. row_in c >>= λ component. below_in 256 q >>= λ state. status_in s >>= λ status.
    Some (record { number = number; view = record { component = component; state = state; status = status; by = by } })

unfoldable pub view_in : List (List ℕ) → Option NumberedView
view_in (n ∷ c ∷ q ∷ s ∷ more) = way_in more >>= λ by. view_of n c q s by
view_in _ = None

-- ---- the last step

unfoldable pub last_of : List ℕ → List ℕ → List ℕ → List ℕ → List ℕ → List ℕ → Option Last
last_of c e s v b l =
    row_in c >>= λ component. row_in e >>= λ edge. status_in s >>= λ status. row_in v >>= λ view. dash_in b >>= λ body. row_in l >>= λ lock.
    Some (record { component = component; edge = edge; status = status; view = view; body = body; lock = lock })

unfoldable pub last_in : List (List ℕ) → Option Last
last_in (c ∷ e ∷ s ∷ more) = three more >>= λ f. last_of c e s f.0 f.1 f.2
last_in _ = None

-- ---- a head

unfoldable pub head_of : List ℕ → List ℕ → List ℕ → Option Head
head_of i of n =
    if bytes_eq of (codes "of") then
    (row_in i >>= λ number. colon_in (pieces 58 n) >>= λ total. Some (record { number = number; total = total }))
    else
    None

-- the rest of the line is passed over
unfoldable pub head_in : List (List ℕ) → Option Head
head_in (i ∷ of ∷ n ∷ rest ∷ more) = head_of i of n
head_in _ = None

-- ---- the line that bytes spell

unfoldable pub line_in : List (List ℕ) → Option Line
line_in [] = None
line_in (word ∷ more) =
    if bytes_eq word (codes "body") then option_map lines.Body (body_in more) else
    if bytes_eq word (codes "view") then option_map lines.View (view_in more) else
    if bytes_eq word (codes "exit") then option_map lines.Exit (last_in more) else
    if bytes_eq word (codes "report") then option_map lines.Head (head_in more) else None

unfoldable pub line_at : List ℕ → Option Line
line_at bytes = line_in (pieces 32 bytes)

-- ---- one line behind others

abbrev pub start : State
start = record { done = []; total = 0; inside = false; bodies = []; views = [] }

abbrev pub may_begin : State → Head → Bool
may_begin s h = not s.inside && (h.number == length s.done + 1) && nat_le h.number h.total && ((s.total == 0) || (s.total == h.total))

abbrev pub may_have_body : State → ℕ → Bool
may_have_body s n = s.inside && (length s.views == 0) && (n == length s.bodies)

abbrev pub may_have_view : State → ℕ → Bool
may_have_view s n = s.inside && (n == length s.views)

-- the report that a last step ends; its callback is the number of its edge
abbrev pub ended : State → Last → ReportParts
ended s l =
    record { component = l.component; callback = l.edge; lock = l.lock; status = l.status; bodies = s.bodies; views = s.views; view = l.view; edge = l.edge; body = l.body }

unfoldable pub follow : State → Line → Option State
follow s (lines.Head h) = if may_begin s h then Some (record s { total = h.total; inside = true }) else None
follow s (lines.Body b) = if may_have_body s b.number then Some (record s { bodies = s.bodies ++ b.body ∷ [] }) else None
follow s (lines.View v) = if may_have_view s v.number then Some (record s { views = s.views ++ v.view ∷ [] }) else None
follow s (lines.Exit l) =
    if s.inside then Some (record { done = s.done ++ ended s l ∷ []; total = s.total; inside = false; bodies = []; views = [] }) else None

unfoldable pub step : State → List ℕ → Option State
step s bytes = line_at bytes >>= λ l. follow s l

abbrev pub is_end : State → Bool
is_end s = not s.inside && (length s.done == s.total)

abbrev pub accepted : Bool → State → Option State
accepted true s = Some s
accepted false s = None

abbrev pub or_wrong : ℕ → Option State → (State → Result (List ReportParts) ℕ) → Result (List ReportParts) ℕ
or_wrong n None go = Err n
or_wrong n (Some s) go = go s

-- Line n is the first of the pieces; the last piece has no line feed.
unfoldable pub read : State → ℕ → List (List ℕ) → Result (List ReportParts) ℕ
read s n [] = Err n
read s n (last ∷ []) = if is_end s && (length last == 0) then Ok s.done else Err n
read s n (line ∷ next ∷ more) = or_wrong n (step s line) (λ t. read t (n + 1) (next ∷ more))

-- the reports that bytes spell, or the number of the first wrong line
unfoldable pub reading : List ℕ → Result (List ReportParts) ℕ
reading bytes = read start 1 (pieces 10 bytes)

abbrev pub outcome : State → Option ℕ → Result (List ReportParts) ℕ
outcome s None = Ok s.done
outcome s (Some n) = Err n
