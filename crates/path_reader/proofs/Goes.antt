-- The text of reports is read as these reports.
use Rattle.std.proofs.Common.{◌≡◌, ℕ, zero, suc, ◌+◌, ◌^◌, ◌<◌, ◌≤◌, true, false, ◌||◌, List, [], ◌∷◌, ◌++◌, length, map, take, Option, Some, refl, sym, ap, subst, ◌∙◌, arith, lit≤}
use Rattle.std.specs.Prelude.{codes, nat_le, ◌==◌, slice_get}
use Rattle.std.specs.List.{AllByRecursion, join_with_byte}
use Rattle.std.proofs.Math.Seq.{take-length}
use Rattle.std.proofs.lemmas.Bool.{eq-eqb}
use Rattle.std.proofs.lemmas.Bool.Decides.{nat_tests}
use Rattle.std.proofs.lemmas.List.{append-nil, length-map, length-take-le}
use Rattle.std.proofs.lemmas.List.Concat.{flat_map-append}
use Rattle.std.proofs.lemmas.List.Elements.{All-from_recursion, recursion_from_All}
use Rattle.std.proofs.lemmas.Option.{get_or_from_slice_get, slice_get_within}
use Rattle.cert_line.proofs.Choices.{bind_some}
use Rattle.cert_line.proofs.Spaces.{Above, free}
use Rattle.path_text.specs.Lines.{line_at as text_at, lines_below, view_line}
use Rattle.path_reader.specs.Parts.{BodyNo, BodyParts, ReportParts, State}
use Rattle.path_reader.specs.Reading.{ended, follow, is_end, line_at, may_begin, start, step}
use Rattle.path_reader.specs.Texts.{FitsBody, FitsRow, FitsView, IsReportsText, IsTold, NoFeed, Told, body_text, exit_text, head_text, report_text, told_text}
use Rattle.path_reader.specs.Wrong.{feed}
use Rattle.path_reader.specs.declared.lines.Head.{Head}
use Rattle.path_reader.specs.declared.lines.Last.{Last}
use Rattle.path_reader.specs.declared.lines.Line.{Line}
use Rattle.path_reader.specs.declared.lines.Line.TheVariants as lines
use Rattle.path_reader.specs.declared.lines.NumberedView.{NumberedView}
use Rattle.path_reader.proofs.Feeds.{body_feed, exit_feed, snoc_at, view_feed}
use Rattle.path_reader.proofs.Keeps.{run}
use Rattle.path_reader.proofs.LineForms.{FitsLast, body_fields, body_line_above, body_line_again, head_line_again, last_fields, last_line_above, last_line_again, view_fields, view_line_above, view_line_again}
use Rattle.report_path.specs.declared.report.ViewStep.{ViewStep}

-- the lines of some bytes lead from a state to another
abbrev pub Goes : State → List ℕ → State → Type 0
Goes s bytes t = (ls : List (List ℕ)) × AllByRecursion NoFeed ls × (bytes ≡ feed ls) × (run s ls ≡ Some t)

pub goes_none : (s : State) → Goes s [] s
goes_none s = ([], tt, refl, refl)

all_append : {A : Type 0} (P : A → Type 0) (xs ys : List A) → AllByRecursion P xs → AllByRecursion P ys → AllByRecursion P (xs ++ ys)
all_append P [] ys h k = k
all_append P (x ∷ xs) ys h k = (h.0, all_append P xs ys h.1 k)

run_on : (ls more : List (List ℕ)) (s t u : State) → run s ls ≡ Some t → run t more ≡ Some u → run s (ls ++ more) ≡ Some u
run_on [] more s t u e f = let is : s ≡ t = cc in rw is f
run_on (l ∷ ls) more s t u e f =
    let b = bind_some (step s l) (λ t. run t ls) t e in
    rw (b.1) (run_on ls more b.0 t u b.2 f)

pub goes_join : (s t u : State) (a b : List ℕ) → Goes s a t → Goes t b u → Goes s (a ++ b) u
goes_join s t u a b (ls, free, is, ran) (more, free2, is2, ran2) =
    (ls ++ more, all_append NoFeed ls more free free2, rw (is, is2) (sym (flat_map-append (λ l. l ++ 10 ∷ []) ls more)), run_on ls more s t u ran ran2)

pub goes_line : (s t : State) (line text : List ℕ) → Above 31 line → line ++ 10 ∷ [] ≡ text → step s line ≡ Some t → Goes s text t
goes_line s t line text above is e =
    (line ∷ [], (recursion_from_All (λ b. (b == 10) ≡ false) line (free 31 10 line (lit≤ tt) above), tt), sym is ∙ sym (append-nil (line ++ 10 ∷ [])), rw e refl)

map_snoc : {A B : Type 0} (f : A → B) (xs : List A) (x : A) → map f (xs ++ x ∷ []) ≡ map f xs ++ f x ∷ []
map_snoc f [] x = refl
map_snoc f (y ∷ xs) x = ap (λ (l : _). f y ∷ l) (map_snoc f xs x)

-- ---- lines inside a report

abbrev pub inside_of : List ReportParts → ℕ → List BodyParts → List ViewStep → State
inside_of done n bodies views = record { done = done; total = n; inside = true; bodies = bodies; views = views }

abbrev pub between_of : List ReportParts → ℕ → State
between_of done n = record { done = done; total = n; inside = false; bodies = []; views = [] }

step_by : (s t : State) (line : List ℕ) (l : Line) → line_at line ≡ Some l → follow s l ≡ Some t → step s line ≡ Some t
unfolding step
step_by s t line l e f = rw e f

same_test : (n : ℕ) → (n == n) ≡ true
same_test n = eq-eqb n n refl

goes_body : (done : List ReportParts) (n : ℕ) (bodies : List BodyParts) (b : BodyParts) → FitsBody b → length bodies < 2 ^ 32 → Goes (inside_of done n bodies []) (body_text (length bodies) b) (inside_of done n (bodies ++ b ∷ []) [])
unfolding follow
goes_body done n bodies b fits lt =
    let x : BodyNo = record { number = length bodies; body = b } in
    goes_line _ _ (join_with_byte 32 (codes "body" ∷ body_fields x)) _ (body_line_above x (lt, fits)) (body_feed x)
    (step_by (inside_of done n bodies []) (inside_of done n (bodies ++ b ∷ []) []) _ (lines.Body x) (body_line_again x (lt, fits)) (rw (same_test (length bodies)) refl))

goes_view : (done : List ReportParts) (n : ℕ) (bodies : List BodyParts) (views : List ViewStep) (v : ViewStep) → FitsView v → length views < 2 ^ 32 → Goes (inside_of done n bodies views) (view_line (length views) v) (inside_of done n bodies (views ++ v ∷ []))
unfolding follow
goes_view done n bodies views v fits lt =
    let x : NumberedView = record { number = length views; view = v } in
    goes_line _ _ (join_with_byte 32 (codes "view" ∷ view_fields x)) _ (view_line_above x (lt, fits)) (view_feed x)
    (step_by (inside_of done n bodies views) (inside_of done n bodies (views ++ v ∷ [])) _ (lines.View x) (view_line_again x (lt, fits)) (rw (same_test (length views)) refl))

all_at : {A : Type 0} (P : A → Type 0) (xs : List A) (k : ℕ) (x : A) → AllByRecursion P xs → slice_get xs k ≡ Some x → P x
all_at P xs k x h e = subst P (get_or_from_slice_get xs k x x e) ((All-from_recursion P xs h) k x (slice_get_within xs k x e))

goes_bodies : (done : List ReportParts) (n : ℕ) (bodies : List BodyParts) (k : ℕ) → AllByRecursion FitsBody bodies → length bodies ≤ 2 ^ 32 → k ≤ length bodies → Goes (inside_of done n [] []) (lines_below body_text bodies k) (inside_of done n (take k bodies) [])
goes_bodies done n bodies zero fits few le = goes_none (inside_of done n [] [])
goes_bodies done n bodies (suc k) fits few le =
    let x = snoc_at bodies k (omega arith) in
    let len : length (take k bodies) ≡ k = length-take-le k bodies (omega arith) in
    let before = goes_bodies done n bodies k fits few (omega arith) in
    let one = goes_body done n (take k bodies) x.0 (all_at FitsBody bodies k x.0 fits x.1) (omega (arith, len)) in
    let one2 : Goes (inside_of done n (take k bodies) []) (body_text k x.0) (inside_of done n (take k bodies ++ x.0 ∷ []) []) = subst (λ (j : ℕ). Goes (inside_of done n (take k bodies) []) (body_text j x.0) (inside_of done n (take k bodies ++ x.0 ∷ []) [])) len one in
    let both = goes_join _ _ _ _ _ before one2 in
    subst (λ (l : List BodyParts). Goes (inside_of done n [] []) (lines_below body_text bodies (suc k)) (inside_of done n l [])) (sym x.2)
    (subst (λ (o : Option BodyParts). Goes (inside_of done n [] []) (lines_below body_text bodies k ++ text_at body_text k o) (inside_of done n (take k bodies ++ x.0 ∷ []) [])) (sym x.1) both)

goes_views : (done : List ReportParts) (n : ℕ) (bodies : List BodyParts) (views : List ViewStep) (k : ℕ) → AllByRecursion FitsView views → length views ≤ 2 ^ 32 → k ≤ length views → Goes (inside_of done n bodies []) (lines_below view_line views k) (inside_of done n bodies (take k views))
goes_views done n bodies views zero fits few le = goes_none (inside_of done n bodies [])
goes_views done n bodies views (suc k) fits few le =
    let x = snoc_at views k (omega arith) in
    let len : length (take k views) ≡ k = length-take-le k views (omega arith) in
    let before = goes_views done n bodies views k fits few (omega arith) in
    let one = goes_view done n bodies (take k views) x.0 (all_at FitsView views k x.0 fits x.1) (omega (arith, len)) in
    let one2 : Goes (inside_of done n bodies (take k views)) (view_line k x.0) (inside_of done n bodies (take k views ++ x.0 ∷ [])) = subst (λ (j : ℕ). Goes (inside_of done n bodies (take k views)) (view_line j x.0) (inside_of done n bodies (take k views ++ x.0 ∷ []))) len one in
    let both = goes_join _ _ _ _ _ before one2 in
    subst (λ (l : List ViewStep). Goes (inside_of done n bodies []) (lines_below view_line views (suc k)) (inside_of done n bodies l)) (sym x.2)
    (subst (λ (o : Option ViewStep). Goes (inside_of done n bodies []) (lines_below view_line views k ++ text_at view_line k o) (inside_of done n bodies (take k views ++ x.0 ∷ []))) (sym x.1) both)

pub goes_exit : (done : List ReportParts) (n : ℕ) (bodies : List BodyParts) (views : List ViewStep) (l : Last) → FitsLast l → Goes (inside_of done n bodies views) (exit_text (ended (inside_of done n bodies views) l)) (between_of (done ++ ended (inside_of done n bodies views) l ∷ []) n)
unfolding follow
goes_exit done n bodies views l fits =
    goes_line _ _ (join_with_byte 32 (codes "exit" ∷ last_fields l)) _ (last_line_above l fits) (exit_feed (inside_of done n bodies views) l)
    (step_by (inside_of done n bodies views) (between_of (done ++ ended (inside_of done n bodies views) l ∷ []) n) _ (lines.Exit l) (last_line_again l fits) refl)

-- ---- a head

le_test : (a b : ℕ) → a ≤ b → nat_le a b ≡ true
le_test a b le = grind (arith, nat_tests)

begins : (done : List ReportParts) (m n : ℕ) → ((m == 0) || (m == n)) ≡ true → length done < n → may_begin (between_of done m) (record { number = length done + 1; total = n }) ≡ true
begins done m n either lt = rw (same_test (length done + 1), le_test (length done + 1) n (omega (arith, lt)), either) refl

pub goes_head : (done : List ReportParts) (m n : ℕ) (rest : List ℕ) → ((m == 0) || (m == n)) ≡ true → length done < n → FitsRow n → NoFeed rest → Goes (between_of done m) (head_text (length done + 1) n rest) (inside_of done n [] [])
unfolding follow
goes_head done m n rest either lt fits free =
    let h : Head = record { number = length done + 1; total = n } in
    let fits2 : FitsRow h.number × FitsRow h.total = (omega (arith, lt, fits), fits) in
    let again = head_line_again h rest fits2 free in (
      again.0 ∷ [],
      (again.1, tt),
      again.2 ∙ sym (append-nil (again.0 ++ 10 ∷ [])),
      rw (step_by (between_of done m) (inside_of done n [] []) again.0 (lines.Head h) again.3 (rw (begins done m n either lt) refl)) refl,
    )

-- ---- a report

pub goes_report : (done : List ReportParts) (m n : ℕ) (t : Told) → ((m == 0) || (m == n)) ≡ true → length done < n → FitsRow n → IsTold t → Goes (between_of done m) (told_text n (length done) t) (between_of (done ++ t.report ∷ []) n)
unfolding report_text
goes_report done m n t either lt fits is =
    let r = t.report in
    let l : Last = record { component = r.component; edge = r.edge; status = r.status; view = r.view; body = r.body; lock = r.lock } in
    let k = is.read in
    let fits_l : FitsLast l = record { components = k.last.components; edges = k.last.edges; statuses = k.last.statuses; last_view = k.last.last_view; last_body = k.last.last_body; locks = k.last.locks } in
    let head = goes_head done m n t.rest either lt fits is.no_feed in
    let bodies : Goes (inside_of done n [] []) (lines_below body_text r.bodies (length r.bodies)) (inside_of done n r.bodies []) =
    subst (λ (x : List BodyParts). Goes (inside_of done n [] []) (lines_below body_text r.bodies (length r.bodies)) (inside_of done n x [])) (take-length r.bodies) (goes_bodies done n r.bodies (length r.bodies) k.each_body k.few_bodies (omega arith)) in
    let views : Goes (inside_of done n r.bodies []) (lines_below view_line r.views (length r.views)) (inside_of done n r.bodies r.views) =
    subst (λ (x : List ViewStep). Goes (inside_of done n r.bodies []) (lines_below view_line r.views (length r.views)) (inside_of done n r.bodies x)) (take-length r.views) (goes_views done n r.bodies r.views (length r.views) k.each_view k.few_views (omega arith)) in
    let exit = goes_exit done n r.bodies r.views l fits_l in
    let made : ended (inside_of done n r.bodies r.views) l ≡ r = ap (λ (c : ℕ). record { component = r.component; callback = c; lock = r.lock; status = r.status; bodies = r.bodies; views = r.views; view = r.view; edge = r.edge; body = r.body }) (sym k.by_edge) in
    let exit2 : Goes (inside_of done n r.bodies r.views) (exit_text r) (between_of (done ++ r ∷ []) n) = subst (λ (x : ReportParts). Goes (inside_of done n r.bodies r.views) (exit_text x) (between_of (done ++ x ∷ []) n)) made exit in
    goes_join _ _ _ _ _ head (goes_join _ _ _ _ _ (goes_join _ _ _ _ _ bodies views) exit2)

-- ---- all reports

abbrev total_at : ℕ → ℕ → ℕ
total_at n zero = 0
total_at n (suc k) = n

total_fits : (n k : ℕ) → ((total_at n k == 0) || (total_at n k == n)) ≡ true
total_fits n zero = refl
total_fits n (suc k) = elim (n == 0) as (λ b. (b || (n == n)) ≡ true) [ true ↦ refl | false ↦ same_test n ]

goes_reports : (ts : List Told) (k : ℕ) → AllByRecursion IsTold ts → FitsRow (length ts) → k ≤ length ts → Goes start (lines_below (told_text (length ts)) ts k) (between_of (map (λ t. t.report) (take k ts)) (total_at (length ts) k))
goes_reports ts zero is fits le = goes_none start
goes_reports ts (suc k) is fits le =
    let n = length ts in
    let x = snoc_at ts k (omega arith) in
    let done = map (λ t. t.report) (take k ts) in
    let len : length done ≡ k = length-map (take k ts) (λ t. t.report) ∙ length-take-le k ts (omega arith) in
    let before = goes_reports ts k is fits (omega arith) in
    let one = goes_report done (total_at n k) n x.0 (total_fits n k) (omega (arith, len)) fits (all_at IsTold ts k x.0 is x.1) in
    let one2 : Goes (between_of done (total_at n k)) (told_text n k x.0) (between_of (done ++ x.0.report ∷ []) n) = subst (λ (j : ℕ). Goes (between_of done (total_at n k)) (told_text n j x.0) (between_of (done ++ x.0.report ∷ []) n)) len one in
    let both = goes_join _ _ _ _ _ before one2 in
    let more : done ++ x.0.report ∷ [] ≡ map (λ t. t.report) (take (suc k) ts) = sym (map_snoc (λ t. t.report) (take k ts) x.0) ∙ ap (λ (l : List Told). map (λ t. t.report) l) (sym x.2) in
    subst (λ (l : List ReportParts). Goes start (lines_below (told_text n) ts (suc k)) (between_of l n)) more
    (subst (λ (o : Option Told). Goes start (lines_below (told_text n) ts k ++ text_at (told_text n) k o) (between_of (done ++ x.0.report ∷ []) n)) (sym x.1) both)

total_all : (n : ℕ) → total_at n n ≡ n
total_all zero = refl
total_all (suc n) = refl

-- a text is read to its end
pub goes_text : (bytes : List ℕ) (rs : List ReportParts) → IsReportsText bytes rs → (t : State) × Goes start bytes t × (is_end t ≡ true) × (t.done ≡ rs)
goes_text bytes rs (ts, are) =
    let n = length ts in
    let whole = goes_reports ts n are.told are.counted (omega arith) in
    let whole2 : Goes start (lines_below (told_text n) ts n) (between_of rs n) =
    subst (λ (m : ℕ). Goes start (lines_below (told_text n) ts n) (between_of rs m)) (total_all n) (subst (λ (l : List ReportParts). Goes start (lines_below (told_text n) ts n) (between_of l (total_at n n))) (ap (λ (l : List Told). map (λ t. t.report) l) (take-length ts) ∙ are.reports) whole) in
    let counted : length rs ≡ n = sym (ap length are.reports) ∙ length-map ts (λ t. t.report) in
    let ends : is_end (between_of rs n) ≡ true = eq-eqb (length rs) n counted in
    (between_of rs n, subst (λ (b : List ℕ). Goes start b (between_of rs n)) (sym are.spelled) whole2, ends, refl)
