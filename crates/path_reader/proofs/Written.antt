-- What was written is the text of what is read back.
use Rattle.std.proofs.Common.{◌≡◌, ℕ, zero, suc, ◌+◌, List, [], ◌∷◌, ◌++◌, length, map, Option, Some, None, refl, sym, ap, subst, ◌∙◌}
use Rattle.std.specs.Prelude.{option_map, slice_get}
use Rattle.std.specs.List.{AllByRecursion}
use Rattle.std.proofs.lemmas.List.{length-map}
use Rattle.std.proofs.lemmas.Option.{slice_get-map}
use Rattle.path_text.specs.Lines.{body_front, body_line, exit_front, exit_line, line_at, lines_below, path_text, view_line}
use Rattle.path_reader.specs.Parts.{ReportParts}
use Rattle.path_reader.specs.Texts.{FitsRow, IsReadBack, IsTold, IsWritten, Told, Written, as_read, body_parts, body_text, exit_text, head_text, report_parts, report_text, told_text, written_at}
use Rattle.report_path.specs.declared.report.BodyPath.{BodyPath}
use Rattle.report_path.specs.declared.report.Report.{Report}

at_map : {A B : Type 0} (f : A → B) (la : ℕ → A → List ℕ) (lb : ℕ → B → List ℕ) → ((k : ℕ) (x : A) → la k x ≡ lb k (f x)) → (k : ℕ) (o : Option A) (p : Option B) → p ≡ option_map f o → line_at la k o ≡ line_at lb k p
at_map f la lb each k None p e = rw e refl
at_map f la lb each k (Some x) p e = rw e (each k x)

lines_map : {A B : Type 0} (f : A → B) (la : ℕ → A → List ℕ) (lb : ℕ → B → List ℕ) → ((k : ℕ) (x : A) → la k x ≡ lb k (f x)) → (xs : List A) (k : ℕ) → lines_below la xs k ≡ lines_below lb (map f xs) k
lines_map f la lb each xs zero = refl
lines_map f la lb each xs (suc k) =
    ap (λ (l : List ℕ). l ++ line_at la k (slice_get xs k)) (lines_map f la lb each xs k) ∙ ap (λ (l : List ℕ). lines_below lb (map f xs) k ++ l) (at_map f la lb each k (slice_get xs k) (slice_get (map f xs) k) (slice_get-map f xs k))

body_same : (k : ℕ) (b : BodyPath) → body_line k b ≡ body_text k (body_parts b)
unfolding body_line body_front body_text
body_same k b = refl

exit_same : (r : Report) → exit_line r ≡ exit_text (as_read (report_parts r))
unfolding exit_line exit_front exit_text
exit_same r = refl

path_same : (r : Report) → path_text r ≡ report_text (as_read (report_parts r))
unfolding path_text report_text
path_same r =
    let bodies : lines_below body_line r.bodies.items (length r.bodies.items) ≡ lines_below body_text (map body_parts r.bodies.items) (length (map body_parts r.bodies.items)) =
    lines_map body_parts body_line body_text body_same r.bodies.items (length r.bodies.items) ∙ ap (λ (n : ℕ). lines_below body_text (map body_parts r.bodies.items) n) (sym (length-map r.bodies.items body_parts)) in
    ap (λ (l : List ℕ). l ++ lines_below view_line r.views.items (length r.views.items) ++ exit_line r) bodies ∙ ap (λ (l : List ℕ). lines_below body_text (map body_parts r.bodies.items) (length (map body_parts r.bodies.items)) ++ lines_below view_line r.views.items (length r.views.items) ++ l) (exit_same r)

pub text_is : (r : Report) → path_text r ≡ report_text (report_parts r)
unfolding report_text exit_text
text_is r = path_same r

abbrev told : Written → Told
told w = record { rest = w.head_rest; report = as_read (report_parts w.written) }

written_same : (n k : ℕ) (w : Written) → written_at n k w ≡ told_text n k (told w)
written_same n k w = ap (λ (l : List ℕ). head_text (k + 1) n w.head_rest ++ l) (path_same w.written)

reports_of : (ws : List Written) → map (λ t. t.report) (map told ws) ≡ map (λ w. as_read (report_parts w.written)) ws
reports_of [] = refl
reports_of (w ∷ ws) = ap (λ (l : List ReportParts). as_read (report_parts w.written) ∷ l) (reports_of ws)

all_told : (ws : List Written) → AllByRecursion IsWritten ws → AllByRecursion IsTold (map told ws)
all_told [] h = tt
all_told (w ∷ ws) h = (record { no_feed = h.0.0; read = h.0.1 }, all_told ws h.1)

pub read_back : (ws : List Written) → IsReadBack ws
read_back ws = λ is fits.
    let len : length (map told ws) ≡ length ws = length-map ws told in (
      map told ws,
      record {
        reports = reports_of ws;
        told = all_told ws is;
        counted = subst FitsRow (sym len) fits;
        spelled = rw len (lines_map told (written_at (length ws)) (told_text (length ws)) (written_same (length ws)) ws (length ws));
      },
    )
