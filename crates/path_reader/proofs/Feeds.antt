-- The lines of a report, as joined fields with a line feed.
use Rattle.std.proofs.Common.{◌≡◌, ℕ, zero, suc, ◌<◌, ◌≤◌, Bool, true, false, List, [], ◌∷◌, ◌++◌, length, map, take, get_or, Option, Some, None, refl, sym, ap, ◌∙◌, append_assoc, arith}
use Rattle.std.specs.Prelude.{codes, decimal, slice_get}
use Rattle.std.specs.List.{flat_map, join_with_byte}
use Rattle.std.proofs.Math.ListN.{get_or-append}
use Rattle.std.proofs.Math.Seq.{get_or-append_seam, take-suc}
use Rattle.std.proofs.lemmas.List.{length-append}
use Rattle.std.proofs.lemmas.Option.{slice_get-get_or}
use Rattle.cert_line.specs.Fields.{status_name}
use Rattle.path_text.specs.Lines.{field, line_at, lines_below, status_field, step_text, view_line, way}
use Rattle.path_reader.specs.Parts.{BodyNo, BodyParts, State}
use Rattle.path_reader.specs.Reading.{ended}
use Rattle.path_reader.specs.Texts.{body_text, exit_text, head_text}
use Rattle.path_reader.specs.declared.lines.Head.{Head}
use Rattle.path_reader.specs.declared.lines.Last.{Last}
use Rattle.path_reader.specs.declared.lines.NumberedView.{NumberedView}
use Rattle.path_reader.proofs.FieldForms.{dash_field, end_name, item, join_items}
use Rattle.path_reader.proofs.LineForms.{body_fields, head_fields, last_fields, view_fields, way_fields}
use Rattle.report_path.specs.declared.report.By.{By}
use Rattle.report_path.specs.declared.report.By.TheVariants.{Start, Outside, Own, Other}
use Rattle.report_path.specs.declared.report.Step.{Step}
use Rattle.report_path.specs.declared.report.ViewStep.{ViewStep}

-- ---- lists in a row, grouped to the right and to the left

in_row3 : (p a b : List ℕ) → p ++ a ++ b ≡ p ++ (a ++ b)
in_row3 p a b = simp append_assoc

in_row4 : (p a b c : List ℕ) → p ++ a ++ b ++ c ≡ p ++ (a ++ (b ++ c))
in_row4 p a b c = simp append_assoc

in_row5 : (p a b c d : List ℕ) → p ++ a ++ b ++ c ++ d ≡ p ++ (a ++ (b ++ (c ++ d)))
in_row5 p a b c d = simp append_assoc

six_with : (p a b c d e end : List ℕ) → (p ++ (a ++ (b ++ (c ++ (d ++ e))))) ++ end ≡ p ++ a ++ b ++ c ++ d ++ e ++ end
six_with p a b c d e end = simp append_assoc

seven_with : (p a b c d e f end : List ℕ) → (p ++ (a ++ (b ++ (c ++ (d ++ (e ++ f)))))) ++ end ≡ p ++ a ++ b ++ c ++ d ++ e ++ f ++ end
seven_with p a b c d e f end = simp append_assoc

-- ---- a body

body_feed_of : (j m s : ℕ) (t : Bool) (x : ℕ) (steps : List Step) → join_with_byte 32 (codes "body" ∷ decimal j ∷ decimal m ∷ status_name s ∷ end_name t ∷ status_name x ∷ map item steps) ++ 10 ∷ [] ≡ body_text j (record { method = m; entry = s; thrown = t; exit = x; steps = steps })
unfolding body_text field status_field
body_feed_of j m s true x steps =
    ap (λ (l : List ℕ). (codes "body " ++ (decimal j ++ ((32 ∷ decimal m) ++ ((32 ∷ status_name s) ++ (codes " exc" ++ (32 ∷ l)))))) ++ 10 ∷ []) (join_items (status_name x) steps) ∙ seven_with (codes "body ") (decimal j) (32 ∷ decimal m) (32 ∷ status_name s) (codes " exc") (32 ∷ status_name x) (flat_map step_text steps) (10 ∷ [])
body_feed_of j m s false x steps =
    ap (λ (l : List ℕ). (codes "body " ++ (decimal j ++ ((32 ∷ decimal m) ++ ((32 ∷ status_name s) ++ (codes " ret" ++ (32 ∷ l)))))) ++ 10 ∷ []) (join_items (status_name x) steps) ∙ seven_with (codes "body ") (decimal j) (32 ∷ decimal m) (32 ∷ status_name s) (codes " ret") (32 ∷ status_name x) (flat_map step_text steps) (10 ∷ [])

pub body_feed : (b : BodyNo) → join_with_byte 32 (codes "body" ∷ body_fields b) ++ 10 ∷ [] ≡ body_text b.number b.body
body_feed b = body_feed_of b.number b.body.method b.body.entry b.body.thrown b.body.exit b.body.steps

-- ---- a view

view_by : (j c q s : ℕ) (by : By) (f : List ℕ) (fs : List (List ℕ)) → way by ≡ 32 ∷ join_with_byte 32 (f ∷ fs) → join_with_byte 32 (codes "view" ∷ decimal j ∷ decimal c ∷ decimal q ∷ status_name s ∷ f ∷ fs) ++ 10 ∷ [] ≡ view_line j (record { component = c; state = q; status = s; by = by })
unfolding view_line field status_field
view_by j c q s by f fs is =
    six_with (codes "view ") (decimal j) (32 ∷ decimal c) (32 ∷ decimal q) (32 ∷ status_name s) (32 ∷ join_with_byte 32 (f ∷ fs)) (10 ∷ []) ∙ ap (λ (l : List ℕ). codes "view " ++ decimal j ++ (32 ∷ decimal c) ++ (32 ∷ decimal q) ++ (32 ∷ status_name s) ++ l ++ 10 ∷ []) (sym is)

view_feed_of : (j c q s : ℕ) (by : By) → join_with_byte 32 (codes "view" ∷ decimal j ∷ decimal c ∷ decimal q ∷ status_name s ∷ way_fields by) ++ 10 ∷ [] ≡ view_line j (record { component = c; state = q; status = s; by = by })
unfolding field
view_feed_of j c q s Start = view_by j c q s Start (codes "start") [] refl
view_feed_of j c q s (Outside v e) = view_by j c q s (Outside v e) (codes "outside") (decimal v ∷ decimal e ∷ []) (in_row3 (codes " outside") (32 ∷ decimal v) (32 ∷ decimal e))
view_feed_of j c q s (Own v e b) =
    view_by j c q s (Own v e b) (codes "own") (decimal v ∷ decimal e ∷ decimal b ∷ []) (in_row4 (codes " own") (32 ∷ decimal v) (32 ∷ decimal e) (32 ∷ decimal b))
view_feed_of j c q s (Other v w e None) =
    view_by j c q s (Other v w e None) (codes "other") (decimal v ∷ decimal w ∷ decimal e ∷ codes "-" ∷ []) (in_row5 (codes " other") (32 ∷ decimal v) (32 ∷ decimal w) (32 ∷ decimal e) (codes " -"))
view_feed_of j c q s (Other v w e (Some b)) =
    view_by j c q s (Other v w e (Some b)) (codes "other") (decimal v ∷ decimal w ∷ decimal e ∷ decimal b ∷ []) (in_row5 (codes " other") (32 ∷ decimal v) (32 ∷ decimal w) (32 ∷ decimal e) (32 ∷ decimal b))

pub view_feed : (v : NumberedView) → join_with_byte 32 (codes "view" ∷ view_fields v) ++ 10 ∷ [] ≡ view_line v.number v.view
view_feed v = view_feed_of v.number v.view.component v.view.state v.view.status v.view.by

-- ---- the last step, and a head

exit_feed_of : (c e s v : ℕ) (b : Option ℕ) (l k : ℕ) (bodies : List BodyParts) (views : List ViewStep) → join_with_byte 32 (codes "exit" ∷ decimal c ∷ decimal e ∷ status_name s ∷ decimal v ∷ dash_field b ∷ decimal l ∷ []) ++ 10 ∷ [] ≡ exit_text (record { component = c; callback = k; lock = l; status = s; bodies = bodies; views = views; view = v; edge = e; body = b })
unfolding exit_text field status_field
exit_feed_of c e s v None l k bodies views =
    seven_with (codes "exit ") (decimal c) (32 ∷ decimal e) (32 ∷ status_name s) (32 ∷ decimal v) (codes " -") (32 ∷ decimal l) (10 ∷ [])
exit_feed_of c e s v (Some b) l k bodies views =
    seven_with (codes "exit ") (decimal c) (32 ∷ decimal e) (32 ∷ status_name s) (32 ∷ decimal v) (32 ∷ decimal b) (32 ∷ decimal l) (10 ∷ [])

pub exit_feed : (s : State) (l : Last) → join_with_byte 32 (codes "exit" ∷ last_fields l) ++ 10 ∷ [] ≡ exit_text (ended s l)
exit_feed s l = exit_feed_of l.component l.edge l.status l.view l.body l.lock l.edge s.bodies s.views

pub head_feed : (h : Head) (x : List ℕ) (more : List (List ℕ)) → join_with_byte 32 (codes "report" ∷ head_fields h (x ∷ more)) ++ 10 ∷ [] ≡ head_text h.number h.total (join_with_byte 32 (x ∷ more))
unfolding head_text
head_feed h x more = simp append_assoc

-- ---- lines of a list with one more

get_left : {A : Type 0} (xs ys : List A) (k : ℕ) → k < length xs → slice_get (xs ++ ys) k ≡ slice_get xs k
get_left [] ys k lt = absurd (omega arith)
get_left (x ∷ xs) ys k lt =
    slice_get-get_or (x ∷ xs ++ ys) k x (omega (arith, lt, length-append xs ys)) ∙ ap Some (get_or-append (x ∷ xs) ys x k lt) ∙ sym (slice_get-get_or (x ∷ xs) k x lt)

get_seam : {A : Type 0} (xs : List A) (x : A) → slice_get (xs ++ x ∷ []) (length xs) ≡ Some x
get_seam xs x =
    slice_get-get_or (xs ++ x ∷ []) (length xs) x (omega (arith, length-append xs (x ∷ []))) ∙ ap Some (get_or-append_seam xs x [] x)

lines_front : {A : Type 0} (line : ℕ → A → List ℕ) (xs ys : List A) (k : ℕ) → k ≤ length xs → lines_below line (xs ++ ys) k ≡ lines_below line xs k
lines_front line xs ys zero le = refl
lines_front line xs ys (suc k) le =
    ap (λ (l : List ℕ). l ++ line_at line k (slice_get (xs ++ ys) k)) (lines_front line xs ys k (omega arith)) ∙ ap (λ (o : _). lines_below line xs k ++ line_at line k o) (get_left xs ys k (omega arith))

pub lines_snoc : {A : Type 0} (line : ℕ → A → List ℕ) (xs : List A) (x : A) → lines_below line (xs ++ x ∷ []) (length (xs ++ x ∷ [])) ≡ lines_below line xs (length xs) ++ line (length xs) x
lines_snoc line xs x =
    let len : length (xs ++ x ∷ []) ≡ suc (length xs) = omega (arith, length-append xs (x ∷ [])) in
    rw len (
    ap (λ (l : List ℕ). l ++ line_at line (length xs) (slice_get (xs ++ x ∷ []) (length xs))) (lines_front line xs (x ∷ []) (length xs) (omega arith)) ∙ ap (λ (o : _). lines_below line xs (length xs) ++ line_at line (length xs) o) (get_seam xs x)
    )

pub snoc_at : {A : Type 0} (xs : List A) (k : ℕ) → k < length xs → (x : A) × (slice_get xs k ≡ Some x) × (take (suc k) xs ≡ take k xs ++ x ∷ [])
snoc_at [] k lt = absurd (omega arith)
snoc_at (x ∷ xs) k lt = (get_or (x ∷ xs) k x, slice_get-get_or (x ∷ xs) k x lt, take-suc (x ∷ xs) k x lt)
