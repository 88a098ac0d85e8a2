-- What is read so far is spelled so: the front of a text of reports.
use Rattle.std.proofs.Common.{◌≡◌, ℕ, ◌+◌, ◌^◌, ◌<◌, ◌≤◌, Bool, true, false, ◌&&◌, ◌||◌, ◌⊎◌, not, List, [], ◌∷◌, ◌++◌, length, map, Option, Some, refl, sym, ap, subst, ◌∙◌, append_assoc, arith, lit<, lit≤, inl, inr}
use Rattle.std.specs.Prelude.{codes, decimal, nat_le, ◌==◌}
use Rattle.std.specs.List.{AllByRecursion, join_with_byte}
use Rattle.std.proofs.lemmas.Bool.{and_parts, eqb-true, or_cases}
use Rattle.std.proofs.lemmas.Bool.Decides.{nat_tests}
use Rattle.std.proofs.lemmas.List.{append-nil, length-append, length-map, nil_from_length}
use Rattle.std.proofs.lemmas.Option.{cond_some}
use Rattle.cert_line.specs.Reading.{◌>>=◌}
use Rattle.cert_line.proofs.Choices.{bind_some}
use Rattle.path_text.specs.Lines.{lines_below, view_line}
use Rattle.path_reader.specs.Parts.{BodyNo, ReportParts, State}
use Rattle.path_reader.specs.Reading.{ended, follow, is_end, line_at, may_begin, may_have_body, may_have_view, start, step}
use Rattle.path_reader.specs.Texts.{FitsBody, FitsRow, FitsView, IsReportsText, IsRead, IsTold, NoFeed, Told, body_text, exit_text, head_text, report_text, told_text}
use Rattle.path_reader.specs.Wrong.{feed}
use Rattle.path_reader.specs.declared.lines.Head.{Head}
use Rattle.path_reader.specs.declared.lines.Last.{Last}
use Rattle.path_reader.specs.declared.lines.Line.{Line}
use Rattle.path_reader.specs.declared.lines.Line.TheVariants as lines
use Rattle.path_reader.specs.declared.lines.NumberedView.{NumberedView}
use Rattle.path_reader.proofs.Feeds.{body_feed, exit_feed, head_feed, lines_snoc, view_feed}
use Rattle.path_reader.proofs.LineForms.{FitsLast, FitsLine, fields_of, head_fields, line_at_takes}

-- the texts of the reports that are done
abbrev pub done_text : ℕ → List Told → List ℕ
done_text n ts = lines_below (told_text n) ts (length ts)

pub record Done (s : State) (ts : List Told) : Type 0 where
  pub reports : map (λ t. t.report) ts ≡ s.done
  pub each : AllByRecursion IsTold ts
  pub counted : FitsRow s.total

pub record Between (s : State) (ts : List Told) (bytes : List ℕ) : Type 0 where
  pub before : Done s ts
  pub within : length ts ≤ s.total
  pub begun : s.total ≡ 0 ⊎ 0 < length ts
  pub no_bodies : s.bodies ≡ []
  pub no_views : s.views ≡ []
  pub spelled : bytes ≡ done_text s.total ts

pub record Within (s : State) (ts : List Told) (rest bytes : List ℕ) : Type 0 where
  pub before : Done s ts
  pub within : length ts < s.total
  pub no_feed : NoFeed rest
  pub each_body : AllByRecursion FitsBody s.bodies
  pub each_view : AllByRecursion FitsView s.views
  pub few_bodies : length s.bodies ≤ 2 ^ 32
  pub few_views : length s.views ≤ 2 ^ 32
  pub spelled : bytes ≡ done_text s.total ts ++ (head_text (length ts + 1) s.total rest ++ (lines_below body_text s.bodies (length s.bodies) ++ lines_below view_line s.views (length s.views)))

abbrev pub At : Bool → State → List ℕ → Type 0
At false s bytes = (ts : List Told) × Between s ts bytes
At true s bytes = (ts : List Told) × (rest : List ℕ) × Within s ts rest bytes

abbrev pub SoFar : State → List ℕ → Type 0
SoFar s bytes = At s.inside s bytes

pub so_far_start : SoFar start []
so_far_start =
    ([], record { before = record { reports = refl; each = tt; counted = lit< tt }; within = lit≤ tt; begun = inl refl; no_bodies = refl; no_views = refl; spelled = refl })

all_append : {A : Type 0} (P : A → Type 0) (xs ys : List A) → AllByRecursion P xs → AllByRecursion P ys → AllByRecursion P (xs ++ ys)
all_append P [] ys h k = k
all_append P (x ∷ xs) ys h k = (h.0, all_append P xs ys h.1 k)

map_snoc : {A B : Type 0} (f : A → B) (xs : List A) (x : A) → map f (xs ++ x ∷ []) ≡ map f xs ++ f x ∷ []
map_snoc f [] x = refl
map_snoc f (y ∷ xs) x = ap (λ (l : _). f y ∷ l) (map_snoc f xs x)

-- ---- a head

no_feed_behind : (front rest : List ℕ) → NoFeed (front ++ rest) → NoFeed rest
no_feed_behind [] rest h = h
no_feed_behind (x ∷ front) rest h = no_feed_behind front rest h.1

-- the rest of a head line has no line feed
head_rest : (h : Head) (x : List ℕ) (more : List (List ℕ)) → NoFeed (join_with_byte 32 (codes "report" ∷ head_fields h (x ∷ more))) → NoFeed (join_with_byte 32 (x ∷ more))
head_rest h x more free =
    let a = no_feed_behind (codes "report" ++ 32 ∷ []) (join_with_byte 32 (head_fields h (x ∷ more))) free in
    let b = no_feed_behind (decimal h.number) (32 ∷ join_with_byte 32 (codes "of" ∷ (decimal h.total ++ 58 ∷ []) ∷ x ∷ more)) a in
    let c = no_feed_behind (decimal h.total ++ 58 ∷ []) (32 ∷ join_with_byte 32 (x ∷ more)) b.1.1.1.1 in
    c.1

same_none : (m n : ℕ) (ts : List Told) → length ts ≡ 0 → done_text m ts ≡ done_text n ts
same_none m n [] e = refl
same_none m n (t ∷ ts) e = absurd (omega arith)

head_keeps : (s : State) (h : Head) (ts : List Told) (rest bytes line : List ℕ) → Between s ts bytes → may_begin s h ≡ true → FitsRow h.total → NoFeed rest → line ≡ head_text h.number h.total rest → Within (record s { total = h.total; inside = true }) ts rest (bytes ++ line)
head_keeps s h ts rest bytes line b may fits free is =
    let p0 = and_parts (not s.inside && (h.number == length s.done + 1) && nat_le h.number h.total) ((s.total == 0) || (s.total == h.total)) may in
    let p1 = and_parts (not s.inside && (h.number == length s.done + 1)) (nat_le h.number h.total) p0.0 in
    let p2 = and_parts (not s.inside) (h.number == length s.done + 1) p1.0 in
    let number : h.number ≡ length s.done + 1 = eqb-true _ _ p2.1 in
    let counted : length ts ≡ length s.done = sym (length-map ts (λ t. t.report)) ∙ ap length b.before.reports in
    let is_number : h.number ≡ length ts + 1 = omega (arith, number, counted) in
    let le : h.number ≤ h.total = grind (arith, nat_tests, p1.1) in
    let same : done_text s.total ts ≡ done_text h.total ts =
    elim (or_cases (s.total == 0) (s.total == h.total) p0.1) [
      | inl zero_ ↦ same_none s.total h.total ts (let z : s.total ≡ 0 = eqb-true _ _ zero_ in omega (arith, b.within, z))
      | inr equal ↦ ap (λ (n : ℕ). done_text n ts) (eqb-true _ _ equal)
    ] in
    let bytes_are : bytes ++ line ≡ done_text h.total ts ++ (head_text (length ts + 1) h.total rest ++ (lines_below body_text s.bodies (length s.bodies) ++ lines_below view_line s.views (length s.views))) =
    rw (b.no_bodies, b.no_views, b.spelled, same, is, is_number) (ap (λ (l : List ℕ). done_text h.total ts ++ l) (sym (append-nil (head_text (length ts + 1) h.total rest)))) in
    record {
      before = record { reports = b.before.reports; each = b.before.each; counted = fits };
      within = omega (arith, is_number, le);
      no_feed = free;
      each_body = subst (λ (l : _). AllByRecursion FitsBody l) (sym b.no_bodies) tt;
      each_view = subst (λ (l : _). AllByRecursion FitsView l) (sym b.no_views) tt;
      few_bodies = omega (arith, ap length b.no_bodies);
      few_views = omega (arith, ap length b.no_views);
      spelled = bytes_are;
    }

-- ---- a body, a view, the last step

body_keeps : (s : State) (n : BodyNo) (ts : List Told) (rest bytes line : List ℕ) → Within s ts rest bytes → may_have_body s n.number ≡ true → FitsRow n.number → FitsBody n.body → line ≡ body_text n.number n.body → Within (record s { bodies = s.bodies ++ n.body ∷ [] }) ts rest (bytes ++ line)
body_keeps s n ts rest bytes line w may small fits is =
    let p0 = and_parts (s.inside && (length s.views == 0)) (n.number == length s.bodies) may in
    let p1 = and_parts s.inside (length s.views == 0) p0.0 in
    let number : n.number ≡ length s.bodies = eqb-true _ _ p0.1 in
    let none : s.views ≡ [] = nil_from_length s.views (eqb-true _ _ p1.1) in
    let bytes_are : bytes ++ line ≡ done_text s.total ts ++ (head_text (length ts + 1) s.total rest ++ (lines_below body_text (s.bodies ++ n.body ∷ []) (length (s.bodies ++ n.body ∷ [])) ++ lines_below view_line s.views (length s.views))) =
    rw (w.spelled, is, number, lines_snoc body_text s.bodies n.body, none) (simp (append_assoc, append-nil)) in
    record {
      before = record { reports = w.before.reports; each = w.before.each; counted = w.before.counted };
      within = w.within;
      no_feed = w.no_feed;
      each_body = all_append FitsBody s.bodies (n.body ∷ []) w.each_body (fits, tt);
      each_view = w.each_view;
      few_bodies = omega (arith, small, number, length-append s.bodies (n.body ∷ []));
      few_views = w.few_views;
      spelled = bytes_are;
    }

view_keeps : (s : State) (n : NumberedView) (ts : List Told) (rest bytes line : List ℕ) → Within s ts rest bytes → may_have_view s n.number ≡ true → FitsRow n.number → FitsView n.view → line ≡ view_line n.number n.view → Within (record s { views = s.views ++ n.view ∷ [] }) ts rest (bytes ++ line)
view_keeps s n ts rest bytes line w may small fits is =
    let p0 = and_parts s.inside (n.number == length s.views) may in
    let number : n.number ≡ length s.views = eqb-true _ _ p0.1 in
    let bytes_are : bytes ++ line ≡ done_text s.total ts ++ (head_text (length ts + 1) s.total rest ++ (lines_below body_text s.bodies (length s.bodies) ++ lines_below view_line (s.views ++ n.view ∷ []) (length (s.views ++ n.view ∷ [])))) =
    rw (w.spelled, is, number, lines_snoc view_line s.views n.view) (simp append_assoc) in
    record {
      before = record { reports = w.before.reports; each = w.before.each; counted = w.before.counted };
      within = w.within;
      no_feed = w.no_feed;
      each_body = w.each_body;
      each_view = all_append FitsView s.views (n.view ∷ []) w.each_view (fits, tt);
      few_bodies = w.few_bodies;
      few_views = omega (arith, small, number, length-append s.views (n.view ∷ []));
      spelled = bytes_are;
    }

last_keeps : (s : State) (l : Last) (ts : List Told) (rest bytes line : List ℕ) → Within s ts rest bytes → FitsLast l → line ≡ exit_text (ended s l) → Between (record { done = s.done ++ ended s l ∷ []; total = s.total; inside = false; bodies = []; views = [] }) (ts ++ (record { rest = rest; report = ended s l }) ∷ []) (bytes ++ line)
unfolding report_text
last_keeps s l ts rest bytes line w fits is =
    let t : Told = record { rest = rest; report = ended s l } in
    let len : length (ts ++ t ∷ []) ≡ length ts + 1 = length-append ts (t ∷ []) in
    let read : IsRead (ended s l) =
    record {
      by_edge = refl;
      each_body = w.each_body;
      each_view = w.each_view;
      few_bodies = w.few_bodies;
      few_views = w.few_views;
      last = record { components = fits.components; edges = fits.edges; statuses = fits.statuses; last_view = fits.last_view; last_body = fits.last_body; locks = fits.locks };
    } in
    record {
      before = record {
        reports = map_snoc (λ t. t.report) ts t ∙ ap (λ (rs : List ReportParts). rs ++ ended s l ∷ []) w.before.reports;
        each = all_append IsTold ts (t ∷ []) w.before.each (record { no_feed = w.no_feed; read = read }, tt);
        counted = w.before.counted;
      };
      within = omega (arith, len, w.within);
      begun = inr (omega (arith, len));
      no_bodies = refl;
      no_views = refl;
      spelled = rw (w.spelled, is, lines_snoc (told_text s.total) ts t) (simp append_assoc);
    }

-- ---- a line

keeps : (s t : State) (l : Line) (x : List ℕ) (more : List (List ℕ)) (bytes line : List ℕ) (here : Bool) → s.inside ≡ here → At here s bytes → line ≡ join_with_byte 32 (fields_of l (x ∷ more)) → FitsLine l → NoFeed line → follow s l ≡ Some t → SoFar t (bytes ++ (line ++ 10 ∷ []))
unfolding follow
keeps s t (lines.Head h) x more bytes line false out at is fits free e =
    let g = cond_some (may_begin s h) (record s { total = h.total; inside = true }) t e in
    let rest = head_rest h x more (subst NoFeed is free) in
    subst (λ (t : State). SoFar t (bytes ++ (line ++ 10 ∷ []))) g.1
    (at.0, join_with_byte 32 (x ∷ more), head_keeps s h at.0 (join_with_byte 32 (x ∷ more)) bytes (line ++ 10 ∷ []) at.1 g.0 fits.1 rest (ap (λ (b : List ℕ). b ++ 10 ∷ []) is ∙ head_feed h x more))
keeps s t (lines.Head h) x more bytes line true within at is fits free e = absurd (let f = rw within at e in cc)
keeps s t (lines.Body n) x more bytes line true within at is fits free e =
    let g = cond_some (may_have_body s n.number) (record s { bodies = s.bodies ++ n.body ∷ [] }) t e in
    let made = body_keeps s n at.0 at.1 bytes (line ++ 10 ∷ []) at.2 g.0 fits.0 fits.1 (ap (λ (b : List ℕ). b ++ 10 ∷ []) is ∙ body_feed n) in
    subst (λ (t : State). SoFar t (bytes ++ (line ++ 10 ∷ []))) g.1 (subst (λ (b : Bool). At b (record s { bodies = s.bodies ++ n.body ∷ [] }) (bytes ++ (line ++ 10 ∷ []))) (sym within) (at.0, at.1, made))
keeps s t (lines.Body n) x more bytes line false out at is fits free e = absurd (let f = rw out at e in cc)
keeps s t (lines.View n) x more bytes line true within at is fits free e =
    let g = cond_some (may_have_view s n.number) (record s { views = s.views ++ n.view ∷ [] }) t e in
    let made = view_keeps s n at.0 at.1 bytes (line ++ 10 ∷ []) at.2 g.0 fits.0 fits.1 (ap (λ (b : List ℕ). b ++ 10 ∷ []) is ∙ view_feed n) in
    subst (λ (t : State). SoFar t (bytes ++ (line ++ 10 ∷ []))) g.1 (subst (λ (b : Bool). At b (record s { views = s.views ++ n.view ∷ [] }) (bytes ++ (line ++ 10 ∷ []))) (sym within) (at.0, at.1, made))
keeps s t (lines.View n) x more bytes line false out at is fits free e = absurd (let f = rw out at e in cc)
keeps s t (lines.Exit l) x more bytes line true within at is fits free e =
    let g = cond_some s.inside (record { done = s.done ++ ended s l ∷ []; total = s.total; inside = false; bodies = []; views = [] }) t e in
    subst (λ (t : State). SoFar t (bytes ++ (line ++ 10 ∷ []))) g.1
    (at.0 ++ (record { rest = at.1; report = ended s l }) ∷ [], last_keeps s l at.0 at.1 bytes (line ++ 10 ∷ []) at.2 fits (ap (λ (b : List ℕ). b ++ 10 ∷ []) is ∙ exit_feed s l))
keeps s t (lines.Exit l) x more bytes line false out at is fits free e = absurd (let f = rw out at e in cc)

pub step_keeps : (s t : State) (bytes line : List ℕ) → SoFar s bytes → NoFeed line → step s line ≡ Some t → SoFar t (bytes ++ (line ++ 10 ∷ []))
unfolding step
step_keeps s t bytes line at free e =
    let a = bind_some (line_at line) (λ l. follow s l) t e in
    let sp = line_at_takes line a.0 a.1 in
    keeps s t a.0 sp.0 sp.1 bytes line s.inside refl at sp.2 sp.3 free a.2

-- ---- many lines

abbrev pub run : State → List (List ℕ) → Option State
run s [] = Some s
run s (l ∷ ls) = step s l >>= λ t. run t ls

pub run_keeps : (ls : List (List ℕ)) (s t : State) (bytes : List ℕ) → SoFar s bytes → AllByRecursion NoFeed ls → run s ls ≡ Some t → SoFar t (bytes ++ feed ls)
run_keeps [] s t bytes at free e =
    let is : s ≡ t = cc in
    subst (λ (t : State). SoFar t (bytes ++ [])) is (subst (λ (b : List ℕ). SoFar s b) (sym (append-nil bytes)) at)
run_keeps (l ∷ ls) s t bytes at free e =
    let b = bind_some (step s l) (λ t. run t ls) t e in
    let one = step_keeps s b.0 bytes l at free.0 b.1 in
    subst (λ (b : List ℕ). SoFar t b) (append_assoc bytes (l ++ 10 ∷ []) (feed ls)) (run_keeps ls b.0 t (bytes ++ (l ++ 10 ∷ [])) one free.1 b.2)

end_text : (s : State) (bytes : List ℕ) (here : Bool) → s.inside ≡ here → At here s bytes → is_end s ≡ true → IsReportsText bytes s.done
end_text s bytes true within at e = absurd (let f = rw within at e in cc)
end_text s bytes false out at e =
    let p = and_parts (not s.inside) (length s.done == s.total) e in
    let done : length s.done ≡ s.total = eqb-true _ _ p.1 in
    let counted : length at.0 ≡ length s.done = sym (length-map at.0 (λ t. t.report)) ∙ ap length at.1.before.reports in
    let total : length at.0 ≡ s.total = counted ∙ done in (
      at.0,
      record {
        reports = at.1.before.reports;
        told = at.1.before.each;
        counted = omega (arith, total, at.1.before.counted);
        spelled = at.1.spelled ∙ ap (λ (n : ℕ). done_text n at.0) (sym total);
      },
    )

-- all lines up to the end are a text
pub ends_text : (s : State) (bytes : List ℕ) → SoFar s bytes → is_end s ≡ true → IsReportsText bytes s.done
ends_text s bytes at e = end_text s bytes s.inside refl at e
