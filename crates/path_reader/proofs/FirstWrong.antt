-- What the reader's answer says: the reports of a text, or the first line with which no text begins.
use Rattle.std.proofs.Common.{Bool, Err, List, None, Ok, Option, Result, Some, [], ap, append_assoc, arith, cond, eqb, false, inl, inr, length, map, refl, subst, sym, true, zero, suc, ℕ, ◌&&◌, ◌++◌, ◌+◌, ◌<◌, ◌≤◌, ◌∙◌, ◌∷◌, ◌≡◌, lit<}
use Rattle.std.specs.Prelude.{◌==◌, ◌||◌, IfOk}
use Rattle.std.specs.List.{AllByRecursion, join_with_byte, onto_first}
use Rattle.std.specs.declared.alloc.Global.{Global}
use Rattle.std.specs.declared.vec.Vec.{Vec}
use Rattle.std.proofs.lemmas.List.{append-nil, length-append, length-map, nil_from_length}
use Rattle.std.proofs.lemmas.Bool.{and_parts, cases_order, eq-eqb, eqb-true}
use Rattle.std.proofs.lemmas.List.Concat.{flat_map-append}
use Rattle.std.proofs.lemmas.List.Elements.{All-from_recursion}
use Rattle.std.proofs.lemmas.List.Splits.{join_with_byte-slice_split, slice_split_at}
use Rattle.cert_line.specs.Reading.{pieces}
use Rattle.cert_line.proofs.Choices.{bind_some}
use Rattle.path_reader.specs.Parts.{BodyParts, ReportParts, State}
use Rattle.path_reader.specs.Reading.{ended, is_end, or_wrong, read, reading, start, step}
use Rattle.path_reader.specs.Texts.{FitsRow, IsReportsText, NoFeed, report_parts}
use Rattle.path_reader.specs.Wrong.{Gives, HasFirstWrong, IsFirstWrong, IsFront, OnLine, feed}
use Rattle.path_reader.specs.declared.lines.Last.{Last}
use Rattle.path_reader.specs.declared.reading.ReadBack.{ReadBack}
use Rattle.path_reader.specs.declared.reading.ReadBack.TheVariants as faults
use Rattle.path_reader.proofs.Goes.{Goes, between_of, goes_exit, goes_head, goes_join, goes_none, goes_text, inside_of}
use Rattle.path_reader.proofs.Keeps.{At, SoFar, ends_text, run, run_keeps, so_far_start}
use Rattle.path_reader.proofs.LineForms.{FitsLast}
use Rattle.path_reader.proofs.OneLine.{read_one, some_piece}
use Rattle.report_path.specs.declared.report.Report.{Report}
use Rattle.report_path.specs.declared.report.ViewStep.{ViewStep}

-- ---- lines that were cut have no line feed

onto_free : (x : ℕ) (ps : List (List ℕ)) → (x == 10) ≡ false → AllByRecursion NoFeed ps → AllByRecursion NoFeed (onto_first x ps)
onto_free x [] e h = ((e, tt), tt)
onto_free x (p ∷ ps) e h = ((e, h.0), h.1)

one_free : (b : Bool) (x : ℕ) (ps : List (List ℕ)) → (x == 10) ≡ b → AllByRecursion NoFeed ps → AllByRecursion NoFeed (cond b ([] ∷ ps) (onto_first x ps))
one_free true x ps e h = (tt, h)
one_free false x ps e h = onto_free x ps e h

pieces_free : (bytes : List ℕ) → AllByRecursion NoFeed (pieces 10 bytes)
pieces_free [] = (tt, tt)
pieces_free (x ∷ xs) = one_free (x == 10) x (pieces 10 xs) refl (pieces_free xs)

cut_feed : (ls : List (List ℕ)) (more : List ℕ) → AllByRecursion NoFeed ls → pieces 10 (feed ls ++ more) ≡ ls ++ pieces 10 more
cut_feed [] more h = refl
cut_feed (l ∷ ls) more h =
    let regrouped : feed (l ∷ ls) ++ more ≡ l ++ (10 ∷ (feed ls ++ more)) = append_assoc (l ++ 10 ∷ []) (feed ls) more ∙ append_assoc l (10 ∷ []) (feed ls ++ more) in
    ap (pieces 10) regrouped ∙ slice_split_at (λ b. b == 10) l 10 (feed ls ++ more) (All-from_recursion (λ b. (b == 10) ≡ false) l h.0) refl ∙ ap (λ (ps : List (List ℕ)). l ∷ ps) (cut_feed ls more h.1)

front_lines : (xs ys : List (List ℕ)) → AllByRecursion NoFeed (xs ++ ys) → AllByRecursion NoFeed xs
front_lines [] ys h = tt
front_lines (x ∷ xs) ys h = (h.0, front_lines xs ys h.1)

join_lines : (ls : List (List ℕ)) → join_with_byte 10 (ls ++ [] ∷ []) ≡ feed ls
join_lines [] = refl
join_lines (l ∷ []) = sym (append-nil (l ++ 10 ∷ []))
join_lines (l ∷ m ∷ ls) = ap (λ (x : List ℕ). l ++ (10 ∷ x)) (join_lines (m ∷ ls)) ∙ sym (append_assoc l (10 ∷ []) (feed (m ∷ ls)))

-- ---- along good lines

read_along : (ls ps : List (List ℕ)) (s t : State) (n : ℕ) → 0 < length ps → run s ls ≡ Some t → read s n (ls ++ ps) ≡ read t (n + length ls) ps
read_along [] ps s t n some h = let is : s ≡ t = cc in rw is (ap (λ (k : ℕ). read t k ps) (let k : n ≡ n + 0 = omega arith in k))
read_along (l ∷ ls) ps s t n some h =
    let b = bind_some (step s l) (λ t. run t ls) t h in
    let left : 0 < length (ls ++ ps) = omega (arith, length-append ls ps) in
    read_one s n l (ls ++ ps) left ∙ ap (λ (o : Option State). or_wrong n o (λ t. read t (n + 1) (ls ++ ps))) b.1 ∙ read_along ls ps b.0 t (n + 1) some b.2 ∙ ap (λ (k : ℕ). read t k ps) (let k : n + 1 + length ls ≡ n + length (l ∷ ls) = omega arith in k)

at_end : (s : State) (n : ℕ) → is_end s ≡ true → read s n ([] ∷ []) ≡ Ok s.done
unfolding read
at_end s n e = rw e refl

pub reading_again : (bytes : List ℕ) (rs : List ReportParts) → IsReportsText bytes rs → reading bytes ≡ Ok rs
unfolding reading
reading_again bytes rs is =
    let (t, (ls, free, are, ran), e, same) = goes_text bytes rs is in
    let cut : pieces 10 bytes ≡ ls ++ [] ∷ [] = ap (pieces 10) (are ∙ sym (append-nil (feed ls))) ∙ cut_feed ls [] free in
    ap (λ (ps : List (List ℕ)). read start 1 ps) cut ∙ read_along ls ([] ∷ []) start t 1 (lit< tt) ran ∙ at_end t (1 + length ls) e ∙ ap (λ (x : List ReportParts). Ok x) same

-- ---- where reading stops

pub data Stops (t : State) (r : Result (List ReportParts) ℕ) (n : ℕ) : List (List ℕ) → Type 0 where
  finished : is_end t ≡ true → r ≡ Ok t.done → Stops t r n ([] ∷ [])
  unfinished : {last : List ℕ} → r ≡ Err n → Stops t r n (last ∷ [])
  refused : {line next : List ℕ} {more : List (List ℕ)} → step t line ≡ None → r ≡ Err n → Stops t r n (line ∷ next ∷ more)

pub record Stopped (ps : List (List ℕ)) (s : State) (n : ℕ) (r : Result (List ReportParts) ℕ) (ls rest : List (List ℕ)) (t : State) : Type 0 where
  pub cut : ps ≡ ls ++ rest
  pub ran : run s ls ≡ Some t
  pub stops : Stops t r (n + length ls) rest

abbrev AnyStop : List (List ℕ) → State → ℕ → Result (List ReportParts) ℕ → Type 0
AnyStop ps s n r = (ls : List (List ℕ)) × (rest : List (List ℕ)) × (t : State) × Stopped ps s n r ls rest t

here : (ps : List (List ℕ)) (s : State) (n : ℕ) (r : Result (List ReportParts) ℕ) → Stops s r (n + 0) ps → AnyStop ps s n r
here ps s n r stop = ([], ps, s, record { cut = refl; ran = refl; stops = stop })

stops_last : (last : List ℕ) (s : State) (n : ℕ) (b : Bool) → (is_end s && eqb (length last) 0) ≡ b → Stops s (cond b (Ok s.done) (Err n)) n (last ∷ [])
stops_last last s n true e =
    let p = and_parts (is_end s) (eqb (length last) 0) e in
    subst (λ (l : List ℕ). Stops s (Ok s.done) n (l ∷ [])) (sym (nil_from_length last (eqb-true _ _ p.1))) (finished p.0 refl)
stops_last last s n false e = unfinished refl

behind : (line : List ℕ) (ps : List (List ℕ)) (s t : State) (n : ℕ) (r : Result (List ReportParts) ℕ) → step s line ≡ Some t → AnyStop ps t (n + 1) r → AnyStop (line ∷ ps) s n r
behind line ps s t n r e (ls, rest, u, a) =
    (line ∷ ls, rest, u, record { cut = ap (λ (x : List (List ℕ)). line ∷ x) a.cut; ran = rw e (a.ran); stops = subst (λ (k : ℕ). Stops u r k rest) (let k : n + 1 + length ls ≡ n + length (line ∷ ls) = omega arith in k) a.stops })

zero_more : (n : ℕ) → n ≡ n + 0
zero_more n = omega arith

stops_more : (line next : List ℕ) (more : List (List ℕ)) (s : State) (n : ℕ) (o : Option State) → step s line ≡ o → ((t : State) → AnyStop (next ∷ more) t (n + 1) (read t (n + 1) (next ∷ more))) → AnyStop (line ∷ next ∷ more) s n (or_wrong n o (λ t. read t (n + 1) (next ∷ more)))
stops_more line next more s n None e each = here (line ∷ next ∷ more) s n (Err n) (subst (λ (k : ℕ). Stops s (Err n) k (line ∷ next ∷ more)) (zero_more n) (refused e refl))
stops_more line next more s n (Some t) e each = behind line (next ∷ more) s t n (read t (n + 1) (next ∷ more)) e (each t)

stops_at : (ps : List (List ℕ)) (s : State) (n : ℕ) → 0 < length ps → AnyStop ps s n (read s n ps)
unfolding read
stops_at [] s n some = absurd (omega arith)
stops_at (last ∷ []) s n some = here (last ∷ []) s n _ (subst (λ (k : ℕ). Stops s (cond (is_end s && eqb (length last) 0) (Ok s.done) (Err n)) k (last ∷ [])) (zero_more n) (stops_last last s n (is_end s && eqb (length last) 0) refl))
stops_at (line ∷ next ∷ more) s n some = stops_more line next more s n (step s line) refl (λ t. stops_at (next ∷ more) t (n + 1) (omega arith))

-- ---- good lines begin a text

abbrev last_zero : Last
last_zero = record { component = 0; edge = 0; status = 0; view = 0; body = None; lock = 0 }

last_zero_fits : FitsLast last_zero
last_zero_fits = record { components = lit< tt; edges = lit< tt; statuses = lit< tt; last_view = lit< tt; last_body = tt; locks = lit< tt }

abbrev Ends : State → Type 0
Ends s = (more : List ℕ) × (t : State) × Goes s more t × (is_end t ≡ true)

ends_behind : (s t : State) (a : List ℕ) → Goes s a t → Ends t → Ends s
ends_behind s t a g (more, u, h, e) = (a ++ more, u, goes_join s t u a more g h, e)

same_total : (m n : ℕ) → m ≡ n → ((m == 0) || (m == n)) ≡ true
same_total m n e = elim (m == 0) as (λ b. (b || (m == n)) ≡ true) [ true ↦ refl | false ↦ eq-eqb m n e ]

all_ended : (k : ℕ) (done : List ReportParts) (n : ℕ) → FitsRow n → length done + k ≡ n → Ends (between_of done n)
all_ended zero done n fits e = ([], between_of done n, goes_none (between_of done n), eq-eqb (length done) n (omega (arith, e)))
all_ended (suc k) done n fits e =
    let r = ended (inside_of done n [] []) last_zero in
    let head = goes_head done n n [] (same_total n n refl) (omega (arith, e)) fits tt in
    let exit = goes_exit done n [] [] last_zero last_zero_fits in
    ends_behind (between_of done n) (inside_of done n [] []) _ head
    (ends_behind (inside_of done n [] []) (between_of (done ++ r ∷ []) n) _ exit (all_ended k (done ++ r ∷ []) n fits (omega (arith, e, length-append done (r ∷ [])))))

ended_inside : (done : List ReportParts) (n : ℕ) (bodies : List BodyParts) (views : List ViewStep) (k : ℕ) → FitsRow n → length done + suc k ≡ n → Ends (inside_of done n bodies views)
ended_inside done n bodies views k fits e =
    let r = ended (inside_of done n bodies views) last_zero in
    ends_behind (inside_of done n bodies views) (between_of (done ++ r ∷ []) n) _ (goes_exit done n bodies views last_zero last_zero_fits) (all_ended k (done ++ r ∷ []) n fits (omega (arith, e, length-append done (r ∷ []))))

difference : (a b : ℕ) → a ≤ b → (k : ℕ) × (a + k ≡ b)
difference zero b le = (b, omega arith)
difference (suc a) zero le = absurd (omega arith)
difference (suc a) (suc b) le = let d = difference a b (omega arith) in (d.0, omega (arith, d.1))

same_state : (s : State) (b : Bool) → s.inside ≡ b → s ≡ record { done = s.done; total = s.total; inside = b; bodies = s.bodies; views = s.views }
same_state s b e = ap (λ (x : Bool). record { done = s.done; total = s.total; inside = x; bodies = s.bodies; views = s.views }) e

can_end : (s : State) (bytes : List ℕ) (b : Bool) → s.inside ≡ b → At b s bytes → Ends s
can_end s bytes false e (ts, w) =
    let len : length s.done ≡ length ts = sym (ap length w.before.reports) ∙ length-map ts (λ t. t.report) in
    let d = difference (length s.done) s.total (omega (arith, len, w.within)) in
    let is : s ≡ between_of s.done s.total = same_state s false e ∙ ap (λ (x : List BodyParts). record { done = s.done; total = s.total; inside = false; bodies = x; views = s.views }) w.no_bodies ∙ ap (λ (x : List ViewStep). record { done = s.done; total = s.total; inside = false; bodies = []; views = x }) w.no_views in
    subst Ends (sym is) (all_ended d.0 s.done s.total w.before.counted d.1)
can_end s bytes true e (ts, rest, w) =
    let len : length s.done ≡ length ts = sym (ap length w.before.reports) ∙ length-map ts (λ t. t.report) in
    let d = difference (length s.done + 1) s.total (omega (arith, len, w.within)) in
    subst Ends (sym (same_state s true e)) (ended_inside s.done s.total s.bodies s.views d.0 w.before.counted (omega (arith, d.1)))

front_of : (s : State) (bytes : List ℕ) → SoFar s bytes → IsFront bytes
front_of s bytes at =
    let (more, t, (ls, free, are, ran), e) = can_end s bytes s.inside refl at in
    (t.done, more, subst (λ (m : List ℕ). IsReportsText (bytes ++ m) t.done) (sym are) (ends_text t (bytes ++ feed ls) (run_keeps ls s t bytes at free ran) e))

-- ---- the whole text

so_far : (ls : List (List ℕ)) (t : State) → AllByRecursion NoFeed ls → run start ls ≡ Some t → SoFar t (feed ls)
so_far ls t free ran = run_keeps ls start t [] so_far_start free ran

-- no text begins with the good lines and a line that is refused behind them
refused_front : (ls : List (List ℕ)) (line : List ℕ) (t : State) → AllByRecursion NoFeed (ls ++ line ∷ []) → run start ls ≡ Some t → step t line ≡ None → IsFront (feed (ls ++ line ∷ [])) → ⊥
unfolding reading
refused_front ls line t free ran refusal (rs, more, is) =
    let cut : pieces 10 (feed (ls ++ line ∷ []) ++ more) ≡ ls ++ (line ∷ pieces 10 more) = cut_feed (ls ++ line ∷ []) more free ∙ append_assoc ls (line ∷ []) (pieces 10 more) in
    let one : read t (1 + length ls) (line ∷ pieces 10 more) ≡ Err (1 + length ls) = read_one t (1 + length ls) line (pieces 10 more) (some_piece more) ∙ ap (λ (o : Option State). or_wrong (1 + length ls) o (λ t. read t (1 + length ls + 1) (pieces 10 more))) refusal in
    let bad : reading (feed (ls ++ line ∷ []) ++ more) ≡ Err (1 + length ls) = ap (λ (ps : List (List ℕ)). read start 1 ps) cut ∙ read_along ls (line ∷ pieces 10 more) start t 1 (let k : 0 < length (line ∷ pieces 10 more) = omega arith in k) ran ∙ one in
    let clash : ◌≡◌ {A = Result (List ReportParts) ℕ} (Ok rs) (Err (1 + length ls)) = sym (reading_again _ rs is) ∙ bad in
    absurd cc

not_text : (bytes : List ℕ) (n : ℕ) → reading bytes ≡ Err n → (rs : List ReportParts) → IsReportsText bytes rs → ⊥
not_text bytes n err rs is = let clash : ◌≡◌ {A = Result (List ReportParts) ℕ} (Ok rs) (Err n) = sym (reading_again bytes rs is) ∙ err in absurd cc

-- what an outcome of reading means
abbrev Means : List ℕ → Result (List ReportParts) ℕ → Type 0
Means bytes (Ok rs) = IsReportsText bytes rs
Means bytes (Err n) = HasFirstWrong n bytes

means_at : (bytes : List ℕ) (r : Result (List ReportParts) ℕ) (ls rest : List (List ℕ)) (t : State) → reading bytes ≡ r → Stopped (pieces 10 bytes) start 1 r ls rest t → Stops t r (1 + length ls) rest → Means bytes r
means_at bytes r ls [] t is s stop = elim stop [ ]
means_at bytes r ls (last ∷ []) t is s (finished e same) =
    let free = front_lines ls ([] ∷ []) (subst (λ (ps : List (List ℕ)). AllByRecursion NoFeed ps) s.cut (pieces_free bytes)) in
    let bytes_are : bytes ≡ feed ls = sym (join_with_byte-slice_split 10 bytes) ∙ ap (λ (ps : List (List ℕ)). join_with_byte 10 ps) s.cut ∙ join_lines ls in
    subst (λ (r : Result (List ReportParts) ℕ). Means bytes r) (sym same) (subst (λ (b : List ℕ). IsReportsText b t.done) (sym bytes_are) (ends_text t (feed ls) (so_far ls t free s.ran) e))
means_at bytes r ls (last ∷ []) t is s (unfinished same) =
    let free = front_lines ls (last ∷ []) (subst (λ (ps : List (List ℕ)). AllByRecursion NoFeed ps) s.cut (pieces_free bytes)) in
    subst (λ (r : Result (List ReportParts) ℕ). Means bytes r) (sym same) (
      ls,
      last,
      [],
      record {
        cut = s.cut;
        counted = omega arith;
        good_front = front_of t (feed ls) (so_far ls t free s.ran);
        wrong = λ some _. absurd (omega arith);
        no_text = not_text bytes (1 + length ls) (is ∙ same);
      },
    )
means_at bytes r ls (line ∷ next ∷ more) t is s (refused refusal same) =
    let free = front_lines (ls ++ line ∷ []) (next ∷ more) (subst (λ (ps : List (List ℕ)). AllByRecursion NoFeed ps) (s.cut ∙ sym (append_assoc ls (line ∷ []) (next ∷ more))) (pieces_free bytes)) in
    subst (λ (r : Result (List ReportParts) ℕ). Means bytes r) (sym same) (
      ls,
      line,
      next ∷ more,
      record {
        cut = s.cut;
        counted = omega arith;
        good_front = front_of t (feed ls) (so_far ls t (front_lines ls (line ∷ []) free) s.ran);
        wrong = λ _. refused_front ls line t free s.ran refusal;
        no_text = not_text bytes (1 + length ls) (is ∙ same);
      },
    )

means : (bytes : List ℕ) → Means bytes (reading bytes)
unfolding reading
means bytes =
    let (ls, rest, t, s) = stops_at (pieces 10 bytes) start 1 (some_piece bytes) in
    means_at bytes (reading bytes) ls rest t refl s s.stops

-- ---- there is one first wrong line

front_shorter : (xs ys : List (List ℕ)) → IsFront (feed (xs ++ ys)) → IsFront (feed xs)
front_shorter xs ys (rs, more, is) =
    (rs, feed ys ++ more, subst (λ (b : List ℕ). IsReportsText b rs) (ap (λ (x : List ℕ). x ++ more) (flat_map-append (λ l. l ++ 10 ∷ []) xs ys) ∙ append_assoc (feed xs) (feed ys) more) is)

two_cuts : (g h : List (List ℕ)) (x y : List ℕ) (more rest : List (List ℕ)) → g ++ x ∷ more ≡ h ++ y ∷ rest → length g < length h → (ys : List (List ℕ)) × (h ≡ g ++ x ∷ ys) × (0 < length more)
two_cuts g [] x y more rest e lt = absurd (omega arith)
two_cuts [] (b ∷ h) x y more rest e lt =
    let head : x ≡ b = cc in
    let tail : more ≡ h ++ y ∷ rest = cc in
    (h, ap (λ (l : List ℕ). l ∷ h) (sym head), rw tail (omega (arith, length-append h (y ∷ rest))))
two_cuts (a ∷ g) (b ∷ h) x y more rest e lt =
    let head : a ≡ b = cc in
    let t = two_cuts g h x y more rest (cc) (omega arith) in
    (t.0, ap (λ (l : List ℕ). l ∷ h) (sym head) ∙ ap (λ (l : List (List ℕ)). a ∷ l) t.1, t.2)

not_before : (n m : ℕ) (g h : List (List ℕ)) (x y : List ℕ) (more rest : List (List ℕ)) (bytes : List ℕ) → IsFirstWrong n g x more bytes → IsFirstWrong m h y rest bytes → length g < length h → ⊥
not_before n m g h x y more rest bytes p q lt =
    let t = two_cuts g h x y more rest (sym p.cut ∙ q.cut) lt in
    let longer : IsFront (feed ((g ++ x ∷ []) ++ t.0)) = subst (λ (l : List (List ℕ)). IsFront (feed l)) (t.1 ∙ sym (append_assoc g (x ∷ []) t.0)) q.good_front in
    p.wrong t.2 (front_shorter (g ++ x ∷ []) t.0 longer)

one_wrong : (n m : ℕ) (bytes : List ℕ) → HasFirstWrong n bytes → HasFirstWrong m bytes → n ≡ m
one_wrong n m bytes (g, x, more, p) (h, y, rest, q) =
    elim (cases_order (length g) (length h)) [
      | inl same ↦ omega (arith, p.counted, q.counted)
      | inr (inl lt) ↦ absurd (not_before n m g h x y more rest bytes p q lt)
      | inr (inr gt) ↦ absurd (not_before m n h g y x rest more bytes q p gt)
    ]

wrong_is : (bytes : List ℕ) (n : ℕ) (r : Result (List ReportParts) ℕ) → Means bytes r → HasFirstWrong n bytes → r ≡ Err n
wrong_is bytes n (Ok rs) is (g, x, more, p) = absurd (p.no_text rs is)
wrong_is bytes n (Err m) is w = ap (λ (k : ℕ). Err k) (one_wrong m n bytes is w)

-- ---- what the reader's answer says

pub is_found : (bytes : List ℕ) (r : Result (Vec Report Global) ReadBack) → Gives r (reading bytes) → IfOk r (λ v. IsReportsText bytes (map report_parts v.items))
is_found bytes (Ok v) given = subst (λ (r : Result (List ReportParts) ℕ). Means bytes r) given (means bytes)
is_found bytes (Err e) given = tt

pub is_only : (bytes : List ℕ) (r : Result (Vec Report Global) ReadBack) → Gives r (reading bytes) → (rs : List ReportParts) → IsReportsText bytes rs → Gives r (Ok rs)
is_only bytes r given rs is = subst (λ (x : Result (List ReportParts) ℕ). Gives r x) (reading_again bytes rs is) given

pub is_line : (bytes : List ℕ) (r : Result (Vec Report Global) ReadBack) → Gives r (reading bytes) → OnLine r (λ n. HasFirstWrong n bytes)
is_line bytes (Ok v) given = tt
is_line bytes (Err (faults.Line n)) given = subst (λ (r : Result (List ReportParts) ℕ). Means bytes r) given (means bytes)
is_line bytes (Err faults.Memory) given = tt

pub is_exact : (bytes : List ℕ) (r : Result (Vec Report Global) ReadBack) → Gives r (reading bytes) → (n : ℕ) → HasFirstWrong n bytes → Gives r (Err n)
is_exact bytes r given n w = subst (λ (x : Result (List ReportParts) ℕ). Gives r x) (wrong_is bytes n (reading bytes) (means bytes) w) given
