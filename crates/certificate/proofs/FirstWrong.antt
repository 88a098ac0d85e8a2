-- The line that reading names is the first one with which no certificate begins.
use Rattle.std.proofs.Common.{Bool, Err, List, None, Ok, Option, Result, Some, [], ap, append_assoc, arith, cond, eqb, false, inl, inr, length, map, refl, rules, subst, sym, true, ℕ, ◌&&◌, ◌++◌, ◌+◌, ◌<◌, ◌∙◌, ◌∷◌, ◌≡◌, ◌⊎◌}
use Rattle.std.specs.Prelude.{option_map, ◌==◌, IfOk}
use Rattle.std.specs.List.{AllByRecursion, flat_map, onto_first}
use Rattle.std.proofs.lemmas.List.{length-append, length-map}
use Rattle.std.proofs.lemmas.Bool.{cases_order}
use Rattle.std.proofs.lemmas.List.Concat.{flat_map-append}
use Rattle.std.proofs.lemmas.List.Elements.{All-from_recursion}
use Rattle.std.proofs.lemmas.List.Splits.{slice_split_at}
use Rattle.std.proofs.lemmas.Option.{some_pair_parts}
use Rattle.cert_line.specs.Reading.{pieces}
use Rattle.cert_line.specs.declared.rows.Line.{Line}
use Rattle.cert_line.specs.declared.rows.Line.TheVariants.{Version, ListDigest, DexDigest, End}
use Rattle.cert_line.specs.Lines.{Fits, spelled, with_feed}
use Rattle.cert_line.proofs.Choices.{bind_some}
use Rattle.certificate.specs.declared.parts.CertFault.{CertFault}
use Rattle.certificate.specs.declared.parts.CertFault.TheVariants as faults
use Rattle.certificate.specs.declared.reading.Place.{Place}
use Rattle.certificate.specs.declared.reading.Place.TheVariants as places
use Rattle.certificate.specs.Parts.{CertParts}
use Rattle.certificate.specs.Texts.{IsCert, certificate_text}
use Rattle.certificate.specs.Reading.{follow, pushed, step, is_end, or_wrong, read, reading, empty}
use Rattle.certificate.specs.Wrong.{OnLine, IsFront, IsFirstWrong, HasFirstWrong, feed, Gives}
use Rattle.certificate.proofs.OneLine.{read_one, some_piece}
use Rattle.certificate.proofs.Machine.{tail_of, joined, goes, run, run_is, beside}
use Rattle.certificate.proofs.Accepted.{lines_append}
use Rattle.certificate.proofs.Laws.{step_again, step_takes, split_lines, read_again, reading_again, reading_takes}

-- ---- each place is one from which a certificate can be completed

abbrev completed : Place → List Line
completed places.Start = Version ∷ ListDigest empty.list ∷ DexDigest empty.list ∷ End ∷ []
completed places.Version = ListDigest empty.list ∷ DexDigest empty.list ∷ End ∷ []
completed places.List = DexDigest empty.list ∷ End ∷ []
completed places.Dex = End ∷ []
completed (places.Lock r) = End ∷ []
completed places.End = []

zeros_fit : Fits (ListDigest empty.list)
zeros_fit = (refl, search rules)

completed_fit : (at : Place) → AllByRecursion Fits (completed at)
completed_fit places.Start = (tt, (zeros_fit, (zeros_fit, (tt, tt))))
completed_fit places.Version = (zeros_fit, (zeros_fit, (tt, tt)))
completed_fit places.List = (zeros_fit, (tt, tt))
completed_fit places.Dex = (tt, tt)
completed_fit (places.Lock r) = (tt, tt)
completed_fit places.End = tt

completed_goes : (at : Place) (n : ℕ) → goes n at (completed at) ≡ Some places.End
unfolding goes follow
completed_goes places.Start n = refl
completed_goes places.Version n = refl
completed_goes places.List n = refl
completed_goes places.Dex n = refl
completed_goes (places.Lock r) n = refl
completed_goes places.End n = refl

-- ---- along good lines

run_on : (ls more : List Line) (c d : CertParts) (at e : Place) → run c at ls ≡ Some (d, e) → run c at (ls ++ more) ≡ run d e more
unfolding run
run_on [] more c d at e h = let p = some_pair_parts c d at e h in rw (p.0, p.1) refl
run_on (l ∷ ls) more c d at e h =
    let b = bind_some (follow (length c.locks) at l) (λ next. run (pushed c l) next ls) (d, e) h in
    rw (b.1) (run_on ls more (pushed c l) d b.0 e b.2)

completed_run : (d : CertParts) (e : Place) → (x : CertParts) × (run d e (completed e) ≡ Some (x, places.End))
completed_run d e = (joined d (tail_of (completed e)), run_is (completed e) d e ∙ ap (λ (o : Option Place). option_map (beside (joined d (tail_of (completed e)))) o) (completed_goes e (length d.locks)))

-- good lines begin a certificate
front_of : (ls : List Line) (d : CertParts) (e : Place) → AllByRecursion Fits ls → run empty places.Start ls ≡ Some (d, e) → IsFront (flat_map with_feed ls)
unfolding reading
front_of ls d e fits h =
    let whole = ls ++ completed e in
    let x = completed_run d e in
    let fits2 = lines_append Fits ls (completed e) fits (completed_fit e) in
    let ran : run empty places.Start whole ≡ Some (x.0, places.End) = run_on ls (completed e) empty d places.Start e h ∙ x.1 in
    let got : reading (flat_map with_feed whole) ≡ Ok x.0 = ap (λ (ps : List (List ℕ)). read empty places.Start 1 ps) (split_lines whole fits2) ∙ read_again whole empty x.0 places.Start 1 fits2 ran in
    let t = reading_takes (flat_map with_feed whole) x.0 got in
    (x.0, flat_map with_feed (completed e), t.0, sym t.1 ∙ flat_map-append with_feed ls (completed e))

read_along : (ls : List Line) (ps : List (List ℕ)) (c d : CertParts) (at e : Place) (n : ℕ) → 0 < length ps → AllByRecursion Fits ls → run c at ls ≡ Some (d, e) → read c at n (map spelled ls ++ ps) ≡ read d e (n + length ls) ps
unfolding run
read_along [] ps c d at e n some fits h = let p = some_pair_parts c d at e h in rw (p.0, p.1) (ap (λ (k : ℕ). read d e k ps) (let k : n ≡ n + 0 = omega arith in k))
read_along (l ∷ ls) ps c d at e n some fits h =
    let b = bind_some (follow (length c.locks) at l) (λ next. run (pushed c l) next ls) (d, e) h in
    let left : 0 < length (map spelled ls ++ ps) = omega (arith, length-append (map spelled ls) ps) in
    read_one c at n (spelled l) (map spelled ls ++ ps) left ∙ ap (λ (o : Option (CertParts × Place)). or_wrong n o (λ x. read x.0 x.1 (n + 1) (map spelled ls ++ ps))) (step_again c at b.0 l fits.0 b.1) ∙ read_along ls ps (pushed c l) d b.0 e (n + 1) some fits.1 b.2 ∙ ap (λ (k : ℕ). read d e k ps) (let k : n + 1 + length ls ≡ n + length (l ∷ ls) = omega arith in k)

-- ---- where reading stops

pub data Stops (d : CertParts) (e : Place) : List (List ℕ) → Type 0 where
  unfinished : {last : List ℕ} → (is_end e && eqb (length last) 0) ≡ false → Stops d e (last ∷ [])
  refused : {line next : List ℕ} {more : List (List ℕ)} → step d e line ≡ None → Stops d e (line ∷ next ∷ more)

pub record Stopped (ps : List (List ℕ)) (c : CertParts) (at : Place) (n m : ℕ) (ls : List Line) (rest : List (List ℕ)) (d : CertParts) (e : Place) : Type 0 where
  pub cut : ps ≡ map spelled ls ++ rest
  pub fits : AllByRecursion Fits ls
  pub ran : run c at ls ≡ Some (d, e)
  pub count : m ≡ n + length ls
  pub stops : Stops d e rest

abbrev pub AnyStop : List (List ℕ) → CertParts → Place → ℕ → ℕ → Type 0
AnyStop ps c at n m = (ls : List Line) × (rest : List (List ℕ)) × (d : CertParts) × (e : Place) × Stopped ps c at n m ls rest d e

end_err : (b : Bool) (n m : ℕ) (c : CertParts) → cond b (Ok c) (Err n) ≡ Err m → (b ≡ false) × (m ≡ n)
end_err true n m c e = absurd cc
end_err false n m c e = (refl, cc)

no_lines : (ps : List (List ℕ)) (c : CertParts) (at : Place) (n m : ℕ) → m ≡ n → Stops c at ps → AnyStop ps c at n m
unfolding run
no_lines ps c at n m e s = ([], ps, c, at, record { cut = refl; fits = tt; ran = refl; count = omega arith; stops = s })

after_line : (ps : List (List ℕ)) (line : List ℕ) (c : CertParts) (at : Place) (n m : ℕ) (x : CertParts × Place) → step c at line ≡ Some x → AnyStop ps x.0 x.1 (n + 1) m → AnyStop (line ∷ ps) c at n m
unfolding run
after_line ps line c at n m x e (ls, rest, d, end, s) =
    let t = step_takes c at line x e in (
      t.0 ∷ ls,
      rest,
      d,
      end,
      record {
        cut = ap (λ (p : List ℕ). p ∷ ps) t.1 ∙ ap (λ (qs : List (List ℕ)). spelled t.0 ∷ qs) s.cut;
        fits = (t.2, s.fits);
        ran = rw (t.3) (ap (λ (e : CertParts). run e x.1 ls) t.4 ∙ s.ran);
        count = omega (arith, s.count);
        stops = s.stops;
      },
    )

or_err : (n m : ℕ) (o : Option (CertParts × Place)) (go : CertParts × Place → Result CertParts ℕ) → or_wrong n o go ≡ Err m → ((o ≡ None) × (m ≡ n)) ⊎ ((x : CertParts × Place) × (o ≡ Some x) × (go x ≡ Err m))
or_err n m None go e = inl (refl, cc)
or_err n m (Some x) go e = inr (x, refl, e)

stops_at : (ps : List (List ℕ)) (c : CertParts) (at : Place) (n m : ℕ) → 0 < length ps → read c at n ps ≡ Err m → AnyStop ps c at n m
unfolding read
stops_at [] c at n m some e = absurd (omega arith)
stops_at (last ∷ []) c at n m some e = let g = end_err (is_end at && eqb (length last) 0) n m c e in no_lines (last ∷ []) c at n m g.1 (unfinished g.0)
stops_at (line ∷ next ∷ more) c at n m some e =
    elim (or_err n m (step c at line) (λ x. read x.0 x.1 (n + 1) (next ∷ more)) e) [
      | inl p ↦ no_lines (line ∷ next ∷ more) c at n m p.1 (refused p.0)
      | inr p ↦ after_line (next ∷ more) line c at n m p.0 p.1 (stops_at (next ∷ more) p.0.0 p.0.1 (n + 1) m (omega arith) p.2)
    ]

-- ---- lines that were cut have no line feed

abbrev pub NoFeed : List ℕ → Type 0
NoFeed bs = AllByRecursion (λ b. (b == 10) ≡ false) bs

onto_free : (x : ℕ) (ps : List (List ℕ)) → (x == 10) ≡ false → AllByRecursion NoFeed ps → AllByRecursion NoFeed (onto_first x ps)
onto_free x [] e h = ((e, tt), tt)
onto_free x (p ∷ ps) e h = ((e, h.0), h.1)

one_free : (b : Bool) (x : ℕ) (ps : List (List ℕ)) → (x == 10) ≡ b → AllByRecursion NoFeed ps → AllByRecursion NoFeed (cond b ([] ∷ ps) (onto_first x ps))
one_free true x ps e h = (tt, h)
one_free false x ps e h = onto_free x ps e h

pieces_free : (bytes : List ℕ) → AllByRecursion NoFeed (pieces 10 bytes)
pieces_free [] = (tt, tt)
pieces_free (x ∷ xs) = one_free (x == 10) x (pieces 10 xs) refl (pieces_free xs)

cut_feed : (ls : List (List ℕ)) (more : List ℕ) → AllByRecursion NoFeed ls → pieces 10 (feed ls ++ more) ≡ ls ++ pieces 10 more
cut_feed [] more h = refl
cut_feed (l ∷ ls) more h =
    let regrouped : feed (l ∷ ls) ++ more ≡ l ++ (10 ∷ (feed ls ++ more)) = append_assoc (l ++ 10 ∷ []) (feed ls) more ∙ append_assoc l (10 ∷ []) (feed ls ++ more) in
    ap (pieces 10) regrouped ∙ slice_split_at (λ b. b == 10) l 10 (feed ls ++ more) (All-from_recursion (λ b. (b == 10) ≡ false) l h.0) refl ∙ ap (λ (ps : List (List ℕ)). l ∷ ps) (cut_feed ls more h.1)

front_lines : (xs ys : List (List ℕ)) → AllByRecursion NoFeed (xs ++ ys) → AllByRecursion NoFeed xs
front_lines [] ys h = tt
front_lines (x ∷ xs) ys h = (h.0, front_lines xs ys h.1)

feed_is : (ls : List Line) → feed (map spelled ls) ≡ flat_map with_feed ls
feed_is [] = refl
feed_is (l ∷ ls) = ap (λ (x : List ℕ). with_feed l ++ x) (feed_is ls)

-- no certificate begins with the good lines and a line that is refused behind them
refused_front : (ls : List Line) (line : List ℕ) (d : CertParts) (e : Place) → AllByRecursion Fits ls → AllByRecursion NoFeed (map spelled ls ++ line ∷ []) → run empty places.Start ls ≡ Some (d, e) → step d e line ≡ None → IsFront (feed (map spelled ls ++ line ∷ [])) → ⊥
unfolding reading
refused_front ls line d e fits free h refusal (c, more, is, same) =
    let again : reading (certificate_text c) ≡ Ok c = reading_again c is in
    let cut : pieces 10 (certificate_text c) ≡ map spelled ls ++ (line ∷ pieces 10 more) = ap (pieces 10) same ∙ cut_feed (map spelled ls ++ line ∷ []) more free ∙ append_assoc (map spelled ls) (line ∷ []) (pieces 10 more) in
    let along : read empty places.Start 1 (map spelled ls ++ (line ∷ pieces 10 more)) ≡ read d e (1 + length ls) (line ∷ pieces 10 more) = read_along ls (line ∷ pieces 10 more) empty d places.Start e 1 (let k : 0 < length (line ∷ pieces 10 more) = omega arith in k) fits h in
    let one : read d e (1 + length ls) (line ∷ pieces 10 more) ≡ Err (1 + length ls) = read_one d e (1 + length ls) line (pieces 10 more) (some_piece more) ∙ ap (λ (o : Option (CertParts × Place)). or_wrong (1 + length ls) o (λ x. read x.0 x.1 (1 + length ls + 1) (pieces 10 more))) refusal in
    let bad : read empty places.Start 1 (pieces 10 (certificate_text c)) ≡ Err (1 + length ls) = ap (λ (ps : List (List ℕ)). read empty places.Start 1 ps) cut ∙ along ∙ one in
    let clash : ◌≡◌ {A = Result CertParts ℕ} (Ok c) (Err (1 + length ls)) = sym again ∙ bad in
    absurd cc

not_text : (bytes : List ℕ) (n : ℕ) → reading bytes ≡ Err n → (c : CertParts) → IsCert c → bytes ≡ certificate_text c → ⊥
not_text bytes n err c is same = let clash : ◌≡◌ {A = Result CertParts ℕ} (Ok c) (Err n) = sym (ap reading same ∙ reading_again c is) ∙ err in absurd cc

wrong_line_of : (ls : List Line) (rest : List (List ℕ)) (d : CertParts) (e : Place) (bytes : List ℕ) (n : ℕ) → reading bytes ≡ Err n → Stopped (pieces 10 bytes) empty places.Start 1 n ls rest d e → Stops d e rest → (good : List (List ℕ)) × (line : List ℕ) × (more : List (List ℕ)) × IsFirstWrong n good line more bytes
wrong_line_of ls [] d e bytes n err s stop = elim stop [ ]
wrong_line_of ls (last ∷ []) d e bytes n err s (unfinished u) = (
  map spelled ls,
  last,
  [],
  record {
    cut = s.cut;
    counted = omega (arith, s.count, length-map ls spelled);
    good_front = subst IsFront (sym (feed_is ls)) (front_of ls d e s.fits s.ran);
    wrong = λ some _. absurd (omega arith);
    no_text = not_text bytes n err;
  },
)
wrong_line_of ls (line ∷ next ∷ more) d e bytes n err s (refused refusal) = (
  map spelled ls,
  line,
  next ∷ more,
  record {
    cut = s.cut;
    counted = omega (arith, s.count, length-map ls spelled);
    good_front = subst IsFront (sym (feed_is ls)) (front_of ls d e s.fits s.ran);
    wrong = λ _. refused_front ls line d e s.fits (front_lines (map spelled ls ++ line ∷ []) (next ∷ more) (subst (λ (ps : List (List ℕ)). AllByRecursion NoFeed ps) (s.cut ∙ sym (append_assoc (map spelled ls) (line ∷ []) (next ∷ more))) (pieces_free bytes))) s.ran refusal;
    no_text = not_text bytes n err;
  },
)

pub is_first_wrong : (bytes : List ℕ) (n : ℕ) → reading bytes ≡ Err n → HasFirstWrong n bytes
unfolding reading
is_first_wrong bytes n err =
    let (ls, rest, d, e, s) = stops_at (pieces 10 bytes) empty places.Start 1 n (some_piece bytes) err in
    wrong_line_of ls rest d e bytes n err s s.stops

-- ---- what the reader's answer says

pub is_found : (bytes : List ℕ) (r : Result CertParts CertFault) → Gives r (reading bytes) → IfOk r (λ c. IsCert c × (bytes ≡ certificate_text c))
is_found bytes (Ok c) given = reading_takes bytes c given
is_found bytes (Err e) given = tt

pub is_only : (bytes : List ℕ) (r : Result CertParts CertFault) → Gives r (reading bytes) → (c : CertParts) → IsCert c → bytes ≡ certificate_text c → Gives r (Ok c)
is_only bytes r given c is same = subst (λ (x : Result CertParts ℕ). Gives r x) (ap reading same ∙ reading_again c is) given

pub is_line : (bytes : List ℕ) (r : Result CertParts CertFault) → Gives r (reading bytes) → OnLine r (λ n. HasFirstWrong n bytes)
is_line bytes (Ok c) given = tt
is_line bytes (Err (faults.Line n)) given = is_first_wrong bytes n given
is_line bytes (Err faults.Memory) given = tt

-- ---- there is one first wrong line

front_shorter : (xs ys : List (List ℕ)) → IsFront (feed (xs ++ ys)) → IsFront (feed xs)
front_shorter xs ys (c, more, is, same) =
    (c, feed ys ++ more, is, same ∙ ap (λ (x : List ℕ). x ++ more) (flat_map-append (λ l. l ++ 10 ∷ []) xs ys) ∙ append_assoc (feed xs) (feed ys) more)

two_cuts : (g h : List (List ℕ)) (x y : List ℕ) (more rest : List (List ℕ)) → g ++ x ∷ more ≡ h ++ y ∷ rest → length g < length h → (ys : List (List ℕ)) × (h ≡ g ++ x ∷ ys) × (0 < length more)
two_cuts g [] x y more rest e lt = absurd (omega arith)
two_cuts [] (b ∷ h) x y more rest e lt =
    let head : x ≡ b = cc in
    let tail : more ≡ h ++ y ∷ rest = cc in
    (h, ap (λ (l : List ℕ). l ∷ h) (sym head), rw tail (omega (arith, length-append h (y ∷ rest))))
two_cuts (a ∷ g) (b ∷ h) x y more rest e lt =
    let head : a ≡ b = cc in
    let t = two_cuts g h x y more rest (cc) (omega arith) in
    (t.0, ap (λ (l : List ℕ). l ∷ h) (sym head) ∙ ap (λ (l : List (List ℕ)). a ∷ l) t.1, t.2)

not_before : (n m : ℕ) (g h : List (List ℕ)) (x y : List ℕ) (more rest : List (List ℕ)) (bytes : List ℕ) → IsFirstWrong n g x more bytes → IsFirstWrong m h y rest bytes → length g < length h → ⊥
not_before n m g h x y more rest bytes p q lt =
    let t = two_cuts g h x y more rest (sym p.cut ∙ q.cut) lt in
    let longer : IsFront (feed ((g ++ x ∷ []) ++ t.0)) = subst (λ (l : List (List ℕ)). IsFront (feed l)) (t.1 ∙ sym (append_assoc g (x ∷ []) t.0)) q.good_front in
    p.wrong t.2 (front_shorter (g ++ x ∷ []) t.0 longer)

pub one_wrong : (n m : ℕ) (bytes : List ℕ) → HasFirstWrong n bytes → HasFirstWrong m bytes → n ≡ m
one_wrong n m bytes (g, x, more, p) (h, y, rest, q) =
    elim (cases_order (length g) (length h)) [
      | inl same ↦ omega (arith, p.counted, q.counted)
      | inr (inl lt) ↦ absurd (not_before n m g h x y more rest bytes p q lt)
      | inr (inr gt) ↦ absurd (not_before m n h g y x rest more bytes q p gt)
    ]

wrong_is : (bytes : List ℕ) (n : ℕ) (r : Result CertParts ℕ) → reading bytes ≡ r → HasFirstWrong n bytes → r ≡ Err n
wrong_is bytes n (Ok c) e (g, x, more, p) = let t = reading_takes bytes c e in absurd (p.no_text c t.0 t.1)
wrong_is bytes n (Err m) e w = ap (λ (k : ℕ). Err k) (one_wrong m n bytes (is_first_wrong bytes m e) w)

pub is_exact : (bytes : List ℕ) (r : Result CertParts CertFault) → Gives r (reading bytes) → (n : ℕ) → HasFirstWrong n bytes → Gives r (Err n)
is_exact bytes r given n w = subst (λ (x : Result CertParts ℕ). Gives r x) (wrong_is bytes n (reading bytes) refl w) given
