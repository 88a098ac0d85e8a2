-- What is read from a text is spelled so, and what is spelled so is read.
use Rattle.std.proofs.Common.{◌≡◌, ℕ, suc, ◌+◌, ◌^◌, ◌<◌, ◌≤◌, Bool, true, false, cond, eqb, ◌&&◌, List, [], ◌∷◌, ◌++◌, map, length, Option, Some, None, Result, Ok, Err, refl, sym, ap, subst, ◌∙◌, append_assoc, arith, lit<, lit≤}
use Rattle.std.specs.Prelude.{option_map, unwrap_or, ◌==◌}
use Rattle.std.specs.List.{AllByRecursion, flat_map, join_with_byte}
use Rattle.std.proofs.lemmas.Option.{some_pair_parts}
use Rattle.std.proofs.lemmas.Bool.{eqb-true, and_parts}
use Rattle.std.proofs.lemmas.List.{nil_from_length}
use Rattle.std.proofs.lemmas.List.Splits.{slice_split_at, join_with_byte-slice_split}
use Rattle.cert_line.specs.Reading.{◌>>=◌, pieces}
use Rattle.cert_line.specs.declared.rows.Line.{Line}
use Rattle.cert_line.specs.declared.rows.Line.TheVariants.{Version, ListDigest, DexDigest, View, Body, End}
use Rattle.cert_line.specs.Lines.{Fits, spelled, with_feed}
use Rattle.cert_line.specs.Reading.{line_at}
use Rattle.cert_line.proofs.Choices.{bind_some}
use Rattle.cert_line.proofs.Spaces.{free, spelled_above}
use Rattle.cert_line.proofs.Lines.{line_at_takes, line_at_again}
use Rattle.certificate.specs.declared.reading.Place.{Place}
use Rattle.certificate.specs.declared.reading.Place.TheVariants as places
use Rattle.certificate.specs.Parts.{LockRows, CertParts}
use Rattle.certificate.specs.Texts.{lock_lines, lines_of, IsCert, certificate_text}
use Rattle.certificate.specs.Reading.{follow, pushed, step, is_end, or_wrong, read, reading, empty}
use Rattle.certificate.proofs.OneLine.{read_one}
use Rattle.certificate.proofs.Machine.{Tail, tail_of, joined, goes, run, run_is, beside, InHead, shape_of, end_lines}
use Rattle.certificate.proofs.Accepted.{goes_again, tail_again, lines_fit}

-- a text is cut where its lines end
pub split_lines : (ls : List Line) → AllByRecursion Fits ls → pieces 10 (flat_map with_feed ls) ≡ map spelled ls ++ [] ∷ []
split_lines [] fits = refl
split_lines (l ∷ ls) fits =
    let regrouped : with_feed l ++ flat_map with_feed ls ≡ spelled l ++ (10 ∷ flat_map with_feed ls) = append_assoc (spelled l) (10 ∷ []) (flat_map with_feed ls) in
    ap (pieces 10) regrouped ∙ slice_split_at (λ b. b == 10) (spelled l) 10 (flat_map with_feed ls) (free 31 10 (spelled l) (lit≤ tt) (spelled_above l fits.0)) refl ∙ ap (λ (ps : List (List ℕ)). spelled l ∷ ps) (split_lines ls fits.1)

join_lines : (ls : List Line) → join_with_byte 10 (map spelled ls ++ [] ∷ []) ≡ flat_map with_feed ls
join_lines [] = refl
join_lines (l ∷ []) = ap (λ (x : List ℕ). x) (sym (append_assoc (spelled l) (10 ∷ []) []))
join_lines (l ∷ m ∷ ls) = ap (λ (x : List ℕ). spelled l ++ (10 ∷ x)) (join_lines (m ∷ ls)) ∙ sym (append_assoc (spelled l) (10 ∷ []) (flat_map with_feed (m ∷ ls)))

some_left : (ls : List Line) → 0 < length (map spelled ls ++ [] ∷ [])
some_left [] = lit< tt
some_left (l ∷ ls) = omega arith

pub step_again : (c : CertParts) (at next : Place) (l : Line) → Fits l → follow (length c.locks) at l ≡ Some next → step c at (spelled l) ≡ Some (pushed c l, next)
unfolding step
step_again c at next l fits e = rw (line_at_again l fits, e) refl

pub read_again : (ls : List Line) (c d : CertParts) (at : Place) (n : ℕ) → AllByRecursion Fits ls → run c at ls ≡ Some (d, places.End) → read c at n (map spelled ls ++ [] ∷ []) ≡ Ok d
unfolding read run
read_again [] c d at n fits e =
    let p = some_pair_parts c d at places.End e in
    rw (p.1) (ap (λ (x : CertParts). Ok x) p.0)
read_again (l ∷ ls) c d at n fits e =
    let b = bind_some (follow (length c.locks) at l) (λ next. run (pushed c l) next ls) (d, places.End) e in
    let one = read_one c at n (spelled l) (map spelled ls ++ [] ∷ []) (some_left ls) in
    one ∙ ap (λ (o : Option (CertParts × Place)). or_wrong n o (λ x. read x.0 x.1 (n + 1) (map spelled ls ++ [] ∷ []))) (step_again c at b.0 l fits.0 b.1) ∙ read_again ls (pushed c l) d b.0 (n + 1) fits.1 b.2

-- ---- from the bytes to the lines

pub step_takes : (c : CertParts) (at : Place) (bytes : List ℕ) (x : CertParts × Place) → step c at bytes ≡ Some x → (l : Line) × (bytes ≡ spelled l) × Fits l × (follow (length c.locks) at l ≡ Some x.1) × (pushed c l ≡ x.0)
unfolding step
step_takes c at bytes x e =
    let a = bind_some (line_at bytes) (λ l. follow (length c.locks) at l >>= λ next. Some (pushed c l, next)) x e in
    let b = bind_some (follow (length c.locks) at a.0) (λ next. Some (pushed c a.0, next)) x a.2 in
    let t = line_at_takes bytes a.0 a.1 in
    let p = some_pair_parts (pushed c a.0) x.0 b.0 x.1 b.2 in
    (a.0, t.0, t.1, b.1 ∙ ap (λ (q : Place). Some q) p.1, p.0)

or_ok : (n : ℕ) (o : Option (CertParts × Place)) (go : CertParts × Place → Result CertParts ℕ) (d : CertParts) → or_wrong n o go ≡ Ok d → (x : CertParts × Place) × (o ≡ Some x) × (go x ≡ Ok d)
or_ok n None go d e = absurd cc
or_ok n (Some x) go d e = (x, refl, e)

end_ok : (b : Bool) (n : ℕ) (c d : CertParts) → cond b (Ok c) (Err n) ≡ Ok d → (b ≡ true) × (c ≡ d)
end_ok true n c d e = (refl, cc)
end_ok false n c d e = absurd cc

is_at_end : (at : Place) → is_end at ≡ true → at ≡ places.End
is_at_end places.Start e = absurd cc
is_at_end places.Version e = absurd cc
is_at_end places.List e = absurd cc
is_at_end places.Dex e = absurd cc
is_at_end (places.Lock r) e = absurd cc
is_at_end places.End e = refl

pub record AreLines (ps : List (List ℕ)) (c : CertParts) (at : Place) (d : CertParts) (ls : List Line) : Type 0 where
  pub pieces : ps ≡ map spelled ls ++ [] ∷ []
  pub fits : AllByRecursion Fits ls
  pub ran : run c at ls ≡ Some (d, places.End)

one_more : (ps : List (List ℕ)) (line : List ℕ) (c d : CertParts) (at : Place) (x : CertParts × Place) (l : Line) (ls : List Line) → line ≡ spelled l → Fits l → follow (length c.locks) at l ≡ Some x.1 → pushed c l ≡ x.0 → AreLines ps x.0 x.1 d ls → AreLines (line ∷ ps) c at d (l ∷ ls)
unfolding run
one_more ps line c d at x l ls is fits next put are =
    record {
      pieces = ap (λ (p : List ℕ). p ∷ ps) is ∙ ap (λ (qs : List (List ℕ)). spelled l ∷ qs) are.pieces;
      fits = (fits, are.fits);
      ran = rw next (ap (λ (e : CertParts). run e x.1 ls) put ∙ are.ran);
    }

read_takes : (ps : List (List ℕ)) (c d : CertParts) (at : Place) (n : ℕ) → read c at n ps ≡ Ok d → (ls : List Line) × AreLines ps c at d ls
unfolding read run
read_takes [] c d at n e = absurd cc
read_takes (last ∷ []) c d at n e =
    let g = end_ok (is_end at && eqb (length last) 0) n c d e in
    let h = and_parts (is_end at) (eqb (length last) 0) g.0 in
    let nil = nil_from_length last (eqb-true _ _ h.1) in
    ([], record { pieces = ap (λ (l : List ℕ). l ∷ []) nil; fits = tt; ran = ap (λ (x : CertParts). Some (x, at)) g.1 ∙ ap (λ (q : Place). Some (d, q)) (is_at_end at h.0) })
read_takes (line ∷ next ∷ more) c d at n e =
    let b = or_ok n (step c at line) (λ x. read x.0 x.1 (n + 1) (next ∷ more)) d e in
    let s = step_takes c at line b.0 b.1 in
    let t = read_takes (next ∷ more) b.0.0 d b.0.1 (n + 1) b.2 in
    (s.0 ∷ t.0, one_more (next ∷ more) line c d at b.0 s.0 t.0 s.1 s.2 s.3 s.4 t.1)

-- ---- the whole text

pub map_ok : (o : Option Place) (c d : CertParts) → option_map (beside c) o ≡ Some (d, places.End) → (o ≡ Some places.End) × (c ≡ d)
map_ok None c d e = absurd cc
map_ok (Some p) c d e = let q = some_pair_parts c d p places.End e in (ap (λ (x : Place). Some x) q.1, q.0)

skip : (xs ys : List Line) → AllByRecursion Fits (xs ++ ys) → AllByRecursion Fits ys
skip [] ys h = h
skip (x ∷ xs) ys h = skip xs ys h.1

parts_counted : (ps : List LockRows) (n : ℕ) (rest : List Line) → n ≤ 2 ^ 64 → AllByRecursion Fits (lock_lines n ps ++ rest) → n + length ps ≤ 2 ^ 64
parts_counted [] n rest le fits = omega arith
parts_counted (p ∷ ps) n rest le fits =
    let small : n < 2 ^ 64 = fits.0.0 in
    let more = parts_counted ps (suc n) rest (omega arith) (skip (map Body p.bodies) (lock_lines (suc n) ps ++ rest) (subst (λ (x : List Line). AllByRecursion Fits x) (append_assoc (map Body p.bodies) (lock_lines (suc n) ps) rest) (skip (map View p.views) ((map Body p.bodies ++ lock_lines (suc n) ps) ++ rest) (subst (λ (x : List Line). AllByRecursion Fits x) (append_assoc (map View p.views) (map Body p.bodies ++ lock_lines (suc n) ps) rest) fits.1)))) in
    omega arith

pub reading_again : (c : CertParts) → IsCert c → reading (certificate_text c) ≡ Ok c
unfolding reading certificate_text
reading_again c is =
    let ran = run_is (lines_of c) empty places.Start in
    let end : run empty places.Start (lines_of c) ≡ Some (c, places.End) =
    ran ∙ ap (λ (o : Option Place). option_map (beside (joined empty (tail_of (lines_of c)))) o) (goes_again c is) ∙ ap (λ (t : Tail). Some (joined empty t, places.End)) (tail_again c) in
    ap (λ (ps : List (List ℕ)). read empty places.Start 1 ps) (split_lines (lines_of c) (lines_fit c is)) ∙ read_again (lines_of c) empty c places.Start 1 (lines_fit c is) end

-- what a text with its head says
of_head : (d : List ℕ) (t : Tail) (rest ls : List Line) (c : CertParts) → ls ≡ Version ∷ ListDigest d ∷ rest → AllByRecursion Fits ls → InHead d 0 t rest → joined empty t ≡ c → IsCert c × (ls ≡ lines_of c)
of_head d t rest ls c is fits h same =
    let made : CertParts = record { list = d; dex = t.dexes; locks = t.parts } in
    let is_made : made ≡ c = sym (ap (λ (o : Option (List ℕ)). record { list = unwrap_or o empty.list; dex = t.dexes; locks = t.parts }) h.one_list) ∙ same in
    let lines : ls ≡ lines_of made = is ∙ ap (λ (x : List Line). Version ∷ ListDigest d ∷ x) h.lines in
    let fits2 = subst (λ (x : List Line). AllByRecursion Fits x) lines fits in
    let counted = parts_counted t.parts 0 (End ∷ []) (lit≤ tt) (skip (map DexDigest t.dexes) (end_lines 0 t) fits2.1.1) in
    subst (λ (c : CertParts). IsCert c × (ls ≡ lines_of c)) is_made (record { lists = h.list_fits; some_dex = h.some_dex; dexes = h.fits; parts = h.parts; counted = omega (arith, counted) }, lines)

pub reading_takes : (bytes : List ℕ) (c : CertParts) → reading bytes ≡ Ok c → IsCert c × (bytes ≡ certificate_text c)
unfolding reading certificate_text
reading_takes bytes c e =
    let r = read_takes (pieces 10 bytes) empty c places.Start 1 e in
    let ls = r.0 in
    let m = map_ok (goes 0 places.Start ls) (joined empty (tail_of ls)) c (sym (run_is ls empty places.Start) ∙ r.1.ran) in
    let s = shape_of ls 0 places.Start r.1.fits m.0 in
    let w = of_head s.0 (tail_of ls) s.1 ls c s.2 r.1.fits s.3 m.1 in
    (w.0, sym (join_with_byte-slice_split 10 bytes) ∙ ap (λ (ps : List (List ℕ)). join_with_byte 10 ps) r.1.pieces ∙ join_lines ls ∙ ap (λ (x : List Line). flat_map with_feed x) w.1)

ok_inner : (c d : CertParts) → ◌≡◌ {A = Result CertParts ℕ} (Ok c) (Ok d) → c ≡ d
ok_inner c d e = cc

pub one_cert : (c d : CertParts) → IsCert c → IsCert d → certificate_text c ≡ certificate_text d → c ≡ d
one_cert c d is_c is_d same = ok_inner c d (sym (reading_again c is_c) ∙ ap reading same ∙ reading_again d is_d)
