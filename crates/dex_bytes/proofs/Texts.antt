-- Reading a text byte by byte finds the texts of the grammar, and the first byte that none of them has there.
use Rattle.std.proofs.Common.{◌≡◌, ℕ, zero, suc, ◌+◌, ◌-◌, ◌<◌, ◌≤◌, List, [], ◌∷◌, ◌++◌, length, take, drop, get_or, lit<, lit≤, Some, Result, Ok, Err, refl, sym, subst, ap, ◌∙◌, arith, append_assoc, add-one, drop-cons, length-append, length-drop}
use Rattle.std.proofs.Math.Seq.{get_or-append_seam, take-append_seam}
use Rattle.std.proofs.lemmas.List.{take-append-drop, get_or-drop, get_or-take, drop-drop, length-take-le}
use Rattle.dex_bytes.specs.Mutf8.{IsTrail, IsMutf8, nothing, one_byte, two_bytes, three_bytes, trails_after, step_of, after_step, text_end, mutf8_at, IsText, BeginsText, IsFirstBad}
use Rattle.dex_bytes.specs.declared.fault.DexFault.{DexFault}
use Rattle.dex_bytes.specs.declared.fault.DexFault.TheVariants.{Short, Mutf8}
use Rattle.dex_bytes.specs.declared.text.Wanted.{Wanted}
use Rattle.dex_bytes.specs.declared.text.Step.{Step}
use Rattle.dex_bytes.specs.declared.text.Step.TheVariants.{More, End, Fault}
use Rattle.dex_bytes.proofs.Steps.{trails_of_one, trails_of_two, trails_of_three, step_of_trail, step_of_unit, trails_bound, one_byte_of, two_bytes_of, three_bytes_of, trail_of_step, unit_of_step, end_of_step, step_of_end}

-- one byte that goes on
pub text_end_more : (start p : ℕ) (wanted next : Wanted) (bs : List ℕ) (i : ℕ) → i < length bs → More next ≡ step_of wanted (get_or bs i 0) → text_end start (p + (i + 1)) next (drop (i + 1) bs) ≡ text_end start (p + i) wanted (drop i bs)
text_end_more start p wanted next bs i h e =
    let front : drop i bs ≡ get_or bs i 0 ∷ drop (i + 1) bs = rw (add-one, drop-cons bs i 0) refl in
    let place : p + (i + 1) ≡ (p + i) + 1 = omega arith in
    ap (λ (n : ℕ). text_end start n next (drop (i + 1) bs)) place
    ∙ ap (after_step (p + i) (λ (w : Wanted). text_end start ((p + i) + 1) w (drop (i + 1) bs))) e
    ∙ ap (text_end start (p + i) wanted) (sym front)

-- so many bytes that go on a unit, and then so many units
abbrev pub IsRest : ℕ → ℕ → List ℕ → Type 0
IsRest zero units bs = IsMutf8 bs units
IsRest (suc trails) units [] = ⊥
IsRest (suc trails) units (b ∷ bs) = IsTrail b × IsRest trails units bs

-- a first byte and its unit's other bytes
unit_before : (u m b : ℕ) (xs : List ℕ) → trails_after b ≡ Some u → IsRest u m xs → IsMutf8 (b ∷ xs) (suc m)
unit_before zero m b xs e rest = one_byte (one_byte_of b e).0 (one_byte_of b e).1 rest
unit_before (suc zero) m b [] e rest = absurd rest
unit_before (suc zero) m b (c ∷ xs) e rest = two_bytes (two_bytes_of b e).0 (two_bytes_of b e).1 rest.0 rest.1
unit_before (suc (suc zero)) m b [] e rest = absurd rest
unit_before (suc (suc zero)) m b (c ∷ []) e rest = absurd rest.1
unit_before (suc (suc zero)) m b (c ∷ d ∷ xs) e rest = three_bytes (three_bytes_of b e).0 (three_bytes_of b e).1 rest.0 rest.1.0 rest.1.1
unit_before (suc (suc (suc u))) m b xs e rest = absurd (omega (arith, trails_bound b (suc (suc (suc u))) e))

-- a byte that goes on stands before what is wanted then
rest_before : (t n b u m : ℕ) (xs : List ℕ) → step_of (record { trails = t; units = n }) b ≡ More (record { trails = u; units = m }) → IsRest u m xs → IsRest t n (b ∷ xs)
rest_before zero n b u m xs e rest =
    let P : ℕ → Type 0 = λ k. IsMutf8 (b ∷ xs) k in
    subst P (sym (unit_of_step n b u m e).0) (unit_before u m b xs (unit_of_step n b u m e).1 rest)
rest_before (suc t) n b u m xs e rest =
    let P : ℕ → Type 0 = λ k. IsRest k m xs in
    let Q : ℕ → Type 0 = λ k. IsRest t k xs in
    ((trail_of_step t n b u m e).0, subst Q (trail_of_step t n b u m e).2 (subst P (trail_of_step t n b u m e).1 rest))

-- the byte goes on, and then the others are wanted
GoesOn : ℕ → ℕ → ℕ → List ℕ → Type 0
GoesOn t n b xs = (u : ℕ) × (m : ℕ) × (step_of (record { trails = t; units = n }) b ≡ More (record { trails = u; units = m })) × IsRest u m xs

unit_goes_on : (n b : ℕ) (xs : List ℕ) → IsMutf8 (b ∷ xs) n → GoesOn 0 n b xs
unfolding GoesOn
unit_goes_on _ a xs (one_byte {n = m} low high more) = (0, m, step_of_unit m a 0 (trails_of_one a low high), more)
unit_goes_on _ a _ (two_bytes {n = m} low high trail more) = (1, m, step_of_unit m a 1 (trails_of_two a low high), (trail, more))
unit_goes_on _ a _ (three_bytes {n = m} low high trail last more) = (2, m, step_of_unit m a 2 (trails_of_three a low high), (trail, (last, more)))

rest_goes_on : (t n b : ℕ) (xs : List ℕ) → IsRest t n (b ∷ xs) → GoesOn t n b xs
unfolding GoesOn
rest_goes_on zero n b xs rest = unit_goes_on n b xs rest
rest_goes_on (suc t) n b xs rest = (t, n, step_of_trail t n b rest.0.0 rest.0.1, rest.1)

none_wanted : (t n : ℕ) → IsRest t n [] → (t ≡ 0) × (n ≡ 0)
none_wanted zero _ nothing = (refl, refl)
none_wanted (suc t) n rest = absurd rest

rest_of_none : (t n : ℕ) → t ≡ 0 → n ≡ 0 → IsRest t n []
rest_of_none t n p q =
    let P : ℕ → Type 0 = λ k. IsRest k n [] in
    let Q : ℕ → Type 0 = λ k. IsMutf8 [] k in
    subst P (sym p) (subst Q (sym q) nothing)

-- something is always left that can be wanted
some_rest : (t n : ℕ) → (xs : List ℕ) × IsRest t n xs
some_rest zero zero = ([], nothing)
some_rest zero (suc n) = (1 ∷ (some_rest zero n).0, one_byte (lit< tt) (lit< tt) (some_rest zero n).1)
some_rest (suc t) n = (128 ∷ (some_rest t n).0, ((lit≤ tt, lit< tt), (some_rest t n).1))

-- what is wanted, and a zero byte after it, is read to that byte
read_whole : (s p t n : ℕ) (xs ys : List ℕ) → IsRest t n xs → text_end s p (record { trails = t; units = n }) (xs ++ 0 ∷ ys) ≡ Ok (p + length xs)
unfolding GoesOn
read_whole s p t n [] ys rest =
    ap (after_step p (λ (w : Wanted). text_end s (p + 1) w ys)) (step_of_end t n (none_wanted t n rest).0 (none_wanted t n rest).1)
    ∙ ap (λ (k : ℕ). Ok k) (let e : p ≡ p + length {A = ℕ} [] = omega arith in e)
read_whole s p t n (b ∷ xs) ys rest =
    let on : GoesOn t n b xs = rest_goes_on t n b xs rest in
    ap (after_step p (λ (w : Wanted). text_end s (p + 1) w (xs ++ 0 ∷ ys))) on.2
    ∙ read_whole s (p + 1) on.0 on.1 xs ys on.3
    ∙ ap (λ (k : ℕ). Ok k) (let e : (p + 1) + length xs ≡ p + length (b ∷ xs) = omega arith in e)

-- the other way round
Found : ℕ → Wanted → List ℕ → ℕ → Type 0
Found p w bs e = (xs : List ℕ) × (ys : List ℕ) × (bs ≡ xs ++ 0 ∷ ys) × (e ≡ p + length xs) × IsRest w.trails w.units xs

whole_read : (s p : ℕ) (w : Wanted) (bs : List ℕ) (e : ℕ) → text_end s p w bs ≡ Ok e → Found p w bs e
unfolding Found
whole_read s p w [] e h = absurd (let no : ⊥ = cc in no)
whole_read s p w (b ∷ bs) e h =
    (elim (step_of w b) as (λ (st : Step). step_of w b ≡ st → after_step p (λ (next : Wanted). text_end s (p + 1) next bs) st ≡ Ok e → Found p w (b ∷ bs) e) [
      | More next ↦ λ is k.
          let later : Found (p + 1) next bs e = whole_read s (p + 1) next bs e k in
          (b ∷ later.0, later.1, ap (λ (l : List ℕ). b ∷ l) later.2, omega (arith, later.3), rest_before w.trails w.units b next.trails next.units later.0 is later.4)
      | End ↦ λ is k.
          let none : (w.trails ≡ 0) × (w.units ≡ 0) × (b ≡ 0) = end_of_step w.trails w.units b is in
          let here : p ≡ e = cc in
          ([], bs, ap (λ (x : ℕ). x ∷ bs) none.2, omega arith, rest_of_none w.trails w.units none.0 none.1)
      | Fault ↦ λ is k. absurd (let no : ⊥ = cc in no)
    ]) refl h

-- a byte that cannot stand there, whatever follows it
FirstBad : ℕ → ℕ → Wanted → List ℕ → ℕ → Type 0
FirstBad s p w bs q = (k : ℕ) × (q ≡ p + k) × (k < length bs)
    × ((xs : List ℕ) × IsRest w.trails w.units (take k bs ++ xs))
    × ((more : List ℕ) → text_end s p w (take (suc k) bs ++ more) ≡ Err (Mutf8 q))

bad_read : (s p : ℕ) (w : Wanted) (bs : List ℕ) (q : ℕ) → text_end s p w bs ≡ Err (Mutf8 q) → FirstBad s p w bs q
unfolding FirstBad
bad_read s p w [] q h = absurd (let no : ⊥ = cc in no)
bad_read s p w (b ∷ bs) q h =
    (elim (step_of w b) as (λ (st : Step). step_of w b ≡ st → after_step p (λ (next : Wanted). text_end s (p + 1) next bs) st ≡ Err (Mutf8 q) → FirstBad s p w (b ∷ bs) q) [
      | More next ↦ λ is k.
          let later : FirstBad s (p + 1) next bs q = bad_read s (p + 1) next bs q k in (
            suc later.0,
            omega (arith, later.1),
            omega (arith, later.2),
            (later.3.0, rest_before w.trails w.units b next.trails next.units (take later.0 bs ++ later.3.0) is later.3.1),
            λ more. ap (after_step p (λ (v : Wanted). text_end s (p + 1) v (take (suc later.0) bs ++ more))) is ∙ later.4 more,
          )
      | End ↦ λ is k. absurd (let no : ⊥ = cc in no)
      | Fault ↦ λ is k.
          let here : p ≡ q = cc in (
            0,
            omega arith,
            omega arith,
            some_rest w.trails w.units,
            λ more. ap (after_step p (λ (v : Wanted). text_end s (p + 1) v more)) is ∙ k,
          )
    ]) refl h

-- the bytes end inside a text
cut_read : (s p : ℕ) (w : Wanted) (bs : List ℕ) (q : ℕ) → text_end s p w bs ≡ Err (Short q) → (q ≡ s) × ((xs : List ℕ) × IsRest w.trails w.units (bs ++ xs))
cut_read s p w [] q h = (cc, some_rest w.trails w.units)
cut_read s p w (b ∷ bs) q h =
    (elim (step_of w b) as (λ (st : Step). step_of w b ≡ st → after_step p (λ (next : Wanted). text_end s (p + 1) next bs) st ≡ Err (Short q) → (q ≡ s) × ((xs : List ℕ) × IsRest w.trails w.units (b ∷ bs ++ xs))) [
      | More next ↦ λ is k.
          let later : (q ≡ s) × ((xs : List ℕ) × IsRest next.trails next.units (bs ++ xs)) = cut_read s (p + 1) next bs q k in
          (later.0, (later.1.0, rest_before w.trails w.units b next.trails next.units (bs ++ later.1.0) is later.1.1))
      | End ↦ λ is k. absurd (let no : ⊥ = cc in no)
      | Fault ↦ λ is k. absurd (let no : ⊥ = cc in no)
    ]) refl h

-- a text that is found stands there
pub text_found : (bs : List ℕ) (p units e : ℕ) → mutf8_at bs p units ≡ Ok e → IsText bs p units e
unfolding mutf8_at Found
text_found bs p units e h =
    let found : Found p (record { trails = 0; units = units }) (drop p bs) e = whole_read p p (record { trails = 0; units = units }) (drop p bs) e h in
    let xs : List ℕ = found.0 in
    let ys : List ℕ = found.1 in
    let cut : drop p bs ≡ xs ++ 0 ∷ ys = found.2 in
    let place : e ≡ p + length xs = found.3 in
    let sizes : length (xs ++ 0 ∷ ys) ≡ length xs + (1 + length ys) = simp length-append (omega arith) in
    let size : length bs - p ≡ length xs + (1 + length ys) = sym (length-drop p bs) ∙ ap length cut ∙ sizes in
    let front : take (e - p) (drop p bs) ≡ xs =
    ap (λ (n : ℕ). take n (drop p bs)) (let d : e - p ≡ length xs = omega arith in d)
    ∙ ap (take (length xs)) cut ∙ take-append_seam xs (0 ∷ ys) in
    let P : List ℕ → Type 0 = λ l. IsMutf8 l units in
    record {
      within = (omega arith, omega arith);
      zero_byte = ap (λ (n : ℕ). get_or bs n 0) place ∙ sym (get_or-drop p bs (length xs) 0)
          ∙ ap (λ (l : List ℕ). get_or l (length xs) 0) cut ∙ get_or-append_seam xs 0 ys 0;
      spelled = subst P (sym front) found.4;
    }

-- a text that stands there is found
pub found_text : (bs : List ℕ) (p units e : ℕ) → IsText bs p units e → mutf8_at bs p units ≡ Ok e
unfolding mutf8_at
found_text bs p units e h =
    let low : p ≤ e = h.within.0 in
    let high : e < length bs = h.within.1 in
    let xs : List ℕ = take (e - p) (drop p bs) in
    let rest : length (drop p bs) ≡ length bs - p = length-drop p bs in
    let size : length xs ≡ e - p = length-take-le (e - p) (drop p bs) (omega arith) in
    let place : p + (e - p) ≡ e = omega arith in
    let tail : drop (e - p) (drop p bs) ≡ 0 ∷ drop (suc e) bs =
    drop-drop (e - p) p bs ∙ ap (λ (n : ℕ). drop n bs) place ∙ drop-cons bs e 0 high
    ∙ ap (λ (x : ℕ). x ∷ drop (suc e) bs) h.zero_byte in
    let all : xs ++ 0 ∷ drop (suc e) bs ≡ drop p bs = ap (λ (l : List ℕ). xs ++ l) (sym tail) ∙ take-append-drop (e - p) (drop p bs) in
    ap (text_end p p (record { trails = 0; units = units })) (sym all)
    ∙ read_whole p p 0 units xs (drop (suc e) bs) h.spelled
    ∙ ap (λ (n : ℕ). Ok n) (let last : p + length xs ≡ e = omega arith in last)

-- what the bytes so far and the bytes that are wanted then spell is a text
rest_begins : (units : ℕ) (bs xs : List ℕ) → IsMutf8 (bs ++ xs) units → BeginsText bs units
rest_begins units bs xs spelled = (bs ++ xs, xs ++ 0 ∷ [], spelled, append_assoc bs xs (0 ∷ []))

-- the byte of a fault is the first that cannot stand there
pub bad_is_first : (bs : List ℕ) (p units q : ℕ) → mutf8_at bs p units ≡ Err (Mutf8 q) → IsFirstBad bs p units q
unfolding mutf8_at FirstBad
bad_is_first bs p units q h =
    let first : FirstBad p p (record { trails = 0; units = units }) (drop p bs) q = bad_read p p (record { trails = 0; units = units }) (drop p bs) q h in
    let place : q ≡ p + first.0 = first.1 in
    let below : first.0 < length (drop p bs) = first.2 in
    let size : length (drop p bs) ≡ length bs - p = length-drop p bs in
    let so_many : first.0 ≡ q - p = omega arith in
    let one_more : suc first.0 ≡ q - p + 1 = omega arith in
    let P : ℕ → Type 0 = λ n. BeginsText (take n (drop p bs)) units in
    record {
      within = (omega arith, omega arith);
      before = subst P so_many (rest_begins units (take first.0 (drop p bs)) first.3.0 first.3.1);
      bad = λ begins. no_bad_text p units q (take (suc first.0) (drop p bs)) first.4 (subst P (sym one_more) begins);
    }
  where
    no_bad_text : (p units q : ℕ) (front : List ℕ) → ((more : List ℕ) → text_end p p (record { trails = 0; units = units }) (front ++ more) ≡ Err (Mutf8 q)) → BeginsText front units → ⊥
    no_bad_text p units q front bad (text, rest, spelled, same) =
        let read : text_end p p (record { trails = 0; units = units }) (text ++ 0 ∷ []) ≡ Ok (p + length text) = read_whole p p 0 units text [] spelled in
        let stopped : text_end p p (record { trails = 0; units = units }) (front ++ rest) ≡ Err (Mutf8 q) = bad rest in
        let both : text_end p p (record { trails = 0; units = units }) (text ++ 0 ∷ []) ≡ text_end p p (record { trails = 0; units = units }) (front ++ rest) = ap (text_end p p (record { trails = 0; units = units })) same in
        let no : ◌≡◌ {A = Result ℕ DexFault} (Ok (p + length text)) (Err (Mutf8 q)) = sym read ∙ both ∙ stopped in
        cc

-- where the bytes end too early, some text begins with them
pub cut_begins : (bs : List ℕ) (p units q : ℕ) → mutf8_at bs p units ≡ Err (Short q) → (q ≡ p) × BeginsText (drop p bs) units
unfolding mutf8_at
cut_begins bs p units q h =
    let cut : (q ≡ p) × ((xs : List ℕ) × IsMutf8 (drop p bs ++ xs) units) = cut_read p p (record { trails = 0; units = units }) (drop p bs) q h in
    (cut.0, rest_begins units (drop p bs) cut.1.0 cut.1.1)

-- a text has no zero byte
pub no_zero : (bs : List ℕ) (units : ℕ) → IsMutf8 bs units → (k : ℕ) → k < length bs → 0 < get_or bs k 0
no_zero _ _ nothing k h = absurd (omega arith)
no_zero _ _ (one_byte low high more) zero h = low
no_zero _ _ (one_byte {n = n} {bs = bs} low high more) (suc k) h = no_zero bs n more k (omega arith)
no_zero _ _ (two_bytes low high trail more) zero h = omega arith
no_zero _ _ (two_bytes low high trail more) (suc zero) h = omega (arith, trail.0)
no_zero _ _ (two_bytes {n = n} {bs = bs} low high trail more) (suc (suc k)) h = no_zero bs n more k (omega arith)
no_zero _ _ (three_bytes low high trail last more) zero h = omega arith
no_zero _ _ (three_bytes low high trail last more) (suc zero) h = omega (arith, trail.0)
no_zero _ _ (three_bytes low high trail last more) (suc (suc zero)) h = omega (arith, last.0)
no_zero _ _ (three_bytes {n = n} {bs = bs} low high trail last more) (suc (suc (suc k))) h = no_zero bs n more k (omega arith)

-- so a text ends at the first zero byte from its place on
pub no_zero_before : (bs : List ℕ) (p units e k : ℕ) → IsText bs p units e → p ≤ k → k < e → 0 < get_or bs k 0
no_zero_before bs p units e k h low high =
    let spelled : IsMutf8 (take (e - p) (drop p bs)) units = h.spelled in
    let within : e < length bs = h.within.1 in
    let place : p + (k - p) ≡ k = omega arith in
    let below : k - p < e - p = omega arith in
    let size : length (take (e - p) (drop p bs)) ≡ e - p = length-take-le (e - p) (drop p bs) (omega (arith, length-drop p bs)) in
    let same : get_or (take (e - p) (drop p bs)) (k - p) 0 ≡ get_or bs k 0 =
    get_or-take (e - p) (drop p bs) (k - p) 0 below ∙ get_or-drop p bs (k - p) 0 ∙ ap (λ (n : ℕ). get_or bs n 0) place in
    let P : ℕ → Type 0 = λ n. 0 < n in
    subst P same (no_zero (take (e - p) (drop p bs)) units spelled (k - p) (omega arith))
