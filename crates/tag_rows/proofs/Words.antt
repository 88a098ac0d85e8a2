-- Single tags of the rows at the start of methods.
use Rattle.std.proofs.Common.{◌≡◌, ◌≢◌, ℕ, suc, zero, ◌+◌, ◌-◌, ◌<◌, ◌≤◌, List, [], ◌∷◌, ◌++◌, length, get_or, drop, replicate, Bool, true, false, if◌then◌else◌, min, Some, None, refl, sym, ap, ◌∙◌, ⊎_elim, arith, lt-ltb, le-ltb}
use Rattle.std.specs.Prelude.{slice_get, nat_lt}
use Rattle.std.specs.List.{range_with_len}
use Rattle.std.proofs.lemmas.List.FromFn.{get_or-range_with_len, length-range_with_len}
use Rattle.std.proofs.lemmas.Bool.{cases_lt, false≢true, ltb-true}
use Rattle.std.proofs.lemmas.List.{get_or_append_left, get_or-append_right, get_or_past, get_or-replicate, get_or-map, length-append, length-map, length-replicate}
use Rattle.std.proofs.lemmas.Option.{slice_get-get_or, slice_get_cases, slice_get_past}
use Rattle.app_model.specs.declared.tag.Tag.{Tag}
use Rattle.app_model.specs.declared.tag.Tag.TheVariants.{Bot, Zero, Solid, Any}
use Rattle.act_model.specs.Changes.{tag_in}
use Rattle.act_model.specs.Entries.{entering, entering_words, entry_row, fitted}
use Rattle.tag_rows.specs.Entering.{word_no, word_tag}

fitted_len : (n : ℕ) (words : List Tag) → length (fitted Zero n words) ≡ n
fitted_len zero words = refl
fitted_len (suc n) [] = ap suc (fitted_len n [])
fitted_len (suc n) (x ∷ xs) = ap suc (fitted_len n xs)

fitted_tag : (n : ℕ) (words : List Tag) (j : ℕ) → j < n → tag_in (fitted Zero n words) j ≡ get_or words j Zero
fitted_tag zero words j lt = absurd (omega (arith, lt))
fitted_tag (suc n) [] zero lt = refl
fitted_tag (suc n) [] (suc j) lt = fitted_tag n [] j (omega (arith, lt))
fitted_tag (suc n) (x ∷ xs) zero lt = refl
fitted_tag (suc n) (x ∷ xs) (suc j) lt = fitted_tag n xs j (omega (arith, lt))

module _ (registers ins : ℕ) (words : List Tag) (le : ins ≤ registers) where
  abbrev low : List Tag
  low = replicate (registers - ins) Zero

  abbrev inner : List Tag
  inner = low ++ fitted Zero ins words

  low_len : length low ≡ registers - ins
  low_len = length-replicate {A = Tag} (registers - ins) Zero

  inner_len : length inner ≡ registers
  inner_len = length-append low (fitted Zero ins words) ∙ (let a = low_len in let b = fitted_len ins words in omega (arith, a, b, le))

  -- a register before those of the arguments
  pub first_zero : (r : ℕ) → r < registers - ins → tag_in (entry_row Zero registers ins words) r ≡ Zero
  first_zero r first =
      get_or_append_left inner (Zero ∷ []) Bot r (let e = inner_len in omega (arith, e, first))
      ∙ get_or_append_left low (fitted Zero ins words) Bot r (let e = low_len in omega (arith, e, first))
      ∙ get_or-replicate (registers - ins) r Zero Bot first

  pub entry_tag : (r : ℕ) → r ≤ registers → tag_in (entry_row Zero registers ins words) r ≡ word_tag words (word_no registers ins r)
  entry_tag r within = ⊎_elim
      (λ (first : r < registers - ins). rw (lt-ltb r (registers - ins) first) (first_zero r first))
      (λ (later : registers - ins ≤ r). rw (le-ltb r (registers - ins) later) (⊎_elim {A = r < registers} {B = registers ≤ r}
      (λ lt. rw (lt-ltb r registers lt)
      (get_or_append_left inner (Zero ∷ []) Bot r (let e = inner_len in omega (arith, e, lt))
      ∙ get_or-append_right low (fitted Zero ins words) (registers - ins) r Bot low_len later
      ∙ fitted_tag ins words (r - (registers - ins)) (omega (arith, lt, later, le))))
      (λ end. rw (le-ltb r registers end)
      (get_or-append_right inner (Zero ∷ []) registers r Bot inner_len end ∙ (let at : r - registers ≡ 0 = omega (arith, end, within) in rw at refl)))
      (cases_lt r registers)))
      (cases_lt r (registers - ins))

-- ---- words of calls
pub argument_some : (row : List Tag) (registers : List ℕ) (j r : ℕ) → Some r ≡ slice_get registers j → entering (tag_in row r) ≡ get_or (entering_words row registers) j Zero
argument_some row registers j r is = ⊎_elim
    (λ h. (let same : r ≡ h.0 = (let both = is ∙ h.2 in cc) in rw same (sym (get_or-map (λ q. entering (tag_in row q)) registers j h.0 Zero h.1 ∙ ap (λ q. entering (tag_in row q)) h.3))))
    (λ past. absurd (let both : Some r ≡ None = is ∙ past.1 in cc))
    (slice_get_cases registers j).1

pub argument_none : (row : List Tag) (registers : List ℕ) (j : ℕ) → None ≡ slice_get registers j → Zero ≡ get_or (entering_words row registers) j Zero
argument_none row registers j is = ⊎_elim
    (λ h. absurd (let both : None ≡ Some h.0 = is ∙ h.2 in cc))
    (λ past. sym (get_or_past (entering_words row registers) j Zero (let e = length-map registers (λ q. entering (tag_in row q)) in omega (arith, e, past.0))))
    (slice_get_cases registers j).1

-- behind the receiver
pub word_behind : (row : List Tag) (registers : List ℕ) (j : ℕ) → j ≢ 0 → get_or (entering_words row registers) j Zero ≡ get_or (Solid ∷ entering_words row (drop 1 registers)) j Zero
word_behind row [] zero ne = absurd (ne refl)
word_behind row [] (suc j) ne = refl
word_behind row (x ∷ xs) zero ne = absurd (ne refl)
word_behind row (x ∷ xs) (suc j) ne = refl

-- ---- words of callbacks
pub callback_any : (p j words most : ℕ) → words ≡ min p most → j ≢ 0 → j < most → j - 1 < words → Any ≡ get_or (Solid ∷ replicate p Any) j Zero
callback_any p zero words most is ne low lt = absurd (ne refl)
callback_any p (suc j) words most is ne low lt = sym (get_or-replicate p j Any Zero (omega (arith, is, lt, low)))

pub callback_zero : (p j words most : ℕ) → words ≡ min p most → j ≢ 0 → j < most → words ≤ j - 1 → Zero ≡ get_or (Solid ∷ replicate p Any) j Zero
callback_zero p zero words most is ne low le = absurd (ne refl)
callback_zero p (suc j) words most is ne low le = sym (get_or_past (replicate p Any) j Zero (let e = length-replicate {A = Tag} p Any in omega (arith, is, le, low, e)))

-- ---- registers of arguments by range
pub range_some : (first count j : ℕ) → j < count → Some (first + j) ≡ slice_get (range_with_len first count) j
range_some first count j lt = sym (slice_get-get_or (range_with_len first count) j 0 (omega (arith, lt, length-range_with_len first count)) ∙ ap Some (get_or-range_with_len first count j 0 lt))

pub range_none : (first count j : ℕ) → count ≤ j → None ≡ slice_get (range_with_len first count) j
range_none first count j past = sym (slice_get_past (range_with_len first count) j (omega (arith, past, length-range_with_len first count)))

-- a word of the arguments is one of the registers for them
pub word_below : (registers ins r j : ℕ) → ins ≤ registers → Some j ≡ word_no registers ins r → j < ins
word_below registers ins r j le is = go (nat_lt r (registers - ins)) (nat_lt r registers) refl refl is
  where
    go : (a b : Bool) → nat_lt r (registers - ins) ≡ a → nat_lt r registers ≡ b → Some j ≡ (if a then None else (if b then Some (r - (registers - ins)) else None)) → j < ins
    go true b ea eb e = absurd (cc)
    go false false ea eb e = absurd (cc)
    go false true ea eb e = (let at : j ≡ r - (registers - ins) = cc in let lt = ltb-true r registers eb in omega (arith, at, lt, le, later))
      where
        later : registers - ins ≤ r
        later = ⊎_elim (λ first. absurd (false≢true (sym ea ∙ lt-ltb r (registers - ins) first))) (λ past. past) (cases_lt r (registers - ins))
