-- What is read from a field is spelled so, and what is spelled so is read.
use Rattle.std.proofs.Common.{◌≡◌, ℕ, zero, suc, ◌^◌, ◌<◌, ◌≤◌, Bool, true, false, cond, ltb, eqb, List, [], ◌∷◌, ◌++◌, length, map, Option, Some, None, refl, sym, ap, subst, ◌∙◌, append_assoc, arith, lit≤, inl, inr}
use Rattle.std.specs.Prelude.{codes, decimal, bytes_eq, option_map, slice_index_or, ◌==◌}
use Rattle.std.specs.List.{AllByRecursion, flat_map, join_with_byte, list_all}
use Rattle.std.specs.Str.{all_ascii_digits}
use Rattle.std.specs.Char.{is_ascii_digit}
use Rattle.std.proofs.lemmas.Bool.{ltb-true, lt-ltb, eqb-true, and_parts, and_from, ne_eqb}
use Rattle.std.proofs.lemmas.Bool.Decides.{nat_tests}
use Rattle.std.proofs.lemmas.Fmt.{digits_decimal}
use Rattle.std.proofs.lemmas.List.{append-nil, nil_from_length}
use Rattle.std.proofs.lemmas.List.Elements.{All-from_recursion}
use Rattle.std.proofs.lemmas.List.Splits.{slice_split_at, slice_split_none, join_with_byte-slice_split}
use Rattle.std.proofs.lemmas.Option.{cond_some}
use Rattle.std.proofs.lemmas.Slice.Eq.{bytes_eq-Decides}
use Rattle.cert_line.specs.Fields.{status_name, status_names}
use Rattle.cert_line.specs.Reading.{◌>>=◌, pieces, status_in}
use Rattle.cert_line.proofs.Choices.{bind_some, chosen}
use Rattle.cert_line.proofs.Numbers.{below_takes, below_again, own}
use Rattle.cert_line.proofs.Statuses.{status_takes, status_again}
use Rattle.cert_line.proofs.Spaces.{Above, Above-append, free}
use Rattle.path_text.specs.Lines.{cited, field, step_text}
use Rattle.path_reader.specs.Reading.{cites_in, colon_in, dash_in, end_in, row_in, step_in, step_of, steps_in}
use Rattle.path_reader.specs.Texts.{FitsMaybe, FitsRow, FitsStep}
use Rattle.report_path.specs.declared.report.Step.{Step}

-- ---- how fields are spelled

abbrev pub dash_field : Option ℕ → List ℕ
dash_field None = codes "-"
dash_field (Some n) = decimal n

abbrev pub end_name : Bool → List ℕ
end_name true = codes "exc"
end_name false = codes "ret"

abbrev pub cite_parts : Option ℕ → List (List ℕ)
cite_parts None = []
cite_parts (Some j) = decimal j ∷ []

abbrev pub item_parts : Step → List (List ℕ)
item_parts a = decimal a.pc ∷ status_name a.status ∷ cite_parts a.cites

abbrev pub item : Step → List ℕ
item a = join_with_byte 47 (item_parts a)

-- ---- bytes above others

pub lower : (m n : ℕ) (xs : List ℕ) → m ≤ n → Above n xs → Above m xs
lower m n [] le h = refl
lower m n (x ∷ xs) le h =
    let p = and_parts (ltb n x) (list_all (λ b. ltb n b) xs) h in
    let more : n < x = ltb-true _ _ p.0 in
    and_from _ _ (lt-ltb m x (omega arith)) (lower m n xs le p.1)

digit_above : (c : ℕ) → is_ascii_digit c ≡ true → ltb 47 c ≡ true
digit_above c h = grind (arith, nat_tests)

digits_above : (ds : List ℕ) → all_ascii_digits ds ≡ true → Above 47 ds
digits_above [] h = refl
digits_above (c ∷ cs) h =
    let p = and_parts (is_ascii_digit c) (all_ascii_digits cs) h in
    and_from _ _ (digit_above c p.0) (digits_above cs p.1)

pub row_above : (n : ℕ) → FitsRow n → Above 47 (decimal n)
row_above n lt = digits_above (decimal n) (digits_decimal own n (omega (arith, lt)))

digit_colon : (c : ℕ) → is_ascii_digit c ≡ true → (c == 58) ≡ false
digit_colon c h = grind (arith, nat_tests)

digits_colon : (ds : List ℕ) → all_ascii_digits ds ≡ true → AllByRecursion (λ b. (b == 58) ≡ false) ds
digits_colon [] h = tt
digits_colon (c ∷ cs) h =
    let p = and_parts (is_ascii_digit c) (all_ascii_digits cs) h in
    (digit_colon c p.0, digits_colon cs p.1)

name_above : (names : List (List ℕ)) → AllByRecursion (Above 47) names → (s : ℕ) → Above 47 (slice_index_or names s [])
name_above [] all s = refl
name_above (x ∷ xs) all zero = all.0
name_above (x ∷ xs) all (suc s) = name_above xs all.1 s

pub status_above : (s : ℕ) → Above 47 (status_name s)
status_above s = name_above status_names (refl, (refl, (refl, (refl, (refl, (refl, (refl, (refl, tt)))))))) s

pub dash_above : (b : Option ℕ) → FitsMaybe b → Above 32 (dash_field b)
dash_above None fits = refl
dash_above (Some n) fits = lower 32 47 (decimal n) (lit≤ tt) (row_above n fits)

pub end_above : (t : Bool) → Above 32 (end_name t)
end_above true = refl
end_above false = refl

-- ---- numbers, dashes, ends

pub row_takes : (f : List ℕ) (n : ℕ) → row_in f ≡ Some n → (f ≡ decimal n) × FitsRow n
row_takes f n e = below_takes (2 ^ 32) f n e

pub row_again : (n : ℕ) → FitsRow n → row_in (decimal n) ≡ Some n
row_again n lt = below_again (2 ^ 32) n lt (omega (arith, lt))

pub map_some : {A B : Type 0} (f : A → B) (o : Option A) (y : B) → option_map f o ≡ Some y → (x : A) × (o ≡ Some x) × (f x ≡ y)
map_some f (Some x) y e = (x, refl, cc)
map_some f None y e = absurd cc

some_row : (f : List ℕ) (o : Option ℕ) → option_map Some (row_in f) ≡ Some o → (n : ℕ) × (o ≡ Some n) × (f ≡ decimal n) × FitsRow n
some_row f o e =
    let x = map_some Some (row_in f) o e in
    let t = row_takes f x.0 x.1 in
    (x.0, sym x.2, t.0, t.1)

pub dash_takes : (f : List ℕ) (o : Option ℕ) → dash_in f ≡ Some o → (f ≡ dash_field o) × FitsMaybe o
unfolding dash_in
dash_takes f o e =
    elim (chosen (bytes_eq f (codes "-")) (Some None) (option_map Some (row_in f)) (Some o) e) [
      | inl p ↦
          let is : None ≡ o = let h = p.1 in cc in
          subst (λ (o : Option ℕ). (f ≡ dash_field o) × FitsMaybe o) is ((bytes_eq-Decides f (codes "-")).0 p.0, tt)
      | inr p ↦
          let x = some_row f o p.1 in
          subst (λ (o : Option ℕ). (f ≡ dash_field o) × FitsMaybe o) (sym x.1) (x.2, x.3)
    ]

-- what begins with a byte above the dash is none
not_dash : (f : List ℕ) → Above 47 f → bytes_eq f (codes "-") ≡ false
not_dash [] h = refl
not_dash (x ∷ xs) h =
    let p = and_parts (ltb 47 x) (list_all (λ b. ltb 47 b) xs) h in
    let more : 47 < x = ltb-true _ _ p.0 in
    rw (ne_eqb x 45 (λ e. absurd (omega arith))) refl

pub dash_again : (o : Option ℕ) → FitsMaybe o → dash_in (dash_field o) ≡ Some o
unfolding dash_in
dash_again None fits = refl
dash_again (Some n) fits = rw (not_dash (decimal n) (row_above n fits), row_again n fits) refl

pub end_takes : (f : List ℕ) (t : Bool) → end_in f ≡ Some t → f ≡ end_name t
unfolding end_in
end_takes f t e =
    elim (chosen (bytes_eq f (codes "ret")) (Some false) (cond (bytes_eq f (codes "exc")) (Some true) None) (Some t) e) [
      | inl p ↦
          let is : false ≡ t = let h = p.1 in cc in
          subst (λ (t : Bool). f ≡ end_name t) is ((bytes_eq-Decides f (codes "ret")).0 p.0)
      | inr p ↦
          let g = cond_some (bytes_eq f (codes "exc")) true t p.1 in
          subst (λ (t : Bool). f ≡ end_name t) g.1 ((bytes_eq-Decides f (codes "exc")).0 g.0)
    ]

pub end_again : (t : Bool) → end_in (end_name t) ≡ Some t
unfolding end_in
end_again true = refl
end_again false = refl

-- ---- a number with a colon

colon_parts : (ps : List (List ℕ)) (n : ℕ) → colon_in ps ≡ Some n → (ps ≡ decimal n ∷ [] ∷ []) × FitsRow n
unfolding colon_in
colon_parts [] n e = absurd cc
colon_parts (a ∷ []) n e = absurd cc
colon_parts (a ∷ b ∷ []) n e =
    elim (chosen (eqb (length b) 0) (row_in a) None (Some n) e) [
      | inl p ↦
          let t = row_takes a n p.1 in
          let nil = nil_from_length b (eqb-true _ _ p.0) in
          (ap (λ (x : List ℕ). x ∷ b ∷ []) t.0 ∙ ap (λ (x : List ℕ). decimal n ∷ x ∷ []) nil, t.1)
      | inr p ↦ absurd (let h = p.1 in cc)
    ]
colon_parts (a ∷ b ∷ c ∷ more) n e = absurd cc

pub colon_takes : (f : List ℕ) (n : ℕ) → colon_in (pieces 58 f) ≡ Some n → (f ≡ decimal n ++ 58 ∷ []) × FitsRow n
colon_takes f n e =
    let t = colon_parts (pieces 58 f) n e in
    (sym (join_with_byte-slice_split 58 f) ∙ ap (λ (ps : List (List ℕ)). join_with_byte 58 ps) t.0, t.1)

pub colon_again : (n : ℕ) → FitsRow n → colon_in (pieces 58 (decimal n ++ 58 ∷ [])) ≡ Some n
unfolding colon_in
colon_again n lt =
    let cut : pieces 58 (decimal n ++ 58 ∷ []) ≡ decimal n ∷ [] ∷ [] =
    slice_split_at (λ b. b == 58) (decimal n) 58 [] (All-from_recursion (λ b. (b == 58) ≡ false) (decimal n) (digits_colon (decimal n) (digits_decimal own n (omega (arith, lt))))) refl in
    ap colon_in cut ∙ row_again n lt

-- ---- steps

cites_takes : (fs : List (List ℕ)) (o : Option ℕ) → cites_in fs ≡ Some o → (fs ≡ cite_parts o) × FitsMaybe o
unfolding cites_in
cites_takes [] o e = let is : None ≡ o = cc in subst (λ (o : Option ℕ). ([] ≡ cite_parts o) × FitsMaybe o) is (refl, tt)
cites_takes (c ∷ []) o e =
    let x = some_row c o e in
    subst (λ (o : Option ℕ). (c ∷ [] ≡ cite_parts o) × FitsMaybe o) (sym x.1) (ap (λ (f : List ℕ). f ∷ []) x.2, x.3)
cites_takes (c ∷ d ∷ more) o e = absurd cc

cites_again : (o : Option ℕ) → FitsMaybe o → cites_in (cite_parts o) ≡ Some o
unfolding cites_in
cites_again None fits = refl
cites_again (Some n) fits = rw (row_again n fits) refl

step_parts_take : (ps : List (List ℕ)) (a : Step) → step_in ps ≡ Some a → (ps ≡ item_parts a) × FitsStep a
unfolding step_in step_of
step_parts_take [] a e = absurd cc
step_parts_take (p ∷ []) a e = absurd cc
step_parts_take (p ∷ s ∷ more) a e =
    let c = bind_some (cites_in more) (λ c. step_of p s c) a e in
    let x = bind_some (row_in p) (λ x. status_in s >>= λ st. Some (record { pc = x; status = st; cites = c.0 })) a c.2 in
    let y = bind_some (status_in s) (λ st. Some (record { pc = x.0; status = st; cites = c.0 })) a x.2 in
    let made : Step = record { pc = x.0; status = y.0; cites = c.0 } in
    let is : made ≡ a = let h = y.2 in cc in
    let p0 = cites_takes more c.0 c.1 in
    let p1 = row_takes p x.0 x.1 in
    let p2 = status_takes s y.0 y.1 in
    let same : p ∷ s ∷ more ≡ item_parts made = rw (← p1.0, p2.0, ← p0.0) refl in
    subst (λ (a : Step). (p ∷ s ∷ more ≡ item_parts a) × FitsStep a) is (same, (p1.1, p2.1, p0.1))

step_takes : (f : List ℕ) (a : Step) → step_in (pieces 47 f) ≡ Some a → (f ≡ item a) × FitsStep a
step_takes f a e =
    let t = step_parts_take (pieces 47 f) a e in
    (sym (join_with_byte-slice_split 47 f) ∙ ap (λ (ps : List (List ℕ)). join_with_byte 47 ps) t.0, t.1)

split47 : (f : List ℕ) (fs : List (List ℕ)) → AllByRecursion (Above 47) (f ∷ fs) → pieces 47 (join_with_byte 47 (f ∷ fs)) ≡ f ∷ fs
split47 f [] h = slice_split_none (λ b. b == 47) f (free 47 47 f (lit≤ tt) h.0)
split47 f (g ∷ fs) h =
    slice_split_at (λ b. b == 47) f 47 (join_with_byte 47 (g ∷ fs)) (free 47 47 f (lit≤ tt) h.0) refl ∙ ap (λ (l : List (List ℕ)). f ∷ l) (split47 g fs h.1)

cites_above : (o : Option ℕ) → FitsMaybe o → AllByRecursion (Above 47) (cite_parts o)
cites_above None fits = tt
cites_above (Some n) fits = (row_above n fits, tt)

parts_above : (a : Step) → FitsStep a → AllByRecursion (Above 47) (item_parts a)
parts_above a fits = (row_above a.pc fits.0, (status_above a.status, cites_above a.cites fits.2))

joined47 : (f : List ℕ) (fs : List (List ℕ)) → AllByRecursion (Above 47) (f ∷ fs) → Above 32 (join_with_byte 47 (f ∷ fs))
joined47 f [] h = lower 32 47 f (lit≤ tt) h.0
joined47 f (g ∷ fs) h = Above-append 32 f (47 ∷ join_with_byte 47 (g ∷ fs)) (lower 32 47 f (lit≤ tt) h.0) (joined47 g fs h.1)

pub item_above : (a : Step) → FitsStep a → Above 32 (item a)
item_above a fits = joined47 (decimal a.pc) (status_name a.status ∷ cite_parts a.cites) (parts_above a fits)

step_again : (a : Step) → FitsStep a → step_in (pieces 47 (item a)) ≡ Some a
unfolding step_in step_of
step_again a fits =
    ap step_in (split47 (decimal a.pc) (status_name a.status ∷ cite_parts a.cites) (parts_above a fits)) ∙ rw (cites_again a.cites fits.2, row_again a.pc fits.0, status_again a.status fits.1) refl

pub steps_take : (fs : List (List ℕ)) (steps : List Step) → steps_in fs ≡ Some steps → (fs ≡ map item steps) × AllByRecursion FitsStep steps
unfolding steps_in
steps_take [] steps e = let is : [] ≡ steps = cc in subst (λ (steps : List Step). ([] ≡ map item steps) × AllByRecursion FitsStep steps) is (refl, tt)
steps_take (f ∷ fs) steps e =
    let a = bind_some (step_in (pieces 47 f)) (λ a. steps_in fs >>= λ more. Some (a ∷ more)) steps e in
    let b = bind_some (steps_in fs) (λ more. Some (a.0 ∷ more)) steps a.2 in
    let is : a.0 ∷ b.0 ≡ steps = let h = b.2 in cc in
    let s = step_takes f a.0 a.1 in
    let t = steps_take fs b.0 b.1 in
    subst (λ (steps : List Step). (f ∷ fs ≡ map item steps) × AllByRecursion FitsStep steps) is (ap (λ (x : List ℕ). x ∷ fs) s.0 ∙ ap (λ (x : List (List ℕ)). item a.0 ∷ x) t.0, (s.1, t.1))

pub steps_again : (steps : List Step) → AllByRecursion FitsStep steps → steps_in (map item steps) ≡ Some steps
unfolding steps_in
steps_again [] fits = refl
steps_again (a ∷ steps) fits = rw (step_again a fits.0, steps_again steps fits.1) refl

pub items_above : (steps : List Step) → AllByRecursion FitsStep steps → AllByRecursion (Above 32) (map item steps)
items_above [] fits = tt
items_above (a ∷ steps) fits = (item_above a fits.0, items_above steps fits.1)

-- ---- steps as path_text has them

item_shape : (p slash s c : List ℕ) → p ++ (slash ++ (s ++ c)) ≡ p ++ slash ++ s ++ c
item_shape p slash s c = simp append_assoc

item_text : (pc status : ℕ) (cites : Option ℕ) → 32 ∷ join_with_byte 47 (decimal pc ∷ status_name status ∷ cite_parts cites) ≡ field pc ++ codes "/" ++ status_name status ++ cited cites
unfolding field
item_text pc status None =
    ap (λ (l : List ℕ). 32 ∷ (decimal pc ++ (47 ∷ l))) (sym (append-nil (status_name status))) ∙ item_shape (32 ∷ decimal pc) (codes "/") (status_name status) []
item_text pc status (Some j) = item_shape (32 ∷ decimal pc) (codes "/") (status_name status) (codes "/" ++ decimal j)

pub join_items : (x : List ℕ) (steps : List Step) → join_with_byte 32 (x ∷ map item steps) ≡ x ++ flat_map step_text steps
unfolding step_text
join_items x [] = sym (append-nil x)
join_items x (a ∷ steps) =
    ap (λ (l : List ℕ). x ++ (32 ∷ l)) (join_items (item a) steps) ∙ ap (λ (l : List ℕ). x ++ (l ++ flat_map step_text steps)) (item_text a.pc a.status a.cites)
