-- For which lock fields each component answers, and who owns them.
use Rattle.std.proofs.Common.{◌≡◌, ℕ, zero, suc, ◌+◌, ◌<◌, ◌≤◌, ◌∷◌, [], Bool, true, false, if◌then◌else◌, List, length, get_or, refl, sym, ap, ◌∙◌, subst, ⊎_elim, arith, Option, Some, None, slice_get}
use Rattle.std.specs.Prelude.{filter}
use Rattle.std.proofs.lemmas.Bool.{cases_lt, true≢false}
use Rattle.std.proofs.lemmas.Option.{slice_get-get_or, slice_get_within}
use Rattle.ns_base.specs.declared.rows.MethodNo.{MethodNo}
use Rattle.dalvik.specs.declared.body.Place.{Place}
use Rattle.app_model.specs.declared.tag.Tag.{Tag}
use Rattle.app_model.specs.Components.{ComponentParts}
use Rattle.app_model.specs.Parts.{AppParts}
use Rattle.app_model.specs.Words.{code_len, ins_of, place_at, places_of}
use Rattle.act_model.specs.Acts.{act_at, act_by}
use Rattle.flow_model.specs.Policy.{acquires}
use Rattle.scope_check.specs.Answering.{MethodHas, RowHas, WordHas}
use Rattle.scope_facts.specs.Bits.{HoldsBelow, Tells}
use Rattle.scope_facts.proofs.BitLaws.{told_as}

-- the word of the method at a place
pub method_told : (words : List ℕ) (methods : List (Option MethodNo)) (k : ℕ) (d : Option MethodNo) (word : ℕ) → k < length methods → Tells word (WordHas words (get_or methods k d)) → Tells word (MethodHas words methods k)
method_told words methods k d word low =
    told_as (WordHas words (get_or methods k d)) (MethodHas words methods k) word
    (λ l within. (
      (λ has. (get_or methods k d, slice_get-get_or methods k d low, has)),
      λ h. (let same : ◌≡◌ {A = Option MethodNo} h.0 (get_or methods k d) = (let e : ◌≡◌ {A = Option (Option MethodNo)} (Some h.0) (Some (get_or methods k d)) = sym h.1 ∙ slice_get-get_or methods k d low in cc) in
          subst (λ (m : Option MethodNo). WordHas words m l) same h.2),
    ))

-- the row of a component
pub row_answered : (rows : List ComponentParts) (c : ℕ) (row component : ComponentParts) (below : List ℕ) (ms : List (Option MethodNo)) (word : ℕ) → c < length rows → row ≡ get_or rows c row → ms ≡ row.methods
    → Tells word (HoldsBelow (length ms) (MethodHas below ms)) → slice_get rows c ≡ Some component → Tells word (RowHas below component)
row_answered rows c row component below ms word low read same told there =
    let is : ◌≡◌ {A = ComponentParts} row component = (let e : ◌≡◌ {A = Option ComponentParts} (Some row) (Some component) = ap Some read ∙ sym (slice_get-get_or rows c row low) ∙ there in cc) in
    subst (λ (one : ComponentParts). Tells word (RowHas below one)) is (subst (λ (list : List (Option MethodNo)). Tells word (HoldsBelow (length list) (MethodHas below list))) same told)

-- an act that acquires is that of an instruction
pub acquire_code : (app : AppParts) (m i l : ℕ) (row : List Tag) → acquires l (act_at app m i) row ≡ true → i < code_len app m
unfolding act_at place_at
acquire_code app m i l row is = go (slice_get (places_of app m) i) refl is
  where
    go : (place : Option Place) → slice_get (places_of app m) i ≡ place → acquires l (act_by app m i (ins_of place)) row ≡ true → i < code_len app m
    go None there none = absurd (true≢false (sym none))
    go (Some place) there some = slice_get_within (places_of app m) i place there

-- ---- the one that passes
some_passes : {X : Type 0} (p : X → Bool) (xs : List X) (k : ℕ) (x : X) → slice_get xs k ≡ Some x → p x ≡ true → 0 < length (filter p xs)
some_passes p [] k x at is = cc
some_passes p (y ∷ ys) zero x at is = let same : y ≡ x = cc in let yes : p y ≡ true = subst (λ (z : _). p z ≡ true) (sym same) is in rw yes (omega arith)
some_passes p (y ∷ ys) (suc k) x at is = go (p y) (some_passes p ys k x at is)
  where
    go : (b : Bool) → 0 < length (filter p ys) → 0 < length (if b then y ∷ filter p ys else filter p ys)
    go true more = omega arith
    go false more = more

pub one_only : {X : Type 0} (p : X → Bool) (xs : List X) (a b : ℕ) (x y : X) → length (filter p xs) ≡ 1 → slice_get xs a ≡ Some x → p x ≡ true → slice_get xs b ≡ Some y → p y ≡ true → a ≡ b
one_only p [] a b x y one at_a is_a at_b is_b = cc
one_only p (z ∷ zs) zero zero x y one at_a is_a at_b is_b = refl
one_only p (z ∷ zs) zero (suc b) x y one at_a is_a at_b is_b =
    let same : z ≡ x = cc in
    let yes : p z ≡ true = subst (λ (u : _). p u ≡ true) (sym same) is_a in
    let more = some_passes p zs b y at_b is_b in
    let two : length (if true then z ∷ filter p zs else filter p zs) ≡ 1 = subst (λ (t : Bool). length (if t then z ∷ filter p zs else filter p zs) ≡ 1) yes one in
    absurd (omega (arith, more, two))
one_only p (z ∷ zs) (suc a) zero x y one at_a is_a at_b is_b =
    let same : z ≡ y = cc in
    let yes : p z ≡ true = subst (λ (u : _). p u ≡ true) (sym same) is_b in
    let more = some_passes p zs a x at_a is_a in
    let two : length (if true then z ∷ filter p zs else filter p zs) ≡ 1 = subst (λ (t : Bool). length (if t then z ∷ filter p zs else filter p zs) ≡ 1) yes one in
    absurd (omega (arith, more, two))
one_only p (z ∷ zs) (suc a) (suc b) x y one at_a is_a at_b is_b = ap suc (go (p z) (λ rest. one_only p zs a b x y rest at_a is_a at_b is_b) one)
  where
    go : (t : Bool) → (length (filter p zs) ≡ 1 → a ≡ b) → length (if t then z ∷ filter p zs else filter p zs) ≡ 1 → a ≡ b
    go true rest one = absurd (let more = some_passes p zs a x at_a is_a in omega (arith, more, one))
    go false rest one = rest one

-- ---- none passes
pub none_more : {X : Type 0} (p : X → Bool) (xs : List X) (n : ℕ) (x : X) → n < length xs → x ≡ get_or xs n x → p x ≡ false → ((k : ℕ) (y : X) → k < n → slice_get xs k ≡ Some y → p y ≡ false) → (k : ℕ) (y : X) → k < n + 1 → slice_get xs k ≡ Some y → p y ≡ false
none_more {X} p xs n x low read fails before k y within there = ⊎_elim
    (λ less. before k y less there)
    (λ le. (let same : k ≡ n = omega (arith, le, within) in
    let at : slice_get xs n ≡ Some y = subst (λ (j : ℕ). slice_get xs j ≡ Some y) same there in
    let is : x ≡ y = (let e : ◌≡◌ {A = Option X} (Some x) (Some y) = ap Some read ∙ sym (slice_get-get_or xs n x low) ∙ at in cc) in
    subst (λ (z : X). p z ≡ false) is fails))
    (cases_lt k n)

pub none_whole : {X : Type 0} (p : X → Bool) (xs : List X) (n : ℕ) → length xs ≤ n → ((k : ℕ) (y : X) → k < n → slice_get xs k ≡ Some y → p y ≡ false) → (k : ℕ) (y : X) → slice_get xs k ≡ Some y → p y ≡ false
none_whole p xs n whole none k y there = none k y (let low = slice_get_within xs k y there in omega (arith, low, whole)) there
