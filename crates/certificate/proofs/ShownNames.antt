-- A name that is shown can stand in a line.
use Rattle.std.proofs.Common.{◌≡◌, ℕ, suc, ◌+◌, ◌/◌, ◌%◌, ◌<◌, ◌≤◌, Bool, true, ltb, eqb, ◌&&◌, List, [], ◌∷◌, ◌++◌, length, get_or, refl, sym, ap, ◌∙◌, inl, inr, arith}
use Rattle.std.specs.Prelude.{codes, not, nat_le, slice_get, Some, None}
use Rattle.std.specs.List.{list_all}
use Rattle.std.proofs.lemmas.Bool.{lt-ltb, leb-true, and_parts, and_from}
use Rattle.std.proofs.lemmas.List.{length-append}
use Rattle.std.proofs.lemmas.List.Elements.{All-get_or}
use Rattle.std.proofs.lemmas.Option.{slice_get_cases}
use Rattle.cert_line.specs.Lines.{is_shown}
use Rattle.cert_line.proofs.Choices.{chosen}
use Rattle.ns_base.specs.declared.rows.FieldNo.{FieldNo}
use Rattle.app_model.specs.declared.rows.FieldRow.{FieldRow}
use Rattle.app_model.specs.Parts.{AppParts}
use Rattle.app_model.specs.Sound.{IsSoundApp}
use Rattle.app_model.specs.Shown.{hex_digit, is_graphic, shown_byte, shown, member_text, field_of, lock_text}
use Rattle.app_model.specs.Slots.{class_text}
use Rattle.app_model.specs.Names.{name_text}

abbrev pub plain : ℕ → Bool
plain b = ltb 32 b && ltb b 127

abbrev pub ArePlain : List ℕ → Type 0
ArePlain bs = list_all plain bs ≡ true

abbrev pub IsBytes : List ℕ → Type 0
IsBytes bs = (i : ℕ) → get_or bs i 0 < 256

plain_append : (xs ys : List ℕ) → ArePlain xs → ArePlain ys → ArePlain (xs ++ ys)
plain_append [] ys h k = k
plain_append (x ∷ xs) ys h k = let p = and_parts (plain x) (list_all plain xs) h in and_from _ _ p.0 (plain_append xs ys p.1 k)

plain_is : (b : ℕ) → 32 < b → b < 127 → plain b ≡ true
plain_is b low high = and_from _ _ (lt-ltb 32 b low) (lt-ltb b 127 high)

plain_digit : (h : ℕ) → h < 16 → plain (hex_digit h) ≡ true
plain_digit h lt =
    elim (chosen (ltb h 10) (48 + h) (87 + h) (hex_digit h) refl) [
      | inl p ↦ rw (← p.1) (plain_is (48 + h) (omega arith) (omega arith))
      | inr p ↦ rw (← p.1) (plain_is (87 + h) (omega arith) (omega arith))
    ]

plain_byte : (b : ℕ) → b < 256 → ArePlain (shown_byte b)
plain_byte b lt =
    elim (chosen (is_graphic b) (b ∷ []) (92 ∷ 120 ∷ hex_digit (b / 16) ∷ hex_digit (b % 16) ∷ []) (shown_byte b) refl) [
      | inl p ↦
          let t = and_parts (nat_le 33 b && nat_le b 126) (not (eqb b 92)) p.0 in
          let u = and_parts (nat_le 33 b) (nat_le b 126) t.0 in
          let low : 33 ≤ b = leb-true 33 b u.0 in
          let high : b ≤ 126 = leb-true b 126 u.1 in
          rw (← p.1) (and_from _ _ (plain_is b (omega arith) (omega arith)) refl)
      | inr p ↦
          let high : b / 16 < 16 = omega arith in
          let low : b % 16 < 16 = omega arith in
          rw (← p.1) (and_from _ _ (plain_digit (b / 16) high) (and_from _ _ (plain_digit (b % 16) low) refl))
    ]

plain_name : (name : List ℕ) → IsBytes name → ArePlain (shown name)
plain_name [] are = refl
plain_name (b ∷ bs) are = plain_append (shown_byte b) (shown bs) (plain_byte b (are 0)) (plain_name bs (λ i. are (suc i)))

some_arrow : (xs ys : List ℕ) → ltb 0 (length (xs ++ codes "->" ++ ys)) ≡ true
some_arrow xs ys = lt-ltb 0 (length (xs ++ codes "->" ++ ys)) (omega (arith, length-append xs (codes "->"), length-append (xs ++ codes "->") ys))

pub member_shown : (class field : List ℕ) → IsBytes class → IsBytes field → is_shown (member_text class field) ≡ true
member_shown class field are_class are_field =
    and_from _ _ (some_arrow (shown class) (shown field)) (plain_append (shown class ++ codes "->") (shown field) (plain_append (shown class) (codes "->") (plain_name class are_class) refl) (plain_name field are_field))

-- ---- each lock field is a field
there : {X : Type 0} (xs : List X) (i : ℕ) → i < length xs → slice_get xs i ≡ None → ⊥
there xs i lt none =
    elim (slice_get_cases xs i).1 [
      | inl (x, in', is, at) ↦ let clash = sym is ∙ none in absurd cc
      | inr (past, is) ↦ absurd (omega arith)
    ]

pub no_field : (app : AppParts) (l : ℕ) → IsSoundApp app → l < length app.locks → field_of app (slice_get app.locks l) ≡ None → ⊥
no_field app l sound lt none =
    elim (slice_get_cases app.locks l).1 [
      | inl (f, in', is, at) ↦
          let field : f.0 < length app.fields = rw at at (All-get_or (λ (f : FieldNo). f.0 < length app.fields) app.locks l f in' sound.locks.fields) in
          there app.fields f.0 field (sym (ap (field_of app) is) ∙ none)
      | inr (past, is) ↦ absurd (omega arith)
    ]

pub text_is : (app : AppParts) (l : ℕ) (f : FieldRow) (class field : List ℕ) → field_of app (slice_get app.locks l) ≡ Some f → class ≡ class_text app f.class.0 → field ≡ name_text app f.name.0 → member_text class field ≡ lock_text app l
unfolding lock_text
text_is app l f class field is is_class is_field = rw (is, is_class, is_field) refl
