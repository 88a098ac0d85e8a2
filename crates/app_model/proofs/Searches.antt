-- Searches that go element by element, and up the superclasses.
use Rattle.std.proofs.Common.{◌≡◌, ℕ, suc, ◌+◌, ◌-◌, ◌<◌, true, false, Bool, List, [], ◌∷◌, length, get_or, refl, arith, Option, Some, None, slice_get, position, ◌∙◌, ap}
use Rattle.std.proofs.lemmas.Grind.{common_steps}
use Rattle.std.proofs.lemmas.List.Sums.{position_or_len_is}
use Rattle.ns_base.specs.declared.rows.FieldNo.{FieldNo}
use Rattle.app_model.specs.Hierarchy.{is_named_field, line, lock_in, nearest, or_else, superclass_at}
use Rattle.app_model.specs.Parts.{AppParts, ClassParts}

-- the first that passes
pub position_here : {X : Type 0} (p : X → Bool) (xs : List X) (i : ℕ) (d : X) → i < length xs → ((k : ℕ) → k < i → p (get_or xs k d) ≡ false)
    → p (get_or xs i d) ≡ true → Some i ≡ position p xs
position_here p xs i d within before here =
    let at : _ ≡ i = position_or_len_is p xs i d (omega (arith, within)) before (λ _. here) in
    grind (arith, common_steps, at, within)

-- where none passes
pub position_none : {X : Type 0} (p : X → Bool) (xs : List X) → ((k : ℕ) (d : X) → k < length xs → p (get_or xs k d) ≡ false) → None ≡ position p xs
position_none p [] none = refl
position_none p (x ∷ xs) none =
    let at : _ ≡ suc (length xs) = position_or_len_is p (x ∷ xs) (suc (length xs)) x (omega arith) (λ k below. none k x below) (λ past. absurd (omega (arith, past))) in
    grind (arith, common_steps, at)

-- a class, or the classes above it
pub nearest-step : (found : ℕ → Option ℕ) (classes : List ClassParts) (n i c : ℕ) → i < n
    → nearest found (line classes (n - i) (Some c)) ≡ or_else (found c) (nearest found (line classes (n - (i + 1)) (superclass_at classes c)))
nearest-step found classes n i c below = let e : n - i ≡ suc (n - (i + 1)) = omega arith in rw e refl

-- the first lock field of a class under a name
pub lock_here : (app : AppParts) (locks : List FieldNo) (name c : ℕ) (i : ℕ) (d : FieldNo) → locks ≡ app.locks → i < length locks
    → ((k : ℕ) (f : FieldNo) → k < i → is_named_field (slice_get app.fields (get_or locks k f).0) name c ≡ false)
    → is_named_field (slice_get app.fields (get_or locks i d).0) name c ≡ true → Some i ≡ lock_in app name c
unfolding lock_in
lock_here app locks name c i d same within before here =
    let p = λ (f : FieldNo). is_named_field (slice_get app.fields f.0) name c in
    position_here p locks i d within (λ k. before k d) here ∙ ap (λ (fs : List FieldNo). position p fs) same

-- where there is none
pub lock_none : (app : AppParts) (locks : List FieldNo) (name c : ℕ) → locks ≡ app.locks
    → ((k : ℕ) (f : FieldNo) → k < length locks → is_named_field (slice_get app.fields (get_or locks k f).0) name c ≡ false)
    → None ≡ lock_in app name c
unfolding lock_in
lock_none app locks name c same none =
    let p = λ (f : FieldNo). is_named_field (slice_get app.fields f.0) name c in
    position_none p locks none ∙ ap (λ (fs : List FieldNo). position p fs) same
