-- Names, and parts that fit.
use Rattle.std.proofs.Common.{◌≡◌, ◌<◌, ◌≤◌, ℕ, suc, Bool, false, List, [], ◌∷◌, Option, Some, None, length, refl, sym, ap, ◌∙◌, subst, arith}
use Rattle.std.specs.Prelude.{slice_get, is_some, not, IsTrue, ◌↔◌}
use Rattle.std.specs.List.{All}
use Rattle.std.proofs.lemmas.Bool.{not-false}
use Rattle.std.proofs.lemmas.Option.{slice_get_past}
use Rattle.app_model.specs.Shown.{lock_text}
use Rattle.app_model.specs.Subject.{SubjectParts, slot_count}
use Rattle.cert_line.specs.declared.rows.ViewRow.{ViewRow}
use Rattle.cert_line.specs.Parts.{BodyParts}
use Rattle.certificate.specs.Parts.{LockRows}
use Rattle.cert_facts.specs.Shape.{FitsLock, FitsBody, FitsView, HasName}

pub name_is : (name text : List ℕ) → ((k : ℕ) → k < length name → slice_get name k ≡ slice_get text k) → slice_get text (length name) ≡ None → name ≡ text
name_is [] [] same past = refl
name_is [] (y ∷ ys) same past = absurd (cc)
name_is (x ∷ xs) [] same past = absurd (let first = same 0 (omega arith) in cc)
name_is (x ∷ xs) (y ∷ ys) same past =
    let first : x ≡ y = (let at = same 0 (omega arith) in cc) in
    let rest : xs ≡ ys = name_is xs ys (λ k lt. same (suc k) (omega arith)) past in
    rw (first, rest) refl

pub has_name : (x : SubjectParts) (l at : ℕ) (name : List ℕ) (o : Option ℕ) (b : Bool) → length name ≤ 4294967295 → length name ≤ at → at ≤ length name → ((k : ℕ) → k < at → slice_get name k ≡ slice_get (lock_text x.app l) k) → o ≡ slice_get (lock_text x.app l) (length name) → is_some o ≡ not b → IsTrue b ↔ HasName x l name
has_name x l at name o b few from to same reads is = (
  (λ h. (omega arith, name_is name (lock_text x.app l) (λ k lt. same k (omega arith)) (sym reads ∙ none_of o (is ∙ ap not h)))),
  (λ z. not-false b (sym is ∙ ap is_some (reads ∙ slice_get_past (lock_text x.app l) (length name) (let e = ap length z.1 in omega arith)))),
)
  where
    none_of : (o : Option ℕ) → is_some o ≡ false → o ≡ None
    none_of None h = refl
    none_of (Some b) h = absurd (cc)

-- ---- a part fits, where its name and its views do and the bodies are tested
pub fits_lock : (x : SubjectParts) (l : ℕ) (part : LockRows) (name : List ℕ) (views : List ViewRow) (bodies : List BodyParts) (b : Bool) → ◌≡◌ {A = LockRows} (record { name = name; views = views; bodies = bodies }) part
    → l < slot_count x → HasName x l name → All (FitsView x) views → (IsTrue b ↔ All (FitsBody x) bodies) → IsTrue b ↔ FitsLock x l part
fits_lock x l part name views bodies b is slot named viewed test = subst (λ (p : LockRows). IsTrue b ↔ FitsLock x l p) is ((λ h. record { slot = slot; name = named; views = viewed; bodies = test.0 h }), (λ f. test.1 f.bodies))
