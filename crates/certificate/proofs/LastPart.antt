-- A row that is put to the last lock field.
use Rattle.std.proofs.Common.{◌≡◌, ℕ, zero, suc, ◌+◌, List, [], ◌∷◌, length, get_or, set, ap, ◌∙◌, arith}
use Rattle.certificate.specs.Parts.{LockRows}
use Rattle.certificate.specs.Reading.{in_last}

pub set_last : (f : LockRows → LockRows) (xs : List LockRows) (i : ℕ) (old new : LockRows) → i + 1 ≡ length xs → old ≡ get_or xs i old → new ≡ f old → set xs i new ≡ in_last f xs
set_last f [] i old new len is e = absurd (omega arith)
set_last f (x ∷ []) zero old new len is e = ap (λ (p : LockRows). p ∷ []) (e ∙ ap f is)
set_last f (x ∷ []) (suc i) old new len is e = absurd (omega arith)
set_last f (x ∷ y ∷ xs) zero old new len is e = absurd (omega arith)
set_last f (x ∷ y ∷ xs) (suc i) old new len is e = ap (λ (ps : List LockRows). x ∷ ps) (set_last f (y ∷ xs) i old new (omega arith) is e)
