-- Chains of answers, tests and limits.
use Rattle.std.proofs.Common.{◌≡◌, ℕ, ◌+◌, ◌≤◌, List, [], ◌∷◌, Bool, true, false, cond, nat_lt, Result, Ok, Err, refl, sym, ap, arith, ◌∙◌}
use Rattle.std.specs.List.{sum_by}
use Rattle.std.proofs.lemmas.Bool.{ltb-false}
use Rattle.std.proofs.lemmas.Bool.Decides.{nat_tests}
use Rattle.std.proofs.lemmas.List.Sums.{sum_by-append}
use Rattle.ns_base.specs.Answers.{limit_of}
use Rattle.ns_base.specs.declared.answers.Counted.{Counted}
use Rattle.dex_bytes.specs.declared.fault.DexFault.{DexFault}
use Rattle.dex_bytes.specs.declared.fault.DexFault.TheVariants.{Limit}
use Rattle.dalvik_decode.specs.declared.faults.CodeFault.{CodeFault}
use Rattle.dex_file.specs.declared.fault.FileFault.{FileFault}
use Rattle.dex_file.specs.declared.fault.FileFault.TheVariants.{Dex}
use Rattle.dex_file.specs.Exact.{◌>>=◌, in_dex, in_code}
use Rattle.dex_file.specs.Reading.{added}

pub bind_ok : {A B : Type 0} (m : Result A FileFault) (f : A → Result B FileFault) (r : B) → (m >>= f) ≡ Ok r → (x : A) × (m ≡ Ok x) × (f x ≡ Ok r)
bind_ok (Ok x) f r e = (x, refl, e)
bind_ok (Err e) f r h = absurd (let no : ⊥ = cc in no)

pub bind_by : {A B : Type 0} (m : Result A FileFault) (f : A → Result B FileFault) (x : A) (r : Result B FileFault) → m ≡ Ok x → f x ≡ r → (m >>= f) ≡ r
bind_by m f x r one two = rw one two

pub ok_same : {A : Type 0} (x y : A) → ◌≡◌ {A = Result A FileFault} (Ok x) (Ok y) → x ≡ y
ok_same x y h = cc

pub in_dex_ok : {A : Type 0} (m : Result A DexFault) (x : A) → in_dex m ≡ Ok x → m ≡ Ok x
in_dex_ok (Ok y) x h = ap Ok (ok_same y x h)
in_dex_ok (Err e) x h = absurd (let no : ⊥ = cc in no)

pub in_code_ok : {A : Type 0} (method : ℕ) (m : Result A CodeFault) (x : A) → in_code method m ≡ Ok x → m ≡ Ok x
in_code_ok method (Ok y) x h = ap Ok (ok_same y x h)
in_code_ok method (Err e) x h = absurd (let no : ⊥ = cc in no)

else_ok : {A : Type 0} (b : Bool) (e : FileFault) (m : Result A FileFault) (r : A) → cond b (Err e) m ≡ Ok r → (b ≡ false) × (m ≡ Ok r)
else_ok true e m r h = absurd (let no : ⊥ = cc in no)
else_ok false e m r h = (refl, h)

-- a sum that was let through
pub added_ok : (which : Counted) (before more n : ℕ) → added which before more ≡ Ok n → (n ≡ before + more) × (before + more ≤ limit_of which)
added_ok which before more n h =
    let test = else_ok (nat_lt (limit_of which) (before + more)) (Dex (Limit which)) (Ok (before + more)) n h in
    (sym (ok_same _ _ test.1), ltb-false _ _ test.0)

pub added_by : (which : Counted) (before more : ℕ) → before + more ≤ limit_of which → added which before more ≡ Ok (before + more)
added_by which before more low =
    let test : nat_lt (limit_of which) (before + more) ≡ false = grind (arith, nat_tests) in
    rw test refl

-- a sum over a list
pub sum_by-more : {X : Type 0} (f : X → ℕ) (x : X) (xs : List X) → sum_by f (x ∷ xs) ≡ f x + sum_by f xs
sum_by-more f x xs =
    let front : 0 + f x ≡ f x = omega arith in
    sum_by-append f (x ∷ []) xs ∙ ap (λ (n : ℕ). n + sum_by f xs) front
