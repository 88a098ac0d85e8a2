-- Indices put one behind another.
use Rattle.std.proofs.Common.{◌≡◌, ℕ, ℤ, List, [], ◌∷◌, ◌++◌, Result, Ok, Err, refl, ap, sym, ◌∙◌, append_assoc}
use Rattle.dalvik_decode.specs.declared.faults.CodeFault.{CodeFault}
use Rattle.method_graph.specs.declared.sweep.Row.{Row}
use Rattle.method_graph.specs.Exact.{behind}
use Rattle.method_graph.specs.Flow.{index_to, indices_at, put_first, target_of}

behind_twice : (old : List ℕ) (i : ℕ) (more : Result (List ℕ) CodeFault) → behind old (behind (i ∷ []) more) ≡ behind (old ++ i ∷ []) more
behind_twice old i (Ok numbers) = ap (λ (all : List ℕ). let r : Result (List ℕ) CodeFault = Ok all in r) (sym (append_assoc old (i ∷ []) numbers))
behind_twice old i (Err e) = refl

put_ok : (one : Result ℕ CodeFault) (more : Result (List ℕ) CodeFault) (old new : List ℕ) → behind old (put_first one (Ok [])) ≡ Ok new
    → behind old (put_first one more) ≡ behind new more
put_ok (Ok i) more old new h = let same : old ++ i ∷ [] ≡ new = cc in behind_twice old i more ∙ ap (λ (front : List ℕ). behind front more) same
put_ok (Err e) more old new h = absurd (cc)

put_err : (one : Result ℕ CodeFault) (more : Result (List ℕ) CodeFault) (e : CodeFault) → (put_first one (Ok [])) ≡ Err e
    → (put_first one more) ≡ Err e
put_err (Ok i) more e h = absurd (cc)
put_err (Err f) more e h = cc

behind_err : (old : List ℕ) (wanted : Result (List ℕ) CodeFault) (e : CodeFault) → behind old wanted ≡ Err e → wanted ≡ Err e
behind_err old (Ok numbers) e h = absurd (cc)
behind_err old (Err f) e h = cc

-- one turn of the loop over offsets
pub turn_ok : (rows : List Row) (pc : ℕ) (offset : ℤ) (target : ℕ) (left more : List ℤ) (old new : List ℕ) (all : Result (List ℕ) CodeFault)
    → left ≡ offset ∷ more → target ≡ target_of pc offset → behind old (indices_at rows pc left) ≡ all → behind old (put_first (index_to rows pc target) (Ok [])) ≡ Ok new
    → behind new (indices_at rows pc more) ≡ all
turn_ok rows pc offset target left more old new all here at_target before put =
    sym (put_ok (index_to rows pc (target_of pc offset)) (indices_at rows pc more) old new (rw at_target at put)) ∙ (rw here at before)

pub turn_err : (rows : List Row) (pc : ℕ) (offset : ℤ) (target : ℕ) (left more : List ℤ) (old first : List ℕ) (wanted : Result (List ℕ) CodeFault) (e : CodeFault)
    → left ≡ offset ∷ more → target ≡ target_of pc offset → behind old (indices_at rows pc left) ≡ behind first wanted → put_first (index_to rows pc target) (Ok []) ≡ Err e → wanted ≡ Err e
turn_err rows pc offset target left more old first wanted e here at_target before put =
    behind_err first wanted e (sym before ∙ (rw here (ap (λ (r : Result (List ℕ) CodeFault). behind old r) (put_err (index_to rows pc (target_of pc offset)) (indices_at rows pc more) e (rw at_target at put)))))
