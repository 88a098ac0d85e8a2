-- What holds of the rows of a list that was read.
use Rattle.std.proofs.Common.{◌≡◌, ℕ, ◌+◌, codes, None, option_and_then, Result, Ok, Err, is_ok, Bool, true, false, ◌||◌, cond, List, [], ◌∷◌, ◌++◌, refl, ap, ◌∙◌, bytes_eq}
use Rattle.std.proofs.lemmas.Bool.{false≢true}
use Rattle.component_list.specs.Listed.{ListedParts}
use Rattle.component_list.specs.Reading.{add_row, has_class, is_memory, row_of}
use Rattle.component_list.specs.Keys.{wrong_key}
use Rattle.component_list.specs.declared.fault.ListFault.{ListFault}
use Rattle.component_list.specs.declared.fault.ListFault.TheVariants as fault
use Rattle.ns_base.specs.Steps.{Gives, IsExact, Unless}
use Rattle.toml.specs.Data.{Items, as_table, get_item, no_members}

or_cond : (a b c : Bool) → (a || cond b true c) ≡ cond b true (a || c)
or_cond true true c = refl
or_cond true false c = refl
or_cond false true c = refl
or_cond false false c = refl

or_false : (b : Bool) → (b || false) ≡ cond b true false
or_false true = refl
or_false false = refl

-- a row more, and its class is there
pub has_class-push : (q : List ℕ) (rows : List ListedParts) (row : ListedParts) → has_class q (rows ++ row ∷ []) ≡ cond (bytes_eq row.class q) true (has_class q rows)
has_class-push q [] row = or_false (bytes_eq row.class q)
has_class-push q (r ∷ rows) row = ap (λ b. bytes_eq r.class q || b) (has_class-push q rows row) ∙ or_cond (bytes_eq r.class q) (bytes_eq row.class q) (has_class q rows)

-- a component without keys lacks its class
pub row_of-nothing : (i : ℕ) → row_of i no_members ≡ Err (fault.Key (i + 1) (codes "class"))
unfolding row_of wrong_key
row_of-nothing i = refl

-- a component that is no table has no keys
pub add_row-nothing : (components : Items) (i : ℕ) (rows : List ListedParts) → option_and_then as_table (get_item i components) ≡ None → add_row components i rows ≡ Err (fault.Key (i + 1) (codes "class"))
add_row-nothing components i rows e = rw (e, row_of-nothing i) refl

moved : (b : Bool) {P Q : Type 0} → (P → Q) → Unless b P → Unless b Q
moved true f p = tt
moved false f p = f p

abbrev as_fault : {X Y : Type 0} → ListFault → Result X ListFault → Result Y ListFault
as_fault e (Ok x) = Err e
as_fault e (Err x) = Err x

-- a call that answered this fault, or want of memory, answers it for whatever stops at it
pub gives_fault : {Y : Type 0} (f : Unit {0} → Y) (result : Result (Unit {0}) ListFault) (e : ListFault) (wanted : Result Y ListFault) → IsExact is_memory result (Err e) → wanted ≡ Err e → Gives is_memory f result wanted
gives_fault f (Ok x) e wanted told stop = absurd (false≢true (ap is_ok told))
gives_fault f (Err x) e wanted told stop = rw stop (moved (is_memory x) (ap (as_fault e)) told)
