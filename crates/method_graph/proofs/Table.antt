-- The table of a sweep after one more row.
use Rattle.std.proofs.Common.{◌≡◌, ℕ, zero, suc, ◌+◌, ◌<◌, ◌≤◌, ◌≢◌, ◌⊎◌, inl, inr, ◌++◌, List, [], ◌∷◌, length, slice_index_or, Bool, true, false, nat_eq, cond, refl, ap, sym, ◌∙◌, arith, subst, replicate, take, ◌-◌, add-zero, zero-add, add_assoc, eq-eqb}
use Rattle.std.proofs.lemmas.Bool.Decides.{nat_tests}
use Rattle.std.specs.Prelude.{slice_set}
use Rattle.std.proofs.lemmas.List.{get_or-set_same, get_or-set_other}
use Rattle.method_graph.specs.declared.sweep.Piece.{Piece}
use Rattle.method_graph.specs.declared.sweep.Piece.TheVariants.{Whole, Payload, Broken}
use Rattle.method_graph.specs.declared.sweep.Row.{Row}
use Rattle.method_graph.specs.declared.sweep.Found.{Found}
use Rattle.method_graph.specs.declared.sweep.Found.TheVariants as found
use Rattle.method_graph.specs.Sweep.{stands, instructions_in, instruction_count, found_from, found_at, IsTable, IsSound}

found_or : Found → Found → Found
found_or found.Nothing y = y
found_or (found.Start i) y = found.Start i
found_or (found.Payload ident) y = found.Payload ident

stands_or : (i : ℕ) (piece : Piece) (y : Found) → stands i piece ≡ found_or (stands i piece) y
unfolding found_or
stands_or i (Whole ins next) y = refl
stands_or i (Payload ident next) y = refl
stands_or i (Broken fault) y = refl

or_nothing : (x : Found) → found_or x found.Nothing ≡ x
unfolding found_or
or_nothing found.Nothing = refl
or_nothing (found.Start i) = refl
or_nothing (found.Payload ident) = refl

-- one row more is looked at last
at_push : (b : Bool) (i : ℕ) (piece : Piece) (more old y : Found) → more ≡ found_or old y
    → cond b (stands i piece) more ≡ found_or (cond b (stands i piece) old) y
at_push true i piece more old y h = stands_or i piece y
at_push false i piece more old y h = h

found_push : (i : ℕ) (rows : List Row) (row : Row) (pc : ℕ)
    → found_from i (rows ++ row ∷ []) pc ≡ found_or (found_from i rows pc) (cond (nat_eq row.pc pc) (stands (i + instruction_count rows) row.piece) found.Nothing)
unfolding found_or
found_push i [] row pc = rw add-zero
found_push i (first ∷ rows) row pc =
    let more = found_push (i + instructions_in first.piece) rows row pc in
    at_push (nat_eq first.pc pc) i first.piece _ _ _ (rw (← add_assoc i (instructions_in first.piece) (instruction_count rows)) more)

-- at any other pc it changes nothing
found_other : (rows : List Row) (row : Row) (pc : ℕ) → row.pc ≢ pc → found_at (rows ++ row ∷ []) pc ≡ found_at rows pc
unfolding found_at
found_other rows row pc ne =
    let test : nat_eq row.pc pc ≡ false = grind (arith, nat_tests) in
    found_push 0 rows row pc ∙ (rw test (or_nothing (found_from 0 rows pc)))

-- at its own, where nothing stood before
found_own : (rows : List Row) (row : Row) → found_at rows row.pc ≡ found.Nothing → found_at (rows ++ row ∷ []) row.pc ≡ stands (instruction_count rows) row.piece
unfolding found_at found_or
found_own rows row none =
    let test : nat_eq row.pc row.pc ≡ true = eq-eqb row.pc row.pc refl in
    found_push 0 rows row row.pc ∙ (rw (none, test, zero-add) refl)

count_push : (rows : List Row) (row : Row) → instruction_count (rows ++ row ∷ []) ≡ instruction_count rows + instructions_in row.piece
count_push [] row = omega arith
count_push (first ∷ rows) row = let more = count_push rows row in omega arith

count_one : (piece : Piece) → instructions_in piece ≤ 1
count_one (Whole ins next) = omega arith
count_one (Payload ident next) = omega arith
count_one (Broken fault) = omega arith

equal_by : (a b : ℕ) (test : Bool) → nat_eq a b ≡ test → (a ≡ b) ⊎ (a ≢ b)
equal_by a b true h = inl (grind (arith, nat_tests))
equal_by a b false h = inr (grind (arith, nat_tests))

table_set : (table : List Found) (rows : List Row) (row : Row) → IsTable table rows → found_at rows row.pc ≡ found.Nothing → row.pc < length table
    → IsTable (slice_set table row.pc (stands (instruction_count rows) row.piece)) (rows ++ row ∷ [])
table_set table rows row is none within pc = elim (equal_by row.pc pc (nat_eq row.pc pc) refl) as (λ _. slice_index_or (slice_set table row.pc (stands (instruction_count rows) row.piece)) pc found.Nothing ≡ found_at (rows ++ row ∷ []) pc) [
  | inl same ↦ subst (λ (n : ℕ). slice_index_or (slice_set table row.pc (stands (instruction_count rows) row.piece)) n found.Nothing ≡ found_at (rows ++ row ∷ []) n) same
      (get_or-set_same table row.pc (stands (instruction_count rows) row.piece) found.Nothing within ∙ sym (found_own rows row none))
  | inr other ↦
      get_or-set_other table row.pc pc (stands (instruction_count rows) row.piece) found.Nothing (λ e. other (sym e)) ∙ (is pc ∙ sym (found_other rows row pc other))
]

pub sound_note : (table : List Found) (rows : List Row) (instructions reached : ℕ) (row : Row) (after : ℕ)
    → IsSound table rows instructions reached → reached ≤ row.pc → row.pc < length table → row.pc < after
    → IsSound (slice_set table row.pc (stands instructions row.piece)) (rows ++ row ∷ []) (instructions + instructions_in row.piece) after
sound_note table rows instructions reached row after is place within further = record {
  count = ap (λ (n : ℕ). n + instructions_in row.piece) is.count ∙ sym (count_push rows row);
  few = let one = count_one row.piece in let few = is.few in omega arith;
  each = rw is.count (table_set table rows row is.each (is.rest row.pc place) within);
  rest = λ pc le. let ne : row.pc ≢ pc = omega arith in found_other rows row pc ne ∙ is.rest pc (omega arith);
}

pub sound_none : (table : List Found) → ((pc : ℕ) → slice_index_or table pc found.Nothing ≡ found.Nothing) → IsSound table [] 0 0
unfolding found_at
sound_none table none = record { count = refl; few = omega arith; each = none; rest = λ pc le. refl }

replicate_nothing : (n pc : ℕ) → slice_index_or (replicate n found.Nothing) pc found.Nothing ≡ found.Nothing
replicate_nothing zero pc = refl
replicate_nothing (suc n) zero = refl
replicate_nothing (suc n) (suc pc) = replicate_nothing n pc

pub sound_new : (n : ℕ) → IsSound (replicate n found.Nothing) [] 0 0
sound_new n = sound_none (replicate n found.Nothing) (replicate_nothing n)

none_found : List Found
none_found = []

take_none : (n : ℕ) → take n none_found ≡ []
unfolding none_found
take_none zero = refl
take_none (suc n) = refl

-- the table before the first row
pub sound_filled : (n m : ℕ) (table : List Found) (rows : List Row) → table ≡ [] → m ≡ 0 → rows ≡ [] → IsSound (take n table ++ replicate (n - m) found.Nothing) rows 0 0
unfolding none_found
sound_filled n m table rows none zero_is empty =
    let left : n - m ≡ n = omega arith in
    rw (none, empty, left) (rw take_none (sound_new n))
