-- What is left of a sweep from a pc on.
use Rattle.std.proofs.Common.{◌++◌, append_assoc, append-nil, unwrap_or, ◌≡◌, ℕ, zero, suc, ◌+◌, ◌-◌, ◌<◌, ◌≤◌, List, [], ◌∷◌, length, drop, slice_index, Bool, true, false, nat_lt, cond, Option, Some, None, Ok, Err, refl, ap, sym, ◌∙◌, arith}
use Rattle.std.specs.Prelude.{option_map}
use Rattle.std.proofs.lemmas.Bool.Decides.{nat_tests}
use Rattle.dalvik_decode.specs.declared.faults.CodeFault.{CodeFault}
use Rattle.dalvik_decode.specs.declared.faults.CodeFault.TheVariants.{Truncated, ArgCount}
use Rattle.dalvik_decode.specs.declared.payloads.Head.{Head}
use Rattle.dalvik_decode.specs.declared.payloads.Head.TheVariants as head
use Rattle.dalvik_decode.specs.declared.table.Format.{Format}
use Rattle.dalvik_decode.specs.declared.table.Format.TheVariants.{F10x, F12x, F11n, F11x, F10t, F20t, F22x, F21t, F21s, F21h, F21hWide, F21c, F23x, F22b, F22t, F22s, F22c, F30t, F32x, F31i, F31t, F31c, F35c, F3rc, F51l}
use Rattle.dalvik_decode.specs.declared.table.Row.{Row as Line}
use Rattle.dalvik_decode.specs.Table.{row_of, units_of}
use Rattle.dalvik_decode.specs.Decoding.{decoded, decoded_at, has_too_many}
use Rattle.dalvik_decode.specs.Operands.{opcode_of, operands_of}
use Rattle.dalvik_decode.specs.Instructions.{instruction_of}
use Rattle.dalvik_decode.specs.Payloads.{head_from, units_under, payload_len_at}
use Rattle.dalvik.specs.declared.ins.Ins.{Ins}
use Rattle.method_graph.specs.declared.sweep.Piece.TheVariants.{Payload, Broken}
use Rattle.method_graph.specs.declared.sweep.Row.{Row}
use Rattle.method_graph.specs.Sweep.{is_ident, payload_piece, instruction_piece, piece_at, next_of, row_at, rows_at, rows_from, sweep_of}

units_some : (format : Format) → 0 < units_of format
units_some F10x = omega arith
units_some F12x = omega arith
units_some F11n = omega arith
units_some F11x = omega arith
units_some F10t = omega arith
units_some F20t = omega arith
units_some F22x = omega arith
units_some F21t = omega arith
units_some F21s = omega arith
units_some F21h = omega arith
units_some F21hWide = omega arith
units_some F21c = omega arith
units_some F23x = omega arith
units_some F22b = omega arith
units_some F22t = omega arith
units_some F22s = omega arith
units_some F22c = omega arith
units_some F30t = omega arith
units_some F32x = omega arith
units_some F31i = omega arith
units_some F31t = omega arith
units_some F31c = omega arith
units_some F35c = omega arith
units_some F3rc = omega arith
units_some F51l = omega arith

under_some : (h : Head) → 0 < units_under h
under_some (head.Packed size) = omega arith
under_some (head.Sparse size) = omega arith
under_some (head.Array width count) = omega arith

payload_further : (broken : Bool) (fault : CodeFault) (ident pc count next : ℕ) → 0 < count → next_of (cond broken (Broken fault) (Payload ident (pc + count))) ≡ Some next → pc < next
payload_further true fault ident pc count next some is = absurd (cc)
payload_further false fault ident pc count next some is = let same : pc + count ≡ next = cc in omega arith

payload_next : (h : Option Head) (units : List ℕ) (pc next : ℕ) → next_of (payload_piece (option_map units_under h) units pc) ≡ Some next → pc < next
payload_next None units pc next is = absurd (cc)
payload_next (Some h) units pc next is = payload_further _ _ _ pc (units_under h) next (under_some h) is

whole_further : (short many : Bool) (first second : CodeFault) (ins : Ins) (pc count next : ℕ) → 0 < count
    → next_of (instruction_piece (cond short (Err first) (cond many (Err second) (Ok (ins, pc + count))))) ≡ Some next → pc < next
whole_further true many first second ins pc count next some is = absurd (cc)
whole_further false true first second ins pc count next some is = absurd (cc)
whole_further false false first second ins pc count next some is = let same : pc + count ≡ next = cc in omega arith

whole_next : (line : Option Line) (code : List ℕ) (pc next : ℕ) → next_of (instruction_piece (decoded line code pc)) ≡ Some next → pc < next
whole_next None code pc next is = absurd (cc)
whole_next (Some line) code pc next is =
    whole_further (nat_lt (length code) (units_of line.format)) (has_too_many line.format code) (Truncated pc) (ArgCount pc)
    (instruction_of line.kind (opcode_of code) (operands_of line.format code)) pc (units_of line.format) next (units_some line.format) is

either_next : (test : Bool) (units : List ℕ) (pc next : ℕ) → next_of (cond test (payload_piece (payload_len_at units pc) units pc) (instruction_piece (decoded_at units pc))) ≡ Some next → pc < next
unfolding decoded_at
either_next true units pc next is = payload_next (head_from (drop pc units)) units pc next is
either_next false units pc next is = whole_next (row_of (opcode_of (drop pc units))) (drop pc units) pc next is

-- the sweep goes forward
pub next_further : (units : List ℕ) (pc next : ℕ) → next_of (piece_at units pc) ≡ Some next → pc < next
unfolding piece_at
next_further units pc next is = either_next (is_ident (slice_index units pc)) units pc next is

-- more rows than are left add nothing
past_none : (most : ℕ) (units : List ℕ) (pc : ℕ) → length units ≤ pc → rows_from most units pc ≡ []
past_none zero units pc h = refl
past_none (suc most) units pc h = let test : nat_lt pc (length units) ≡ false = grind (arith, nat_tests) in rw test refl

after_same : (a b : ℕ) (units : List ℕ) (after : Option ℕ)
    → ((next : ℕ) → after ≡ Some next → rows_from a units next ≡ rows_from b units next)
    → rows_at (rows_from a units) after ≡ rows_at (rows_from b units) after
after_same a b units None same = refl
after_same a b units (Some next) same = same next refl

step_same : (test : Bool) (row : Row) (x y : List Row) → (test ≡ true → x ≡ y) → cond test (row ∷ x) [] ≡ cond test (row ∷ y) []
step_same true row x y same = ap (λ (rows : List Row). row ∷ rows) (same refl)
step_same false row x y same = refl

lt_of : (a b : ℕ) → nat_lt a b ≡ true → a < b
lt_of a b h = grind (arith, nat_tests)

enough : (a b : ℕ) (units : List ℕ) (pc : ℕ) → length units - pc ≤ a → length units - pc ≤ b → rows_from a units pc ≡ rows_from b units pc
enough zero b units pc low high = sym (past_none b units pc (omega arith))
enough (suc a) zero units pc low high = past_none (suc a) units pc (omega arith)
enough (suc a) (suc b) units pc low high =
    step_same (nat_lt pc (length units)) (row_at units pc) _ _
    (λ here. after_same a b units (next_of (piece_at units pc))
    (λ next is.
    let further = next_further units pc next is in
    let within = lt_of pc (length units) here in
    enough a b units next (omega arith) (omega arith)))

-- the rows from a pc on
pub rest_of : List ℕ → ℕ → List Row
rest_of units pc = rows_from (length units - pc) units pc

pub rest_all : (units : List ℕ) → rest_of units 0 ≡ sweep_of units
unfolding rest_of sweep_of
rest_all units = let same : length units - 0 ≡ length units = omega arith in rw same refl

pub rest_past : (units : List ℕ) (pc : ℕ) → length units ≤ pc → rest_of units pc ≡ []
unfolding rest_of
rest_past units pc h = past_none (length units - pc) units pc h

rest_here : (units : List ℕ) (pc : ℕ) → pc < length units → rest_of units pc ≡ row_at units pc ∷ rows_at (rows_from (length units - pc - 1) units) (next_of (piece_at units pc))
unfolding rest_of
rest_here units pc h =
    let more : length units - pc ≡ suc (length units - pc - 1) = omega arith in
    let test : nat_lt pc (length units) ≡ true = grind (arith, nat_tests) in
    ap (λ (n : ℕ). rows_from n units pc) more ∙ (rw test refl)

pub rest_next : (units : List ℕ) (pc next : ℕ) → pc < length units → next_of (piece_at units pc) ≡ Some next → rest_of units pc ≡ row_at units pc ∷ rest_of units next
unfolding rest_of
rest_next units pc next h is =
    let further = next_further units pc next is in
    rest_here units pc h ∙ (rw is (ap (λ (rows : List Row). row_at units pc ∷ rows) (enough _ _ units next (omega arith) (omega arith))))

pub rest_broken : (units : List ℕ) (pc : ℕ) → pc < length units → next_of (piece_at units pc) ≡ None → rest_of units pc ≡ row_at units pc ∷ []
rest_broken units pc h is = rest_here units pc h ∙ (rw is refl)

-- one turn of the sweep
pub turn_next : (units : List ℕ) (pc next : ℕ) (old new all : List Row) → old ++ rest_of units pc ≡ all → new ≡ old ++ row_at units pc ∷ []
    → pc < length units → next_of (piece_at units pc) ≡ Some next → new ++ rest_of units next ≡ all
turn_next units pc next old new all before noted h is = rw (noted, append_assoc) (ap (λ (rows : List Row). old ++ rows) (sym (rest_next units pc next h is)) ∙ before)

pub turn_broken : (units : List ℕ) (pc : ℕ) (old new all : List Row) → old ++ rest_of units pc ≡ all → new ≡ old ++ row_at units pc ∷ []
    → pc < length units → next_of (piece_at units pc) ≡ None → new ≡ all
turn_broken units pc old new all before noted h is = noted ∙ (ap (λ (rows : List Row). old ++ rows) (sym (rest_broken units pc h is)) ∙ before)

pub turn_past : (units : List ℕ) (pc : ℕ) (old all : List Row) → old ++ rest_of units pc ≡ all → length units ≤ pc → old ≡ all
turn_past units pc old all before h = sym (append-nil old) ∙ (ap (λ (rows : List Row). old ++ rows) (sym (rest_past units pc h)) ∙ before)

pub reached_next : (after : Option ℕ) (next other reached : ℕ) → after ≡ Some next → reached ≡ unwrap_or after other → reached ≤ next
reached_next None next other reached is same = absurd (cc)
reached_next (Some n) next other reached is same = let one : n ≡ next = cc in omega arith
