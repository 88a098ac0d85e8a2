-- What holds of the instructions of a method's graph.
use Rattle.std.proofs.Common.{◌≡◌, ◌+◌, ◌<◌, ◌≤◌, ℕ, zero, suc, Bool, true, false, cond, nat_eq, nat_lt, List, [], ◌∷◌, length, get_or, Option, None, Some, Result, Ok, Err, refl, sym, subst, arith}
use Rattle.std.specs.List.{All}
use Rattle.dalvik.specs.declared.ins.Ins.{Ins}
use Rattle.dalvik.specs.declared.body.Place.{Place}
use Rattle.dalvik.specs.Body.{BodyRows, IsBody}
use Rattle.dalvik.specs.Registers.{registers_of}
use Rattle.dalvik_decode.specs.declared.faults.CodeFault.{CodeFault}
use Rattle.dalvik_decode.specs.declared.faults.CodeFault.TheVariants.{TryTarget, FallsOff, InsSize}
use Rattle.dex_code.specs.Content.{CodeContent}
use Rattle.method_graph.specs.declared.sweep.Row.{Row}
use Rattle.method_graph.specs.declared.sweep.Piece.{Piece}
use Rattle.method_graph.specs.declared.sweep.Piece.TheVariants.{Whole, Payload, Broken}
use Rattle.method_graph.specs.declared.sweep.Found.{Found}
use Rattle.method_graph.specs.Exact.{◌>>=◌}
use Rattle.method_graph.specs.Flow.{is_start, successors_at}
use Rattle.method_graph.specs.Graph.{IsCodeIn, unless_some, place_with, place_at, put_place, put_piece, places_of, pc_of, with_target, body_of, is_static, graph_by, graph_of}
use Rattle.dalvik.specs.Naming.{naming_of}
use Rattle.method_graph.specs.Operands.{past_table, has_its_args, argument_words}
use Rattle.method_graph.specs.Registers.{first_past}
use Rattle.method_graph.specs.Sweep.{stands, instructions_in, instruction_count, found_from, found_at, sweep_of}
use Rattle.method_graph.specs.Tries.{bad_target, handlers_in, try_at}
use Rattle.method_graph.proofs.Bodies.{are_body, count_few}
use Rattle.method_graph.proofs.ReadCode.{units_in, handlers_in_limit}
use Rattle.method_graph.proofs.Rising.{sweep_few}

pub record IsGraphOf (bs : List ℕ) (code : CodeContent) (body : BodyRows) : Type 0 where
  pub registers : body.registers ≡ code.registers
  pub begins : 0 < length body.places
  pub units : length body.places ≤ length code.units
  pub named : (k : ℕ) (d : Place) → k < length body.places → past_table bs (naming_of (get_or body.places k d).ins) ≡ None
  pub arguments : (k : ℕ) (d : Place) → k < length body.places → has_its_args bs (get_or body.places k d).ins ≡ true

-- what a place names is in its table, and a call there has its arguments
abbrev Fits : List ℕ → Place → Type 0
Fits bs place = (past_table bs (naming_of place.ins) ≡ None) × (has_its_args bs place.ins ≡ true)

-- a place that was made passed both tests
tests_inv : (register index : Option ℕ) (fits : Bool) (successors : Result (List ℕ) CodeFault) (f g : ℕ → CodeFault) (args : CodeFault) (make : List ℕ → Place) (place : Place)
    → unless_some register f (unless_some index g (cond fits (successors >>= (λ all. Ok (make all))) (Err args))) ≡ Ok place
    → (all : List ℕ) × (index ≡ None) × (fits ≡ true) × (place ≡ make all)
tests_inv (Some r) index fits successors f g args make place h = absurd (cc)
tests_inv None (Some i) fits successors f g args make place h = absurd (cc)
tests_inv None None false successors f g args make place h = absurd (cc)
tests_inv None None true (Err e) f g args make place h = absurd (cc)
tests_inv None None true (Ok all) f g args make place h = let same : make all ≡ place = cc in (all, refl, refl, sym same)

-- so its instruction fits
place_fits : (bs : List ℕ) (code : CodeContent) (rows : List Row) (pc next : ℕ) (i : Ins) (place : Place) → place_at bs code rows pc next i ≡ Ok place
    → Fits bs place
unfolding place_at
place_fits bs code rows pc next i place h =
    let p = tests_inv (first_past code.registers (registers_of i)) (past_table bs (naming_of i)) (has_its_args bs i) (successors_at code.units rows pc next i) _ _ _
    (λ all. place_with bs rows (handlers_in code.handlers (try_at code.tries pc)) pc i all) place h in
    rw p.3 (p.1, p.2)

-- all places fit, and there are so many
record AllFit (bs : List ℕ) (n : ℕ) (places : List Place) : Type 0 where
  len : length places ≡ n
  each : All (λ place. Fits bs place) places

-- of no places there is nothing to show
none_fit : (bs : List ℕ) → AllFit bs 0 []
none_fit bs = record { len = refl; each = λ k d lt. absurd (omega arith) }

-- a place in front of others
first_fits : (bs : List ℕ) (place : Place) (places : List Place)
    → Fits bs place → All (λ place. Fits bs place) places → All (λ place. Fits bs place) (place ∷ places)
first_fits bs place places here more zero d lt = here
first_fits bs place places here more (suc k) d lt = more k d (omega arith)

-- where a place is put in front of others, both were there
put_fits : (bs : List ℕ) (n : ℕ) (one : Result Place CodeFault) (more : Result (List Place) CodeFault) (all : List Place) → put_place one more ≡ Ok all
    → ((place : Place) → one ≡ Ok place → Fits bs place) → ((rest : List Place) → more ≡ Ok rest → AllFit bs n rest) → AllFit bs (1 + n) all
put_fits bs n (Ok place) (Ok rest) all h here behind =
    let same : place ∷ rest ≡ all = cc in
    let p = behind rest refl in
    let len = p.len in
    rw (sym same) (record { len = omega arith; each = first_fits bs place rest (here place refl) p.each })
put_fits bs n (Ok place) (Err e) all h here behind = absurd (cc)
put_fits bs n (Err e) more all h here behind = absurd (cc)

-- a row puts as many places as it has instructions
piece_fits : (bs : List ℕ) (code : CodeContent) (rows : List Row) (pc n : ℕ) (piece : Piece) (more : Result (List Place) CodeFault) (all : List Place)
    → put_piece bs code rows pc piece more ≡ Ok all → ((rest : List Place) → more ≡ Ok rest → AllFit bs n rest) → AllFit bs (instructions_in piece + n) all
piece_fits bs code rows pc n (Whole i next) more all h behind = put_fits bs n (place_at bs code rows pc next i) more all h (place_fits bs code rows pc next i) behind
piece_fits bs code rows pc n (Payload ident next) more all h behind = let none : 0 + n ≡ n = omega arith in rw none (behind all h)
piece_fits bs code rows pc n (Broken fault) more all h behind = absurd (cc)

-- the places of some rows, one for each instruction
places_fit : (bs : List ℕ) (code : CodeContent) (rows some : List Row) (all : List Place) → places_of bs code rows some ≡ Ok all
    → AllFit bs (instruction_count some) all
places_fit bs code rows [] all h = let same : [] ≡ all = cc in rw (sym same) (none_fit bs)
places_fit bs code rows (row ∷ more) all h =
    piece_fits bs code rows row.pc (instruction_count more) row.piece (places_of bs code rows more) all h (λ rest. places_fit bs code rows more rest)

-- a row where an instruction starts counts as one
stands_one : (i : ℕ) (piece : Piece) → is_start (stands i piece) ≡ true → instructions_in piece ≡ 1
stands_one i (Whole ins next) h = refl
stands_one i (Payload ident next) h = absurd (cc)
stands_one i (Broken fault) h = refl

-- so it counts, here or among the rows behind it
start_if : (test : Bool) (i n : ℕ) (piece : Piece) (more : Found) → is_start (cond test (stands i piece) more) ≡ true
    → (is_start more ≡ true → 0 < n) → 0 < instructions_in piece + n
start_if true i n piece more h rest = let one = stands_one i piece h in omega arith
start_if false i n piece more h rest = let some = rest h in omega arith

-- where an instruction starts somewhere, the rows have one
start_some : (i : ℕ) (rows : List Row) (pc : ℕ) → is_start (found_from i rows pc) ≡ true → 0 < instruction_count rows
start_some i [] pc h = absurd (cc)
start_some i (row ∷ rows) pc h =
    start_if (nat_eq row.pc pc) i (instruction_count rows) row.piece (found_from (i + instructions_in row.piece) rows pc) h
    (start_some (i + instructions_in row.piece) rows pc)

-- the same of all rows, from the front
at_some : (rows : List Row) (pc : ℕ) → is_start (found_at rows pc) ≡ true → 0 < instruction_count rows
unfolding found_at
at_some rows pc h = start_some 0 rows pc h

-- a bad target is a fault, whichever fault comes first
later : (test : Bool) (target : ℕ) (fault : CodeFault) (all : List Place) → cond test (Err (TryTarget target)) (Err fault) ≡ Ok all → ⊥
later true target fault all h = absurd (cc)
later false target fault all h = absurd (cc)

-- so where places are left, they are those that were made
target_inv : (bad : Option ℕ) (places : Result (List Place) CodeFault) (all : List Place) → with_target bad places ≡ Ok all → (bad ≡ None) × (places ≡ Ok all)
target_inv None places all h = (refl, h)
target_inv (Some target) (Ok places) all h = absurd (cc)
target_inv (Some target) (Err fault) all h = absurd (later (nat_lt target (pc_of fault)) target fault all h)

-- what a body is made of
body_inv : (registers : ℕ) (places : Result (List Place) CodeFault) (body : BodyRows) → body_of registers places ≡ Ok body
    → (body.registers ≡ registers) × (places ≡ Ok body.places)
body_inv registers (Ok places) body h = let same : record { registers = registers; places = places } ≡ body = cc in rw (sym same) (refl, refl)
body_inv registers (Err e) body h = absurd (cc)

-- a graph passed both of its tests
graph_inv : (fits starts : Bool) (registers : ℕ) (bad : Option ℕ) (places : Result (List Place) CodeFault) (none other : CodeFault) (body : BodyRows)
    → cond fits (cond starts (body_of registers (with_target bad places)) (Err none)) (Err other) ≡ Ok body
    → (fits ≡ true) × (starts ≡ true) × (body.registers ≡ registers) × (bad ≡ None) × (places ≡ Ok body.places)
graph_inv false starts registers bad places none other body h = absurd (cc)
graph_inv true false registers bad places none other body h = absurd (cc)
graph_inv true true registers bad places none other body h =
    let p = body_inv registers (with_target bad places) body h in
    let both = target_inv bad places body.places p.1 in
    (refl, refl, p.0, both.0, both.1)

-- the registers, the first instruction, the number of instructions, and what each of them names
pub graph_sound : (bs : List ℕ) (method flags : ℕ) (code : CodeContent) (body : BodyRows) → graph_of bs method flags code ≡ Ok body → IsGraphOf bs code body
unfolding graph_by
graph_sound bs method flags code body h =
    let rows = sweep_of code.units in
    let p = graph_inv (nat_eq code.ins (argument_words bs (is_static flags) method)) (is_start (found_at rows 0)) code.registers
    (bad_target rows None code.handlers) (places_of bs code rows rows) (FallsOff 0) InsSize body h in
    let all = places_fit bs code rows rows body.places p.4 in
    let len = all.len in
    let some = at_some rows 0 p.1 in
    let few = count_few rows in
    let most = sweep_few code.units in
    record {
      registers = p.2;
      begins = omega arith;
      units = omega arith;
      named = λ k d lt. (all.each k d lt).0;
      arguments = λ k d lt. (all.each k d lt).1;
    }

-- the graph of code that was read is a body
pub graph_body : (bs : List ℕ) (method flags : ℕ) (code : CodeContent) (body : BodyRows) → IsCodeIn bs code → graph_of bs method flags code ≡ Ok body → IsBody body.registers body.places
unfolding graph_by
graph_body bs method flags code body is h =
    let rows = sweep_of code.units in
    let p = graph_inv (nat_eq code.ins (argument_words bs (is_static flags) method)) (is_start (found_at rows 0)) code.registers
    (bad_target rows None code.handlers) (places_of bs code rows rows) (FallsOff 0) InsSize body h in
    subst (λ (n : ℕ). IsBody n body.places) (sym p.2) (are_body bs code rows body.places refl (units_in bs code is) (handlers_in_limit bs code is) p.3 p.4)
