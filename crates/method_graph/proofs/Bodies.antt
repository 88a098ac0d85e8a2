-- The places that are put are a body.
use Rattle.std.proofs.Common.{◌≡◌, ℕ, ℤ, zero, suc, ◌+◌, ◌<◌, ◌≤◌, List, [], ◌∷◌, ◌++◌, length, drop, get_or, Bool, true, false, not, ◌&&◌, cond, nat_eq, nat_le, nat_lt, Option, Some, None, Result, Ok, Err, refl, ap, sym, subst, arith, length-append, length-drop}
use Rattle.std.specs.List.{All, cons_option}
use Rattle.std.proofs.lemmas.Bool.Decides.{nat_tests}
use Rattle.std.proofs.lemmas.List.{length-take}
use Rattle.std.proofs.lemmas.List.FromFn.{length-map-range_with_len}
use Rattle.dalvik.specs.declared.ins.Ins.{Ins}
use Rattle.dalvik.specs.declared.ins.Ins.TheVariants as ins
use Rattle.dalvik.specs.declared.body.Place.{Place}
use Rattle.dalvik.specs.Body.{IsBody, IsSoundPlace, IsSuccessorCount}
use Rattle.dalvik.specs.Registers.{registers_of}
use Rattle.dalvik_decode.specs.declared.faults.CodeFault.{CodeFault}
use Rattle.dalvik_decode.specs.declared.payloads.Head.{Head}
use Rattle.dalvik_decode.specs.declared.payloads.Head.TheVariants as head
use Rattle.dalvik_decode.specs.Payloads.{content_at, whole_under, content_under, head_from, units_under, numbers_at}
use Rattle.dex_code.specs.Content.{CodeContent}
use Rattle.dex_code.specs.declared.code.Handler.{Handler}
use Rattle.dex_code.specs.declared.code.TryRow.{TryRow}
use Rattle.method_graph.specs.declared.sweep.Row.{Row}
use Rattle.method_graph.specs.declared.sweep.Piece.{Piece}
use Rattle.method_graph.specs.declared.sweep.Piece.TheVariants.{Whole, Payload, Broken}
use Rattle.method_graph.specs.declared.sweep.Found.{Found}
use Rattle.method_graph.specs.declared.sweep.Found.TheVariants as found
use Rattle.method_graph.specs.declared.flow.Flow.{Flow}
use Rattle.method_graph.specs.declared.flow.Flow.TheVariants.{Next, Pause, End, Jump, Branch, Select, Fill}
use Rattle.method_graph.specs.Exact.{◌>>=◌, behind}
use Rattle.method_graph.specs.Sweep.{stands, instructions_in, instruction_count, found_from, found_at, sweep_of}
use Rattle.method_graph.specs.Registers.{first_past}
use Rattle.dalvik.specs.Naming.{naming_of}
use Rattle.method_graph.specs.Operands.{past_table, has_its_args}
use Rattle.method_graph.specs.Flow.{flow_of, goes_on, is_start, is_payload, front_of, index_to, index_or, indices_at, put_first, target_of, offsets_in, offsets_of, has_payload, successors_at}
use Rattle.method_graph.specs.Tries.{index_if, indices_of, up_to_all, may_leave, catches_all, handlers_in, try_at, bad_target, lower}
use Rattle.method_graph.specs.Graph.{unless_some, place_with, place_at, put_place, put_piece, places_of}
use Rattle.method_graph.proofs.Rising.{Above, above_lower, above_pairs, row_pc, sweep_above, sweep_few}
use Rattle.method_graph.proofs.Caught.{each_in}

-- all numbers are below a bound
Below : ℕ → List ℕ → Type 0
Below n [] = Unit {0}
Below n (x ∷ xs) = (x < n) × Below n xs

below_append : (n : ℕ) (xs ys : List ℕ) → Below n xs → Below n ys → Below n (xs ++ ys)
unfolding Below
below_append n [] ys a b = b
below_append n (x ∷ xs) ys a b = (a.0, below_append n xs ys a.1 b)

below_all : (n : ℕ) (xs : List ℕ) → Below n xs → All (λ x. x < n) xs
unfolding Below
below_all n [] h k d lt = absurd (omega arith)
below_all n (x ∷ xs) h zero d lt = h.0
below_all n (x ∷ xs) h (suc k) d lt = below_all n xs h.1 k d (omega arith)

-- registers that are not past the end
named_by : (n r : ℕ) (test : Bool) (more : Option ℕ) → nat_le n r ≡ test → cond test (Some r) more ≡ None → (r < n) × (more ≡ None)
named_by n r true more is h = absurd (cc)
named_by n r false more is h = (grind (arith, nat_tests), h)

named_below : (n : ℕ) (rs : List ℕ) → first_past n rs ≡ None → Below n rs
unfolding Below
named_below n [] h = tt
named_below n (r ∷ rs) h = let p = named_by n r (nat_le n r) (first_past n rs) refl h in (p.0, named_below n rs p.1)

-- an instruction that is found is one of them
stands_below : (i : ℕ) (piece : Piece) (j : ℕ) → stands i piece ≡ found.Start j → j < i + instructions_in piece
stands_below i (Whole ins next) j h = let same : i ≡ j = cc in omega arith
stands_below i (Payload ident next) j h = absurd (cc)
stands_below i (Broken fault) j h = let same : i ≡ j = cc in omega arith

found_step : (test : Bool) (i : ℕ) (piece : Piece) (more : Found) (n j : ℕ) → cond test (stands i piece) more ≡ found.Start j
    → (more ≡ found.Start j → j < i + instructions_in piece + n) → j < i + (instructions_in piece + n)
found_step true i piece more n j h below = let lt = stands_below i piece j h in omega arith
found_step false i piece more n j h below = let lt = below h in omega arith

found_below : (i : ℕ) (rows : List Row) (pc j : ℕ) → found_from i rows pc ≡ found.Start j → j < i + instruction_count rows
found_below i [] pc j h = absurd (cc)
found_below i (row ∷ rows) pc j h =
    found_step (nat_eq row.pc pc) i row.piece (found_from (i + instructions_in row.piece) rows pc) (instruction_count rows) j h
    (found_below (i + instructions_in row.piece) rows pc j)

at_below : (rows : List Row) (pc j : ℕ) → found_at rows pc ≡ found.Start j → j < instruction_count rows
unfolding found_at
at_below rows pc j h = let lt = found_below 0 rows pc j h in omega arith

-- the indices of targets
put_inv : (one : Result ℕ CodeFault) (more : Result (List ℕ) CodeFault) (all : List ℕ) → put_first one more ≡ Ok all
    → (i : ℕ) × (rest : List ℕ) × (one ≡ Ok i) × (more ≡ Ok rest) × (all ≡ i ∷ rest)
put_inv (Ok i) (Ok rest) all h = let same : i ∷ rest ≡ all = cc in (i, rest, refl, refl, sym same)
put_inv (Ok i) (Err e) all h = absurd (cc)
put_inv (Err e) more all h = absurd (cc)

index_found : (f : Found) (fault : CodeFault) (i : ℕ) → index_or f fault ≡ Ok i → f ≡ found.Start i
index_found found.Nothing fault i h = absurd (cc)
index_found (found.Start j) fault i h = cc
index_found (found.Payload ident) fault i h = absurd (cc)

indices_len : (rows : List Row) (pc : ℕ) (offsets : List ℤ) (all : List ℕ) → indices_at rows pc offsets ≡ Ok all → length all ≡ length offsets
indices_len rows pc [] all h = let same : [] ≡ all = cc in rw (sym same) refl
indices_len rows pc (offset ∷ more) all h =
    let p = put_inv (index_to rows pc (target_of pc offset)) (indices_at rows pc more) all h in
    let rest = indices_len rows pc more p.1 p.3 in
    rw p.4 (omega arith)

indices_below : (rows : List Row) (pc : ℕ) (offsets : List ℤ) (all : List ℕ) → indices_at rows pc offsets ≡ Ok all → Below (instruction_count rows) all
unfolding Below
indices_below rows pc [] all h = let same : [] ≡ all = cc in rw (sym same) tt
indices_below rows pc (offset ∷ more) all h =
    let p = put_inv (index_to rows pc (target_of pc offset)) (indices_at rows pc more) all h in
    rw p.4 (at_below rows (target_of pc offset) p.0 (index_found _ _ p.0 p.2), indices_below rows pc more p.1 p.3)

below_none : (n : ℕ) → Below n []
unfolding Below
below_none n = tt

below_if : (test : Bool) (i n : ℕ) → i < n → Below n (cond test (i ∷ []) [])
unfolding Below
below_if true i n h = (h, tt)
below_if false i n h = tt

len_if : (test : Bool) (i : ℕ) → length (cond test (i ∷ []) []) ≤ 1
len_if true i = omega arith
len_if false i = omega arith

front_below : (flow : Flow) (f : Found) (n : ℕ) → ((i : ℕ) → f ≡ found.Start i → i < n) → Below n (front_of flow f)
front_below flow found.Nothing n h = below_none n
front_below flow (found.Start i) n h = below_if (goes_on flow (found.Start i)) i n (h i refl)
front_below flow (found.Payload ident) n h = below_none n

front_len : (flow : Flow) (f : Found) → length (front_of flow f) ≤ 1
front_len flow found.Nothing = omega arith
front_len flow (found.Start i) = len_if (goes_on flow (found.Start i)) i
front_len flow (found.Payload ident) = omega arith

-- how many successors an instruction has, by how control leaves it
CountFor : Flow → ℕ → Type 0
CountFor Next n = n ≡ 1
CountFor Pause n = n ≤ 1
CountFor End n = n ≡ 0
CountFor (Jump offset) n = n ≡ 1
CountFor (Branch offset) n = n ≡ 2
CountFor (Select ident offset) n = 1 ≤ n
CountFor (Fill offset) n = n ≡ 1

count_ins : (i : Ins) (n : ℕ) → CountFor (flow_of i) n → IsSuccessorCount i n
unfolding CountFor
count_ins ins.Nop n h = h
count_ins (ins.Move op to from) n h = h
count_ins (ins.MoveResult op to) n h = h
count_ins (ins.MoveException to) n h = h
count_ins ins.ReturnVoid n h = h
count_ins (ins.Return op from) n h = h
count_ins (ins.Const op to value) n h = h
count_ins (ins.ConstString op to string) n h = h
count_ins (ins.ConstClass to kind) n h = h
count_ins (ins.Monitor op object) n h = h
count_ins (ins.CheckCast object kind) n h = h
count_ins (ins.InstanceOf to object kind) n h = h
count_ins (ins.ArrayLength to array) n h = h
count_ins (ins.NewInstance to kind) n h = h
count_ins (ins.NewArray to size kind) n h = h
count_ins (ins.FilledNewArray op kind arguments) n h = h
count_ins (ins.FillArrayData array offset) n h = h
count_ins (ins.Throw object) n h = h
count_ins (ins.Goto op offset) n h = h
count_ins (ins.Switch op value offset) n h = h
count_ins (ins.Compare op to left right) n h = h
count_ins (ins.IfPair op left right offset) n h = h
count_ins (ins.IfZero op value offset) n h = h
count_ins (ins.ArrayGet op to array index) n h = h
count_ins (ins.ArrayPut op value array index) n h = h
count_ins (ins.FieldGet op to object field) n h = h
count_ins (ins.FieldPut op value object field) n h = h
count_ins (ins.StaticGet op to field) n h = h
count_ins (ins.StaticPut op value field) n h = h
count_ins (ins.Invoke op method arguments) n h = h
count_ins (ins.Unary op to from) n h = h
count_ins (ins.Binary op to left right) n h = h
count_ins (ins.BinaryLiteral op to from value) n h = h

count_flow : (flow : Flow) (f : Found) (units : List ℕ) (rows : List Row) (pc : ℕ) (indices : List ℕ)
    → length indices ≡ length (offsets_of units rows pc flow) → (goes_on flow f && not (is_start f)) ≡ false
    → CountFor flow (length (front_of flow f ++ indices))
unfolding CountFor
count_flow Next found.Nothing units rows pc indices len ok = absurd (cc)
count_flow Next (found.Start i) units rows pc indices len ok = omega arith
count_flow Next (found.Payload first) units rows pc indices len ok = absurd (cc)
count_flow Pause found.Nothing units rows pc indices len ok = absurd (cc)
count_flow Pause (found.Start i) units rows pc indices len ok = omega arith
count_flow Pause (found.Payload first) units rows pc indices len ok = omega arith
count_flow End found.Nothing units rows pc indices len ok = omega arith
count_flow End (found.Start i) units rows pc indices len ok = omega arith
count_flow End (found.Payload first) units rows pc indices len ok = omega arith
count_flow (Jump offset) found.Nothing units rows pc indices len ok = omega arith
count_flow (Jump offset) (found.Start i) units rows pc indices len ok = omega arith
count_flow (Jump offset) (found.Payload first) units rows pc indices len ok = omega arith
count_flow (Branch offset) found.Nothing units rows pc indices len ok = absurd (cc)
count_flow (Branch offset) (found.Start i) units rows pc indices len ok = omega arith
count_flow (Branch offset) (found.Payload first) units rows pc indices len ok = absurd (cc)
count_flow (Select ident offset) found.Nothing units rows pc indices len ok = absurd (cc)
count_flow (Select ident offset) (found.Start i) units rows pc indices len ok = omega arith
count_flow (Select ident offset) (found.Payload first) units rows pc indices len ok = absurd (cc)
count_flow (Fill offset) found.Nothing units rows pc indices len ok = absurd (cc)
count_flow (Fill offset) (found.Start i) units rows pc indices len ok = omega arith
count_flow (Fill offset) (found.Payload first) units rows pc indices len ok = absurd (cc)

-- a switch has no more targets than the method has units
offsets_head : (h : Head) (code : List ℕ) → units_under h ≤ length code → length (offsets_in (Some (content_under h code))) ≤ length code
unfolding numbers_at
offsets_head (head.Packed size) code h = simp length-map-range_with_len (omega arith)
offsets_head (head.Sparse size) code h = simp length-map-range_with_len (omega arith)
offsets_head (head.Array width count) code h = omega arith

offsets_if : (test : Bool) (h : Head) (code : List ℕ) → nat_lt (length code) (units_under h) ≡ test → length (offsets_in (cond test None (Some (content_under h code)))) ≤ length code
offsets_if true h code is = omega arith
offsets_if false h code is = offsets_head h code (grind (arith, nat_tests))

offsets_under : (h : Option Head) (code : List ℕ) → length (offsets_in (whole_under h code)) ≤ length code
offsets_under None code = omega arith
offsets_under (Some h) code = offsets_if (nat_lt (length code) (units_under h)) h code refl

offsets_at : (units : List ℕ) (q : ℕ) → length (offsets_in (content_at units q)) ≤ length units
unfolding content_at
offsets_at units q =
    let few = offsets_under (head_from (drop q units)) (drop q units) in
    let left = length-drop q units in
    omega arith

select_few : (test : Bool) (offsets : List ℤ) (n : ℕ) → length offsets ≤ n → length (cond test offsets []) ≤ 1 + n
select_few true offsets n h = omega arith
select_few false offsets n h = omega arith

offsets_few : (units : List ℕ) (rows : List Row) (pc : ℕ) (flow : Flow) → length (offsets_of units rows pc flow) ≤ 1 + length units
offsets_few units rows pc Next = omega arith
offsets_few units rows pc Pause = omega arith
offsets_few units rows pc End = omega arith
offsets_few units rows pc (Jump offset) = omega arith
offsets_few units rows pc (Branch offset) = omega arith
offsets_few units rows pc (Select ident offset) =
    select_few (is_payload ident (found_at rows (target_of pc offset))) (offsets_in (content_at units (target_of pc offset))) (length units) (offsets_at units (target_of pc offset))
offsets_few units rows pc (Fill offset) = omega arith

-- what is known of the successors of an instruction
record AreSuccessors (units : List ℕ) (rows : List Row) (i : Ins) (all : List ℕ) : Type 0 where
  below : Below (instruction_count rows) all
  few : length all ≤ 2 + length units
  count : IsSuccessorCount i (length all)

successors_inv : (front : List ℕ) (indices : Result (List ℕ) CodeFault) (falls there : Bool) (fall kind : CodeFault) (all : List ℕ)
    → (behind front indices >>= (λ all. cond falls (Err fall) (cond there (Ok all) (Err kind)))) ≡ Ok all
    → (found : List ℕ) × (indices ≡ Ok found) × (all ≡ front ++ found) × (falls ≡ false)
successors_inv front (Ok found) true there fall kind all h = absurd (cc)
successors_inv front (Ok found) false true fall kind all h = let same : front ++ found ≡ all = cc in (found, refl, sym same, refl)
successors_inv front (Ok found) false false fall kind all h = absurd (cc)
successors_inv front (Err e) falls there fall kind all h = absurd (cc)

successors_are : (units : List ℕ) (rows : List Row) (pc next : ℕ) (i : Ins) (all : List ℕ) → successors_at units rows pc next i ≡ Ok all → AreSuccessors units rows i all
unfolding successors_at
successors_are units rows pc next i all h =
    let p = successors_inv (front_of (flow_of i) (found_at rows next)) (indices_at rows pc (offsets_of units rows pc (flow_of i)))
    (goes_on (flow_of i) (found_at rows next) && not (is_start (found_at rows next))) (has_payload rows pc (flow_of i)) _ _ all h in
    let len = indices_len rows pc (offsets_of units rows pc (flow_of i)) p.0 p.1 in
    let few = offsets_few units rows pc (flow_of i) in
    let one = front_len (flow_of i) (found_at rows next) in
    rw p.2 (record {
      below = below_append (instruction_count rows) (front_of (flow_of i) (found_at rows next)) p.0
          (front_below (flow_of i) (found_at rows next) (instruction_count rows) (at_below rows next))
          (indices_below rows pc (offsets_of units rows pc (flow_of i)) p.0 p.1);
      few = rw length-append (omega arith);
      count = count_ins i _ (count_flow (flow_of i) (found_at rows next) units rows pc p.0 len p.3);
    })

-- the handlers of an instruction
handler_below : (n : ℕ) (f : Found) (rest : List ℕ) → ((i : ℕ) → f ≡ found.Start i → i < n) → Below n rest → Below n (cons_option (index_if f) rest)
unfolding Below
handler_below n found.Nothing rest here below = below
handler_below n (found.Start i) rest here below = (here i refl, below)
handler_below n (found.Payload ident) rest here below = below

handlers_below : (rows : List Row) (handlers : List Handler) → Below (instruction_count rows) (indices_of rows handlers)
handlers_below rows [] = below_none (instruction_count rows)
handlers_below rows (handler ∷ more) = handler_below (instruction_count rows) (found_at rows handler.target) (indices_of rows more) (at_below rows handler.target) (handlers_below rows more)

option_few : (f : Found) (rest : List ℕ) (n : ℕ) → length rest ≤ n → length (cons_option (index_if f) rest) ≤ suc n
option_few found.Nothing rest n h = omega arith
option_few (found.Start i) rest n h = omega arith
option_few (found.Payload ident) rest n h = omega arith

indices_few : (rows : List Row) (handlers : List Handler) → length (indices_of rows handlers) ≤ length handlers
indices_few rows [] = omega arith
indices_few rows (handler ∷ more) = let one = option_few (found_at rows handler.target) (indices_of rows more) (length more) (indices_few rows more) in omega arith

up_if : (test : Bool) (handler : Handler) (rest : List Handler) (n : ℕ) → length rest ≤ n → length (handler ∷ cond test [] rest) ≤ suc n
up_if true handler rest n h = omega arith
up_if false handler rest n h = omega arith

up_few : (bs : List ℕ) (handlers : List Handler) → length (up_to_all bs handlers) ≤ length handlers
up_few bs [] = omega arith
up_few bs (handler ∷ more) = up_if (catches_all bs handler) handler (up_to_all bs more) (length more) (up_few bs more)

in_few : (handlers : List Handler) (row : Option TryRow) → length (handlers_in handlers row) ≤ length handlers
in_few handlers None = omega arith
in_few handlers (Some row) =
    let left = length-drop row.handlers.at handlers in
    let len = length-take row.handlers.len (drop row.handlers.at handlers) in
    omega arith

-- where every handler's target is found, an instruction with no handler may be left
lower_if : (test : Bool) (pc low : ℕ) → (n : ℕ) × (cond test (Some pc) (Some low) ≡ Some n)
lower_if true pc low = (pc, refl)
lower_if false pc low = (low, refl)

lower_some : (low : Option ℕ) (pc : ℕ) → (n : ℕ) × (lower low pc ≡ Some n)
lower_some None pc = (pc, refl)
lower_some (Some low) pc = lower_if (nat_lt pc low) pc low

bad_if : (rows : List Row) (test : Bool) (pc target : ℕ) (more : List Handler) → bad_target rows (cond test (Some pc) (lower (Some pc) target)) more ≡ None
    → ((n : ℕ) → bad_target rows (Some n) more ≡ None → ⊥) → ⊥
bad_if rows true pc target more h none = none pc h
bad_if rows false pc target more h none = let p = lower_some (Some pc) target in none p.0 (rw p.1 at h)

bad_some : (rows : List Row) (handlers : List Handler) (pc : ℕ) → bad_target rows (Some pc) handlers ≡ None → ⊥
bad_some rows [] pc h = cc
bad_some rows (handler ∷ more) pc h = bad_if rows (is_start (found_at rows handler.target)) pc handler.target more h (bad_some rows more)

bad_first : (rows : List Row) (test : Bool) (target : ℕ) (more : List Handler) → bad_target rows (cond test None (lower None target)) more ≡ None
    → (test ≡ true) × (bad_target rows None more ≡ None)
bad_first rows true target more h = (refl, h)
bad_first rows false target more h = absurd (bad_some rows more target h)

bad_none : (rows : List Row) (handlers : List Handler) → bad_target rows None handlers ≡ None → (k : ℕ) (d : Handler) → k < length handlers → is_start (found_at rows (get_or handlers k d).target) ≡ true
bad_none rows [] h k d lt = absurd (omega arith)
bad_none rows (handler ∷ more) h zero d lt = (bad_first rows (is_start (found_at rows handler.target)) handler.target more h).0
bad_none rows (handler ∷ more) h (suc k) d lt = bad_none rows more (bad_first rows (is_start (found_at rows handler.target)) handler.target more h).1 k d (omega arith)

starts_some : (f : Found) (rest : List ℕ) → is_start f ≡ true → cons_option (index_if f) rest ≡ [] → ⊥
starts_some found.Nothing rest is h = cc
starts_some (found.Start i) rest is h = cc
starts_some (found.Payload ident) rest is h = cc

leaves_by : (bs : List ℕ) (rows : List Row) (handlers : List Handler) → ((k : ℕ) (d : Handler) → k < length handlers → is_start (found_at rows (get_or handlers k d).target) ≡ true)
    → indices_of rows (up_to_all bs handlers) ≡ [] → may_leave bs handlers ≡ true
leaves_by bs rows [] starts h = refl
leaves_by bs rows (handler ∷ more) starts h = absurd (starts_some (found_at rows handler.target) _ (starts 0 handler (omega arith)) h)

-- what is known of a place
record IsMade (bs : List ℕ) (code : CodeContent) (rows : List Row) (pc : ℕ) (i : Ins) (place : Place) (all : List ℕ) : Type 0 where
  named : first_past code.registers (registers_of i) ≡ None
  successors : AreSuccessors code.units rows i all
  is : place ≡ place_with bs rows (handlers_in code.handlers (try_at code.tries pc)) pc i all

place_inv : (register index : Option ℕ) (fits : Bool) (successors : Result (List ℕ) CodeFault) (f g : ℕ → CodeFault) (args : CodeFault) (make : List ℕ → Place) (place : Place)
    → unless_some register f (unless_some index g (cond fits (successors >>= (λ all. Ok (make all))) (Err args))) ≡ Ok place
    → (all : List ℕ) × (register ≡ None) × (successors ≡ Ok all) × (place ≡ make all)
place_inv (Some r) index fits successors f g args make place h = absurd (cc)
place_inv None (Some i) fits successors f g args make place h = absurd (cc)
place_inv None None false successors f g args make place h = absurd (cc)
place_inv None None true (Err e) f g args make place h = absurd (cc)
place_inv None None true (Ok all) f g args make place h = let same : make all ≡ place = cc in (all, refl, refl, sym same)

place_made : (bs : List ℕ) (code : CodeContent) (rows : List Row) (pc next : ℕ) (i : Ins) (place : Place) → place_at bs code rows pc next i ≡ Ok place
    → (all : List ℕ) × IsMade bs code rows pc i place all
unfolding place_at
place_made bs code rows pc next i place h =
    let p = place_inv (first_past code.registers (registers_of i)) (past_table bs (naming_of i)) (has_its_args bs i) (successors_at code.units rows pc next i) _ _ _
    (λ all. place_with bs rows (handlers_in code.handlers (try_at code.tries pc)) pc i all) place h in
    (p.0, record { named = p.1; successors = successors_are code.units rows pc next i p.0 p.2; is = p.3 })

-- the handlers' targets, and how much code there is
record IsSmall (code : CodeContent) (rows : List Row) : Type 0 where
  units : length code.units ≤ 4194304
  handlers : length code.handlers ≤ 4194304
  targets : bad_target rows None code.handlers ≡ None

place_sound : (bs : List ℕ) (code : CodeContent) (rows : List Row) (pc next : ℕ) (i : Ins) (place : Place) → IsSmall code rows → place_at bs code rows pc next i ≡ Ok place
    → (place.pc ≡ pc) × IsSoundPlace code.registers (instruction_count rows) place
place_sound bs code rows pc next i place small h =
    let p = place_made bs code rows pc next i place h in
    let hs = handlers_in code.handlers (try_at code.tries pc) in
    let few = p.1.successors.few in
    let units = small.units in
    let limit = small.handlers in
    let in_ = in_few code.handlers (try_at code.tries pc) in
    let up = up_few bs (handlers_in code.handlers (try_at code.tries pc)) in
    let put = indices_few rows (up_to_all bs (handlers_in code.handlers (try_at code.tries pc))) in
    rw p.1.is (
      refl,
      record {
        named = below_all code.registers (registers_of i) (named_below code.registers (registers_of i) p.1.named);
        successors = below_all (instruction_count rows) p.0 p.1.successors.below;
        handlers = below_all (instruction_count rows) _ (handlers_below rows (up_to_all bs (handlers_in code.handlers (try_at code.tries pc))));
        successor_count = p.1.successors.count;
        successor_limit = omega arith;
        handler_limit = omega arith;
        leaves = leaves_by bs rows (handlers_in code.handlers (try_at code.tries pc))
            (each_in (λ handler. is_start (found_at rows handler.target) ≡ true) code.handlers (try_at code.tries pc) (bad_none rows code.handlers small.targets));
      },
    )

-- all places, by the rows that they come from
record AreMade (registers count : ℕ) (pc n : ℕ) (places : List Place) : Type 0 where
  len : length places ≡ n
  rising : Above (λ place. place.pc) pc places
  each : All (λ place. IsSoundPlace registers count place) places

all_cons : (P : Place → Type 0) (x : Place) (xs : List Place) → P x → All P xs → All P (x ∷ xs)
all_cons P x xs here more zero d lt = here
all_cons P x xs here more (suc k) d lt = more k d (omega arith)

none_made : (registers count pc : ℕ) → AreMade registers count pc 0 []
none_made registers count pc = record { len = refl; rising = tt; each = λ k d lt. absurd (omega arith) }

place_first : (registers count pc : ℕ) (n at : ℕ) (place : Place) (places : List Place) → pc ≤ at → place.pc ≡ at → IsSoundPlace registers count place
    → AreMade registers count (at + 1) n places → AreMade registers count pc (1 + n) (place ∷ places)
place_first registers count pc n at place places le same sound more = record {
  len = let len = more.len in omega arith;
  rising = (omega arith, rw same more.rising);
  each = all_cons (λ place. IsSoundPlace registers count place) place places sound more.each;
}

made_lower : (registers count a b n : ℕ) (places : List Place) → a ≤ b → AreMade registers count b n places → AreMade registers count a n places
made_lower registers count a b n places le made = record { len = made.len; rising = above_lower (λ (place : Place). place.pc) a b places le made.rising; each = made.each }

put_place_inv : (one : Result Place CodeFault) (more : Result (List Place) CodeFault) (all : List Place) → put_place one more ≡ Ok all
    → (place : Place) × (rest : List Place) × (one ≡ Ok place) × (more ≡ Ok rest) × (all ≡ place ∷ rest)
put_place_inv (Ok place) (Ok rest) all h = let same : place ∷ rest ≡ all = cc in (place, rest, refl, refl, sym same)
put_place_inv (Ok place) (Err e) all h = absurd (cc)
put_place_inv (Err e) more all h = absurd (cc)

piece_made : (bs : List ℕ) (code : CodeContent) (rows : List Row) (low pc n : ℕ) (piece : Piece) (more : Result (List Place) CodeFault) (all : List Place)
    → IsSmall code rows → low ≤ pc → put_piece bs code rows pc piece more ≡ Ok all
    → ((rest : List Place) → more ≡ Ok rest → AreMade code.registers (instruction_count rows) (pc + 1) n rest)
    → AreMade code.registers (instruction_count rows) low (instructions_in piece + n) all
piece_made bs code rows low pc n (Whole i next) more all small le h rest =
    let p = put_place_inv (place_at bs code rows pc next i) more all h in
    let sound = place_sound bs code rows pc next i p.0 small p.2 in
    rw p.4 (place_first code.registers (instruction_count rows) low n pc p.0 p.1 le sound.0 sound.1 (rest p.1 p.3))
piece_made bs code rows low pc n (Payload ident next) more all small le h rest =
    let none : 0 + n ≡ n = omega arith in
    rw none (made_lower code.registers (instruction_count rows) low (pc + 1) n all (omega arith) (rest all h))
piece_made bs code rows low pc n (Broken fault) more all small le h rest = absurd (cc)

rows_made : (bs : List ℕ) (code : CodeContent) (rows : List Row) (low : ℕ) (some : List Row) (all : List Place) → IsSmall code rows → Above row_pc low some
    → places_of bs code rows some ≡ Ok all → AreMade code.registers (instruction_count rows) low (instruction_count some) all
rows_made bs code rows low [] all small above h = let same : [] ≡ all = cc in rw (sym same) (none_made code.registers (instruction_count rows) low)
rows_made bs code rows low (row ∷ more) all small above h =
    piece_made bs code rows low row.pc (instruction_count more) row.piece (places_of bs code rows more) all small above.0 h
    (λ rest is. rows_made bs code rows (row.pc + 1) more rest small above.1 is)

piece_one : (piece : Piece) → instructions_in piece ≤ 1
piece_one (Whole ins next) = omega arith
piece_one (Payload ident next) = omega arith
piece_one (Broken fault) = omega arith

pub count_few : (rows : List Row) → instruction_count rows ≤ length rows
count_few [] = omega arith
count_few (row ∷ rows) = let more = count_few rows in let one = piece_one row.piece in omega arith

-- the places of a sweep are a body
pub are_body : (bs : List ℕ) (code : CodeContent) (rows : List Row) (places : List Place) → rows ≡ sweep_of code.units → length code.units ≤ 4194304 → length code.handlers ≤ 4194304
    → bad_target rows None code.handlers ≡ None → places_of bs code rows rows ≡ Ok places → IsBody code.registers places
are_body bs code rows places is units handlers targets h =
    let small : IsSmall code rows = record { units = units; handlers = handlers; targets = targets } in
    let above : Above row_pc 0 rows = rw is (sweep_above code.units) in
    let made = rows_made bs code rows 0 rows places small above h in
    let few = sweep_few code.units in
    let all = ap (λ (r : List Row). length r) is in
    let count = count_few rows in
    let len = made.len in
    record {
      limit = omega arith;
      rising = above_pairs (λ (place : Place). place.pc) 0 places made.rising;
      each = subst (λ (n : ℕ). All (λ place. IsSoundPlace code.registers n place) places) (sym len) made.each;
    }
