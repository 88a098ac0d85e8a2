-- The tries of a code item that was read.
use Rattle.std.proofs.Common.{◌≡◌, ℕ, zero, suc, ◌+◌, ◌-◌, ◌*◌, ◌<◌, ◌≤◌, inl, inr, List, length, get_or, Bool, true, false, nat_lt, cond, Some, None, refl, ap, sym, ◌∙◌, subst, arith}
use Rattle.std.proofs.lemmas.Bool.Decides.{nat_tests}
use Rattle.std.proofs.Math.Nat.{eq-or-lt_of_le}
use Rattle.dex_tables.specs.Sound.{sum_below}
use Rattle.dex_tables.specs.Rows.{type_count}
use Rattle.dex_bytes.specs.Places.{number_at}
use Rattle.dex_code.specs.CodeItem.{code_tries, try_start, try_count}
use Rattle.dex_code.specs.HandlerPart.{handler_count, handler_of, try_list, typed_count, list_body, IsSoundHandler}
use Rattle.dex_code.specs.Content.{CodeContent, IsCodeOf, IsSoundTry}
use Rattle.dex_code.specs.declared.code.Handler.{Handler}
use Rattle.method_graph.specs.Graph.{IsCodeIn}
use Rattle.method_graph.specs.Tries.{AreTries, IsCaught}

le_pred : (i j : ℕ) → i < suc j → i ≤ j
le_pred i j h = omega arith

-- a try ends before any later one begins
ends_before : (bs : List ℕ) (p n : ℕ) → ((t : ℕ) → t < n → IsSoundTry bs p t) → (j : ℕ) → j < n → (i : ℕ) → i < j → try_start bs p i + try_count bs p i ≤ try_start bs p j
ends_before bs p n sound zero lt i h = absurd (omega arith)
ends_before bs p n sound (suc j) lt i h =
    let behind : try_start bs p j + try_count bs p j ≤ try_start bs p (suc j) = (sound (suc j) lt).behind in
    elim (eq-or-lt_of_le (le_pred i j h)) [
      | inl same ↦ subst (λ (m : ℕ). try_start bs p m + try_count bs p m ≤ try_start bs p (suc j)) (sym same) behind
      | inr less ↦ let first = ends_before bs p n sound j (omega arith) i less in omega arith
    ]

sum_up : (f : ℕ → ℕ) (a b : ℕ) → a ≤ b → sum_below f a ≤ sum_below f b
sum_up f a zero h = let none : a ≡ 0 = omega arith in rw none (omega arith)
sum_up f a (suc b) h = elim (eq-or-lt_of_le h) [
  | inl same ↦ rw same (omega arith)
  | inr less ↦ let more = sum_up f a b (le_pred a b less) in omega arith
]

-- a place in a list of parts: the part, and the place in it
record Part (f : ℕ → ℕ) (n k : ℕ) : Type 0 where
  t : ℕ
  j : ℕ
  part : t < n
  within : j < f t
  place : sum_below f t + j ≡ k

more_parts : (f : ℕ → ℕ) (n k : ℕ) → Part f n k → Part f (suc n) k
more_parts f n k p = let lt = p.part in record { t = p.t; j = p.j; part = omega arith; within = p.within; place = p.place }

part_by : (f : ℕ → ℕ) (n k : ℕ) (test : Bool) → nat_lt k (sum_below f n) ≡ test → k < sum_below f (suc n) → (k < sum_below f n → Part f n k) → Part f (suc n) k
part_by f n k true is h below = more_parts f n k (below (grind (arith, nat_tests)))
part_by f n k false is h below =
    let low : sum_below f n ≤ k = grind (arith, nat_tests) in
    record { t = n; j = k - sum_below f n; part = omega arith; within = omega arith; place = omega arith }

part_of : (f : ℕ → ℕ) (n k : ℕ) → k < sum_below f n → Part f n k
part_of f zero k h = absurd (omega arith)
part_of f (suc n) k h = part_by f n k (nat_lt k (sum_below f n)) refl h (part_of f n k)

caught_by : (bs : List ℕ) (k typed number : ℕ) (test : Bool) → nat_lt k typed ≡ test → (k < typed → number < type_count bs) → IsCaught bs (cond test (Some number) None)
caught_by bs k typed number true is h = h (grind (arith, nat_tests))
caught_by bs k typed number false is h = tt

caught_of : (bs : List ℕ) (p q k : ℕ) → IsSoundHandler bs p q k → IsCaught bs (handler_of bs q k).caught
caught_of bs p q k sound = caught_by bs k (typed_count bs q) (number_at bs (list_body bs q) (2 * k)) (nat_lt k (typed_count bs q)) refl sound.caught

counts : List ℕ → ℕ → ℕ → ℕ
counts bs p u = handler_count bs (try_list bs p u)

each_caught : (bs : List ℕ) (p : ℕ) (code : CodeContent) → IsCodeOf bs p code → (k : ℕ) (d : Handler) → k < length code.handlers → IsCaught bs (get_or code.handlers k d).caught
unfolding counts
each_caught bs p code is k d h =
    let all = is.handlers.count in
    let part : Part (counts bs p) (code_tries bs p) k = part_of (counts bs p) (code_tries bs p) k (rw all at h) in
    let same : get_or code.handlers k d ≡ handler_of bs (try_list bs p part.t) part.j =
    ap (λ (n : ℕ). get_or code.handlers n d) (sym part.place) ∙ is.handlers.each part.t part.j d part.part part.within in
    rw same (caught_of bs p (try_list bs p part.t) part.j ((is.sound part.t part.part).handlers part.j part.within))

pub code_tries_are : (bs : List ℕ) (p : ℕ) (code : CodeContent) → IsCodeOf bs p code → AreTries bs code.tries code.handlers
unfolding counts
code_tries_are bs p code is = record {
  forward = λ i j d lt le.
      let n = is.tries.count in
      let jn : j < code_tries bs p = omega arith in
      let in_ : i < code_tries bs p = omega arith in
      rw (is.tries.each i d in_, is.tries.each j d jn) (ends_before bs p (code_tries bs p) is.sound j jn i lt);
  range = λ t d lt.
      let n = is.tries.count in
      let tn : t < code_tries bs p = omega arith in
      let within = (is.sound t tn).within in
      let limit = is.unit_limit in
      rw (is.tries.each t d tn) (omega arith);
  within = λ t d lt.
      let n = is.tries.count in
      let tn : t < code_tries bs p = omega arith in
      let all = is.handlers.count in
      let up = sum_up (counts bs p) (suc t) (code_tries bs p) (omega arith) in
      rw (is.tries.each t d tn) (omega arith);
  caught = each_caught bs p code is;
}

pub code_units_few : (bs : List ℕ) (p : ℕ) (code : CodeContent) → IsCodeOf bs p code → length code.units ≤ 4194304
code_units_few bs p code is = let n = is.units.count in let limit = is.unit_limit in omega arith

pub tries_in : (bs : List ℕ) (code : CodeContent) → IsCodeIn bs code → AreTries bs code.tries code.handlers
tries_in bs code is = code_tries_are bs is.0 code is.1

pub units_in : (bs : List ℕ) (code : CodeContent) → IsCodeIn bs code → length code.units ≤ 4194304
units_in bs code is = code_units_few bs is.0 code is.1

pub handlers_in_limit : (bs : List ℕ) (code : CodeContent) → IsCodeIn bs code → length code.handlers ≤ 4194304
handlers_in_limit bs code is = is.1.handler_limit
