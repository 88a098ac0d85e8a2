-- The try that covers a pc, found by a walk over the tries.
use Rattle.std.proofs.Common.{◌≡◌, ℕ, zero, suc, ◌+◌, ◌<◌, ◌≤◌, List, [], ◌∷◌, length, get_or, Bool, true, false, nat_le, nat_lt, ◌&&◌, inl, inr, Some, None, refl, subst, arith}
use Rattle.std.specs.List.{AllPairs}
use Rattle.std.proofs.lemmas.Bool.Decides.{nat_tests}
use Rattle.std.proofs.Math.Nat.{eq-or-lt_of_le}
use Rattle.std.proofs.lemmas.List.{get_or_default}
use Rattle.dex_code.specs.declared.code.TryRow.{TryRow}
use Rattle.method_graph.specs.Tries.{covers, try_at, IsPast}

-- none covers it
none_covers : (tries : List TryRow) (pc : ℕ) → ((t : ℕ) (d : TryRow) → t < length tries → covers pc (get_or tries t d) ≡ false) → try_at tries pc ≡ None
none_covers [] pc no_one = refl
none_covers (row ∷ tries) pc no_one =
    let here : covers pc row ≡ false = no_one 0 row (omega arith) in
    rw here (none_covers tries pc (λ t d h. no_one (suc t) d (omega arith)))

-- the first that covers it
first_covers : (tries : List TryRow) (at pc : ℕ) (d : TryRow) → at < length tries
    → ((t : ℕ) (e : TryRow) → t < at → covers pc (get_or tries t e) ≡ false) → covers pc (get_or tries at d) ≡ true
    → try_at tries pc ≡ Some (get_or tries at d)
first_covers [] at pc d h before here = absurd (omega arith)
first_covers (row ∷ tries) zero pc d h before here = rw here refl
first_covers (row ∷ tries) (suc at) pc d h before here =
    let not_here : covers pc row ≡ false = before 0 row (omega arith) in
    rw not_here (first_covers tries at pc d (omega arith) (λ t e lt. before (suc t) e (omega arith)) here)

both : (a b : Bool) → a ≡ true → b ≡ true → (a && b) ≡ true
both true b x y = y
both false b x y = absurd (cc)

low_fails : (a b : Bool) → a ≡ false → (a && b) ≡ false
low_fails true b x = absurd (cc)
low_fails false b x = refl

high_fails : (a b : Bool) → b ≡ false → (a && b) ≡ false
high_fails true b x = x
high_fails false b x = refl

is_covered : (pc : ℕ) (row : TryRow) → row.start ≤ pc → pc < row.start + row.count → covers pc row ≡ true
is_covered pc row low high =
    both (nat_le row.start pc) (nat_lt pc (row.start + row.count)) (grind (arith, nat_tests)) (grind (arith, nat_tests))

is_behind : (pc : ℕ) (row : TryRow) → row.start + row.count ≤ pc → covers pc row ≡ false
is_behind pc row h = high_fails (nat_le row.start pc) (nat_lt pc (row.start + row.count)) (grind (arith, nat_tests))

is_ahead : (pc : ℕ) (row : TryRow) → pc < row.start → covers pc row ≡ false
is_ahead pc row h = low_fails (nat_le row.start pc) (nat_lt pc (row.start + row.count)) (grind (arith, nat_tests))

-- the walk stands at a try that covers the pc
pub stands_in : (tries : List TryRow) (at pc : ℕ) (d : TryRow) → IsPast tries at pc → at < length tries
    → (get_or tries at d).start ≤ pc → pc < (get_or tries at d).start + (get_or tries at d).count → try_at tries pc ≡ Some (get_or tries at d)
stands_in tries at pc d past h low high =
    first_covers tries at pc d h (λ t e lt. is_behind pc (get_or tries t e) (past t e lt)) (is_covered pc (get_or tries at d) low high)

data Side (t at : ℕ) : Type 0 where
  left : t < at → Side t at
  right : at ≤ t → Side t at

side_by : (t at : ℕ) (test : Bool) → nat_lt t at ≡ test → Side t at
side_by t at true h = left (grind (arith, nat_tests))
side_by t at false h = right (grind (arith, nat_tests))

-- all from the walk's place on begin behind the pc
pub stands_before : (tries : List TryRow) (at pc : ℕ) → IsPast tries at pc
    → ((t : ℕ) (d : TryRow) → at ≤ t → t < length tries → pc < (get_or tries t d).start) → try_at tries pc ≡ None
stands_before tries at pc past ahead =
    none_covers tries pc (λ t d lt. elim (side_by t at (nat_lt t at) refl) [
      | left h ↦ is_behind pc (get_or tries t d) (past t d h)
      | right h ↦ is_ahead pc (get_or tries t d) (ahead t d h lt)
    ])

past_end : (tries : List TryRow) (at pc : ℕ) → length tries ≤ at
    → (t : ℕ) (d : TryRow) → at ≤ t → t < length tries → pc < (get_or tries t d).start
past_end tries at pc h t d le lt = absurd (omega arith)

-- where the try at the walk's place begins behind the pc, so do all later ones
later_begin : (tries : List TryRow) (at pc : ℕ) (e : TryRow) → AllPairs (λ a b. a.start + a.count ≤ b.start) tries → pc < (get_or tries at e).start
    → (t : ℕ) (d : TryRow) → at ≤ t → t < length tries → pc < (get_or tries t d).start
later_begin tries at pc e forward here t d le lt =
    elim (eq-or-lt_of_le le) [
      | inl same ↦
          let default = get_or_default tries t d e lt in
          rw default (subst (λ (n : ℕ). pc < (get_or tries n e).start) same here)
      | inr more ↦
          let default : get_or tries at d ≡ get_or tries at e = get_or_default tries at d e (omega arith) in
          let after : (get_or tries at d).start + (get_or tries at d).count ≤ (get_or tries t d).start = forward at t d more lt in
          let first : pc < (get_or tries at d).start = rw default here in
          omega arith
    ]

pub none_left : (tries : List TryRow) (at pc : ℕ) → IsPast tries at pc → length tries ≤ at → try_at tries pc ≡ None
none_left tries at pc past h = stands_before tries at pc past (past_end tries at pc h)

pub none_yet : (tries : List TryRow) (at pc : ℕ) (e : TryRow) → AllPairs (λ a b. a.start + a.count ≤ b.start) tries → IsPast tries at pc → pc < (get_or tries at e).start → try_at tries pc ≡ None
none_yet tries at pc e forward past here = stands_before tries at pc past (later_begin tries at pc e forward here)
