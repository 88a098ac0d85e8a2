-- What telling leaves of a watcher, and how many watchers of a list were told less than all.
use Rattle.std.specs.Prelude.{◌≡◌, ◌≤◌, ◌<◌, ◌+◌, ◌-◌, ◌^◌, ◌++◌, ◌==◌, ◌&&◌, ℕ, zero, suc, Bool, true, false, nat_lt, min, List, length, take, Option, None, Some, Result, OnOk, OnErr, IsErrOf}
use Rattle.std.specs.List.{list_any, slice_get}
use Rattle.ns_base.specs.declared.answers.Event.{Event}
use Rattle.ns_base.specs.declared.outside.Untold.{Untold}
use Rattle.ns_base.specs.declared.outside.Untold.TheVariants.{Failed}
use Rattle.ns_base.specs.Outside.{Rose}

-- what is seen of a watcher
pub record Seen : Type 0 where
  pub kind : ℕ
  pub told : List Event
  pub faults : ℕ

-- its kind, the events it was told and its count of faults, as the members of the trait tell them
abbrev pub seen : ℕ → List Event → ℕ → Seen
seen kind told faults = record { kind = kind; told = told; faults = faults }

-- it was told all the events, in order, and nothing more
abbrev pub ToldAll : List Event → Seen → Seen → Type 0
ToldAll all before now = now.told ≡ before.told ++ all

-- it was told a front of the events, in order, and nothing more
abbrev pub ToldFront : List Event → Seen → Seen → Type 0
ToldFront all before now = (n : ℕ) × (n ≤ length all) × (now.told ≡ before.told ++ take n all)

-- it was told a front of the events that is not all of them, in order, and nothing more
abbrev pub ToldPart : List Event → Seen → Seen → Type 0
ToldPart all before now = (n : ℕ) × (n < length all) × (now.told ≡ before.told ++ take n all)

-- events were told to one watcher, with this answer
pub record IsTelling (all : List Event) (before now : Seen) (result : Result (Unit {0}) Untold) : Type 0 where
  pub sort : now.kind ≡ before.kind
  pub later : before.faults ≤ now.faults
  pub whole : OnOk result (ToldAll all before now)
  pub part : OnErr result (ToldPart all before now)
  pub cause : IsErrOf result Failed → Rose before.faults now.faults

-- the kind is among these
abbrev pub is_chosen : List ℕ → ℕ → Bool
is_chosen kinds kind = list_any (λ k. k == kind) kinds

-- it was told less than all the events
abbrev pub is_short : List Event → Seen → Seen → Bool
is_short all before now = nat_lt (length now.told) (length before.told + length all)

-- its count of faults did not rise
abbrev pub is_faultless : Seen → Seen → Bool
is_faultless before now = nat_lt now.faults (min (before.faults + 1) (2 ^ 64 - 1))

-- what telling those of some kinds leaves of a watcher
pub record IsTold (kinds : List ℕ) (all : List Event) (before now : Seen) : Type 0 where
  pub sort : now.kind ≡ before.kind
  pub later : before.faults ≤ now.faults
  pub front : ToldFront all before now
  pub whole : is_chosen kinds before.kind ≡ true → is_short all before now ≡ false → ToldAll all before now

-- it is of these kinds, and was told less than all the events
abbrev pub misses : List ℕ → List Event → Seen → Seen → Bool
misses kinds all before now = is_chosen kinds before.kind && is_short all before now

-- the same, and its count of faults did not rise
abbrev pub misses_faultless : List ℕ → List Event → Seen → Seen → Bool
misses_faultless kinds all before now = misses kinds all before now && is_faultless before now

-- one where the test holds, else none
abbrev pub one_if : Bool → ℕ
one_if false = 0
one_if true = 1

-- at how many of the places below n the test holds
abbrev pub count_below : (ℕ → Bool) → ℕ → ℕ
count_below test zero = 0
count_below test (suc n) = count_below test n + one_if (test n)

-- a test of what two lists have at one place, false where one has nothing there
abbrev pub test_at : (Seen → Seen → Bool) → Option Seen → Option Seen → Bool
test_at test None y = false
test_at test (Some x) None = false
test_at test (Some x) (Some y) = test x y

-- of how many watchers of a list, seen before and now, the test holds
abbrev pub number_of : (Seen → Seen → Bool) → List Seen → List Seen → ℕ
number_of test before now = count_below (λ i. test_at test (slice_get before i) (slice_get now i)) (length before)
