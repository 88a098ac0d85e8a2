-- What the calls of a shelf, a sink and a watcher do, and what a count of faults tells of the cause of an answer.
use Rattle.std.specs.Prelude.{◌≡◌, ◌≤◌, ◌<◌, ◌+◌, ◌-◌, ◌^◌, min, ℕ, List, [], ◌∷◌, ◌++◌, length, take, drop, Option, Some, Result, Ok, Err, OnErr, IfOk}
use Rattle.ns_base.specs.declared.answers.Event.{Event}

-- a count of faults has risen between two moments, or stands at the end of its type
abbrev pub Rose : ℕ → ℕ → Type 0
Rose before now = min (before + 1) (2 ^ 64 - 1) ≤ now

-- a call answers an error only where the count rose, and the count never falls
pub record HasCause {T E : Type 0} (before now : ℕ) (result : Result T E) : Type 0 where
  pub later : before ≤ now
  pub failed : OnErr result (Rose before now)

-- a read of a file from a place filled the first n bytes of the buffer; `file` is None where it is not told
pub record IsRead (file : Option (List ℕ)) (at : ℕ) (buffer : List ℕ) (n : ℕ) : Type 0 where
  pub within : n ≤ length buffer
  pub bytes : (bs : List ℕ) → file ≡ Some bs → take n buffer ≡ take n (drop at bs)
  -- no byte is given only at the end
  pub at_end : (bs : List ℕ) → file ≡ Some bs → n ≡ 0 → 0 < length buffer → length bs ≤ at

-- how many bytes a write took
abbrev pub count_taken : {E : Type 0} → Result ℕ E → ℕ
count_taken (Ok n) = n
count_taken (Err e) = 0

-- a write took the first bytes of the piece; `before` is None where it is not told
pub record IsWritten {E : Type 0} (before now : Option (List ℕ)) (piece : List ℕ) (result : Result ℕ E) : Type 0 where
  pub within : count_taken result ≤ length piece
  pub bytes : (bs : List ℕ) → before ≡ Some bs → now ≡ Some (bs ++ take (count_taken result) piece)

-- a write fails, or takes nothing of something, only where the count rose
pub record HasWriteCause {E : Type 0} (before now : ℕ) (piece : List ℕ) (result : Result ℕ E) : Type 0 where
  pub later : before ≤ now
  pub failed : OnErr result (Rose before now)
  pub stuck : IfOk result (λ n. n ≡ 0 → 0 < length piece → Rose before now)

-- the list of a watcher after a call of tell: with the event where it was told, else as before
abbrev pub told_after : {E : Type 0} → List Event → Event → Result (Unit {0}) E → List Event
told_after told event (Ok done) = told ++ event ∷ []
told_after told event (Err e) = told
