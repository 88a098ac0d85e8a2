-- One block of items cut into lists, which stand one after another in it.
use Rattle.std.specs.Prelude.{ℕ, zero, suc, ◌-◌, ◌≡◌, ◌≤◌, List, [], ◌∷◌, take, drop}

-- the lists that end at these places of a block; `items` is the rest of the block from place `start` on, where the
-- first of them begins
abbrev pub cut : {T : Type 0} → ℕ → List T → List ℕ → List (List T)
cut start items [] = []
cut start items (end ∷ ends) = take (end - start) items ∷ cut end (drop (end - start) items) ends

-- places that never fall, from `start` on, the last of them exactly `len`
abbrev pub AreEnds : ℕ → List ℕ → ℕ → Type 0
AreEnds start [] len = start ≡ len
AreEnds start (end ∷ ends) len = (start ≤ end) × AreEnds end ends len

-- where the list of a number begins: at `start`, or where the list before it ends
abbrev pub start_at : ℕ → List ℕ → ℕ → ℕ
start_at start ends zero = start
start_at start [] (suc n) = start
start_at start (end ∷ ends) (suc n) = start_at end ends n
