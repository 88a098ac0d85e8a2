-- Registers that a method does not have.
use Rattle.std.specs.Prelude.{ℕ, List, Option, nat_le}
use Rattle.std.specs.List.{find}

-- the first of the registers that is past the end of so many
abbrev pub first_past : ℕ → List ℕ → Option ℕ
first_past count registers = find (λ r. nat_le count r) registers
