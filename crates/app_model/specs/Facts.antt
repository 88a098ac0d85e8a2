-- Facts for one lock field. Numbers count components, automaton states, methods and instructions; s is a status.
use Rattle.std.specs.Prelude.{ℕ}

pub data Fact : Type 0 where
  -- component c may be in state q at an idle moment while the field has status s
  View : (c q s : ℕ) → Fact
  -- method m, entered at status e, may stand before instruction i at status s
  At : (m e i s : ℕ) → Fact
  -- method m, entered at status e, may return at status s, or throw out of it
  Ret : (m e s : ℕ) → Fact
  Exc : (m e s : ℕ) → Fact
