-- What the facts of the set, and the flow rules, say of a method that was entered at a status, and of an instruction of it.
use Rattle.std.specs.Prelude.{ℕ, Bool}
use Rattle.app_model.specs.Facts.{At, Ret, Exc}
use Rattle.flow_model.specs.Subject.{Masks, status_masks, own_operation, is_open}
use Rattle.cert_facts.specs.Cases.{Entry, Spot, set_of}

-- the statuses before an instruction of a method that was entered at a status, and where that ends
abbrev pub before : Entry → (i : ℕ) → ℕ → Bool
before t i s = set_of t.case (At t.method t.status i s)

abbrev pub returned : Entry → ℕ → Bool
returned t s = set_of t.case (Ret t.method t.status s)

abbrev pub thrown : Entry → ℕ → Bool
thrown t s = set_of t.case (Exc t.method t.status s)

abbrev pub masks_of : Spot → Masks
masks_of t = status_masks t.entry.case.subject t.entry.case.lock

abbrev pub is_own : Spot → Bool
is_own t = own_operation t.entry.case.subject t.entry.case.lock t.entry.method t.index

abbrev pub opens : Spot → (s : ℕ) → Bool
opens t s = is_open t.entry.case.subject t.entry.case.lock t.entry.method t.index s
