-- What access flags say.
use Rattle.std.specs.Prelude.{ℕ, ◌==◌, Bool, bit_and, bit_or, not}
use Rattle.dalvik.specs.declared.access.TheConstants.{ABSTRACT, NATIVE}

-- ABSTRACT or NATIVE: the method has no code
abbrev pub is_bodiless : ℕ → Bool
is_bodiless flags = not (bit_and flags (bit_or ABSTRACT NATIVE) == 0)
