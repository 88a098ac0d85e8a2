-- Masks that are those of others but at one instruction of each method.
use Rattle.std.specs.Prelude.{ℕ, ◌==◌, if◌then◌else◌}
use Rattle.flow_model.specs.Subject.{Masks}

abbrev pub altered : (index passes throws : ℕ) → Masks → Masks
altered index passes throws masks = record {
  passes = λ m i k s. if i == index then passes else masks.passes m i k s;
  throws = λ m i s. if i == index then throws else masks.throws m i s;
}
