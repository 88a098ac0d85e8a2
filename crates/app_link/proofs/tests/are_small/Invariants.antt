use Rattle.std.proofs.Common.{◌≡◌, ◌<◌, ℕ, Some, slice_get}
use Rattle.dex_file.specs.Content.{FileContent}
use Rattle.app_rows.specs.Small.{IsSmall}
use Rattle.app_link.proofs.tests.are_small.Given as goal

abbrev pub invariant-loop-n : goal.invariant-loop-n
invariant-loop-n l = (k : ℕ) (file : FileContent) → k < l.n → slice_get l.files k ≡ Some file → IsSmall file
