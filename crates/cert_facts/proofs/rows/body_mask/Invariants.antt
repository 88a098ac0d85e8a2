use Rattle.std.proofs.Common.{ℕ, ◌≡◌, take}
use Rattle.app_model.specs.Masks.{in_mask}
use Rattle.cert_facts.specs.Rows.{mask_of}
use Rattle.cert_facts.specs.Sets.{body_has}
use Rattle.cert_facts.proofs.rows.body_mask.Given as goal

abbrev pub invariant-loop-row : goal.invariant-loop-row
invariant-loop-row l = (s : ℕ) → in_mask l.mask s ≡ body_has (mask_of l.which) (take l.row-index l.rows) l.method l.entry s
