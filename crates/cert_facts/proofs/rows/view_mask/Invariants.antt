use Rattle.std.proofs.Common.{ℕ, ◌≡◌, take}
use Rattle.app_model.specs.Masks.{in_mask}
use Rattle.cert_facts.specs.Sets.{view_has}
use Rattle.cert_facts.proofs.rows.view_mask.Given as goal

abbrev pub invariant-loop-row : goal.invariant-loop-row
invariant-loop-row l = (s : ℕ) → in_mask l.mask s ≡ view_has (take l.row-index l.rows) l.component l.state s
