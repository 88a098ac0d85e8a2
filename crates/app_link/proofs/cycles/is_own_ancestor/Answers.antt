use Rattle.std.proofs.Common.{rules}
use Rattle.app_link.proofs.Ancestry.{even_is_none}
use Rattle.app_link.proofs.cycles.is_own_ancestor.Goals as goal

pub returns-then-number_at-eq0 : goal.returns-then-number_at-eq0
returns-then-number_at-eq0 c = (
  λ yes. absurd (let bad : ⊥ = cc in bad),
  λ cyclic. absurd (even_is_none c.args.ranks.now c.args.classes.now c.args.class.now.name.0 (search rules) (search rules) cyclic),
)
