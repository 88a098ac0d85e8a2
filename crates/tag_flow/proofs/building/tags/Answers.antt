use Rattle.std.proofs.Common.{refl}
use Rattle.std.proofs.lemmas.Bool.{false≢true}
use Rattle.tag_flow.proofs.Begin.{cause_of, few_of}
use Rattle.tag_flow.proofs.building.tags.Goals as goal

pub returns-then-not-is_small-clause-cause : goal.returns-then-not-is_small-clause-cause
returns-then-not-is_small-clause-cause c =
    cause_of c.in-Ok.known _ _ _ c.told.ensures c.in-Ok.ensures.app c.in-Ok.ensures.graph c.in-Ok.ensures.list (λ few. absurd (false≢true (c.if-not-is_small.ensures.1 few)))

pub returns-in-Ok-find_table-clause-few : goal.returns-in-Ok-find_table-clause-few
returns-in-Ok-find_table-clause-few c =
    few_of c.in-Ok.known _ _ _ c.told.ensures c.in-Ok.ensures.app c.in-Ok.ensures.graph c.in-Ok.ensures.list (c.if-not-is_small.ensures.0 refl)
