use Rattle.build_tables.proofs.Settled.{settled_ref}
use Rattle.build_tables.proofs.tables.Tables.type_ref.Goals as goal

pub returns : goal.returns
returns c = settled_ref _ _ _ _ _ _ _ c.mark-mark.ensures c.see_type-seen.ensures.seen c.see_type-seen.ensures.grown c.settle.ensures
