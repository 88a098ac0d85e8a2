use Rattle.build_tables.proofs.Settled.{settled_ref}
use Rattle.build_tables.proofs.tables.Tables.method_ref.Goals as goal

pub returns : goal.returns
returns c = settled_ref _ _ _ _ _ _ _ c.mark-mark.ensures c.see_method-seen.ensures.seen c.see_method-seen.ensures.grown c.settle.ensures
