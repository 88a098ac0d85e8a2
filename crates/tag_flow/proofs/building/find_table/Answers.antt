use Rattle.tag_flow.proofs.Begin.{table_of}
use Rattle.tag_flow.proofs.building.find_table.Goals as goal

pub returns : goal.returns
returns c =
    rw c.into_table.ensures (table_of _ _ c.told.ensures c.close.ensures.state c.close.ensures.below c.close.ensures.closed)
