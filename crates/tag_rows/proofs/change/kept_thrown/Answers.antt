use Rattle.tag_rows.proofs.Keeping.{thrown_kept}
use Rattle.tag_rows.proofs.change.kept_thrown.Goals as goal

pub returns-in-Call : goal.returns-in-Call
returns-in-Call c =
    λ row r len first second plain. rw c.in-Call.is (thrown_kept c.in-Call.by _ c.in-Call.args c.in-Call.gives row r c.kept_call.result.plain c.kept_call.ensures.tags plain)
