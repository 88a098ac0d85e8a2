use Rattle.std.proofs.Common.{◌∙◌, ◌-◌, arith, sym}
use Rattle.act_model.specs.Changes.{tag_in}
use Rattle.tag_rows.proofs.Keeping.{call_kept, store_kept}
use Rattle.tag_rows.proofs.change.kept_after.Goals as goal

pub returns-in-WriteSlot : goal.returns-in-WriteSlot
returns-in-WriteSlot c =
    λ site row r len first second plain. rw c.in-WriteSlot.is (store_kept row c.in-WriteSlot.from c.in-WriteSlot.slot (tag_in row c.in-WriteSlot.from) r (λ e. first (e ∙ sym c.plain_but.ensures.first)) (plain c.plain_but.ensures.plain))

pub returns-in-Call : goal.returns-in-Call
returns-in-Call c =
    λ site row r len first second plain. rw c.in-Call.is (call_kept site c.in-Call.by _ c.in-Call.args c.in-Call.gives row r (c.args.width - 1) c.kept_call.result.plain c.kept_call.ensures.tags (omega (arith, len, c.requires)) (λ e. first (e ∙ sym c.kept_call.ensures.cell)) plain)
