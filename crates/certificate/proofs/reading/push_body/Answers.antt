use Rattle.std.proofs.Common.{refl, ◌-◌, arith}
use Rattle.certificate.specs.Reading.{add_body}
use Rattle.certificate.proofs.LastPart.{set_last}
use Rattle.certificate.proofs.reading.push_body.Goals as goal

pub returns-in_ok-push : goal.returns-in_ok-push
returns-in_ok-push c =
    set_last (add_body c.args.row) c.args.locks.now.items (c.len-n.result - 1) c.index_mut-part.result.now _ (omega (arith, c.len-n.ensures)) c.index_mut-part.ensures.value (rw (c.in_ok-push.ensures.items, ← c.part.view_is) refl)
