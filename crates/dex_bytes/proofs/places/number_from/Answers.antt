use Rattle.std.proofs.Common.{sym}
use Rattle.dex_bytes.proofs.Leb.{IsUleb-found, IsUleb-err, IsUleb-past}
use Rattle.dex_bytes.proofs.places.number_from.Goals as goal

pub returns-then-at-bytes : goal.returns-then-at-bytes
returns-then-at-bytes c = IsUleb-past _ _ c.if-at-bytes.true

pub returns-in-Ok : goal.returns-in-Ok
returns-in-Ok c = IsUleb-found _ _ _ c.if-at-bytes.false (sym c.in-Ok.ensures)

pub returns-in-Err : goal.returns-in-Err
returns-in-Err c = IsUleb-err _ _ _ (sym c.in-Err.ensures)
