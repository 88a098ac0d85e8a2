use Rattle.std.proofs.Common.{refl}
use Rattle.call_reach.proofs.Turns.{contains_at, within_still}
use Rattle.call_reach.proofs.spread.pass_on.Goals as goal

pub pass-requires : goal.pass-requires
pass-requires c = within_still _ _ _ _ _ c.requires.within refl c.get-link.ensures

pub returns-in_err-add : goal.returns-in_err-add
returns-in_err-add c = (c.pass.ensures _ (contains_at _ _ _ c.get-link.ensures)).keeps

pub returns-in_ok-add : goal.returns-in_ok-add
returns-in_ok-add c = (c.pass.ensures _ (contains_at _ _ _ c.get-link.ensures)).keeps

pub returns-else-pass : goal.returns-else-pass
returns-else-pass c = (c.pass.ensures _ (contains_at _ _ _ c.get-link.ensures)).keeps
