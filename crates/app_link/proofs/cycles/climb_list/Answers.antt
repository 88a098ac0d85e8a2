use Rattle.std.proofs.Common.{Contains, sym, subst, arith}
use Rattle.app_link.proofs.Ancestry.{get_there, contains_at, climbs_more}
use Rattle.app_link.proofs.cycles.climb_list.Goals as goal

pub loop-i-preserved : goal.loop-i-preserved
loop-i-preserved c =
    let at = c.loop-i in
    let there = get_there c.args.list.now at.i _ (omega (arith, c.loop-i-test.true)) in
    climbs_more _ _ _ (λ u. Contains c.args.list.now (record { 0 = u })) _ at.invariant c.mark_open.ensures
    (λ u is. subst (λ v. Contains c.args.list.now (record { 0 = v })) (sym is) (contains_at c.args.list.now at.i _ there))

pub returns-in_err-mark_open : goal.returns-in_err-mark_open
returns-in_err-mark_open c =
    let at = c.loop-i in
    let there = get_there c.args.list.now at.i _ (omega (arith, c.loop-i-test.true)) in
    climbs_more _ _ _ (λ u. Contains c.args.list.now (record { 0 = u })) _ at.invariant c.mark_open.ensures
    (λ u is. subst (λ v. Contains c.args.list.now (record { 0 = v })) (sym is) (contains_at c.args.list.now at.i _ there))
