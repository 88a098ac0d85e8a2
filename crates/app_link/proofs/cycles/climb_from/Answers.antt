use Rattle.std.proofs.Common.{arith}
use Rattle.app_link.proofs.Ancestry.{got_at, climbs_up}
use Rattle.app_link.proofs.cycles.climb_from.Goals as goal

pub climb_class-requires : goal.climb_class-requires
climb_class-requires c =
    c.requires c.args.place c.index-classes-place.result (got_at c.args.classes.now c.args.place _ (omega (arith, c.if-place-classes.true)) c.index-classes-place.is)

pub returns-then-place-classes-clause-ancestors : goal.returns-then-place-classes-clause-ancestors
returns-then-place-classes-clause-ancestors c =
    climbs_up c.args.classes.now c.args.start c.args.marks.now.items c.climb_class.new.marks.items c.args.place c.index-classes-place.result
    (got_at c.args.classes.now c.args.place _ (omega (arith, c.if-place-classes.true)) c.index-classes-place.is) c.climb_class.ensures
