use Rattle.std.proofs.Common.{ap, rules, sym}
use Rattle.act_model.specs.Changes.{after}
use Rattle.tag_rows.proofs.Acts.{act_made, any_site}
use Rattle.tag_flow.proofs.Reached.{known_below}
use Rattle.tag_flow.proofs.known.Known.site.Goals as goal

pub returns-then-not-makes_lock : goal.returns-then-not-makes_lock
returns-then-not-makes_lock c =
    λ row. any_site _ _ _ (sym c.if-not-makes_lock.ensures) row

pub returns : goal.returns
returns c =
    λ row. ap (λ n. after n c.args.act.now row) (c.site_of.ensures c.args.self.now.app (search rules) (known_below _ c.told.ensures _ c.requires.spot.reached) c.requires.spot.index (act_made _ _ _ _ c.requires.act (sym c.if-not-makes_lock.ensures)))
