use Rattle.std.proofs.Common.{ap, option_map, subst, sym, ◌∙◌}
use Rattle.ns_base.specs.declared.rows.ClassNo.{ClassNo}
use Rattle.class_graph.specs.Walks.{met}
use Rattle.call_targets.specs.Below.{IsWalked, WalkParts, walk_of}
use Rattle.call_targets.proofs.Downward.{walked_inside, walked_start}
use Rattle.call_targets.proofs.below.begin.Goals as goal

pub meet_unknown-requires-clause-walked : goal.meet_unknown-requires-clause-walked
meet_unknown-requires-clause-walked c =
    subst (λ (w : WalkParts). IsWalked c.args.app.now c.args.kind.0 0 0 w.kinds) (sym (c.in_ok-meet.ensures ∙ ap (λ (w : WalkParts). walk_of w.types (met w.kinds c.args.kind)) c.in_ok-restart.ensures)) (walked_start c.args.app.now c.told.ensures c.args.kind.0)

pub returns-in-Some-clause-walked : goal.returns-in-Some-clause-walked
returns-in-Some-clause-walked c =
    walked_inside c.args.app.now c.told.ensures c.args.kind.0 c.in-Some.field-0.0 c.meet.new.self.kinds (sym c.class_of_type.ensures.is ∙ ap (option_map (λ (k : ClassNo). k.0)) c.in-Some.is)
    (subst (λ (w : WalkParts). IsWalked c.args.app.now c.args.kind.0 0 0 w.kinds) (sym (c.in_ok-meet.ensures ∙ ap (λ (w : WalkParts). walk_of w.types (met w.kinds c.args.kind)) c.in_ok-restart.ensures)) (walked_start c.args.app.now c.told.ensures c.args.kind.0))
