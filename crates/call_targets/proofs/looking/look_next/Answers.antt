use Rattle.std.proofs.Common.{ap, ◌∙◌}
use Rattle.std.specs.Prelude.{is_none}
use Rattle.call_targets.proofs.Tried.{found_at, found_next}
use Rattle.call_targets.proofs.looking.look_next.Goals as goal

pub returns-clause-found : goal.returns-clause-found
returns-clause-found c numbers before =
    rw c.in_ok-push.ensures.items (found_next c.args.app.now c.args.source.name c.args.source.proto c.lookup-next.result c.args.class c.requires.class (λ row e. c.lookup-next.ensures c.args.app.now row c.requires.graph e) numbers c.args.found.now.items before)

pub returns-clause-outside : goal.returns-clause-outside
returns-clause-outside c = c.is_outside.ensures ∙ ap is_none (found_at c.args.app.now c.args.source.name c.args.source.proto c.lookup-next.result c.args.class c.requires.class (λ row e. c.lookup-next.ensures c.args.app.now row c.requires.graph e))
