use Rattle.flow_model.specs.Derived.{HasAll}
use Rattle.derivation.proofs.Exits.{exit_is, no_exit}
use Rattle.derivation.proofs.reporting.report_for.Goals as goal

pub unreachable-requires : goal.unreachable-requires
unreachable-requires c =
    let logged = c.requires.logged in
    no_exit c.args.subject.now c.args.bad c.args.log.now.lines.items c.args.log.now.views.items logged.set logged.facts logged.violation (λ n e end few h. c.in_default.ensures n e end few h)

pub returns : goal.returns
returns c =
    let logged = c.requires.logged in
    c.in_ok-report.ensures logged.log (exit_is c.args.subject.now c.args.bad c.args.log.now.lines.items c.args.log.now.views.items (HasAll logged.set) logged.violation c.in-Some.exit c.in-Some.ensures)
