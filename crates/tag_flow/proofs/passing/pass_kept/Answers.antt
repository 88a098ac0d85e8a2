use Rattle.std.proofs.Common.{sym, subst}
use Rattle.app_model.specs.TagTable.{TagParts}
use Rattle.tag_flow.specs.Turns.{Turn}
use Rattle.tag_flow.specs.Goals.{Between, CellUnder, row_after}
use Rattle.tag_flow.proofs.Running.{run_turn}
use Rattle.tag_flow.proofs.passing.pass_kept.Goals as goal

pub returns-clause-turn : goal.returns-clause-turn
returns-clause-turn c =
    let k = c.args.known.now in
    let step = c.args.step.now in
    let run = c.join_run.result in
    let new = c.join_run.new.self in
    let goal = Between (CellUnder k step.from.method.0 step.to.index (row_after step.from.method.0 step.from.index step.change)) c.args.start run.end in
    subst (λ (a : TagParts). Turn k goal c.args.state.now (record { table = new.table; answers = a }) run.changed) (sym c.join_run.ensures.answers)
    (run_turn k c.told.ensures step c.args.state.now.answers c.args.start c.args.state.now.table c.requires.step run.end new.table run.changed c.join_run.ensures.end c.join_run.ensures.runs)
