use Rattle.std.proofs.Common.{arith, below_more, rules, subst}
use Rattle.report_path.specs.declared.report.By.{By}
use Rattle.fact_log.specs.Work.{IsNewView, view}
use Rattle.fact_log.proofs.Searched.{all_bodies}
use Rattle.fact_log.proofs.work.Work.find_body.Goals as goal

pub loop-number-preserved : goal.loop-number-preserved
loop-number-preserved c = (c.loop-number.invariant.0, below_more _ _ c.loop-number.invariant.1 (subst (λ (by : By). ¬ IsNewView c.args.self.now (view c.args.view.component c.args.view.state c.args.view.status by)) c.moved_by-by-in-loop-number.ensures (c.try_view-in-loop-number.ensures.none (search rules))))

pub returns-clause-none : goal.returns-clause-none
returns-clause-none c = λ none. all_bodies _ c.args.view c.args.first c.args.mover c.args.edge _ (omega (arith, c.loop-number-test.false, c.line_count-number-end.ensures)) c.loop-number.invariant
