use Rattle.one_scope.proofs.Breaks.{same_breaks}
use Rattle.one_scope.proofs.Graphs.{same_cells, same_reach, same_targets}
use Rattle.one_scope.proofs.Rules.{same_closed, same_least, same_policy, same_violations}
use Rattle.one_scope.proofs.one_scope.Goals as goal

pub returns : goal.returns
returns c = record {
  scope = λ x graph tags scope by_graph by_tags rule m pc broken. scope.unbroken rule m pc (same_breaks x.app x.list graph x.graph tags x.tags by_graph scope.graph by_tags scope.tags broken);
  reach = λ app list one other first second by_one by_other. same_reach one other (same_targets app one other by_one by_other) list first second;
  cells = λ app list one other first second by_one by_other. same_cells one other (same_targets app one other by_one by_other) app list first second;
  violations = same_violations;
  least = same_least;
  closed = same_closed;
  policy = same_policy;
}
