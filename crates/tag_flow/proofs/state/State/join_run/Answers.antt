use Rattle.std.proofs.Common.{◌≡◌, ◌≤◌, ◌+◌, ap, arith}
use Rattle.tag_rows.specs.Cells.{cells_len}
use Rattle.tag_flow.specs.State.{StateParts}
use Rattle.tag_flow.proofs.Settled.{step_width}
use Rattle.tag_flow.proofs.Spots.{row_within}
use Rattle.tag_flow.proofs.state.State.join_run.Goals as goal

pub join_run-requires : goal.join_run-requires
join_run-requires c =
    let at : c.self.inside.rows ≡ c.args.self.now.table = ap (λ (s : StateParts). s.table) c.self.view_is in
    let step = c.args.step.now in
    let is = c.requires.step in
    let to : step.to.start + step.from.width ≤ cells_len c.args.self.now.table step.from.method.0 =
    rw (← is.method, ← step_width _ _ _ is) (row_within _ _ step.to is.source.state is.to) in
    record {
      from = rw at (row_within _ _ step.from is.source.state is.source.spot);
      to = rw at to;
      some = omega (arith, is.source.spot.width);
      start = c.requires.start;
    }

pub returns : goal.returns
returns c =
    let at : c.self.inside.rows ≡ c.args.self.now.table = ap (λ (s : StateParts). s.table) c.self.view_is in
    record {
      runs = rw at at c.join_run.ensures.runs;
      end = c.join_run.ensures.end;
      later = c.join_run.ensures.later;
      answers = ap (λ (s : StateParts). s.answers) c.self.view_is;
    }
