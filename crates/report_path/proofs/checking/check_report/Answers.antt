use Rattle.std.proofs.Common.{Some, None, ap, length, arith}
use Rattle.report_path.specs.Reports.{FirstWrong, RightBody, RightView, case_of}
use Rattle.report_path.proofs.Pieces.{body_first, view_first, view_within, exit_first}
use Rattle.report_path.proofs.checking.check_report.Goals as goal

pub returns-in-Some : goal.returns-in-Some
returns-in-Some c = (
    let first : FirstWrong (RightBody c.args.subject.now c.args.report.now.lock c.args.report.now.bodies.items) (Some c.in-Some.k) = rw c.deref-bodies.ensures.value at c.in-Some.ensures in
    body_first _ _ _ first)

pub overflow_add-result : goal.overflow_add-result
overflow_add-result c = (
    let first : FirstWrong (RightView (case_of c.args.subject.now c.args.report.now) c.args.report.now.views.items) (Some c.in-Some-wrong_view.k) =
    rw (c.new-task.ensures, c.deref-bodies.ensures.value, c.deref-views.ensures.value) at c.in-Some-wrong_view.ensures in
    let within = view_within c.args.subject.now c.args.report.now _ first in
    let len = ap length c.deref-bodies.ensures.value in
    omega (arith, within, len, c.requires))

pub overflow_cast-result-in-Some-wrong_view : goal.overflow_cast-result-in-Some-wrong_view
overflow_cast-result-in-Some-wrong_view c = (
    let first : FirstWrong (RightView (case_of c.args.subject.now c.args.report.now) c.args.report.now.views.items) (Some c.in-Some-wrong_view.k) =
    rw (c.new-task.ensures, c.deref-bodies.ensures.value, c.deref-views.ensures.value) at c.in-Some-wrong_view.ensures in
    let within = view_within c.args.subject.now c.args.report.now _ first in
    let len = ap length c.deref-bodies.ensures.value in
    omega (arith, within, len, c.requires))

pub returns-in-Some-wrong_view : goal.returns-in-Some-wrong_view
returns-in-Some-wrong_view c = (
    let bodies : FirstWrong (RightBody c.args.subject.now c.args.report.now.lock c.args.report.now.bodies.items) None = rw c.deref-bodies.ensures.value at c.in_default.ensures in
    let first : FirstWrong (RightView (case_of c.args.subject.now c.args.report.now) c.args.report.now.views.items) (Some c.in-Some-wrong_view.k) =
    rw (c.new-task.ensures, c.deref-bodies.ensures.value, c.deref-views.ensures.value) at c.in-Some-wrong_view.ensures in
    rw c.deref-bodies.ensures.value (view_first c.args.subject.now c.args.report.now _ bodies first))

pub returns-then-not-is_exit : goal.returns-then-not-is_exit
returns-then-not-is_exit c = (
    let bodies : FirstWrong (RightBody c.args.subject.now c.args.report.now.lock c.args.report.now.bodies.items) None = rw c.deref-bodies.ensures.value at c.in_default.ensures in
    let views : FirstWrong (RightView (case_of c.args.subject.now c.args.report.now) c.args.report.now.views.items) None =
    rw (c.new-task.ensures, c.deref-bodies.ensures.value, c.deref-views.ensures.value) at c.in_default-wrong_view.ensures in
    rw (c.deref-bodies.ensures.value, c.deref-views.ensures.value) (exit_first c.args.subject.now c.args.report.now bodies views (λ x. (let t = c.is_exit.ensures.1 x in let f = c.if-not-is_exit.true in cc))))

pub returns : goal.returns
returns c = record {
  bodies = rw c.deref-bodies.ensures.value at c.in_default.ensures;
  views = rw (c.new-task.ensures, c.deref-bodies.ensures.value, c.deref-views.ensures.value) at c.in_default-wrong_view.ensures;
  exit = c.is_exit.ensures.0 c.if-not-is_exit.false;
}
