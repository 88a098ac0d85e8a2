use Rattle.std.proofs.Common.{sym, ◌∙◌, subst, List}
use Rattle.std.specs.Prelude.{Contains}
use Rattle.ns_base.specs.declared.rows.MethodNo.{MethodNo}
use Rattle.report_path.proofs.Tests.{last_part}
use Rattle.report_path.proofs.spot.Spot.calls.Goals as goal

pub returns : goal.returns
returns c = last_part _ c.has_callee.ensures (λ there. (sym c.is_open.ensures ∙ c.if-not-is_open.false, subst (λ (ns : List MethodNo). Contains ns (record { 0 = c.args.method })) c.callees.ensures there)) (λ q. subst (λ (ns : List MethodNo). Contains ns (record { 0 = c.args.method })) (sym c.callees.ensures) q.1)
