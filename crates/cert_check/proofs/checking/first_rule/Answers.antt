use Rattle.cert_check.proofs.Breaches.{rule_start, rule_more, rule_some, rule_none}
use Rattle.cert_check.proofs.checking.first_rule.Goals as goal

pub loop-number-init : goal.loop-number-init
loop-number-init c = rule_start c.args.task.now

pub returns-in-Some : goal.returns-in-Some
returns-in-Some c = rule_some c.args.task.now _ _ _ c.in-Some.found c.loop-number.invariant c.rule_at-rule.ensures c.lock.ensures c.in-Some.ensures

pub loop-number-preserved : goal.loop-number-preserved
loop-number-preserved c = rule_more c.args.task.now _ _ c.loop-number.invariant c.rule_at-rule.ensures c.in_default.ensures

pub returns : goal.returns
returns c = rule_none c.args.task.now _ c.loop-number-test.false c.loop-number.invariant
