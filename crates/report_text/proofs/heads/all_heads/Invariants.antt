use Rattle.std.proofs.Common.{◌≡◌, map}
use Rattle.report_path.specs.Reports.{violation_of}
use Rattle.report_text.specs.Heads.{heads_before}
use Rattle.report_text.proofs.heads.all_heads.Given as goal

abbrev pub invariant-loop-i : goal.invariant-loop-i
invariant-loop-i l = l.text.items ≡ heads_before l.subject.app l.subject.list (map violation_of l.reports) l.i
