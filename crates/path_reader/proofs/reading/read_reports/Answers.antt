use Rattle.path_reader.proofs.FirstWrong.{is_exact, is_found, is_line, is_only}
use Rattle.path_reader.proofs.reading.read_reports.Goals as goal

pub returns-clause-found : goal.returns-clause-found
returns-clause-found c = is_found c.args.bytes.now c.reports_in.result c.reports_in.ensures

pub returns-clause-only : goal.returns-clause-only
returns-clause-only c = λ x is. is_only c.args.bytes.now c.reports_in.result c.reports_in.ensures x is

pub returns-clause-line : goal.returns-clause-line
returns-clause-line c = is_line c.args.bytes.now c.reports_in.result c.reports_in.ensures

pub returns-clause-named : goal.returns-clause-named
returns-clause-named c = λ n w. is_exact c.args.bytes.now c.reports_in.result c.reports_in.ensures n w
