use Rattle.certificate.proofs.FirstWrong.{is_found, is_only, is_line, is_exact}
use Rattle.certificate.proofs.reading.read_certificate.Goals as goal

pub returns-clause-found : goal.returns-clause-found
returns-clause-found c = is_found c.args.bytes.now c.certificate_in.result c.certificate_in.ensures

pub returns-clause-only : goal.returns-clause-only
returns-clause-only c = λ x is same. is_only c.args.bytes.now c.certificate_in.result c.certificate_in.ensures x is same

pub returns-clause-line : goal.returns-clause-line
returns-clause-line c = is_line c.args.bytes.now c.certificate_in.result c.certificate_in.ensures

pub returns-clause-named : goal.returns-clause-named
returns-clause-named c = λ n w. is_exact c.args.bytes.now c.certificate_in.result c.certificate_in.ensures n w
