use Rattle.cert_laws.proofs.Digests.{is_digest}
use Rattle.cert_laws.proofs.Written.{has_text, is_accepted, one_more}
use Rattle.cert_laws.proofs.written_certificates.Goals as goal

pub returns-clause-accepted : goal.returns-clause-accepted
returns-clause-accepted c = λ x cert sound violations are low. is_accepted x cert sound are violations low

pub returns-clause-text : goal.returns-clause-text
returns-clause-text c = λ x cert sound are list dex some. has_text x cert sound are list dex some

pub returns-clause-next : goal.returns-clause-next
returns-clause-next c = one_more

pub returns-clause-digest : goal.returns-clause-digest
returns-clause-digest c = is_digest
