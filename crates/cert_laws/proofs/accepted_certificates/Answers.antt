use Rattle.cert_laws.proofs.Accepted.{is_sound, is_valid}
use Rattle.cert_laws.proofs.accepted_certificates.Goals as goal

pub returns-clause-valid : goal.returns-clause-valid
returns-clause-valid c = is_valid

pub returns-clause-sound : goal.returns-clause-sound
returns-clause-sound c = is_sound
