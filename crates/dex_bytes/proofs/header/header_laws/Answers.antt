use Rattle.dex_bytes.proofs.Faults.{header_read, passing_header}
use Rattle.dex_bytes.proofs.header.header_laws.Goals as goal

pub returns : goal.returns
returns c = λ bs. (header_read bs, passing_header bs)
