use Rattle.dex_code.proofs.CodeLaw.{code_read}
use Rattle.dex_code.proofs.CodeReads.{code_reads}
use Rattle.dex_code.proofs.code_item.code_law.Goals as goal

pub returns : goal.returns
returns c = λ bs off code. (code_read bs off code, code_reads bs off code)
