use Rattle.dex_code.proofs.CodeLaw.{code_read}
use Rattle.dex_code.proofs.code_item.read_code.Goals as goal

pub returns-in-Ok-clause-content : goal.returns-in-Ok-clause-content
returns-in-Ok-clause-content c = code_read _ _ _ c.in-Ok.ensures
