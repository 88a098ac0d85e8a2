-- The map has the new bytes at the name, and at every other what it had.
use Rattle.std.proofs.Common.{arith}
use Rattle.std.proofs.lemmas.Map.Text.{text_keys}
use Rattle.ns_memory.proofs.files.put.Goals as goal

pub returns-in-Ok-clause-added : goal.returns-in-Ok-clause-added
returns-in-Ok-clause-added c = λ n. grind (arith, text_keys)
