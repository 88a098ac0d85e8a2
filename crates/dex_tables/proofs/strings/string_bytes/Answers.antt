use Rattle.std.proofs.Common.{rules}
use Rattle.dex_tables.proofs.Words.{slice_taken}
use Rattle.dex_tables.proofs.strings.string_bytes.Goals as goal

pub returns : goal.returns
returns c = (search rules, slice_taken _ _ _ _ _ (search rules) c.split_at.ensures.back c.split_at-2.ensures.front)
