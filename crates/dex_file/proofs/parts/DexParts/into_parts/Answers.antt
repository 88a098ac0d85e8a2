use Rattle.dex_file.proofs.ContentLaw.{content_read}
use Rattle.dex_file.proofs.Small.{few_members}
use Rattle.dex_file.proofs.parts.DexParts.into_parts.Goals as goal

pub returns-clause-members : goal.returns-clause-members
returns-clause-members c = let there = c.self.invariant in few_members there.0 c.self.inside.parts (content_read there.0 c.self.inside.parts there.1)
