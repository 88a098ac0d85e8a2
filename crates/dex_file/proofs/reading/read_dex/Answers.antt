use Rattle.std.proofs.Common.{rules}
use Rattle.dex_file.proofs.ContentLaw.{content_read}
use Rattle.dex_file.specs.Reading.{content_of}
use Rattle.dex_file.proofs.reading.read_dex.Goals as goal

pub invariant_of-result : goal.invariant_of-result
unfolding content_of
invariant_of-result c = (c.args.bytes.now, search rules)

pub returns-clause-content : goal.returns-clause-content
unfolding content_of
returns-clause-content c = content_read c.args.bytes.now c.in_ok-parts.parts (search rules)
