use Rattle.tag_rows.specs.Sites.{AreSitesBefore}
use Rattle.tag_rows.proofs.sites.add_sites.Given as goal

abbrev pub invariant-loop-index : goal.invariant-loop-index
invariant-loop-index l = AreSitesBefore l.app l.method.0 l.index l.sites.items
