use Rattle.tag_rows.specs.Sites.{AreSitesBefore}
use Rattle.tag_rows.proofs.sites.find_sites.Given as goal

abbrev pub invariant-loop-method : goal.invariant-loop-method
invariant-loop-method l = AreSitesBefore l.app l.method 0 l.sites.items
