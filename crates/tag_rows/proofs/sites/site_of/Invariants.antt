use Rattle.std.proofs.Common.{◌≢◌, ℕ, ◌<◌, get_or}
use Rattle.tag_rows.specs.declared.sites.Site.{Site}
use Rattle.tag_rows.proofs.Numbered.{site}
use Rattle.tag_rows.proofs.sites.site_of.Given as goal

abbrev pub invariant-loop-i : goal.invariant-loop-i
invariant-loop-i l = (n : ℕ) → n < l.i → (d : Site) → get_or l.sites n d ≢ site l.method.0 l.index
