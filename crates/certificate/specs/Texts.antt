-- The text of a certificate.
use Rattle.std.specs.Prelude.{ℕ, suc, ◌+◌, ◌*◌, ◌^◌, ◌<◌, ◌≤◌, List, [], ◌∷◌, ◌++◌, map, length, flat_map}
use Rattle.std.specs.List.{AllByRecursion}
use Rattle.cert_line.specs.Lines.{Fits, name_line, with_feed}
use Rattle.cert_line.specs.Parts.{BodyParts}
use Rattle.cert_line.specs.declared.rows.ViewRow.{ViewRow}
use Rattle.cert_line.specs.declared.rows.Line.{Line}
use Rattle.cert_line.specs.declared.rows.Line.TheVariants.{Version, ListDigest, DexDigest, View, Body, End}
use Rattle.certificate.specs.Parts.{LockRows, CertParts}

abbrev pub lock_lines : ℕ → List LockRows → List Line
lock_lines k [] = []
lock_lines k (p ∷ ps) = name_line k p.name ∷ (map View p.views ++ (map Body p.bodies ++ lock_lines (suc k) ps))

abbrev pub lines_of : CertParts → List Line
lines_of c = Version ∷ ListDigest c.list ∷ (map DexDigest c.dex ++ (lock_lines 0 c.locks ++ End ∷ []))

unfoldable pub certificate_text : CertParts → List ℕ
certificate_text c = flat_map with_feed (lines_of c)

-- ---- what has a text

-- the place of a row in its lock: views by component and state, then bodies by method and status
abbrev pub view_rank : ViewRow → ℕ
view_rank v = 1 + (256 * v.component + v.state)

abbrev pub body_rank : BodyParts → ℕ
body_rank b = 2 ^ 40 + (1 + (8 * b.method + b.entry))

-- each rank is above the one before, and the first above low
abbrev pub Rise : {X : Type 0} → (X → ℕ) → ℕ → List X → Type 0
Rise rank low [] = Unit {0}
Rise rank low (x ∷ xs) = (low < rank x) × Rise rank (rank x) xs

pub record IsPart (p : LockRows) : Type 0 where
  pub named : Fits (name_line 0 p.name)
  pub views : AllByRecursion (λ v. Fits (View v)) p.views
  pub bodies : AllByRecursion (λ b. Fits (Body b)) p.bodies
  pub views_rise : Rise view_rank 0 p.views
  pub bodies_rise : Rise body_rank 0 p.bodies

pub record IsCert (c : CertParts) : Type 0 where
  pub lists : Fits (ListDigest c.list)
  pub some_dex : 0 < length c.dex
  pub dexes : AllByRecursion (λ d. Fits (DexDigest d)) c.dex
  pub parts : AllByRecursion IsPart c.locks
  pub counted : length c.locks ≤ 2 ^ 64
