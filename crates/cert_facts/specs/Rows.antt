-- Rows of a certificate, sought by what they tell of.
use Rattle.std.specs.Prelude.{ℕ, ◌≡◌, ◌<◌, ◌≤◌, ◌+◌, ◌*◌, List, AllPairs, Some, length, slice_get, slice_index}
use Rattle.app_model.specs.Facts.{Fact, At, Ret, Exc}
use Rattle.cert_line.specs.declared.rows.ViewRow.{ViewRow}
use Rattle.cert_line.specs.Parts.{BodyParts}
use Rattle.certificate.specs.Parts.{LockRows}
use Rattle.cert_facts.specs.Sets.{view_has, body_has}
use Rattle.cert_facts.specs.declared.which.Which.{Which}
use Rattle.cert_facts.specs.declared.which.Which.TheVariants.{Before, Returned, Thrown}

-- ---- rows in the order of the text rise by these numbers
abbrev pub view_rank : ViewRow → ℕ
view_rank row = 256 * row.component + row.state

abbrev pub body_rank : BodyParts → ℕ
body_rank row = 256 * row.method + row.entry

abbrev pub Rises : {R : Type 0} → (R → ℕ) → List R → Type 0
Rises rank rows = AllPairs (λ a b. rank a < rank b) rows

pub record AreRising (part : LockRows) : Type 0 where
  pub views : Rises view_rank part.views
  pub bodies : Rises body_rank part.bodies

-- the first place from which on no rank is below the bound
pub record IsFrom {R : Type 0} (rank : R → ℕ) (bound : ℕ) (rows : List R) (place : ℕ) : Type 0 where
  pub within : place ≤ length rows
  pub below : (k : ℕ) (row : R) → k < place → slice_get rows k ≡ Some row → rank row < bound
  pub above : (k : ℕ) (row : R) → place ≤ k → slice_get rows k ≡ Some row → bound ≤ rank row

-- ---- rows among which are all of a state, or of an entry
pub record HasState (rows found : List ViewRow) (c q : ℕ) : Type 0 where
  pub same : (s : ℕ) → view_has found c q s ≡ view_has rows c q s

pub record HasEntry (rows found : List BodyParts) (m e : ℕ) : Type 0 where
  pub same : (mask : BodyParts → ℕ) (s : ℕ) → body_has mask found m e s ≡ body_has mask rows m e s

-- ---- the masks of a body row, and the fact that such a mask tells
abbrev pub mask_of : Which → BodyParts → ℕ
mask_of (Before i) row = slice_index row.masks i
mask_of Returned row = row.ret
mask_of Thrown row = row.exc

abbrev pub fact_of : Which → (m e s : ℕ) → Fact
fact_of (Before i) m e s = At m e i s
fact_of Returned m e s = Ret m e s
fact_of Thrown m e s = Exc m e s
