-- What holds at an instruction of a method that is reached.
use Rattle.std.proofs.Common.{◌≡◌, ℕ, ◌+◌, ◌*◌, ◌<◌, ◌≤◌, Bool, List, length, get_or, if◌then◌else◌, Some, sym, ap, ◌∙◌, arith}
use Rattle.std.specs.Prelude.{slice_get}
use Rattle.std.proofs.lemmas.List.{get_or-map}
use Rattle.std.proofs.lemmas.Nat.{row_fits}
use Rattle.std.proofs.lemmas.Option.{get_or_from_slice_get, slice_get_within}
use Rattle.app_model.specs.TagTable.{width_at}
use Rattle.app_model.specs.Words.{code_len}
use Rattle.app_model.specs.declared.rows.MethodRow.{MethodRow}
use Rattle.app_model.proofs.Cells.{length-row_at, tag_within}
use Rattle.act_model.specs.Changes.{tag_in}
use Rattle.tag_flow.specs.declared.known.Spot.{Spot}
use Rattle.tag_rows.specs.Cells.{cells_len, tag_there}
use Rattle.tag_flow.specs.Known.{IsKnown, KnownParts, row_width}
use Rattle.tag_flow.specs.State.{IsSpot, IsState, StateParts, row_of}

-- the width of a row of the table
pub table_width : (k : KnownParts) (s : StateParts) (m : ℕ) → IsState k s → width_at s.table m ≡ row_width k.app m
table_width k s m state = ap (λ (rs : List ℕ). get_or rs m 0 + 1) state.registers

pub row_len : (k : KnownParts) (s : StateParts) (spot : Spot) → IsState k s → IsSpot k spot → length (row_of s spot) ≡ spot.width
row_len k s spot state is = length-row_at s.table spot.method.0 spot.index ∙ table_width k s spot.method.0 state ∙ sym is.width

-- how many cells the method has
pub cells_there : (k : KnownParts) (s : StateParts) (spot : Spot) → IsState k s → IsSpot k spot → cells_len s.table spot.method.0 ≡ code_len k.app spot.method.0 * spot.width
cells_there k s spot state is =
    state.rows spot.method.0 ∙ ap (λ (b : Bool). if b then code_len k.app spot.method.0 * row_width k.app spot.method.0 else 0) is.reached ∙ ap (λ w. code_len k.app spot.method.0 * w) (sym is.width)

-- the place of a cell, and its tag
pub place_within : (k : KnownParts) (s : StateParts) (spot : Spot) (r : ℕ) → IsState k s → IsSpot k spot → r < spot.width → spot.index * spot.width + r < cells_len s.table spot.method.0
place_within k s spot r state is lt =
    let fits = row_fits spot.index spot.width (code_len k.app spot.method.0) spot.width is.index (omega arith) in
    rw (cells_there k s spot state is) (omega (arith, fits, lt))

pub row_within : (k : KnownParts) (s : StateParts) (spot : Spot) → IsState k s → IsSpot k spot → spot.start + spot.width ≤ cells_len s.table spot.method.0
row_within k s spot state is =
    let fits = row_fits spot.index spot.width (code_len k.app spot.method.0) spot.width is.index (omega arith) in
    rw (cells_there k s spot state is) (omega (arith, fits, is.start))

pub place_tag : (k : KnownParts) (s : StateParts) (spot : Spot) (r : ℕ) → IsState k s → IsSpot k spot → r < spot.width → tag_in (row_of s spot) r ≡ tag_there s.table spot.method.0 (spot.index * spot.width + r)
place_tag k s spot r state is lt =
    let w : width_at s.table spot.method.0 ≡ spot.width = table_width k s spot.method.0 state ∙ sym is.width in
    tag_within s.table spot.method.0 spot.index r (omega (arith, lt, w)) ∙ ap (λ n. tag_there s.table spot.method.0 (spot.index * n + r)) w

-- the row at the entry of a method has its registers
pub method_fits : (k : KnownParts) (known : IsKnown k) (m : ℕ) (method : MethodRow) → slice_get k.app.methods m ≡ Some method → (method.ins ≤ method.registers) × (row_width k.app m ≡ method.registers + 1)
method_fits k known m method at = (
  (known.app.methods m method at).fits,
  ap (λ n. n + 1) (get_or-map (λ (one : MethodRow). one.registers) k.app.methods m method 0 (slice_get_within k.app.methods m method at) ∙ ap (λ (one : MethodRow). one.registers) (get_or_from_slice_get k.app.methods m method method at)),
)
