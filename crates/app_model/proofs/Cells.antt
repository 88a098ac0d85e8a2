-- Tags and their cells.
use Rattle.std.proofs.Common.{sym, ap, ◌∙◌, ◌≡◌, ℕ, zero, suc, ◌+◌, ◌*◌, ◌<◌, ◌≤◌, List, [], length, length-set, map, slice_index_or, slice_set, refl, ⊎_elim, arith, lt-ltb, le-ltb}
use Rattle.std.proofs.lemmas.Grind.{common_steps}
use Rattle.std.proofs.lemmas.Bool.{cases_lt}
use Rattle.std.proofs.lemmas.Bool.Decides.{nat_tests}
use Rattle.std.proofs.lemmas.List.{get_or-map, get_or_past, length-map, map-set}
use Rattle.std.proofs.lemmas.List.Elements.{All-set}
use Rattle.std.specs.declared.alloc.Global.{Global}
use Rattle.std.specs.declared.vec.Vec.{Vec}
use Rattle.std.specs.Vec.{with_item}
use Rattle.std.proofs.lemmas.List.FromFn.{get_or-map-range_with_len, length-map-range_with_len}
use Rattle.std.specs.List.{All}
use Rattle.app_model.specs.declared.tag.Tag.{Tag}
use Rattle.app_model.specs.declared.tag.Tag.TheVariants.{Bot, Zero, Solid, Held, Any, Field, New, Mixed}
use Rattle.app_model.specs.TagTable.{TagParts, IsTagTable, HasCell, tag_of, cell_of, cell_count, lock_no, cell_at, row_at, tag_at, width_at, with_cell}

tag_of_held : (l : ℕ) → l < 64 → tag_of (5 + l) ≡ Held (lock_no l)
unfolding tag_of
tag_of_held l below = grind (arith, common_steps, nat_tests)

tag_of_field : (l : ℕ) → l < 64 → tag_of (69 + l) ≡ Field (lock_no l)
unfolding tag_of
tag_of_field l below = grind (arith, common_steps, nat_tests)

tag_of_new : (s : ℕ) → s < 64 → tag_of (133 + s) ≡ New s
unfolding tag_of
tag_of_new s below = grind (arith, common_steps, nat_tests)

-- the tag of a tag's cell is the tag
pub tag_again : (tag : Tag) → HasCell tag → tag_of (cell_of tag) ≡ tag
unfolding tag_of
tag_again Bot fits = refl
tag_again Zero fits = refl
tag_again Solid fits = refl
tag_again Any fits = refl
tag_again Mixed fits = refl
tag_again (Held l) fits = tag_of_held l.0 fits
tag_again (Field l) fits = tag_of_field l.0 fits
tag_again (New s) fits = tag_of_new s fits

-- ---- the tags of the cells below the count, with their cells
abbrev IsCellOf : ℕ → Tag → Type 0
IsCellOf cell tag = (cell_of tag ≡ cell) × HasCell tag

plain_cell : (cell : ℕ) → cell < 5 → IsCellOf cell (tag_of cell)
unfolding tag_of
plain_cell zero below = (refl, tt)
plain_cell (suc zero) below = (refl, tt)
plain_cell (suc (suc zero)) below = (refl, tt)
plain_cell (suc (suc (suc zero))) below = (refl, tt)
plain_cell (suc (suc (suc (suc zero)))) below = (refl, tt)
plain_cell (suc (suc (suc (suc (suc n))))) below = absurd (omega (arith, below))

held_cell : (cell : ℕ) → 5 ≤ cell → cell < 69 → IsCellOf cell (tag_of cell)
unfolding tag_of
held_cell cell above below = rw (le-ltb cell 5 above, lt-ltb cell 69 below) (omega (arith, above), omega (arith, below))

field_cell : (cell : ℕ) → 69 ≤ cell → cell < 133 → IsCellOf cell (tag_of cell)
unfolding tag_of
field_cell cell above below =
    rw (le-ltb cell 5 (omega (arith, above)), le-ltb cell 69 above, lt-ltb cell 133 below) (omega (arith, above), omega (arith, below))

new_cell : (cell : ℕ) → 133 ≤ cell → cell < cell_count → IsCellOf cell (tag_of cell)
unfolding tag_of
new_cell cell above below =
    rw (le-ltb cell 5 (omega (arith, above)), le-ltb cell 69 (omega (arith, above)), le-ltb cell 133 above) (omega (arith, above), omega (arith, below))

cell_both : (cell : ℕ) → cell < cell_count → IsCellOf cell (tag_of cell)
cell_both cell below =
    ⊎_elim (plain_cell cell) (λ past_plain.
    ⊎_elim (held_cell cell past_plain) (λ past_held.
    ⊎_elim (field_cell cell past_held) (λ past_field. new_cell cell past_field below)
    (cases_lt cell 133)) (cases_lt cell 69)) (cases_lt cell 5)

-- the cell of a cell's tag is the cell
pub cell_again : (cell : ℕ) → cell < cell_count → cell_of (tag_of cell) ≡ cell
cell_again cell below = (cell_both cell below).0

pub has_cell : (cell : ℕ) → cell < cell_count → HasCell (tag_of cell)
has_cell cell below = (cell_both cell below).1

-- the cells of a table are below the count
cell_here : (cells : List ℕ) (place : ℕ) → All (λ cell. cell < cell_count) cells → slice_index_or cells place 0 < cell_count
cell_here cells place below =
    ⊎_elim (λ (within : place < length cells). below place 0 within)
    (λ (past : length cells ≤ place). rw (get_or_past cells place 0 past) (omega arith)) (cases_lt place (length cells))

row_below : (table : TagParts) (m : ℕ) → IsTagTable table → All (λ cell. cell < cell_count) (slice_index_or table.cells m [])
row_below table m sound =
    ⊎_elim (λ (within : m < length table.cells). sound.cells m [] within)
    (λ (past : length table.cells ≤ m). rw (get_or_past table.cells m [] past) (λ i d lt. absurd (omega (arith, lt)))) (cases_lt m (length table.cells))

pub cell_below : (table : TagParts) (m place : ℕ) → IsTagTable table → cell_at table m place < cell_count
unfolding cell_at
cell_below table m place sound = cell_here _ place (row_below table m sound)

-- the row has a tag for each register, and one more
pub length-row_at : (table : TagParts) (m i : ℕ) → length (row_at table m i) ≡ width_at table m
unfolding row_at
length-row_at table m i = length-map-range_with_len (λ r. tag_of (cell_at table m (i * width_at table m + r))) 0 (width_at table m)

-- the same the other way round
pub row_at_width : (table : TagParts) (m i : ℕ) → width_at table m ≡ length (row_at table m i)
row_at_width table m i = sym (length-row_at table m i)

pub tag_within : (table : TagParts) (m i r : ℕ) → r < width_at table m → tag_at table m i r ≡ tag_of (cell_at table m (i * width_at table m + r))
unfolding row_at
tag_within table m i r within =
    get_or-map-range_with_len (λ r. tag_of (cell_at table m (i * width_at table m + r))) 0 (width_at table m) r r Bot within (omega arith)

pub tag_past : (table : TagParts) (m i r : ℕ) → width_at table m ≤ r → tag_at table m i r ≡ Bot
tag_past table m i r past = get_or_past (row_at table m i) r Bot (omega (arith, length-row_at table m i, past))

-- ---- a write of one cell
abbrev items_of : Vec ℕ Global → List ℕ
items_of v = v.items

-- a row that is there, as contracts see it
row_here : (rows : List (Vec ℕ Global)) (m place : ℕ) (v : Vec ℕ Global) → v ≡ slice_index_or rows m v → place < length (slice_index_or (map items_of rows) m [])
    → slice_index_or (map items_of rows) m [] ≡ v.items
row_here rows m place v is within =
    ⊎_elim (λ (here : m < length rows). get_or-map items_of rows m v [] here ∙ ap items_of (sym is))
    (λ (past : length rows ≤ m). absurd (let none = get_or_past (map items_of rows) m [] (omega (arith, length-map rows items_of, past)) in let below : place < 0 = rw none at within in omega arith))
    (cases_lt m (length rows))

pub put_row : (rows : List (Vec ℕ Global)) (m place cell : ℕ) (v : Vec ℕ Global) → v ≡ slice_index_or rows m v → place < length (slice_index_or (map items_of rows) m [])
    → map items_of (slice_set rows m (with_item v place cell)) ≡ slice_set (map items_of rows) m (slice_set (slice_index_or (map items_of rows) m []) place cell)
put_row rows m place cell v is within =
    map-set items_of rows m (with_item v place cell)
    ∙ ap (λ (row : List ℕ). slice_set (map items_of rows) m (slice_set row place cell)) (sym (row_here rows m place v is within))

abbrev AreCells : List ℕ → Type 0
AreCells cells = All (λ cell. cell < cell_count) cells

pub put_table : (table : TagParts) (m place cell : ℕ) → IsTagTable table → cell < cell_count → IsTagTable (with_cell table m place cell)
unfolding with_cell
put_table table m place cell sound below = record {
  methods = length-set table.cells m _ ∙ sound.methods;
  cells = All-set AreCells table.cells m _ (All-set (λ c. c < cell_count) (slice_index_or table.cells m []) place cell below (row_below table m sound)) sound.cells;
}

pub below_count : (tag : Tag) → HasCell tag → cell_of tag < cell_count
below_count Bot fits = omega arith
below_count Zero fits = omega arith
below_count Solid fits = omega arith
below_count Any fits = omega arith
below_count Mixed fits = omega arith
below_count (Held l) fits = omega (arith, fits)
below_count (Field l) fits = omega (arith, fits)
below_count (New s) fits = omega (arith, fits)
