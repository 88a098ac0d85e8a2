-- Joins into a method's cells, and runs of them.
use Rattle.std.proofs.Common.{◌≡◌, ◌≢◌, ℕ, zero, suc, ◌+◌, ◌-◌, ◌*◌, ◌<◌, ◌≤◌, List, [], Bool, true, false, length, get_or, set, refl, sym, ap, ◌∙◌, subst, ⊎_elim, arith, length-set, map, take, drop, ◌++◌}
use Rattle.std.proofs.Math.Seq.{take-append_seam}
use Rattle.std.specs.List.{slice_range}
use Rattle.std.specs.Vec.{with_items}
use Rattle.std.specs.declared.alloc.Global.{Global}
use Rattle.std.specs.declared.vec.Vec.{Vec}
use Rattle.std.proofs.lemmas.List.Elements.{All-set}
use Rattle.std.proofs.lemmas.Bool.{cases_lt}
use Rattle.std.proofs.lemmas.List.{get_or-drop, get_or-map, get_or_past, get_or-set_same, get_or-take, length-drop, length-map, length-take-le, same_lists, map-set, set-get_or, set-set}
use Rattle.std.proofs.lemmas.List.FromFn.{get_or-map-range_with_len}
use Rattle.app_model.specs.TagTable.{IsTagTable, TagParts, cell_at, cell_count, cell_of, row_at, tag_of, width_at, with_cell}
use Rattle.app_model.specs.declared.tag.Tag.{Tag}
use Rattle.app_model.specs.declared.tag.Tag.TheVariants.{Bot}
use Rattle.app_model.proofs.Cells.{cell_again, has_cell, length-row_at}
use Rattle.tag_rows.specs.declared.runs.Pair.{Pair}
use Rattle.tag_rows.specs.Cells.{Joins, tag_there}
use Rattle.tag_rows.specs.Runs.{AreCells, AreJoined, JoinsIn, stays, rises, RunIn, no_cell, next_cell, Runs, no_step, next_step, tag_of_place}
use Rattle.tag_rows.proofs.Cells.{none_joins, put_joins}
use Rattle.act_model.specs.Tags.{IsJoin}
use Rattle.tag_rows.proofs.Plain.{bot_cell, join_bot, join_same, tags_differ}

pub cell_in : (cells : List ℕ) (place : ℕ) → AreCells cells → get_or cells place 0 < cell_count
cell_in cells place are =
    ⊎_elim (λ (within : place < length cells). are place 0 within)
    (λ (past : length cells ≤ place). rw (get_or_past cells place 0 past) (omega arith)) (cases_lt place (length cells))

-- a cell of Bot takes the other one
pub takes : (cells : List ℕ) (place cell : ℕ) → get_or cells place 0 ≡ 0 → cell < cell_count → cell ≢ get_or cells place 0 → JoinsIn cells place (tag_of cell) (set cells place cell) true
takes cells place cell none fits differ =
    let bot : tag_of (get_or cells place 0) ≡ Bot = ap tag_of none ∙ bot_cell in
    let other : tag_of cell ≢ tag_of (get_or cells place 0) = tags_differ cell (get_or cells place 0) fits (rw none (omega arith)) differ in
    subst (λ n. JoinsIn cells place (tag_of cell) (set cells place n) true) (cell_again cell fits)
    (rises (tag_of cell) (has_cell cell fits) (rw bot (join_bot (tag_of cell))) other)

-- a cell takes another one that is above it
pub raises : (cells : List ℕ) (place cell joined : ℕ) → joined < cell_count → get_or cells place 0 < cell_count
    → IsJoin (tag_of (get_or cells place 0)) (tag_of cell) (tag_of joined) → joined ≢ get_or cells place 0 → JoinsIn cells place (tag_of cell) (set cells place joined) true
raises cells place cell joined fits low join differ =
    subst (λ n. JoinsIn cells place (tag_of cell) (set cells place n) true) (cell_again joined fits)
    (rises (tag_of joined) (has_cell joined fits) join (tags_differ joined (get_or cells place 0) fits low differ))

-- where nothing was to do, a run changes nothing
pub joined_run : (pair : Pair) (start n end : ℕ) (cells : List ℕ) → start + n ≡ end → AreJoined pair start end cells → RunIn pair start cells end cells false
joined_run pair start zero end cells is joined = subst (λ e. RunIn pair start cells e cells false) (omega (arith, is)) no_cell
joined_run pair start (suc n) end cells is joined =
    let at = joined (start + n) (omega arith) (omega (arith, is)) in
    subst (λ e. RunIn pair start cells e cells false) (omega (arith, is))
    (next_cell (start + n) cells cells false false (joined_run pair start n (start + n) cells refl (λ r low high. joined r low (omega (arith, high, is)))) at.0
    (stays (rw at.1 (join_same (tag_of_place cells (pair.to + (start + n)))))))

-- equal ranges of cells, place by place
pub equal_cells : (cells : List ℕ) (a b start end : ℕ) → slice_range cells (a + start) (a + end) ≡ slice_range cells (b + start) (b + end) → (r : ℕ) → start ≤ r → r < end
    → get_or cells (a + r) 0 ≡ get_or cells (b + r) 0
equal_cells cells a b start end same r low high = sym (at a) ∙ ap (λ (part : List ℕ). get_or part (r - start) 0) same ∙ at b
  where
    at : (c : ℕ) → get_or (slice_range cells (c + start) (c + end)) (r - start) 0 ≡ get_or cells (c + r) 0
    at c = get_or-take (c + end - (c + start)) (drop (c + start) cells) (r - start) 0 (omega (arith, low, high)) ∙ get_or-drop (c + start) cells (r - start) 0
        ∙ ap (λ n. get_or cells n 0) (omega (arith, low))

-- ---- the same in a table
abbrev pub with_row : TagParts → (m : ℕ) → List ℕ → TagParts
with_row t m cells = record { registers = t.registers; cells = set t.cells m cells }

module _ (t : TagParts) (m : ℕ) (there : m < length t.cells) where
  row_same : (cells : List ℕ) → get_or (with_row t m cells).cells m [] ≡ cells
  row_same cells = get_or-set_same t.cells m cells [] there

  row_tag : (cells : List ℕ) (k : ℕ) → tag_there (with_row t m cells) m k ≡ tag_of_place cells k
  unfolding cell_at
  row_tag cells k = ap (λ (row : List ℕ). tag_of (get_or row k 0)) (row_same cells)

  row_wrote : (cells : List ℕ) (k cell : ℕ) → with_cell (with_row t m cells) m k cell ≡ with_row t m (set cells k cell)
  unfolding with_cell
  row_wrote cells k cell =
      ap (λ (rows : List (List ℕ)). let u : TagParts = record { registers = t.registers; cells = rows } in u)
      (ap (λ (row : List ℕ). set (set t.cells m cells) m (set row k cell)) (row_same cells) ∙ set-set t.cells m cells (set cells k cell))

  joins_there : (old : List ℕ) (k : ℕ) (tag : Tag) (new : List ℕ) (x : Bool) → k < length old → JoinsIn old k tag new x → Joins (with_row t m old) m k tag (with_row t m new) x
  joins_there old k tag _ _ lt (stays join) = none_joins (with_row t m old) m k tag (tag_of_place old k) (rw (row_tag old k) join) (sym (row_tag old k))
  joins_there old k tag _ _ lt (rises x fits join ne) =
      subst (λ (u : TagParts). Joins (with_row t m old) m k tag u true) (row_wrote old k (cell_of x))
      (put_joins (with_row t m old) m k x fits (rw (row_same old) lt) tag (rw (row_tag old k) join) (λ e. ne (e ∙ row_tag old k)))

  joined_len : (old : List ℕ) (k : ℕ) (tag : Tag) (new : List ℕ) (x : Bool) → JoinsIn old k tag new x → length new ≡ length old
  joined_len old k tag _ _ (stays join) = refl
  joined_len old k tag _ _ (rises x fits join ne) = length-set old k (cell_of x)

  run_len : (pair : Pair) (start : ℕ) (old : List ℕ) (end : ℕ) (new : List ℕ) (x : Bool) → RunIn pair start old end new x → length new ≡ length old
  run_len pair start old _ _ _ no_cell = refl
  run_len pair start old _ _ _ (next_cell r mid new x y run kept joins) = joined_len mid _ _ new y joins ∙ run_len pair start old r mid x run

  runs_there : (pair : Pair) (start : ℕ) (old : List ℕ) (end : ℕ) (new : List ℕ) (x : Bool) → end ≤ pair.width → pair.to + pair.width ≤ length old → RunIn pair start old end new x
      → Runs pair m start (with_row t m old) end (with_row t m new) x
  runs_there pair start old _ _ _ le fits no_cell = no_step
  runs_there pair start old _ _ _ le fits (next_cell r mid new x y run kept joins) =
      let same = row_tag mid (pair.from + r) in
      let len = run_len pair start old r mid x run in
      next_step r (with_row t m mid) (with_row t m new) x y (runs_there pair start old r mid x (omega (arith, le)) fits run) (rw same kept)
      (rw same (joins_there mid (pair.to + r) (tag_of_place mid (pair.from + r)) new y (omega (arith, le, fits, len)) joins))

-- in a row of the table itself: a join, and a run
module _ (t : TagParts) (m : ℕ) (there : m < length t.cells) where
  abbrev own : List ℕ
  own = get_or t.cells m []

  row_back : with_row t m own ≡ t
  row_back = ap (λ (rows : List (List ℕ)). let u : TagParts = record { registers = t.registers; cells = rows } in u) (set-get_or t.cells m [])

  pub joins_in : (k : ℕ) (tag : Tag) (new : List ℕ) (x : Bool) → k < length own → JoinsIn own k tag new x → Joins t m k tag (with_row t m new) x
  joins_in k tag new x lt joins = subst (λ (u : TagParts). Joins u m k tag (with_row t m new) x) row_back (joins_there t m there own k tag new x lt joins)

  pub runs_in : (pair : Pair) (start end : ℕ) (new : List ℕ) (x : Bool) → end ≤ pair.width → pair.to + pair.width ≤ length own → RunIn pair start own end new x → Runs pair m start t end (with_row t m new) x
  runs_in pair start end new x le fits run = subst (λ (u : TagParts). Runs pair m start u end (with_row t m new) x) row_back (runs_there t m there pair start own end new x le fits run)

-- the tags of a row that lies in a method's cells
pub row_cells : (t : TagParts) (m i w : ℕ) → w ≡ width_at t m → i * w + w ≤ length (get_or t.cells m []) → map tag_of (slice_range (get_or t.cells m []) (i * w) (i * w + w)) ≡ row_at t m i
unfolding row_at cell_at
row_cells t m i w is le = same_lists _ _ (len ∙ is ∙ sym (length-row_at t m i)) (λ k d lt. at k d (omega (arith, lt, len)))
  where
    part : List ℕ
    part = slice_range (get_or t.cells m []) (i * w) (i * w + w)

    part_len : length part ≡ w
    part_len = length-take-le (i * w + w - i * w) (drop (i * w) (get_or t.cells m [])) (let l = length-drop (i * w) (get_or t.cells m []) in omega (arith, l, le)) ∙ omega arith

    len : length (map tag_of part) ≡ w
    len = length-map part tag_of ∙ part_len

    at : (k : ℕ) (d : Tag) → k < w → get_or (map tag_of part) k d ≡ get_or (row_at t m i) k d
    at k d lt = get_or-map tag_of part k 0 d (omega (arith, lt, part_len))
        ∙ ap tag_of (get_or-take (i * w + w - i * w) (drop (i * w) (get_or t.cells m [])) k 0 (omega (arith, lt)) ∙ get_or-drop (i * w) (get_or t.cells m []) k 0 ∙ ap (λ n. get_or (get_or t.cells m []) (i * n + k) 0) is)
        ∙ sym (get_or-map-range_with_len (λ r. tag_of (cell_at t m (i * width_at t m + r))) 0 (width_at t m) k k d (rw (← is) lt) (omega arith))

-- ---- a row of the vectors that hold a table
abbrev pub items_of : Vec ℕ Global → List ℕ
items_of v = v.items

pub row_items : (rows : List (Vec ℕ Global)) (m : ℕ) (v : Vec ℕ Global) → v ≡ get_or rows m v → m < length (map items_of rows) → get_or (map items_of rows) m [] ≡ v.items
row_items rows m v is lt = get_or-map items_of rows m v [] (let len = length-map rows items_of in omega (arith, lt, len)) ∙ ap items_of (sym is)

pub rows_wrote : (rows : List (Vec ℕ Global)) (m : ℕ) (v : Vec ℕ Global) (new : List ℕ) → length new ≡ length v.items → map items_of (set rows m (with_items v new)) ≡ set (map items_of rows) m new
rows_wrote rows m v new len =
    let same : v.len ≡ length new = omega (arith, len, v.ok.0) in
    let cut : take v.len (new ++ drop (length new) v.items) ≡ new = rw same (take-append_seam new (drop (length new) v.items)) in
    map-set items_of rows m (with_items v new) ∙ ap (λ (row : List ℕ). set (map items_of rows) m row) cut

pub row_table : (t : TagParts) (m : ℕ) (new : List ℕ) → IsTagTable t → AreCells new → IsTagTable (with_row t m new)
row_table t m new sound are = record { methods = length-set t.cells m new ∙ sound.methods; cells = All-set AreCells t.cells m new are sound.cells }

pub row_are : (t : TagParts) (m : ℕ) → m < length t.cells → IsTagTable t → AreCells (get_or t.cells m [])
row_are t m there sound = sound.cells m [] there
