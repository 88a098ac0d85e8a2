-- What a write to one cell does to a table.
use Rattle.std.proofs.Common.{◌≡◌, Bool, ◌≢◌, ℕ, ◌<◌, ◌≤◌, List, [], true, false, length, get_or, set, refl, sym, ap, ◌∙◌, inl, inr, ⊎_elim, arith, length-set}
use Rattle.std.specs.Prelude.{◌⊎◌}
use Rattle.std.proofs.lemmas.Bool.{cases_eq, cases_lt, true≢false, false≢true}
use Rattle.std.proofs.lemmas.List.{get_or-set_same, get_or-set_other, get_or_past}
use Rattle.std.proofs.lemmas.List.Sums.{sum_by-set}
use Rattle.app_model.specs.TagTable.{HasCell, TagParts, cell_at, cell_of, tag_of, with_cell}
use Rattle.app_model.specs.declared.tag.Tag.{Tag}
use Rattle.app_model.specs.declared.tag.Tag.TheVariants.{Bot, Zero, Solid, Held, Any, Field, New, Mixed}
use Rattle.app_model.proofs.Cells.{tag_again}
use Rattle.act_model.specs.Tags.{Under, itself, bot_all, zero_any, solid_any, held_any, all_mixed, IsJoin}
use Rattle.tag_rows.specs.Cells.{Grows, IsTagOf, Joins, cells_len, height, room, row_room, tag_there}
use Rattle.tag_rows.proofs.Order.{grows_same}

-- a tag that rises has less to rise
pub height_falls : {a b : Tag} → Under a b → a ≢ b → height b < height a
height_falls itself ne = absurd (ne refl)
height_falls (bot_all {t = Bot}) ne = absurd (ne refl)
height_falls (bot_all {t = Zero}) ne = omega arith
height_falls (bot_all {t = Solid}) ne = omega arith
height_falls (bot_all {t = Held l}) ne = omega arith
height_falls (bot_all {t = Any}) ne = omega arith
height_falls (bot_all {t = Field l}) ne = omega arith
height_falls (bot_all {t = New s}) ne = omega arith
height_falls (bot_all {t = Mixed}) ne = omega arith
height_falls zero_any ne = omega arith
height_falls solid_any ne = omega arith
height_falls held_any ne = omega arith
height_falls (all_mixed {t = Bot}) ne = omega arith
height_falls (all_mixed {t = Zero}) ne = omega arith
height_falls (all_mixed {t = Solid}) ne = omega arith
height_falls (all_mixed {t = Held l}) ne = omega arith
height_falls (all_mixed {t = Any}) ne = omega arith
height_falls (all_mixed {t = Field l}) ne = omega arith
height_falls (all_mixed {t = New s}) ne = omega arith
height_falls (all_mixed {t = Mixed}) ne = absurd (ne refl)

-- a join is one of the two, or Any, or Mixed: what holds of these holds of it
bot_least : (P : Tag → Type 0) (a : Tag) → P Bot → Under a Bot → P a
bot_least P _ h itself = h
bot_least P _ h bot_all = h

right_kept : (P : Tag → Type 0) (b j : Tag) → P Any → P Mixed → P Bot → P b → Under b j → (Under Bot Bot → Under b Bot → Under j Bot) → P j
right_kept P _ _ any mixed bot pb itself least = pb
right_kept P _ j any mixed bot pb bot_all least = bot_least P j bot (least itself itself)
right_kept P _ _ any mixed bot pb zero_any least = any
right_kept P _ _ any mixed bot pb solid_any least = any
right_kept P _ _ any mixed bot pb held_any least = any
right_kept P _ _ any mixed bot pb all_mixed least = mixed

left_kept : (P : Tag → Type 0) (a b j : Tag) → P Any → P Mixed → P a → P b → Under a j → Under b j → ((t : Tag) → Under a t → Under b t → Under j t) → P j
left_kept P _ b _ any mixed pa pb itself right least = pa
left_kept P _ b j any mixed pa pb bot_all right least = right_kept P b j any mixed pa pb right (least Bot)
left_kept P _ b _ any mixed pa pb zero_any right least = any
left_kept P _ b _ any mixed pa pb solid_any right least = any
left_kept P _ b _ any mixed pa pb held_any right least = any
left_kept P _ b _ any mixed pa pb all_mixed right least = mixed

pub join_kept : (P : Tag → Type 0) (a b j : Tag) → P Any → P Mixed → IsJoin a b j → P a → P b → P j
join_kept P a b j any mixed join pa pb = left_kept P a b j any mixed pa pb join.left join.right join.least

-- a tag of an application has a cell
pub tag_has_cell : (locks : ℕ) (tag : Tag) → locks ≤ 64 → IsTagOf locks tag → HasCell tag
tag_has_cell locks (Held l) few is = omega (arith, few, is)
tag_has_cell locks (Field l) few is = omega (arith, few, is)
tag_has_cell locks (New s) few is = is
tag_has_cell locks Bot few is = tt
tag_has_cell locks Zero few is = tt
tag_has_cell locks Solid few is = tt
tag_has_cell locks Any few is = tt
tag_has_cell locks Mixed few is = tt

-- a cell that is there is in a row that is there
pub row_in : (t : TagParts) (m k : ℕ) → k < cells_len t m → m < length t.cells
row_in t m k lt = ⊎_elim (λ l. l) (λ past. absurd (let e = get_or_past t.cells m [] past in let h : k < 0 = rw e at lt in omega arith)) (cases_lt m (length t.cells))

module _ (t : TagParts) (m k : ℕ) (x : Tag) (fits : HasCell x) (in_k : k < cells_len t m) where
  abbrev wrote : TagParts
  wrote = with_cell t m k (cell_of x)

  put_same : tag_there wrote m k ≡ x
  unfolding cell_at with_cell
  put_same =
      ap (λ (row : List ℕ). tag_of (get_or row k 0)) (get_or-set_same t.cells m (set (get_or t.cells m []) k (cell_of x)) [] (row_in t m k in_k))
      ∙ ap tag_of (get_or-set_same (get_or t.cells m []) k (cell_of x) 0 in_k) ∙ tag_again x fits

  put_cases : (n j : ℕ) → ((n ≡ m) × (j ≡ k)) ⊎ (tag_there wrote n j ≡ tag_there t n j)
  unfolding cell_at with_cell
  put_cases n j =
      let row = set (get_or t.cells m []) k (cell_of x) in
      let here : n ≡ m → ((n ≡ m) × (j ≡ k)) ⊎ (tag_of (get_or (get_or (set t.cells m row) n []) j 0) ≡ tag_of (get_or (get_or t.cells n []) j 0)) = λ em.
      ⊎_elim (λ ej. inl (em, ej)) (λ nj. inr (rw em (ap (λ (r : List ℕ). tag_of (get_or r j 0)) (get_or-set_same t.cells m row [] (row_in t m k in_k)) ∙ ap tag_of (get_or-set_other (get_or t.cells m []) k j (cell_of x) 0 nj)))) (cases_eq j k) in
      ⊎_elim here (λ nm. inr (ap (λ (r : List ℕ). tag_of (get_or r j 0)) (get_or-set_other t.cells m n row [] nm))) (cases_eq n m)

  put_len : (n : ℕ) → cells_len wrote n ≡ cells_len t n
  unfolding with_cell
  put_len n =
      let row = set (get_or t.cells m []) k (cell_of x) in
      ⊎_elim (λ em. rw em (ap length (get_or-set_same t.cells m row [] (row_in t m k in_k)) ∙ length-set (get_or t.cells m []) k (cell_of x))) (λ nm. ap length (get_or-set_other t.cells m n row [] nm)) (cases_eq n m)

  put_registers : wrote.registers ≡ t.registers
  unfolding with_cell
  put_registers = refl

  put_falls : height x < height (tag_there t m k) → room wrote < room t
  unfolding room cell_at with_cell
  put_falls less =
      let row = set (get_or t.cells m []) k (cell_of x) in
      let inner = sum_by-set (λ (cell : ℕ). height (tag_of cell)) (get_or t.cells m []) k (cell_of x) 0 in_k in
      let outer = sum_by-set row_room t.cells m row [] (row_in t m k in_k) in
      let is = ap height (tag_again x fits) in
      omega arith

  pub put_joins : (tag : Tag) → IsJoin (tag_there t m k) tag x → x ≢ tag_there t m k → Joins t m k tag wrote true
  put_joins tag join ne = record {
    above = rw put_same join.right;
    grows = record {
      registers = put_registers;
      cells = λ n j. ⊎_elim (λ same. rw (same.0, same.1, put_same) join.left) (λ other. rw other itself) (put_cases n j);
    };
    least = λ n j top old here. ⊎_elim (λ same. rw (same.0, same.1, put_same) (join.least _ (rw (same.0, same.1) at old) (here same.0 same.1))) (λ other. rw other old) (put_cases n j);
    len = put_len;
    tags = λ locks are is. record {
      each = λ n j. ⊎_elim
          (λ same. rw (same.0, same.1, put_same) (join_kept (IsTagOf locks) (tag_there t m k) tag x tt tt join (are.each m k) is))
          (λ other. rw other (are.each n j)) (put_cases n j);
    };
    same = λ e. absurd (true≢false e);
    falls = λ e. put_falls (height_falls join.left (λ e. ne (sym e)));
  }

pub none_joins : (t : TagParts) (m k : ℕ) (tag x : Tag) → IsJoin (tag_there t m k) tag x → x ≡ tag_there t m k → Joins t m k tag t false
none_joins t m k tag x join is = record {
  above = rw is at join.right;
  grows = grows_same t;
  least = λ n j top old here. old;
  len = λ n. refl;
  tags = λ locks are is. are;
  same = λ e. refl;
  falls = λ e. absurd (false≢true e);
}

-- a table that is above the old one, and above the tag in the cell, is above the new one
pub joins_least : (old new : TagParts) (m k : ℕ) (tag : Tag) (moved : Bool) (u : TagParts) → Joins old m k tag new moved → Grows old u → Under tag (tag_there u m k) → Grows new u
joins_least old new m k tag moved u joins under above = record {
  registers = under.registers ∙ sym joins.grows.registers;
  cells = λ n j. joins.least n j (tag_there u n j) (under.cells n j) (λ en ej. rw (en, ej) above);
}
