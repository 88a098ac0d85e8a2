-- The table at the start, how many cells it has, and the table at the end.
use Rattle.std.proofs.Common.{◌≡◌, ℕ, suc, zero, ◌+◌, ◌*◌, ◌<◌, ◌≤◌, List, [], ◌∷◌, ◌++◌, length, get_or, map, replicate, Bool, false, if◌then◌else◌, refl, sym, ap, ◌∙◌, subst, ⊎_elim, arith}
use Rattle.std.specs.Prelude.{slice_get}
use Rattle.std.proofs.lemmas.Bool.{cases_Bool, cases_eq, cases_lt}
use Rattle.std.proofs.lemmas.List.{get_or-map, get_or_default, get_or_past, get_or-replicate, get_or_append_left, get_or_push, length-replicate, length_push, map-append}
use Rattle.std.proofs.lemmas.Option.{slice_get_cases}
use Rattle.std.specs.declared.alloc.Global.{Global}
use Rattle.std.specs.declared.vec.Vec.{Vec}
use Rattle.ns_base.specs.Answers.{limit_of}
use Rattle.ns_base.specs.declared.answers.Counted.TheVariants.{TagCells}
use Rattle.app_model.specs.CallGraph.{GraphParts}
use Rattle.app_model.specs.Components.{ComponentParts}
use Rattle.app_model.specs.Parts.{AppParts}
use Rattle.app_model.specs.TagTable.{IsTagTable, TagParts, cell_at, cell_total, cells_below, cells_of, tag_of, width_of}
use Rattle.app_model.specs.Words.{code_len}
use Rattle.app_model.specs.declared.rows.MethodRow.{MethodRow}
use Rattle.app_model.specs.declared.tag.Tag.TheVariants.{Bot}
use Rattle.act_model.specs.Tags.{bot_all}
use Rattle.flow_model.specs.TagFlow.{IsTagTableOf}
use Rattle.tag_flow.specs.Answers.{HasFew, IsCause}
use Rattle.tag_flow.specs.declared.fault.TagFault.TheVariants.{Limit}
use Rattle.tag_rows.specs.Cells.{IsTagOf, tag_there}
use Rattle.tag_flow.specs.Known.{IsClosed, IsKnown, KnownParts, is_gone, is_reached, row_width}
use Rattle.tag_flow.specs.State.{AreRows, IsEmpty, IsState, StateParts}
use Rattle.tag_flow.specs.Turns.{IsBelow}
use Rattle.tag_rows.proofs.Fits.{rows_fit}
use Rattle.tag_flow.proofs.Reached.{known_below}
use Rattle.tag_rows.proofs.Order.{grown_table}

-- ---- rows of Bot
pub rows_none : (k : KnownParts) → AreRows k 0 []
rows_none k = record { len = refl; each = λ m lt. absurd (omega (arith, lt)) }

pub rows_more : (k : KnownParts) (n : ℕ) (rows : List (List ℕ)) (cells : List ℕ) → AreRows k n rows → cells ≡ replicate (cells_of k.app (is_reached k) n) 0 → AreRows k (n + 1) (rows ++ cells ∷ [])
rows_more k n rows cells are is = record {
  len = length_push rows cells ∙ (let e = are.len in omega (arith, e));
  each = λ m lt. ⊎_elim
      (λ less. get_or_append_left rows (cells ∷ []) [] m (let e = are.len in omega (arith, e, less)) ∙ are.each m less)
      (λ le. (let at : m ≡ n = omega (arith, le, lt) in rw at (get_or_push rows cells [] n are.len ∙ is)))
      (cases_lt m n);
}

abbrev row_items : Vec ℕ Global → List ℕ
row_items v = v.items

pub rows_push : (k : KnownParts) (n : ℕ) (rows : List (Vec ℕ Global)) (v : Vec ℕ Global) → AreRows k n (map row_items rows) → v.items ≡ replicate (cells_of k.app (is_reached k) n) 0 → AreRows k (n + 1) (map row_items (rows ++ v ∷ []))
rows_push k n rows v are is = rw (map-append row_items rows (v ∷ [])) (rows_more k n (map row_items rows) v.items are is)

zero_in : (n place : ℕ) → ◌≡◌ {A = ℕ} (get_or (replicate n 0) place 0) 0
zero_in n place = ⊎_elim (λ lt. get_or-replicate n place 0 0 lt) (λ past. get_or_past (replicate n 0) place 0 (omega (arith, past, length-replicate {A = ℕ} n 0))) (cases_lt place n)

zero_cells : (k : KnownParts) (n : ℕ) (rows : List (List ℕ)) → AreRows k n rows → (m place : ℕ) → get_or (get_or rows m []) place 0 ≡ 0
zero_cells k n rows are m place = ⊎_elim
    (λ lt. ap (λ (row : List ℕ). get_or row place 0) (are.each m lt) ∙ zero_in (cells_of k.app (is_reached k) m) place)
    (λ past. ap (λ (row : List ℕ). get_or row place 0) (get_or_past rows m [] (omega (arith, past, are.len)))) (cases_lt m n)

pub rows_table : (k : KnownParts) (n : ℕ) (registers : List ℕ) (rows : List (List ℕ)) → AreRows k n rows → length registers ≡ n → IsTagTable (record { registers = registers; cells = rows })
rows_table k n registers rows are len = record {
  methods = are.len ∙ sym len;
  cells = λ m d lt place e within. (let low : get_or (get_or rows m d) place 0 ≡ 0 = subst (λ (row : List ℕ). get_or row place 0 ≡ 0) (same_row m d lt) (zero_cells k n rows are m place) in
      let here : get_or (get_or rows m d) place e ≡ 0 = sym (same_cell (get_or rows m d) place e within) ∙ low in omega (arith, here));
}
  where
    same_row : (m : ℕ) (d : List ℕ) → m < length rows → get_or rows m [] ≡ get_or rows m d
    same_row m d lt = get_or_default rows m [] d lt

    same_cell : (row : List ℕ) (place e : ℕ) → place < length row → get_or row place 0 ≡ get_or row place e
    same_cell row place e lt = get_or_default row place 0 e lt

-- ---- the state at the start
module _ (k : KnownParts) (known : IsKnown k) (s : StateParts) (table : IsEmpty k s.table) (answers : s.answers ≡ record { registers = 0 ∷ []; cells = replicate (length k.app.methods) 0 ∷ [] }) where
  table_bot : (m place : ℕ) → tag_there s.table m place ≡ Bot
  unfolding cell_at tag_of
  table_bot m place = ap tag_of (zero_cells k (length k.app.methods) s.table.cells table.rows m place)

  answer_bot : (m place : ℕ) → tag_there s.answers m place ≡ Bot
  unfolding cell_at tag_of
  answer_bot m place = ap (λ (t : TagParts). tag_of (cell_at t m place)) answers ∙ ap tag_of (in_one m)
    where
      in_one : (m : ℕ) → ◌≡◌ {A = ℕ} (get_or (get_or (replicate (length k.app.methods) 0 ∷ []) m []) place 0) 0
      in_one zero = zero_in (length k.app.methods) place
      in_one (suc m) = refl

  method_width : (m : ℕ) → m < length k.app.methods → width_of (slice_get k.app.methods m) ≡ row_width k.app m
  method_width m lt = ⊎_elim
      (λ h. ap width_of h.2 ∙ ap (λ n. n + 1) (sym (get_or-map (λ (one : MethodRow). one.registers) k.app.methods m h.0 0 lt ∙ ap (λ (one : MethodRow). one.registers) h.3)))
      (λ past. absurd (omega (arith, past.0, lt)))
      (slice_get_cases k.app.methods m).1

  row_lens : (m : ℕ) → length (get_or s.table.cells m []) ≡ (if is_reached k m then code_len k.app m * row_width k.app m else 0)
  row_lens m = ⊎_elim
      (λ lt. ap length (table.rows.each m lt) ∙ length-replicate {A = ℕ} (cells_of k.app (is_reached k) m) 0 ∙ ap (λ w. if is_reached k m then code_len k.app m * w else 0) (method_width m lt))
      (λ past. ap length (get_or_past s.table.cells m [] (omega (arith, past, table.rows.len))) ∙ ap (λ (b : Bool). if b then code_len k.app m * row_width k.app m else 0) (sym (unreached m past)))
      (cases_lt m (length k.app.methods))
    where
      unreached : (m : ℕ) → length k.app.methods ≤ m → is_reached k m ≡ false
      unreached m past = ⊎_elim
          (λ on. absurd (let lt = known_below k known m on in omega (arith, lt, past)))
          (λ off. off) (cases_Bool (is_reached k m))

  pub state_first : IsState k s
  state_first = record {
    registers = table.registers;
    rows = row_lens;
    answers = ap (λ (t : TagParts). length (get_or t.cells 0 [])) answers ∙ length-replicate {A = ℕ} (length k.app.methods) 0;
    tags = record { each = λ m place. subst (IsTagOf (length k.app.locks)) (sym (table_bot m place)) tt };
    answer_tags = record { each = λ m place. subst (IsTagOf (length k.app.locks)) (sym (answer_bot m place)) tt };
  }

  pub below_first : IsBelow k s
  below_first = record {
    cells = λ other same closed. record { registers = same; cells = λ m place. rw (table_bot m place) bot_all };
    answers = λ n top are. rw (answer_bot 0 n) bot_all;
  }

-- ---- the end
pub table_of : (k : KnownParts) (s : StateParts) → IsKnown k → IsState k s → IsBelow k s → IsClosed k s.table → IsTagTableOf k.app k.graph k.list s.table
table_of k s known state below closed = record {
  reached = is_reached k;
  reaches = known.reaches;
  gone = is_gone k;
  stores = known.stores;
  fits = record {
    registers = state.registers;
    rows = λ m. state.rows m ∙ ap (λ w. if is_reached k m then code_len k.app m * w else 0) (sym (ap (λ (rs : List ℕ). get_or rs m 0 + 1) state.registers));
    held = λ m i r l e. subst (IsTagOf (length k.app.locks)) e (rows_fit (length k.app.locks) s.table m i state.tags r);
    fields = λ m i r l e. subst (IsTagOf (length k.app.locks)) e (rows_fit (length k.app.locks) s.table m i state.tags r);
  };
  least = record { closed = closed; least = λ other same is. grown_table s.table other (below.cells other same is) };
}

-- ---- counting
pub total_rises : (app : AppParts) (reached : ℕ → Bool) (m n : ℕ) → m ≤ n → cells_below app reached m ≤ cells_below app reached n
total_rises app reached m zero le = let at : m ≡ 0 = omega (arith, le) in rw at (omega arith)
total_rises app reached m (suc n) le = ⊎_elim
    (λ at. rw at (omega arith))
    (λ ne. (let before = total_rises app reached m n (omega (arith, le, ne)) in omega (arith, before)))
    (cases_eq m (suc n))

pub total_more : (app : AppParts) (reached : ℕ → Bool) (m : ℕ) → cells_below app reached (m + 1) ≡ cells_below app reached m + cells_of app reached m
total_more app reached m = let e : m + 1 ≡ suc m = omega arith in rw e refl

-- ---- what is told of the count
pub few_of : (k : KnownParts) (app : AppParts) (graph : GraphParts) (list : List ComponentParts) → IsKnown k → k.app ≡ app → k.graph ≡ graph → k.list ≡ list → cell_total k.app (is_reached k) ≤ limit_of TagCells → HasFew app graph list
few_of k app graph list known a g l few = rw (← a, ← g, ← l) (cell_total k.app (is_reached k), record { reached = is_reached k; reaches = known.reaches; count = refl }, few)

pub cause_of : (k : KnownParts) (app : AppParts) (graph : GraphParts) (list : List ComponentParts) → IsKnown k → k.app ≡ app → k.graph ≡ graph → k.list ≡ list → (cell_total k.app (is_reached k) ≤ limit_of TagCells → ⊥) → IsCause app graph list (Limit TagCells)
cause_of k app graph list known a g l many = rw (← a, ← g, ← l) (refl, (cell_total k.app (is_reached k), record { reached = is_reached k; reaches = known.reaches; count = refl }, ⊎_elim (λ lt. lt) (λ le. absurd (many le)) (cases_lt (limit_of TagCells) (cell_total k.app (is_reached k)))))
