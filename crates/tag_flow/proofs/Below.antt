-- Each join leaves the table under every closed one.
use Rattle.std.proofs.Common.{◌≡◌, ℕ, List, ◌+◌, ◌*◌, ◌<◌, pred, Bool, false, Some, length, map, set, get_or, refl, sym, ap, ap₂, ◌∙◌, subst, ⊎_elim, arith, Contains, length-set, if◌then◌else◌}
use Rattle.std.proofs.lemmas.Bool.{cases_Bool, cases_eq, cases_lt, true≢false}
use Rattle.std.proofs.lemmas.List.{get_or-set_same, get_or-set_other, get_or_past, length-map}
use Rattle.ns_base.specs.declared.rows.MethodNo.{MethodNo}
use Rattle.app_model.specs.CallGraph.{callees_at}
use Rattle.app_model.specs.Masks.{in_lock_mask}
use Rattle.app_model.specs.TagTable.{TagParts, row_at, tag_at, width_at}
use Rattle.app_model.specs.Words.{code_len, successor_at}
use Rattle.app_model.specs.declared.tag.Tag.{Tag}
use Rattle.app_model.specs.declared.tag.Tag.TheVariants.{Bot, Zero, Solid, Held, Any, Field, New, Mixed}
use Rattle.app_model.proofs.Cells.{length-row_at, tag_within}
use Rattle.act_model.specs.Acts.{act_at}
use Rattle.act_model.specs.Changes.{called, called_change, tag_in}
use Rattle.act_model.specs.Tags.{Under, bot_all}
use Rattle.act_model.specs.declared.act.Act.{Act}
use Rattle.act_model.specs.declared.act.Act.TheVariants.{Return}
use Rattle.act_model.specs.declared.act.Returned.{Returned}
use Rattle.flow_model.specs.TagFlow.{begins, goes_on, back_from_outside, throws, enters, passes_call, comes_back, throws_out, IsLive, answered, is_call, only_result, without_result}
use Rattle.tag_rows.specs.declared.change.Change.{Change}
use Rattle.tag_flow.specs.declared.known.Spot.{Spot}
use Rattle.tag_flow.specs.declared.calling.Handing.{Handing}
use Rattle.tag_flow.specs.declared.passing.Step.{Step}
use Rattle.tag_rows.specs.Cells.{Grows, IsTagOf, Joins, room, tag_there}
use Rattle.tag_flow.specs.Known.{Flows, IsClosed, KnownParts, is_gone, registers_of, row_width}
use Rattle.tag_flow.specs.State.{IsSource, IsSpot, IsState, StateParts, answer_of, row_of, state_room}
use Rattle.tag_flow.specs.Turns.{AreAnswersUnder, Begins, Enters, IsBelow, IsStep, IsUnion, Leads, leads_after, leads_thrown, leads_past, leads_out, Turn}
use Rattle.tag_rows.specs.Changes.{changed}
use Rattle.tag_flow.specs.Goals.{AnswerAt, CellUnder, GaveBack, begun_row, entering_row, row_after}
use Rattle.tag_rows.proofs.Cells.{joins_least}
use Rattle.tag_rows.proofs.Monotone.{answered_under, map_tag, monotone}
use Rattle.tag_rows.proofs.Order.{grown_table, grown_rows, grows_same, live_under, tag_under, under_trans}
use Rattle.tag_flow.proofs.Reached.{entry_callback}

-- ---- a mask of all callees says of each tag what some callee does
union_tag : (k : KnownParts) (m i gone : ℕ) → IsUnion k m i gone → (t : Tag) → (n : MethodNo) × Contains (callees_at k.graph m i) n × (called_change (in_lock_mask gone) t ≡ called_change (is_gone k n.0) t)
union_tag k m i gone union (Field l) = ⊎_elim
    (λ on. (let by = union.only l.0 on in (by.0, by.1, same (on ∙ sym by.2))))
    (λ off. (let by = union.some_callee in (by.0, by.1, same (off ∙ sym (not_gone by.0 by.1 off)))))
    (cases_Bool (in_lock_mask gone l.0))
  where
    same : {a b : Bool} → a ≡ b → (if a then Mixed else Field l) ≡ (if b then Mixed else Field l)
    same e = ap (λ (b : Bool). if b then Mixed else Field l) e

    not_gone : (n : MethodNo) → Contains (callees_at k.graph m i) n → in_lock_mask gone l.0 ≡ false → is_gone k n.0 l.0 ≡ false
    not_gone n there off = ⊎_elim (λ on. absurd (true≢false (sym (union.all n l.0 there on) ∙ off))) (λ same. same) (cases_Bool (is_gone k n.0 l.0))
union_tag k m i gone union Bot = (union.some_callee.0, union.some_callee.1, refl)
union_tag k m i gone union Zero = (union.some_callee.0, union.some_callee.1, refl)
union_tag k m i gone union Solid = (union.some_callee.0, union.some_callee.1, refl)
union_tag k m i gone union (Held l) = (union.some_callee.0, union.some_callee.1, refl)
union_tag k m i gone union Any = (union.some_callee.0, union.some_callee.1, refl)
union_tag k m i gone union (New s) = (union.some_callee.0, union.some_callee.1, refl)
union_tag k m i gone union Mixed = (union.some_callee.0, union.some_callee.1, refl)

set_tags : (xs ys : List Tag) (c r : ℕ) → length xs ≡ length ys → tag_in xs r ≡ tag_in ys r → tag_in (set xs c Bot) r ≡ tag_in (set ys c Bot) r
set_tags xs ys c r len same = ⊎_elim
    (λ is. ⊎_elim
    (λ lt. rw is (get_or-set_same xs c Bot Bot lt ∙ sym (get_or-set_same ys c Bot Bot (omega (arith, lt, len)))))
    (λ past. get_or_past (set xs c Bot) r Bot (rw length-set (omega (arith, past, is))) ∙ sym (get_or_past (set ys c Bot) r Bot (rw length-set (omega (arith, past, is, len)))))
    (cases_lt c (length xs)))
    (λ ne. get_or-set_other xs c r Bot Bot ne ∙ same ∙ sym (get_or-set_other ys c r Bot Bot ne))
    (cases_eq r c)

called_tags : (f g : ℕ → Bool) (row : List Tag) (r : ℕ) → called_change f (tag_in row r) ≡ called_change g (tag_in row r) → tag_in (called f row) r ≡ tag_in (called g row) r
called_tags f g row r same = map_tag (called_change f) row r refl ∙ same ∙ sym (map_tag (called_change g) row r refl)

past_tags : (f g : ℕ → Bool) (row : List Tag) (r : ℕ) → called_change f (tag_in row r) ≡ called_change g (tag_in row r) → tag_in (without_result (called f row)) r ≡ tag_in (without_result (called g row)) r
past_tags f g row r same =
    let one = length-map row (called_change f) in
    let two = length-map row (called_change g) in
    rw (one, two) (set_tags (called f row) (called g row) (pred (length row)) r (one ∙ sym two) (called_tags f g row r same))

module _ (k : KnownParts) where
  abbrev locks : ℕ
  locks = length k.app.locks

  -- each cell of a change has the tag of a row that flows
  pub leads_flow : (t : TagParts) (m i j : ℕ) (change : Change) → Leads k m i j change → IsLive (row_at t m i) → (r : ℕ)
      → (row : List Tag) × Flows k t m j row × (tag_in (changed change (row_at t m i)) r ≡ tag_in row r)
  leads_flow t m i j _ (leads_after x a site is leads outside same to) live r = ⊎_elim
      (λ call. (_, back_from_outside i x a is call (outside call) to live, ap (λ (row : List Tag). tag_in row r) (same (row_at t m i))))
      (λ no_call. (_, goes_on i x a is leads no_call to live, ap (λ (row : List Tag). tag_in row r) (same (row_at t m i))))
      (cases_Bool (is_call a))
  leads_flow t m i j _ (leads_thrown x a is can to) live r = (_, throws i x a is can to live, refl)
  leads_flow t m i j _ (leads_past x gone union to) live r =
      let by = union_tag k m i gone union (tag_in (row_at t m i) r) in
      (_, passes_call i x by.0 by.1 to live, past_tags (in_lock_mask gone) (is_gone k by.0.0) (row_at t m i) r by.2)
  leads_flow t m i j _ (leads_out x gone union to) live r =
      let by = union_tag k m i gone union (tag_in (row_at t m i) r) in
      (_, throws_out i x by.0 by.1 to live, called_tags (in_lock_mask gone) (is_gone k by.0.0) (row_at t m i) r by.2)

  -- what flows in a table is under each closed table above it
  closed_any : (u : TagParts) → IsClosed k u → (m j : ℕ) (row : List Tag) → Flows k u m j row → j < code_len k.app m → (r : ℕ) → Under (tag_in row r) (tag_at u m j r)
  closed_any u closed m j row flow within r = ⊎_elim (λ lt. closed.by flow within r lt) (λ past. rw (get_or_past row r Bot past) bot_all) (cases_lt r (length row))

  flow_under : (t u : TagParts) → Grows t u → IsClosed k u → (m j : ℕ) (row : List Tag) → Flows k t m j row → j < code_len k.app m → (r : ℕ) → Under (tag_in row r) (tag_at u m j r)
  flow_under t u grows closed m j row flow within r =
      let more = monotone k.app k.graph k.list (is_gone k) t u (sym grows.registers) (grown_table t u grows) m j row flow in
      under_trans (tag_under more.2 r) (closed_any u closed m j more.0 more.1 within r)

  tag_place : (u : TagParts) (m j w r : ℕ) → u.registers ≡ registers_of k.app → w ≡ row_width k.app m → r < w → tag_at u m j r ≡ tag_there u m (j * w + r)
  tag_place u m j w r same is lt =
      let width : width_at u m ≡ w = ap (λ (rs : List ℕ). get_or rs m 0 + 1) same ∙ sym is in
      tag_within u m j r (omega (arith, lt, width)) ∙ ap (λ n. tag_there u m (j * n + r)) width

  answers_less : (t u : TagParts) (n : ℕ) (top : Tag) → Grows t u → AreAnswersUnder k u n top → AreAnswersUnder k t n top
  answers_less t u n top grows are e answer is live =
      let v = grown_rows t u n e grows in
      under_trans (answered_under answer v) (are e answer is (live_under v live))

  -- a tag that is under each closed table, joined into a cell
  cell_below : (s : StateParts) (new : TagParts) (m place : ℕ) (tag : Tag) (x : Bool) → Joins s.table m place tag new x
      → ((u : TagParts) → u.registers ≡ s.table.registers → IsClosed k u → Grows s.table u → Under tag (tag_there u m place)) → IsBelow k s → IsBelow k (record { table = new; answers = s.answers })
  cell_below s new m place tag x joins why b = record {
    cells = λ u same closed. (let regs = same ∙ joins.grows.registers in let under = b.cells u regs closed in joins_least _ _ _ _ _ _ u joins under (why u regs closed under));
    answers = λ n top are. b.answers n top (answers_less s.table new n top joins.grows are);
  }

  cell_turn : (goal : StateParts → Type 0) (s new : StateParts) (m place : ℕ) (tag : Tag) (x : Bool) → IsTagOf locks tag → Joins s.table m place tag new.table x → new.answers ≡ s.answers
      → (IsBelow k s → (u : TagParts) → u.registers ≡ s.table.registers → IsClosed k u → Grows s.table u → Under tag (tag_there u m place)) → (Under tag (tag_there s.table m place) → goal s) → Turn k goal s new x
  unfolding state_room
  cell_turn goal s new m place tag x fits joins kept why end = record {
    below = λ b. subst (λ (r : TagParts). IsBelow k (record { table = new.table; answers = r })) (sym kept) (cell_below s new.table m place tag x joins (why b) b);
    grows = joins.grows;
    state = λ h. record {
      registers = joins.grows.registers ∙ h.registers;
      rows = λ n. joins.len n ∙ h.rows n;
      answers = rw kept h.answers;
      tags = joins.tags locks h.tags fits;
      answer_tags = rw kept h.answer_tags;
    };
    same = λ off. same off;
    falls = λ yes. (let l = joins.falls yes in let e = ap room kept in omega arith);
    done = λ off. subst goal (sym (same off)) (end (subst (λ (t : TagParts). Under tag (tag_there t m place)) (joins.same off) joins.above));
  }
    where
      same : x ≡ false → new ≡ s
      same off = ap₂ (λ (t a : TagParts). let r : StateParts = record { table = t; answers = a } in r) (joins.same off) kept

  -- a tag of a row that flows, joined where it flows to
  flow_turn : (row : StateParts → List Tag) (s new : StateParts) (m j w r : ℕ) (tag : Tag) (x : Bool) → IsState k s → w ≡ row_width k.app m → r < w → j < code_len k.app m
      → (flowing : List Tag) → Flows k s.table m j flowing → tag_in (row s) r ≡ tag_in flowing r → tag ≡ tag_in (row s) r → IsTagOf locks tag
      → Joins s.table m (j * w + r) tag new.table x → new.answers ≡ s.answers → Turn k (CellUnder k m j row r) s new x
  flow_turn row s new m j w r tag x state is lt within flowing flow same tag_is fits joins kept =
      cell_turn (CellUnder k m j row r) s new m (j * w + r) tag x fits joins kept
      (λ b u regs closed under. rw (tag_is ∙ same, ← tag_place u m j w r (regs ∙ state.registers) is lt) (flow_under s.table u under closed m j flowing flow within r))
      (λ h. rw (← tag_is, tag_place s.table m j w r state.registers is lt) h)

  pub pass_turn : (s new : StateParts) (step : Step) (r : ℕ) (tag : Tag) (x : Bool) → IsStep k s step → r < step.from.width
      → tag ≡ tag_in (changed step.change (row_of s step.from)) r → IsTagOf locks tag → Joins s.table step.to.method.0 (step.to.index * step.to.width + r) tag new.table x → new.answers ≡ s.answers
      → Turn k (CellUnder k step.from.method.0 step.to.index (row_after step.from.method.0 step.from.index step.change) r) s new x
  pass_turn s new step r tag x is lt tag_is fits joins kept =
      let m = step.from.method.0 in
      let same : step.to.method.0 ≡ m = ap (λ (n : MethodNo). n.0) is.method in
      let flow = leads_flow s.table m step.from.index step.to.index step.change is.leads is.source.live r in
      let width : step.to.width ≡ row_width k.app m = is.to.width ∙ ap (row_width k.app) same in
      flow_turn (row_after m step.from.index step.change) s new m step.to.index step.to.width r tag x is.source.state width (omega (arith, lt, width, is.source.spot.width)) (subst (λ n. step.to.index < code_len k.app n) same is.to.index)
      flow.0 flow.1 flow.2 tag_is fits (subst (λ n. Joins s.table n (step.to.index * step.to.width + r) tag new.table x) same joins) kept

  pub enter_turn : (s new : StateParts) (from to : Spot) (handing : Handing) (r : ℕ) (tag : Tag) (x : Bool) → IsSource k s from → Enters k from handing to → r < to.width
      → tag ≡ tag_in (entering_row k from.method.0 from.index to.method.0 handing.by handing.args s) r → IsTagOf locks tag → Joins s.table to.method.0 (to.index * to.width + r) tag new.table x → new.answers ≡ s.answers
      → Turn k (CellUnder k to.method.0 0 (entering_row k from.method.0 from.index to.method.0 handing.by handing.args) r) s new x
  enter_turn s new from to handing r tag x source is lt tag_is fits joins kept =
      let usage = is.call.0 in
      let gives = is.call.1 in
      flow_turn (entering_row k from.method.0 from.index to.method.0 handing.by handing.args) s new to.method.0 0 to.width r tag x source.state is.spot.width lt (subst (λ n. n < code_len k.app to.method.0) is.first is.spot.index)
      _ (enters from.method.0 from.index to.method handing.by usage handing.args gives is.call.2 is.callee source.live) refl tag_is fits (subst (λ n. Joins s.table to.method.0 (n * to.width + r) tag new.table x) is.first joins) kept

  pub begin_turn : (s new : StateParts) (to : Spot) (r : ℕ) (tag : Tag) (x : Bool) → IsState k s → Begins k to → r < to.width
      → tag ≡ tag_in (begun_row k to.method.0 s) r → IsTagOf locks tag → Joins s.table to.method.0 (to.index * to.width + r) tag new.table x → new.answers ≡ s.answers
      → Turn k (CellUnder k to.method.0 0 (begun_row k to.method.0) r) s new x
  begin_turn s new to r tag x state is lt tag_is fits joins kept =
      let at = entry_callback k.list to.method is.entry in
      flow_turn (begun_row k to.method.0) s new to.method.0 0 to.width r tag x state is.spot.width lt (subst (λ n. n < code_len k.app to.method.0) is.first is.spot.index)
      _ (begins at.0 at.1 at.2) refl tag_is fits (subst (λ n. Joins s.table to.method.0 (n * to.width + r) tag new.table x) is.first joins) kept

  result_tag_in : (row : List Tag) (tag : Tag) (r : ℕ) → r + 1 ≡ length row → tag_in (only_result row tag) r ≡ tag
  result_tag_in row tag r is =
      let one = length-map row (λ (t : Tag). Bot) in
      let at : pred (length row) ≡ r = omega (arith, is) in
      rw at (get_or-set_same (map (λ (t : Tag). Bot) row) r tag Bot (omega (arith, one, is)))

  -- what the returns of the callee gave is under each result that comes back
  pub back_turn : (s new : StateParts) (from to : Spot) (y : ℕ) (n : MethodNo) (r : ℕ) (x : Bool) → IsSource k s from → IsSpot k to → to.method ≡ from.method → successor_at k.app from.method.0 from.index y ≡ Some to.index
      → Contains (callees_at k.graph from.method.0 from.index) n → r + 1 ≡ to.width → Joins s.table to.method.0 (to.index * to.width + r) (answer_of s n.0) new.table x → new.answers ≡ s.answers
      → Turn k (AnswerAt k from.method.0 to.index n) s new x
  back_turn s new from to y n r x source to_spot method_is to_is callee last joins kept =
      let m = from.method.0 in
      let j = to.index in
      let w = to.width in
      let same : to.method.0 ≡ m = ap (λ (n : MethodNo). n.0) method_is in
      let width : w ≡ row_width k.app m = to_spot.width ∙ ap (row_width k.app) same in
      let within : j < code_len k.app m = subst (λ n. j < code_len k.app n) same to_spot.index in
      let lt : r < w = omega (arith, last) in
      let len : width_at s.table m ≡ w = ap (λ (rs : List ℕ). get_or rs m 0 + 1) source.state.registers ∙ sym width in
      let r_is : pred (row_width k.app m) ≡ r = omega (arith, last, width) in
      cell_turn (AnswerAt k m j n) s new m (j * w + r) (answer_of s n.0) x (source.state.answer_tags.each 0 n.0) (subst (λ n'. Joins s.table n' (j * w + r) (answer_of s n.0) new.table x) same joins) kept
      (λ b u regs closed under. rw (← tag_place u m j w r (regs ∙ source.state.registers) width lt) (b.answers n.0 (tag_at u m j r) (λ e answer is ends.
      (let one = flow_under s.table u under closed m j _ (comes_back from.index y e n answer callee to_is source.live is ends) within r in
      let tag = result_tag_in (row_at s.table m from.index) (answered answer (row_at s.table n.0 e)) r (omega (arith, last, len, length-row_at s.table m from.index)) in
      rw tag at one))))
      (λ h. rw (r_is, tag_place s.table m j w r source.state.registers width lt) h)

  -- a return's tag, joined into what the returns gave
  pub give_turn : (s new : StateParts) (m i : ℕ) (a : Act) (answer : Returned) (tag : Tag) (x : Bool) → act_at k.app m i ≡ Some a → a ≡ Return answer → IsLive (row_at s.table m i) → tag ≡ answered answer (row_at s.table m i)
      → IsTagOf locks tag → Joins s.answers 0 m tag new.answers x → new.table ≡ s.table → Turn k (GaveBack k m i a) s new x
  unfolding state_room
  give_turn s new m i a answer tag x is returns live tag_is fits joins kept = record {
    below = λ b. (let more : IsBelow k (record { table = s.table; answers = new.answers }) = record {
      cells = b.cells;
      answers = λ n top are. joins.least 0 n top (b.answers n top are) (λ _ en. rw tag_is (subst (λ q. AreAnswersUnder k s.table q top) en are i answer (is ∙ ap (λ (b : Act). Some b) returns) live));
    } in subst (λ (t : TagParts). IsBelow k (record { table = t; answers = new.answers })) (sym kept) more);
    grows = rw kept (grows_same s.table);
    state = λ h. record {
      registers = rw kept h.registers;
      rows = λ n. rw kept (h.rows n);
      answers = joins.len 0 ∙ h.answers;
      tags = rw kept h.tags;
      answer_tags = joins.tags locks h.answer_tags fits;
    };
    same = λ off. same off;
    falls = λ yes. (let l = joins.falls yes in let e = ap room kept in omega arith);
    done = λ off. subst (GaveBack k m i a) (sym (same off)) (λ other e. (let one : answer ≡ other = (let both = sym returns ∙ e in cc) in
        rw (← one, ← tag_is) (subst (λ (t : TagParts). Under tag (tag_there t 0 m)) (joins.same off) joins.above)));
  }
    where
      same : x ≡ false → new ≡ s
      same off = ap₂ (λ (t a : TagParts). let r : StateParts = record { table = t; answers = a } in r) kept (joins.same off)
