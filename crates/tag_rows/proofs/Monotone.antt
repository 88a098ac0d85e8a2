-- More in the table, more that flows.
use Rattle.std.proofs.Common.{◌≡◌, ℕ, suc, zero, List, [], ◌∷◌, map, drop, set, ◌∙◌, ◌+◌, Bool, true, false, if◌then◌else◌, eqb, Option, Some, None, refl, sym, ap}
use Rattle.std.specs.Prelude.{slice_get}
use Rattle.ns_base.specs.declared.rows.LockNo.{LockNo}
use Rattle.dalvik.specs.declared.ins.Args.{Args}
use Rattle.dalvik.specs.Registers.{args_of}
use Rattle.dalvik.specs.Calls.{receiver_of}
use Rattle.app_model.specs.CallGraph.{GraphParts}
use Rattle.app_model.specs.Components.{ComponentParts}
use Rattle.app_model.specs.Parts.{AppParts}
use Rattle.app_model.specs.TagTable.{TagParts}
use Rattle.app_model.specs.declared.calls.By.{By}
use Rattle.app_model.specs.declared.calls.By.TheVariants.{Virtual, Super, Direct, Static}
use Rattle.app_model.specs.declared.lock_use.LockUse.{LockUse}
use Rattle.app_model.specs.declared.lock_use.LockUse.TheVariants.{Plain, Make, Acquire, Release, IsHeld, Mode, Wrong}
use Rattle.app_model.specs.declared.rows.MethodRow.{MethodRow}
use Rattle.app_model.specs.declared.tag.Tag.{Tag}
use Rattle.app_model.specs.declared.tag.Tag.TheVariants.{Bot, Zero, Solid, Held, Any, Field, New, Mixed}
use Rattle.act_model.specs.declared.act.Act.{Act}
use Rattle.act_model.specs.declared.act.Act.TheVariants.{Copy, TakeResult, Write, Fill, ReadSlot, WriteSlot, Call}
use Rattle.act_model.specs.declared.act.Gives.{Gives}
use Rattle.act_model.specs.declared.act.Returned.{Returned}
use Rattle.act_model.specs.declared.act.Returned.TheVariants as returned
use Rattle.act_model.specs.Changes.{after, after_stored, call_change, called, called_change, field_after, held_change, held_tag, new_after, put, result_cell, result_tag, stored_change, tag_in, thrown}
use Rattle.act_model.specs.Entries.{call_words, entering, entering_words, entry_row, fitted}
use Rattle.act_model.specs.Tags.{Under, itself, bot_all, zero_any, solid_any, held_any, all_mixed}
use Rattle.flow_model.specs.TagFlow.{Flow, begins, goes_on, back_from_outside, throws, enters, passes_call, comes_back, throws_out, TableUnder, answered, callee_row, only_result, without_result}
use Rattle.tag_rows.specs.Order.{RowUnder, nil, more}
use Rattle.tag_rows.proofs.Order.{append_under, len_under, live_under, made_under, map_under, row_same, set_under, table_rows, tag_under, under_trans}

under_any : (b : Bool) (k : LockNo) → Under (if b then Any else Held k) Any
under_any true k = itself
under_any false k = held_any

-- ---- one law a kind of change
called_under : (gone : ℕ → Bool) (x y : Tag) → Under x y → Under (called_change gone x) (called_change gone y)
called_under gone _ _ itself = itself
called_under gone _ _ bot_all = bot_all
called_under gone _ _ zero_any = zero_any
called_under gone _ _ solid_any = solid_any
called_under gone _ _ held_any = itself
called_under gone _ _ all_mixed = all_mixed

entering_under : (x y : Tag) → Under x y → Under (entering x) (entering y)
entering_under _ _ itself = itself
entering_under _ _ bot_all = bot_all
entering_under _ _ zero_any = zero_any
entering_under _ _ solid_any = solid_any
entering_under _ _ held_any = itself
entering_under _ _ all_mixed = all_mixed

-- ---- lock calls, by the tag of the receiver: what they do to a tag, and what to two of which one is under the other
held_low : (a x : Tag) → Under x (held_change a x)
held_low (Field l) (Held k) = held_lower (eqb k.0 l.0) k
  where
    held_lower : (b : Bool) (k : LockNo) → Under (Held k) (if b then Any else Held k)
    held_lower true k = held_any
    held_lower false k = itself
held_low Mixed (Held k) = held_any
held_low _ _ = itself

held_high : (a x : Tag) → Under (held_change a x) (held_change Mixed x)
held_high (Field l) (Held k) = under_any (eqb k.0 l.0) k
held_high Mixed (Held k) = itself
held_high _ (Held k) = held_any
held_high _ _ = itself

held_receiver : {a b : Tag} → Under a b → (x : Tag) → Under (held_change a x) (held_change b x)
held_receiver itself x = itself
held_receiver (bot_all {t = b}) x = held_low b x
held_receiver zero_any x = itself
held_receiver solid_any x = itself
held_receiver held_any x = itself
held_receiver (all_mixed {t = a}) x = held_high a x

held_field : (l : LockNo) {x y : Tag} → Under x y → Under (held_change (Field l) x) (held_change (Field l) y)
held_field l itself = itself
held_field l bot_all = bot_all
held_field l zero_any = zero_any
held_field l solid_any = solid_any
held_field l (held_any {l = k}) = under_any (eqb k.0 l.0) k
held_field l all_mixed = all_mixed

held_mixed : {x y : Tag} → Under x y → Under (held_change Mixed x) (held_change Mixed y)
held_mixed itself = itself
held_mixed bot_all = bot_all
held_mixed zero_any = zero_any
held_mixed solid_any = solid_any
held_mixed held_any = itself
held_mixed all_mixed = all_mixed

held_more : (a : Tag) {x y : Tag} → Under x y → Under (held_change a x) (held_change a y)
held_more Bot u = u
held_more Zero u = u
held_more Solid u = u
held_more (Held l) u = u
held_more Any u = u
held_more (Field l) u = held_field l u
held_more (New s) u = u
held_more Mixed u = held_mixed u

held_under : {a b : Tag} → Under a b → (x y : Tag) → Under x y → Under (held_change a x) (held_change b y)
held_under {b = b} v x y u = under_trans (held_receiver v x) (held_more b u)

call_under : (usage : LockUse) {a b : Tag} → Under a b → (x y : Tag) → Under x y → Under (call_change usage a x) (call_change usage b y)
call_under Acquire v x y u = held_under v x y u
call_under Release v x y u = held_under v x y u
call_under Plain v x y u = u
call_under Make v x y u = u
call_under IsHeld v x y u = u
call_under Mode v x y u = u
call_under Wrong v x y u = u

held_tag_mixed : (a : Tag) → Under (held_tag a) Any
held_tag_mixed Bot = bot_all
held_tag_mixed (Field l) = held_any
held_tag_mixed _ = itself

held_tag_under : {a b : Tag} → Under a b → Under (held_tag a) (held_tag b)
held_tag_under itself = itself
held_tag_under bot_all = bot_all
held_tag_under zero_any = itself
held_tag_under solid_any = itself
held_tag_under held_any = itself
held_tag_under (all_mixed {t = a}) = held_tag_mixed a

result_under : (site : ℕ) (usage : LockUse) (gives : Gives) {a b : Tag} → Under a b → Under (result_tag site usage gives a) (result_tag site usage gives b)
result_under site Plain gives u = itself
result_under site Make gives u = itself
result_under site Acquire gives u = itself
result_under site Release gives u = itself
result_under site IsHeld gives u = held_tag_under u
result_under site Mode gives u = itself
result_under site Wrong gives u = itself

-- ---- stores, by the tag of the stored value
field_low : (b : Bool) (k : LockNo) → Under (Field k) (if b then Mixed else Field k)
field_low true k = all_mixed
field_low false k = itself

field_stored_low : (a : Tag) (l : ℕ) (k : LockNo) → Under (Field k) (field_after a l k)
field_stored_low Bot l k = itself
field_stored_low _ l k = field_low (eqb k.0 l) k

field_stored_high : (a : Tag) (l : ℕ) (k : LockNo) → Under (field_after a l k) (field_after Mixed l k)
field_stored_high Bot l k = field_low (eqb k.0 l) k
field_stored_high _ l k = itself

field_stored : {a b : Tag} → Under a b → (l : ℕ) (k : LockNo) → Under (field_after a l k) (field_after b l k)
field_stored itself l k = itself
field_stored (bot_all {t = b}) l k = field_stored_low b l k
field_stored zero_any l k = itself
field_stored solid_any l k = itself
field_stored held_any l k = itself
field_stored (all_mixed {t = a}) l k = field_stored_high a l k

new_low : (b : Bool) (s : ℕ) → Under (New s) (if b then Mixed else New s)
new_low true s = all_mixed
new_low false s = itself

new_stored_low : (a : Tag) (s : ℕ) → Under (New s) (new_after a s)
new_stored_low Bot s = itself
new_stored_low Zero s = itself
new_stored_low (New z) s = new_low (eqb s z) s
new_stored_low _ s = all_mixed

new_stored : {a b : Tag} → Under a b → (s : ℕ) → Under (new_after a s) (new_after b s)
new_stored itself s = itself
new_stored (bot_all {t = b}) s = new_stored_low b s
new_stored zero_any s = all_mixed
new_stored solid_any s = itself
new_stored held_any s = itself
new_stored all_mixed s = all_mixed

stored_by : {a b : Tag} → Under a b → (l : ℕ) (x : Tag) → Under (stored_change l a x) (stored_change l b x)
stored_by v l (Field k) = field_stored v l k
stored_by v l (New s) = new_stored v s
stored_by v l _ = itself

stored_more : (l : ℕ) (a : Tag) {x y : Tag} → Under x y → Under (stored_change l a x) (stored_change l a y)
stored_more l a itself = itself
stored_more l a bot_all = bot_all
stored_more l a zero_any = zero_any
stored_more l a solid_any = solid_any
stored_more l a (held_any {l = k}) = under_any (eqb k.0 l) k
stored_more l a all_mixed = all_mixed

stored_rows : (l : ℕ) {a b : Tag} → Under a b → {low high : List Tag} → RowUnder low high → RowUnder (map (stored_change l a) low) (map (stored_change l b) high)
stored_rows l {a} {b} v rows = map_under (stored_change l a) (stored_change l b) (λ x y u. under_trans (stored_by v l x) (stored_more l b u)) rows

-- a cell that is Bot below, or Mixed above
set_above : {low high : List Tag} (r : ℕ) (x : Tag) → RowUnder low high → tag_in low r ≡ Bot → RowUnder low (set high r x)
set_above r x nil e = nil
set_above zero x (more {a = a} u v) e = more (rw e bot_all) v
set_above (suc r) x (more u v) e = more u (set_above r x v e)

set_below : {low high : List Tag} (r : ℕ) (x : Tag) → RowUnder low high → tag_in high r ≡ Mixed → RowUnder (set low r x) high
set_below r x nil e = nil
set_below zero x (more {b = b} u v) e = more (rw e all_mixed) v
set_below (suc r) x (more u v) e = more u (set_below r x v e)

pub map_tag : (f : Tag → Tag) (row : List Tag) (r : ℕ) → f Bot ≡ Bot → tag_in (map f row) r ≡ f (tag_in row r)
map_tag f [] r e = sym e
map_tag f (x ∷ xs) zero e = refl
map_tag f (x ∷ xs) (suc r) e = map_tag f xs r e

store_same : (from : ℕ) (l : LockNo) (stored : Tag) {low high : List Tag} → RowUnder low high → RowUnder (after_stored low from l stored) (after_stored high from l stored)
store_same from l (New s) rows = set_under {x = Field l} (stored_rows l.0 (itself {t = New s}) rows) from itself
store_same from l Bot rows = stored_rows l.0 (itself {t = Bot}) rows
store_same from l Zero rows = stored_rows l.0 (itself {t = Zero}) rows
store_same from l Solid rows = stored_rows l.0 (itself {t = Solid}) rows
store_same from l (Held k) rows = stored_rows l.0 (itself {t = Held k}) rows
store_same from l Any rows = stored_rows l.0 (itself {t = Any}) rows
store_same from l (Field k) rows = stored_rows l.0 (itself {t = Field k}) rows
store_same from l Mixed rows = stored_rows l.0 (itself {t = Mixed}) rows

store_bot : (from : ℕ) (l : LockNo) (stored : Tag) {low high : List Tag} → RowUnder low high → tag_in low from ≡ Bot → RowUnder (after_stored low from l Bot) (after_stored high from l stored)
store_bot from l (New s) {low} rows e = set_above from (Field l) (stored_rows l.0 (bot_all {t = New s}) rows) (map_tag (stored_change l.0 Bot) low from refl ∙ ap (stored_change l.0 Bot) e)
store_bot from l stored rows e = stored_rows l.0 (bot_all {t = stored}) rows

store_mixed : (from : ℕ) (l : LockNo) (stored : Tag) {low high : List Tag} → RowUnder low high → tag_in high from ≡ Mixed → RowUnder (after_stored low from l stored) (after_stored high from l Mixed)
store_mixed from l (New s) {low} {high} rows e = set_below from (Field l) (stored_rows l.0 (all_mixed {t = New s}) rows) (map_tag (stored_change l.0 Mixed) high from refl ∙ ap (stored_change l.0 Mixed) e)
store_mixed from l stored rows e = stored_rows l.0 (all_mixed {t = stored}) rows

store_under : (from : ℕ) (l : LockNo) {a b : Tag} → Under a b → {low high : List Tag} → RowUnder low high → tag_in low from ≡ a → tag_in high from ≡ b → RowUnder (after_stored low from l a) (after_stored high from l b)
store_under from l (itself {t = a}) rows ea eb = store_same from l a rows
store_under from l (bot_all {t = b}) rows ea eb = store_bot from l b rows ea
store_under from l zero_any rows ea eb = stored_rows l.0 zero_any rows
store_under from l solid_any rows ea eb = stored_rows l.0 solid_any rows
store_under from l (held_any {l = held}) rows ea eb = stored_rows l.0 (held_any {l = held}) rows
store_under from l (all_mixed {t = a}) rows ea eb = store_mixed from l a rows eb

-- ---- acts
put_under : (wide : Bool) {low high : List Tag} → RowUnder low high → (to : ℕ) {a b c d : Tag} → Under a b → Under c d → RowUnder (put wide low to a c) (put wide high to b d)
put_under true rows to u v = set_under (set_under rows to u) (to + 1) v
put_under false rows to u v = set_under rows to u

last_under : {low high : List Tag} {a b : Tag} → (rest_low rest_high : List Tag) → RowUnder low high → RowUnder rest_low rest_high → Under a b → RowUnder (set rest_low (result_cell low) a) (set rest_high (result_cell high) b)
last_under {high = high} low' high' rows rest u = rw (len_under rows) (set_under rest (result_cell high) u)

thrown_under : (a : Act) {low high : List Tag} → RowUnder low high → RowUnder (thrown a low) (thrown a high)
thrown_under (Call by usage arguments gives) {low} {high} rows =
    map_under (call_change usage (tag_in low (receiver_of arguments))) (call_change usage (tag_in high (receiver_of arguments))) (call_under usage (tag_under rows (receiver_of arguments))) rows
thrown_under _ rows = rows

after_under : (site : ℕ) (a : Act) {low high : List Tag} → RowUnder low high → RowUnder (after site a low) (after site a high)
after_under site (Copy to from wide) rows = put_under wide rows to (tag_under rows from) (tag_under rows (from + 1))
after_under site (TakeResult to) {low} {high} rows = set_under rows to (rw (len_under rows) (tag_under rows (result_cell high)))
after_under site (Write to what when) rows = put_under _ rows to itself itself
after_under site (Fill arguments kind) rows = last_under _ _ rows rows itself
after_under site (ReadSlot to slot when) rows = set_under rows to itself
after_under site (WriteSlot from slot when) rows = store_under from slot (tag_under rows from) rows refl refl
after_under site (Call by usage arguments gives) rows =
    last_under _ _ rows (thrown_under (Call by usage arguments gives) rows) (result_under site usage gives (tag_under rows (receiver_of arguments)))
after_under site _ rows = rows

past_under : (gone : ℕ → Bool) {low high : List Tag} → RowUnder low high → RowUnder (called gone low) (called gone high)
past_under gone rows = map_under (called_change gone) (called_change gone) (called_under gone) rows

without_under : {low high : List Tag} → RowUnder low high → RowUnder (without_result low) (without_result high)
without_under rows = last_under _ _ rows rows itself

only_under : {low high : List Tag} {a b : Tag} → RowUnder low high → Under a b → RowUnder (only_result low a) (only_result high b)
only_under rows u = last_under _ _ rows (map_under (λ t. Bot) (λ t. Bot) (λ x y v. itself) rows) u

pub answered_under : (answer : Returned) {low high : List Tag} → RowUnder low high → Under (answered answer low) (answered answer high)
answered_under returned.Nothing rows = itself
answered_under returned.Wide rows = itself
answered_under (returned.Register r) rows = entering_under _ _ (tag_under rows r)

-- ---- entries
fitted_under : (n : ℕ) {low high : List Tag} → RowUnder low high → RowUnder (fitted Zero n low) (fitted Zero n high)
fitted_under zero rows = nil
fitted_under (suc n) nil = more itself (fitted_under n nil)
fitted_under (suc n) (more u v) = more u (fitted_under n v)

entry_under : (registers ins : ℕ) {low high : List Tag} → RowUnder low high → RowUnder (entry_row Zero registers ins low) (entry_row Zero registers ins high)
entry_under registers ins rows = append_under (append_under (row_same _) (fitted_under ins rows)) (row_same _)

words_under : (registers : List ℕ) {low high : List Tag} → RowUnder low high → RowUnder (entering_words low registers) (entering_words high registers)
words_under registers rows = made_under _ _ (λ r. entering_under _ _ (tag_under rows r)) registers

call_words_under : (by : By) (arguments : Args) {low high : List Tag} → RowUnder low high → RowUnder (call_words by low arguments) (call_words by high arguments)
call_words_under Static arguments rows = words_under (args_of arguments) rows
call_words_under Virtual arguments rows = more itself (words_under (drop 1 (args_of arguments)) rows)
call_words_under Super arguments rows = more itself (words_under (drop 1 (args_of arguments)) rows)
call_words_under Direct arguments rows = more itself (words_under (drop 1 (args_of arguments)) rows)

callee_under : (method : Option MethodRow) {low high : List Tag} → RowUnder low high → RowUnder (callee_row method low) (callee_row method high)
callee_under None rows = nil
callee_under (Some method) rows = entry_under method.registers method.ins rows

-- ---- one line a flow
pub monotone : (app : AppParts) (graph : GraphParts) (list : List ComponentParts) (gone : (n l : ℕ) → Bool) (low high : TagParts) → low.registers ≡ high.registers → TableUnder low high
    → (m j : ℕ) (row : List Tag) → Flow app graph list gone low m j row → (above : List Tag) × Flow app graph list gone high m j above × RowUnder row above
monotone app graph list gone low high same under _ _ _ (begins c k is) = (_, begins c k is, row_same _)
monotone app graph list gone low high same under m _ _ (goes_on i k a is leads no_call to live) =
    let v = table_rows low high m i same under in
    (_, goes_on i k a is leads no_call to (live_under v live), after_under _ a v)
monotone app graph list gone low high same under m _ _ (back_from_outside i k a is call outside to live) =
    let v = table_rows low high m i same under in
    (_, back_from_outside i k a is call outside to (live_under v live), after_under _ a v)
monotone app graph list gone low high same under m _ _ (throws i k a is can to live) =
    let v = table_rows low high m i same under in
    (_, throws i k a is can to (live_under v live), thrown_under a v)
monotone app graph list gone low high same under _ _ _ (enters m i n by usage arguments gives is callee live) =
    let v = table_rows low high m i same under in
    (_, enters m i n by usage arguments gives is callee (live_under v live), callee_under (slice_get app.methods n.0) (call_words_under by arguments v))
monotone app graph list gone low high same under m _ _ (passes_call i k n callee to live) =
    let v = table_rows low high m i same under in
    (_, passes_call i k n callee to (live_under v live), without_under (past_under (gone n.0) v))
monotone app graph list gone low high same under m _ _ (comes_back i k e n answer callee to live is ends) =
    let v = table_rows low high m i same under in
    let w = table_rows low high n.0 e same under in
    (_, comes_back i k e n answer callee to (live_under v live) is (live_under w ends), only_under v (answered_under answer w))
monotone app graph list gone low high same under m _ _ (throws_out i k n callee to live) =
    let v = table_rows low high m i same under in
    (_, throws_out i k n callee to (live_under v live), past_under (gone n.0) v)
