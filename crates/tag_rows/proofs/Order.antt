-- Rows of tags, one under the other.
use Rattle.std.proofs.Common.{◌≡◌, ℕ, suc, zero, ◌+◌, ◌<◌, List, [], ◌∷◌, ◌++◌, length, get_or, set, map, refl, sym, ap, ◌∙◌, ⊎_elim, arith}
use Rattle.std.proofs.lemmas.Bool.{cases_lt}
use Rattle.app_model.specs.TagTable.{TagParts, row_at, width_at}
use Rattle.app_model.specs.declared.tag.Tag.{Tag}
use Rattle.app_model.specs.declared.tag.Tag.TheVariants.{Bot}
use Rattle.app_model.proofs.Cells.{length-row_at, tag_past, tag_within}
use Rattle.act_model.specs.Changes.{tag_in}
use Rattle.act_model.specs.Tags.{Under, itself, bot_all, zero_any, solid_any, held_any, all_mixed}
use Rattle.flow_model.specs.TagFlow.{IsLive, TableUnder}
use Rattle.tag_rows.specs.Order.{RowUnder, nil, more}
use Rattle.tag_rows.specs.Cells.{Grows}

pub under_trans : {a b c : Tag} → Under a b → Under b c → Under a c
under_trans itself k = k
under_trans bot_all k = bot_all
under_trans zero_any itself = zero_any
under_trans zero_any all_mixed = all_mixed
under_trans solid_any itself = solid_any
under_trans solid_any all_mixed = all_mixed
under_trans held_any itself = held_any
under_trans held_any all_mixed = all_mixed
under_trans all_mixed itself = all_mixed
under_trans all_mixed all_mixed = all_mixed

-- what is under Bot is Bot
pub under_bot : {a b : Tag} → Under a b → b ≡ Bot → a ≡ Bot
under_bot itself e = e
under_bot bot_all e = refl
under_bot zero_any e = cc
under_bot solid_any e = cc
under_bot held_any e = cc
under_bot all_mixed e = cc

pub row_same : (row : List Tag) → RowUnder row row
row_same [] = nil
row_same (x ∷ xs) = more itself (row_same xs)

pub tag_under : {a b : List Tag} → RowUnder a b → (r : ℕ) → Under (tag_in a r) (tag_in b r)
tag_under nil r = itself
tag_under (more u v) zero = u
tag_under (more u v) (suc r) = tag_under v r

pub len_under : {a b : List Tag} → RowUnder a b → length a ≡ length b
len_under nil = refl
len_under (more u v) = ap suc (len_under v)

pub set_under : {a b : List Tag} {x y : Tag} → RowUnder a b → (r : ℕ) → Under x y → RowUnder (set a r x) (set b r y)
set_under nil r k = nil
set_under (more u v) zero k = more k v
set_under (more u v) (suc r) k = more u (set_under v r k)

pub map_under : (f g : Tag → Tag) → ((x y : Tag) → Under x y → Under (f x) (g y)) → {a b : List Tag} → RowUnder a b → RowUnder (map f a) (map g b)
map_under f g mono nil = nil
map_under f g mono (more u v) = more (mono _ _ u) (map_under f g mono v)

pub made_under : {A : Type 0} (f g : A → Tag) → ((x : A) → Under (f x) (g x)) → (xs : List A) → RowUnder (map f xs) (map g xs)
made_under f g h [] = nil
made_under f g h (x ∷ xs) = more (h x) (made_under f g h xs)

pub append_under : {a b c d : List Tag} → RowUnder a b → RowUnder c d → RowUnder (a ++ c) (b ++ d)
append_under nil w = w
append_under (more u v) w = more u (append_under v w)

-- rows of one length, each tag under that of the other
pub each_under : (a b : List Tag) → length a ≡ length b → ((r : ℕ) → Under (tag_in a r) (tag_in b r)) → RowUnder a b
each_under [] [] len under = nil
each_under [] (y ∷ ys) len under = absurd (cc)
each_under (x ∷ xs) [] len under = absurd (cc)
each_under (x ∷ xs) (y ∷ ys) len under = more (under 0) (each_under xs ys (cc) (λ r. under (suc r)))

pub live_under : {a b : List Tag} → RowUnder a b → IsLive a → IsLive b
live_under v live = record { register = live.register; is = λ e. live.is (under_bot (tag_under v live.register) e) }

-- ---- rows of tables
pub widths_same : (t u : TagParts) → t.registers ≡ u.registers → (m : ℕ) → width_at t m ≡ width_at u m
widths_same t u same m = ap (λ (rs : List ℕ). get_or rs m 0 + 1) same

pub table_rows : (t u : TagParts) (m i : ℕ) → t.registers ≡ u.registers → TableUnder t u → RowUnder (row_at t m i) (row_at u m i)
table_rows t u m i same under = each_under _ _ (length-row_at t m i ∙ widths_same t u same m ∙ sym (length-row_at u m i)) (under m i)

pub grown_table : (t u : TagParts) → Grows t u → TableUnder t u
grown_table t u g m i r = ⊎_elim
    (λ within. (let w = widths_same u t g.registers m in let inner : r < width_at u m = omega arith in
    rw (tag_within t m i r within, tag_within u m i r inner, w) (g.cells m _)))
    (λ past. rw (tag_past t m i r past) bot_all) (cases_lt r (width_at t m))

pub grown_rows : (t u : TagParts) (m i : ℕ) → Grows t u → RowUnder (row_at t m i) (row_at u m i)
grown_rows t u m i g = table_rows t u m i (sym g.registers) (grown_table t u g)

pub grows_same : (t : TagParts) → Grows t t
grows_same t = record { registers = refl; cells = λ m place. itself }

pub grows_trans : (a b c : TagParts) → Grows a b → Grows b c → Grows a c
grows_trans a b c f g = record { registers = g.registers ∙ f.registers; cells = λ m place. under_trans (f.cells m place) (g.cells m place) }

pub live_grown : (t u : TagParts) (m i : ℕ) → Grows t u → IsLive (row_at t m i) → IsLive (row_at u m i)
live_grown t u m i g live = live_under (grown_rows t u m i g) live
