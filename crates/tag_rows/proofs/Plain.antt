-- Cells whose tags name nothing, and tags that are copied.
use Rattle.std.specs.Prelude.{nat_lt}
use Rattle.std.proofs.Common.{◌≡◌, ◌≢◌, ℕ, zero, suc, ◌<◌, ◌≤◌, List, length, map, get_or, true, false, refl, sym, ap, ◌∙◌, ⊎_elim, arith, lt-ltb, le-ltb}
use Rattle.std.proofs.lemmas.Bool.{cases_lt}
use Rattle.std.proofs.lemmas.List.{get_or-map, get_or_past, length-map}
use Rattle.flow_model.specs.TagFlow.{IsLive}
use Rattle.std.proofs.lemmas.Grind.{common_steps}
use Rattle.std.proofs.lemmas.Bool.Decides.{nat_tests}
use Rattle.app_model.specs.TagTable.{cell_count, cell_of, tag_of}
use Rattle.app_model.specs.declared.tag.Tag.{Tag}
use Rattle.app_model.specs.declared.tag.Tag.TheVariants.{Any, Bot, Mixed, Zero}
use Rattle.app_model.proofs.Cells.{cell_again}
use Rattle.act_model.specs.Changes.{tag_in}
use Rattle.act_model.specs.Tags.{itself, at_most_any, bot_all, IsJoin}
use Rattle.tag_rows.specs.Changes.{is_plain}

pub mixed_tag : tag_of 4 ≡ Mixed
unfolding tag_of
mixed_tag = refl

pub any_tag : tag_of 3 ≡ Any
unfolding tag_of
any_tag = refl

pub plain_tag : (cell : ℕ) → cell < 5 → is_plain (tag_of cell) ≡ true
unfolding tag_of
plain_tag zero below = refl
plain_tag (suc zero) below = refl
plain_tag (suc (suc zero)) below = refl
plain_tag (suc (suc (suc zero))) below = refl
plain_tag (suc (suc (suc (suc zero)))) below = refl
plain_tag (suc (suc (suc (suc (suc n))))) below = absurd (omega (arith, below))

pub low_cell : (cell : ℕ) → cell < 4 → at_most_any (tag_of cell) ≡ true
unfolding tag_of
low_cell zero below = refl
low_cell (suc zero) below = refl
low_cell (suc (suc zero)) below = refl
low_cell (suc (suc (suc zero))) below = refl
low_cell (suc (suc (suc (suc n)))) below = absurd (omega (arith, below))

pub mixed_cell : (cell : ℕ) → 4 ≤ cell → cell < 5 → at_most_any (tag_of cell) ≡ false
mixed_cell cell above below =
    let is : cell ≡ 4 = omega (arith, above, below) in
    rw (is, mixed_tag) refl

pub named_cell : (cell : ℕ) → 5 ≤ cell → at_most_any (tag_of cell) ≡ nat_lt cell 69
unfolding tag_of
named_cell cell above = ⊎_elim
    (λ (held : cell < 69). rw (le-ltb cell 5 above, lt-ltb cell 69 held) refl)
    (λ (past : 69 ≤ cell). ⊎_elim
    (λ (field : cell < 133). rw (le-ltb cell 5 above, le-ltb cell 69 past, lt-ltb cell 133 field) refl)
    (λ (new : 133 ≤ cell). rw (le-ltb cell 5 above, le-ltb cell 69 past, le-ltb cell 133 new) refl)
    (cases_lt cell 133))
    (cases_lt cell 69)

-- ---- joins that need no look at the tags
pub join_same : (t : Tag) → IsJoin t t t
join_same t = record { left = itself; right = itself; least = λ top low high. low }

pub join_bot : (t : Tag) → IsJoin Bot t t
join_bot t = record { left = bot_all; right = itself; least = λ top low high. high }

pub bot_cell : tag_of 0 ≡ Bot
unfolding tag_of
bot_cell = refl

zero_tag : tag_of 1 ≡ Zero
unfolding tag_of
zero_tag = refl

pub zero_at : (cells : List ℕ) (r : ℕ) → r < length cells → get_or cells r 0 ≡ 1 → tag_in (map tag_of cells) r ≡ Zero
zero_at cells r lt is = get_or-map tag_of cells r 0 Bot lt ∙ ap tag_of is ∙ zero_tag

-- cells that differ have tags that differ
pub tags_differ : (a b : ℕ) → a < cell_count → b < cell_count → a ≢ b → tag_of a ≢ tag_of b
tags_differ a b low high differ same = differ (sym (cell_again a low) ∙ ap cell_of same ∙ cell_again b high)

-- another cell has another tag
pub not_bot : (cell : ℕ) → cell ≢ 0 → tag_of cell ≢ Bot
unfolding tag_of
not_bot cell some bot = grind (arith, common_steps, nat_tests)

-- a row is live where some cell is not that of Bot
pub live_at : (cells : List ℕ) (r : ℕ) → r < length cells → get_or cells r 0 ≢ 0 → IsLive (map tag_of cells)
live_at cells r lt some = record { register = r; is = λ bot. not_bot (get_or cells r 0) some (sym (get_or-map tag_of cells r 0 Bot lt) ∙ bot) }

pub none_live : (cells : List ℕ) → ((r : ℕ) → r < length cells → get_or cells r 0 ≡ 0) → IsLive (map tag_of cells) → ⊥
none_live cells none live = ⊎_elim
    (λ lt. live.is (get_or-map tag_of cells live.register 0 Bot lt ∙ ap tag_of (none live.register lt) ∙ bot_cell))
    (λ past. live.is (get_or_past (map tag_of cells) live.register Bot (omega (arith, past, length-map cells tag_of))))
    (cases_lt live.register (length cells))
