-- A run of joins is a turn.
use Rattle.std.proofs.Common.{◌≡◌, ℕ, ◌+◌, ◌*◌, ◌<◌, ◌≤◌, Bool, ◌||◌, refl, sym, ap, ◌∙◌, subst, ⊎_elim, arith}
use Rattle.std.proofs.lemmas.Bool.{cases_lt}
use Rattle.app_model.specs.TagTable.{TagParts}
use Rattle.act_model.specs.Changes.{tag_in}
use Rattle.tag_rows.specs.Cells.{Joins, tag_there}
use Rattle.tag_rows.specs.Changes.{is_plain}
use Rattle.tag_rows.specs.Runs.{Runs, no_step, next_step}
use Rattle.tag_flow.specs.declared.passing.Step.{Step}
use Rattle.tag_flow.specs.Known.{IsKnown, KnownParts}
use Rattle.tag_flow.specs.State.{StateParts, row_of}
use Rattle.tag_flow.specs.Turns.{IsStep, Turn, pair_of}
use Rattle.tag_flow.specs.Goals.{Below, Between, CellUnder, row_after}
use Rattle.tag_flow.proofs.Below.{pass_turn}
use Rattle.tag_flow.proofs.Settled.{kept_tag, step_fits}
use Rattle.tag_flow.proofs.Spots.{place_tag}
use Rattle.tag_flow.proofs.Turns.{step_kept, turn_next, turn_none}

module _ (k : KnownParts) (part : ℕ → StateParts → Type 0) where
  -- the next part after some
  pub between_more : (start r : ℕ) (a b c : StateParts) (x y : Bool) → Turn k (Between part start r) a b x → Turn k (part r) b c y → Turn k (Between part start (r + 1)) a c (x || y)
  between_more start r a b c x y = turn_next k (Between part start r) (part r) (Between part start (r + 1)) a b c x y
      (λ s f g n low lt. ⊎_elim (λ below. f n low below) (λ le. subst (λ i. part i s) (omega (arith, le, lt)) g) (cases_lt n r))

  -- some parts after the first ones
  pub below_some : (start r : ℕ) (a b c : StateParts) (x y : Bool) → Turn k (Below part start) a b x → Turn k (Between part start r) b c y → Turn k (Below part r) a c (x || y)
  below_some start r a b c x y = turn_next k (Below part start) (Between part start r) (Below part r) a b c x y
      (λ s f g n lt. ⊎_elim (λ below. f n below) (λ le. g n le lt) (cases_lt n start))

module _ (k : KnownParts) (known : IsKnown k) (step : Step) (answers : TagParts) where
  abbrev with_table : TagParts → StateParts
  with_table t = record { table = t; answers = answers }

  abbrev cell : ℕ → StateParts → Type 0
  cell = CellUnder k step.from.method.0 step.to.index (row_after step.from.method.0 step.from.index step.change)

  pub run_turn : (start : ℕ) (old : TagParts) → IsStep k (with_table old) step → (end : ℕ) (new : TagParts) (x : Bool) → end ≤ step.from.width → Runs (pair_of step) step.from.method.0 start old end new x
      → Turn k (Between cell start end) (with_table old) (with_table new) x
  run_turn start old is _ _ _ le no_step = turn_none k (Between cell start start) (with_table old) (λ n low lt. absurd (omega (arith, low, lt)))
  run_turn start old is _ _ _ le (next_step r mid new x y run kept joins) =
      let m = step.from.method.0 in
      let first = run_turn start old is r mid x (omega (arith, le)) run in
      let still = step_kept k (Between cell start r) (with_table old) (with_table mid) x step first is in
      let lt : r < step.from.width = omega (arith, le) in
      let at : tag_in (row_of (with_table mid) step.from) r ≡ tag_there mid m (step.from.start + r) =
      place_tag k (with_table mid) step.from r still.source.state still.source.spot lt ∙ ap (λ n. tag_there mid m (n + r)) (sym still.source.spot.start) in
      let same : tag_there mid m (step.from.start + r) ≡ tag_in (row_after m step.from.index step.change (with_table mid)) r =
      sym at ∙ kept_tag k (with_table mid) step r still kept.first kept.second (λ plain. ap is_plain at ∙ kept.plain plain) in
      let there : Joins mid step.to.method.0 (step.to.index * step.to.width + r) (tag_there mid m (step.from.start + r)) new y =
      rw (still.method, ← still.to.start) joins in
      between_more k cell start r (with_table old) (with_table mid) (with_table new) x y first
      (pass_turn k (with_table mid) (with_table new) step r _ y still lt same (step_fits k (with_table mid) step known r _ still same) there refl)
