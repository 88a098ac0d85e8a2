-- One cell of a step.
use Rattle.std.proofs.Common.{◌≡◌, ◌≢◌, ℕ, ◌<◌, length, true, sym, ap, ◌∙◌, subst, arith}
use Rattle.ns_base.specs.declared.rows.MethodNo.{MethodNo}
use Rattle.app_model.specs.declared.tag.Tag.{Tag}
use Rattle.act_model.specs.Changes.{tag_in}
use Rattle.tag_flow.specs.declared.passing.Step.{Step}
use Rattle.tag_rows.specs.Cells.{IsTagOf}
use Rattle.tag_flow.specs.Known.{IsKnown, KnownParts, row_width}
use Rattle.tag_flow.specs.State.{StateParts, row_of}
use Rattle.tag_flow.specs.Turns.{IsStep}
use Rattle.tag_rows.specs.Changes.{changed, is_plain}
use Rattle.tag_flow.specs.Goals.{row_after}
use Rattle.tag_flow.proofs.Fits.{change_fits}
use Rattle.tag_rows.proofs.Fits.{rows_fit}
use Rattle.tag_flow.proofs.Spots.{row_len}

module _ (k : KnownParts) (s : StateParts) (step : Step) where
  -- both rows have the same width
  pub step_width : IsStep k s step → step.to.width ≡ step.from.width
  step_width is = is.to.width ∙ ap (λ (n : MethodNo). row_width k.app n.0) is.method ∙ sym is.source.spot.width

  pub step_within : (r : ℕ) → IsStep k s step → r < step.from.width → r < length (row_of s step.from)
  step_within r is lt = omega (arith, lt, row_len k s step.from is.source.state is.source.spot)

  -- the tag of a cell that is kept
  pub kept_tag : (r : ℕ) → IsStep k s step → r ≢ step.kept.first → r ≢ step.kept.second → (step.kept.plain ≡ true → is_plain (tag_in (row_of s step.from) r) ≡ true)
      → tag_in (row_of s step.from) r ≡ tag_in (row_after step.from.method.0 step.from.index step.change s) r
  kept_tag r is first second plain = sym (is.kept (row_of s step.from) r (row_len k s step.from is.source.state is.source.spot) first second plain)

  pub step_fits : IsKnown k → (r : ℕ) (tag : Tag) → IsStep k s step → tag ≡ tag_in (changed step.change (row_of s step.from)) r → IsTagOf (length k.app.locks) tag
  step_fits known r tag is e =
      subst (IsTagOf (length k.app.locks)) (sym e)
      (change_fits k known step.from.method.0 step.from.index step.to.index step.change is.leads (row_of s step.from) (rows_fit (length k.app.locks) s.table step.from.method.0 step.from.index is.source.state.tags) r)
