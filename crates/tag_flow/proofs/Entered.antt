-- One cell of a row at the start of a method.
use Rattle.std.proofs.Common.{◌≡◌, ℕ, ◌-◌, ◌<◌, ◌≤◌, List, length, Option, Some, sym, ap, ◌∙◌, subst}
use Rattle.std.specs.Prelude.{slice_get}
use Rattle.dalvik.specs.declared.ins.Args.{Args}
use Rattle.app_model.specs.TagTable.{row_at}
use Rattle.app_model.specs.declared.calls.By.{By}
use Rattle.app_model.specs.declared.rows.MethodRow.{MethodRow}
use Rattle.app_model.specs.declared.tag.Tag.{Tag}
use Rattle.app_model.specs.declared.tag.Tag.TheVariants.{Zero}
use Rattle.act_model.specs.Changes.{tag_in}
use Rattle.act_model.specs.Tags.{Under, itself}
use Rattle.act_model.specs.Entries.{call_words, callback_row, entry_row}
use Rattle.flow_model.specs.TagFlow.{callee_row}
use Rattle.tag_rows.specs.Cells.{IsTagOf}
use Rattle.tag_flow.specs.Known.{KnownParts}
use Rattle.tag_flow.specs.State.{IsState, StateParts}
use Rattle.tag_flow.specs.Goals.{begun_row, entering_row}
use Rattle.tag_rows.proofs.Fits.{begun_fits, call_words_fit, callee_fits, rows_fit}
use Rattle.tag_rows.proofs.Words.{first_zero}

-- a register that is no argument is Zero, whatever the words are
pub first_under : (methods : List MethodRow) (n : ℕ) (method : MethodRow) (words : List Tag) (r : ℕ) (there : Tag) → slice_get methods n ≡ Some method
    → method.ins ≤ method.registers → r < method.registers - method.ins → there ≡ Zero → Under (tag_in (callee_row (slice_get methods n) words) r) there
first_under methods n method words r there at le lt is =
    let zero : tag_in (callee_row (slice_get methods n) words) r ≡ Zero = ap (λ (o : Option MethodRow). tag_in (callee_row o words) r) at ∙ first_zero method.registers method.ins words le r lt in
    subst (λ (t : Tag). Under t there) (sym zero) (subst (λ (t : Tag). Under Zero t) (sym is) itself)

module _ (k : KnownParts) (s : StateParts) (state : IsState k s) where
  pub entering_is : (m i n : ℕ) (how : By) (arguments : Args) (method : MethodRow) (r : ℕ) (tag : Tag) → slice_get k.app.methods n ≡ Some method
      → tag ≡ tag_in (entry_row Zero method.registers method.ins (call_words how (row_at s.table m i) arguments)) r → tag ≡ tag_in (entering_row k m i n how arguments s) r
  entering_is m i n how arguments method r tag at e = e ∙ ap (λ (o : Option MethodRow). tag_in (callee_row o (call_words how (row_at s.table m i) arguments)) r) (sym at)

  pub entering_fits : (m i n : ℕ) (how : By) (arguments : Args) (r : ℕ) (tag : Tag) → tag ≡ tag_in (entering_row k m i n how arguments s) r → IsTagOf (length k.app.locks) tag
  entering_fits m i n how arguments r tag e =
      subst (IsTagOf (length k.app.locks)) (sym e)
      (callee_fits (length k.app.locks) (slice_get k.app.methods n) (call_words how (row_at s.table m i) arguments) (call_words_fit (length k.app.locks) how (row_at s.table m i) arguments (rows_fit (length k.app.locks) s.table m i state.tags)) r)

  pub begun_is : (n : ℕ) (method : MethodRow) (r : ℕ) (tag : Tag) → slice_get k.app.methods n ≡ Some method → tag ≡ tag_in (callback_row k.app (Some method)) r → tag ≡ tag_in (begun_row k n s) r
  begun_is n method r tag at e = e ∙ ap (λ (o : Option MethodRow). tag_in (callback_row k.app o) r) (sym at)

  pub begun_fit : (n r : ℕ) (tag : Tag) → tag ≡ tag_in (begun_row k n s) r → IsTagOf (length k.app.locks) tag
  begun_fit n r tag e = subst (IsTagOf (length k.app.locks)) (sym e) (begun_fits (length k.app.locks) k.app (slice_get k.app.methods n) r)
