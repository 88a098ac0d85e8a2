-- Lock fields and their rows.
use Rattle.std.proofs.Common.{◌≡◌, ℕ, ◌<◌, length, Option, Some, None, refl, slice_get, ◌∙◌, sym, subst}
use Rattle.std.specs.Option.{option_and_then}
use Rattle.std.proofs.lemmas.Option.{slice_get_within}
use Rattle.ns_base.specs.declared.rows.FieldNo.{FieldNo}
use Rattle.app_model.specs.declared.rows.FieldRow.{FieldRow}
use Rattle.app_model.specs.Parts.{AppParts}
use Rattle.app_model.specs.Words.{ins_at}
use Rattle.flow_model.specs.Breaks.{field_of_lock, made_type}
use Rattle.scope_facts.specs.Bits.{Tells}
use Rattle.scope_facts.specs.Fields.{Makes}
use Rattle.scope_facts.specs.Texts.{IsBelowLock}
use Rattle.scope_facts.proofs.BitLaws.{told_as}

pub field_below : (app : AppParts) (l : ℕ) (field : FieldRow) → field_of_lock app l ≡ Some field → l < length app.locks
unfolding field_of_lock
field_below app l field is = go (slice_get app.locks l) refl is
  where
    go : (found : Option FieldNo) → slice_get app.locks l ≡ found → option_and_then (λ (f : FieldNo). slice_get app.fields f.0) found ≡ Some field → l < length app.locks
    go None at none = cc
    go (Some f) at some = slice_get_within app.locks l f at

-- the lock fields of whose classes an instruction makes an object
pub made_told : (app : AppParts) (m i kind above : ℕ) → made_type (ins_at app m i) ≡ Some kind → Tells above (IsBelowLock app kind) → Tells above (Makes app m i)
made_told app m i kind above made told =
    told_as (IsBelowLock app kind) (Makes app m i) above
    (λ l within. (
      (λ below. (kind, made, below)),
      λ h. (let same : ◌≡◌ {A = Option ℕ} (Some kind) (Some h.0) = sym made ∙ h.1 in let is : kind ≡ h.0 = cc in subst (λ (k : ℕ). IsBelowLock app k l) (sym is) h.2),
    ))
    told
