-- The heads of two reports, by computation. No contract speaks of them: they show what the definitions print.
use Rattle.std.proofs.Common.{◌≡◌, ℕ, List, [], ◌∷◌, ◌++◌, None, codes, refl}
use Rattle.std.specs.Fmt.{digits}
use Rattle.app_model.specs.declared.component.Kind.{Kind}
use Rattle.app_model.specs.declared.component.Kind.TheVariants.{Receiver, Service}
use Rattle.app_model.specs.declared.rows.FieldRow.{FieldRow}
use Rattle.app_model.specs.Components.{ComponentParts}
use Rattle.app_model.specs.Names.{name_text, type_text, wake_lock_name}
use Rattle.app_model.specs.Parts.{AppParts}
use Rattle.app_model.specs.Shown.{lock_text}
use Rattle.app_model.specs.Slots.{class_text}
use Rattle.flow_model.specs.declared.policy.Violation.{Violation}
use Rattle.report_text.specs.Heads.{callback_text, head_text, heads_text, violation_text}

abbrev lock_field : (name : ℕ) → FieldRow
lock_field name = record { class = record { 0 = 0 }; name = record { 0 = name }; kind = record { 0 = 1 }; flags = 8 }

-- a class with two lock fields, of which one has a name that is not shown as it is
abbrev sample : AppParts
sample = record {
  types = codes "Lapp/W;" ∷ wake_lock_name ∷ [];
  names = codes "wl" ∷ (195 ∷ 169 ∷ []) ∷ [];
  protos = [];
  classes = record { name = record { 0 = 0 }; parent = None; interfaces = []; flags = 1 } ∷ [];
  methods = [];
  fields = lock_field 0 ∷ lock_field 1 ∷ [];
  locks = record { 0 = 0 } ∷ record { 0 = 1 } ∷ [];
  code = [];
  operands = [];
}

abbrev component : Kind → ComponentParts
component kind = record { class = record { 0 = 0 }; kind = kind; exits = 1; methods = [] }

abbrev violations : List Violation
violations =
    record { component = 0; callback = 0; lock = 0; status = 2 } ∷ record { component = 1; callback = 5; lock = 1; status = 7 } ∷ []

two_heads : heads_text sample (component Receiver ∷ component Service ∷ []) violations
    ≡ codes "report 1 of 2: Lapp/W;->wl is C1 after Lapp/W;->onReceive\n" ++ codes "report 2 of 2: Lapp/W;->\\xc3\\xa9 is L after Lapp/W;->onRebind\n"
unfolding digits head_text lock_text callback_text class_text name_text type_text violation_text
two_heads = refl
