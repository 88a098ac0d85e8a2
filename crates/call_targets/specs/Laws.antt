-- What a virtual call can call, in the words of the subject.
use Rattle.std.specs.Prelude.{ℕ, ◌≡◌, ◌⊎◌, ◌↔◌, true, false, Some, None, Option, Contains}
use Rattle.app_model.specs.declared.calls.By.TheVariants.{Virtual}
use Rattle.app_model.specs.declared.rows.Named.{Named}
use Rattle.app_model.specs.Hierarchy.{class_of_type, lookup_of}
use Rattle.app_model.specs.Parts.{AppParts, ClassParts}
use Rattle.app_model.specs.Targets.{call_by, is_foreign, may_receive, targets_of_call}

-- a class of the application that the receiver may have, whose look-up ends there
pub record Receives (app : AppParts) (named : Named) (found : Option ℕ) : Type 0 where
  pub class : ClassParts
  pub there : Contains app.classes class
  pub may : may_receive app named class ≡ true
  pub finds : lookup_of app class.name.0 named.name.0 named.proto.0 ≡ found

-- a method is a callee exactly where such a look-up finds it; the call leads outside exactly where the named class is none
-- of the application's, or such a look-up ends outside
pub record TellsCalls (app : AppParts) (m op : ℕ) (named : Named) : Type 0 where
  pub callees : (n : ℕ) → Contains (targets_of_call app m op named).callees (record { 0 = n }) ↔ Receives app named (Some n)
  pub outside : ((targets_of_call app m op named).outside ≡ true) ↔ ((class_of_type app.classes named.class.0 ≡ None) ⊎ Receives app named None)

abbrev pub CallLaw : Type 0
CallLaw = (app : AppParts) (m op : ℕ) (named : Named) → call_by op ≡ Virtual → is_foreign app op named ≡ false → TellsCalls app m op named
