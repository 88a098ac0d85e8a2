-- The heads of the reports: a line for each violation.
use Rattle.std.specs.Prelude.{ℕ, zero, suc, List, [], ◌∷◌, ◌++◌, length, Option, Some, None, slice_get, slice_index_or, codes, decimal}
use Rattle.app_model.specs.Parts.{AppParts}
use Rattle.app_model.specs.Shown.{lock_text, member_text}
use Rattle.app_model.specs.Slots.{class_text}
use Rattle.app_model.specs.Components.{ComponentParts, callbacks_of}
use Rattle.flow_model.specs.declared.policy.Violation.{Violation}
use Rattle.report_text.specs.Texts.{line}

abbrev pub status_names : List (List ℕ)
status_names =
    codes "A" ∷ codes "C0" ∷ codes "C1" ∷ codes "C2" ∷ codes "CT" ∷ codes "U0" ∷ codes "U1" ∷ codes "L" ∷ []

abbrev pub status_name : ℕ → List ℕ
status_name s = slice_index_or status_names s []

abbrev pub callback_of : AppParts → Option ComponentParts → ℕ → List ℕ
callback_of app None k = []
callback_of app (Some component) k = member_text (class_text app component.class.0) (slice_index_or (callbacks_of component.kind) k [])

-- a callback of a component
unfoldable pub callback_text : AppParts → List ComponentParts → (c k : ℕ) → List ℕ
callback_text app list c k = callback_of app (slice_get list c) k

abbrev pub no_violation : Violation
no_violation = record { component = 0; callback = 0; lock = 0; status = 0 }

-- which lock field is at which status after which callback
unfoldable pub violation_text : AppParts → List ComponentParts → Violation → List ℕ
violation_text app list v =
    lock_text app v.lock ++ codes " is " ++ status_name v.status ++ codes " after " ++ callback_text app list v.component v.callback

-- report i of n
unfoldable pub head_text : AppParts → List ComponentParts → (i n : ℕ) → Violation → List ℕ
head_text app list i n v = line (codes "report " ++ decimal i ++ codes " of " ++ decimal n ++ codes ": " ++ violation_text app list v)

-- the heads of the first i of some violations
abbrev pub heads_before : AppParts → List ComponentParts → List Violation → ℕ → List ℕ
heads_before app list violations zero = []
heads_before app list violations (suc i) =
    heads_before app list violations i ++ head_text app list (suc i) (length violations) (slice_index_or violations i no_violation)

abbrev pub heads_text : AppParts → List ComponentParts → List Violation → List ℕ
heads_text app list violations = heads_before app list violations (length violations)
