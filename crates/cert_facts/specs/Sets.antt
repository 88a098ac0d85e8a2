-- The facts of a part of a certificate: each row has the statuses of its masks.
use Rattle.std.specs.Prelude.{ℕ, Bool, false, List, ◌==◌, ◌&&◌, Option, Some, None, slice_get, slice_index}
use Rattle.std.specs.List.{list_any}
use Rattle.app_model.specs.Facts.{View, At, Ret, Exc}
use Rattle.app_model.specs.Masks.{in_mask}
use Rattle.flow_model.specs.Derived.{Set}
use Rattle.cert_line.specs.declared.rows.ViewRow.{ViewRow}
use Rattle.cert_line.specs.Parts.{BodyParts}
use Rattle.certificate.specs.Parts.{LockRows, CertParts}

-- a row tells of component c in state q, of method m entered at status e
abbrev pub is_of_state : (c q : ℕ) → ViewRow → Bool
is_of_state c q row = row.component == c && row.state == q

abbrev pub is_of_entry : (m e : ℕ) → BodyParts → Bool
is_of_entry m e row = row.method == m && row.entry == e

-- some row of that has the status in a mask
abbrev pub view_has : List ViewRow → (c q s : ℕ) → Bool
view_has rows c q s = list_any (λ row. is_of_state c q row && in_mask row.mask s) rows

abbrev pub body_has : (BodyParts → ℕ) → List BodyParts → (m e s : ℕ) → Bool
body_has mask rows m e s = list_any (λ row. is_of_entry m e row && in_mask (mask row) s) rows

unfoldable pub facts_of : LockRows → Set
facts_of part (View c q s) = view_has part.views c q s
facts_of part (At m e i s) = body_has (λ row. slice_index row.masks i) part.bodies m e s
facts_of part (Ret m e s) = body_has (λ row. row.ret) part.bodies m e s
facts_of part (Exc m e s) = body_has (λ row. row.exc) part.bodies m e s

-- of lock field l
abbrev pub facts_in : Option LockRows → Set
facts_in None = λ f. false
facts_in (Some part) = facts_of part

abbrev pub facts_at : CertParts → (l : ℕ) → Set
facts_at cert l = facts_in (slice_get cert.locks l)
