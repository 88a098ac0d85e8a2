-- Where a rule instance stands: the rule under its printed name, and three numbers. For V1 they are the component, 0 and
-- 0; for V2 to V4 the component, its state and the edge; for V5 the watching component, its state and the moving one;
-- for the others the method, the entry status and the pc.
use Rattle.std.specs.Prelude.{ℕ, List, Option, Some, None}
use Rattle.app_model.specs.declared.component.Edge.{Edge}
use Rattle.app_model.specs.Facts.{Fact}
use Rattle.app_model.specs.Subject.{SubjectParts}
use Rattle.app_model.specs.Words.{pc_at}
use Rattle.flow_model.specs.Rules.{Inside, Starts, Between}
use Rattle.flow_model.specs.Rules as rule
use Rattle.flow_model.specs.Subject.{Masks}

pub data Rule : Type 0 where
  V1 : Rule
  V2 : Rule
  V3 : Rule
  V4 : Rule
  V5 : Rule
  I1 : Rule
  I2 : Rule
  I3 : Rule
  C1 : Rule
  C2 : Rule
  C3 : Rule

pub record Place : Type 0 where
  pub rule : Rule
  pub a : ℕ
  pub b : ℕ
  pub c : ℕ

abbrev pub place : Rule → (a b c : ℕ) → Place
place rule a b c = record { rule = rule; a = a; b = b; c = c }

-- out of range the pc is 0
abbrev pub number_of : Option ℕ → ℕ
number_of None = 0
number_of (Some pc) = pc

abbrev pub at_pc : SubjectParts → Rule → (m e i : ℕ) → Place
at_pc x rule m e i = place rule m e (number_of (pc_at x.app m i))

abbrev pub inside_place : (x : SubjectParts) (l : ℕ) (masks : Masks) {needs : List Fact} {f : Fact} → Inside x l masks needs f → Place
inside_place x l masks (rule.I1 {m = m} {e = e} {i = i} k own there mask) = at_pc x I1 m e i
inside_place x l masks (rule.I1_return {m = m} {e = e} {i = i} returns) = at_pc x I1 m e i
inside_place x l masks (rule.I2 {m = m} {e = e} {i = i} k own there mask) = at_pc x I2 m e i
inside_place x l masks (rule.I3 {m = m} {e = e} {i = i} k there mask) = at_pc x I3 m e i
inside_place x l masks (rule.I3_leaves {m = m} {e = e} {i = i} leaves mask) = at_pc x I3 m e i
inside_place x l masks (rule.C1 {m = m} {e = e} {i = i} n callee open_at) = at_pc x C1 m e i
inside_place x l masks (rule.C2 {m = m} {e = e} {i = i} n callee open_at there) = at_pc x C2 m e i
inside_place x l masks (rule.C3 {m = m} {e = e} {i = i} n k callee open_at there) = at_pc x C3 m e i
inside_place x l masks (rule.C3_leaves {m = m} {e = e} {i = i} n callee open_at leaves) = at_pc x C3 m e i

abbrev pub start_place : (x : SubjectParts) (l : ℕ) {needs : List Fact} {f : Fact} → Starts x l needs f → Place
start_place x l (rule.V3 {c = c} {q = q} e there from method) = place V3 c q e

abbrev pub between_place : (x : SubjectParts) (carries : (c : ℕ) → Edge → (s t : ℕ) → List Fact → Type 0) {needs : List Fact} {f : Fact} → Between x carries needs f → Place
between_place x carries (rule.V1 {c = c} below) = place V1 c 0 0
between_place x carries (rule.V2 {c = c} {q = q} e there from to none carried) = place V2 c q e
between_place x carries (rule.V4 {c = c} {q = q} e m there from to method carried) = place V4 c q e
between_place x carries (rule.V5 {c = c} {q = q} {d = d} e other there from carried) = place V5 c q d
