-- The pass over all methods and instructions, which keeps the first broken rule.
use Rattle.std.specs.Prelude.{ℕ, ◌≡◌, ◌<◌, Bool, true, false, Option, Some, None, slice_get}
use Rattle.app_model.specs.Masks.{in_lock_mask}
use Rattle.app_model.specs.Words.{pc_at}
use Rattle.flow_model.specs.Breaks.{Breaks, Candidate, IsEarlier, IsFirstBreak, StoresNew}
use Rattle.scope_check.specs.declared.found.Found.{Found}
use Rattle.scope_check.specs.declared.pass.Pass.{Pass}
use Rattle.scope_facts.specs.Bits.{Tells}
use Rattle.scope_check.specs.Founds.{Covers, IsFound}
use Rattle.scope_check.specs.Surveys.{SurveyParts}
use Rattle.scope_check.specs.Tests.{head_tests, tests_at}

-- a new lock was stored to field l before instruction i of method m
abbrev pub StoredBefore : Candidate → (m i l : ℕ) → Type 0
StoredBefore x m i l = (n : ℕ) × (j : ℕ) × StoresNew x l n j × IsEarlier n j m i

abbrev pub has_stored : (stored : ℕ) → Option ℕ → Bool
has_stored stored None = false
has_stored stored (Some l) = in_lock_mask stored l

-- what is kept is broken, and covers what is broken before instruction i of method m, and at the methods below `heads` as a whole
pub record IsPass (s : SurveyParts) (heads m i : ℕ) (pass : Pass) : Type 0 where
  pub sound : (rule n pc : ℕ) → IsFound pass.kept rule n pc → Breaks s.case rule n pc
  pub tests : (n j r p : ℕ) → IsEarlier n j m i → pc_at s.case.app n j ≡ Some p → slice_get (tests_at s n j) r ≡ Some true → Covers pass.kept r n p
  pub seconds : (l n j k e p : ℕ) → IsEarlier n j m i → pc_at s.case.app n j ≡ Some p → StoresNew s.case l n j → StoresNew s.case l k e → IsEarlier k e n j → Covers pass.kept 6 n p
  pub whole : (n r : ℕ) → n < heads → slice_get (head_tests s n) r ≡ Some true → Covers pass.kept r n 0
  pub stored : Tells pass.stored (StoredBefore s.case m i)

-- the first rule that is broken, at the first place where it is; None where no rule is
abbrev pub IsFirst : Candidate → Option Found → Type 0
IsFirst x None = (rule m pc : ℕ) → ¬ Breaks x rule m pc
IsFirst x (Some found) = IsFirstBreak x found.rule found.method.0 found.pc
