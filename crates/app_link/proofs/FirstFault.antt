-- Which faults come early, and which late.
use Rattle.std.proofs.Common.{◌≡◌, ◌⊎◌, inl, inr, refl, sym, ap, ◌∙◌, ℕ, suc, Bool, true, false, List, [], ◌∷◌, Option, Some, None, option_map, Result, Ok, Err, if◌then◌else◌, subst}
use Rattle.ns_base.specs.declared.answers.Counted.{Counted}
use Rattle.app_model.specs.Parts.{AppParts}
use Rattle.app_link.specs.declared.link_fault.LinkFault.{LinkFault}
use Rattle.app_link.specs.declared.link_fault.LinkFault.TheVariants.{DuplicateClass, CodeMissing, CodeUnwanted, SuperCycle, Limit, Memory}
use Rattle.app_link.specs.declared.class_checks.Repeat.{Repeat}
use Rattle.app_link.specs.declared.code_checks.CodeWrong.{CodeWrong}
use Rattle.app_link.specs.declared.code_checks.CodeWrong.TheVariants.{Missing, Unwanted}
use Rattle.dex_file.specs.Content.{FileContent}
use Rattle.app_rows.specs.Linked.{linked}
use Rattle.app_link.specs.LinkFaults.{◌or◌, duplicate_of, duplicate_fault, code_fault, code_fault_from, wrong_in_classes, units_fault, locks_fault}
use Rattle.app_link.specs.Linking.{IsLinked, IsWithin, IsChecked, IsAcyclic, early_fault, late_fault}
use Rattle.app_link.proofs.Ancestry.{at_get}

abbrev IsEarly : Option LinkFault → Type 0
IsEarly None = Unit {0}
IsEarly (Some (DuplicateClass file row earlier)) = Unit {0}
IsEarly (Some (CodeMissing file method)) = Unit {0}
IsEarly (Some (CodeUnwanted file method)) = Unit {0}
IsEarly (Some (SuperCycle file row)) = ⊥
IsEarly (Some (Limit which)) = ⊥
IsEarly (Some Memory) = ⊥

abbrev IsLate : Option LinkFault → Type 0
IsLate None = Unit {0}
IsLate (Some (DuplicateClass file row earlier)) = ⊥
IsLate (Some (CodeMissing file method)) = ⊥
IsLate (Some (CodeUnwanted file method)) = ⊥
IsLate (Some (SuperCycle file row)) = ⊥
IsLate (Some (Limit which)) = Unit {0}
IsLate (Some Memory) = ⊥

either_way : (P : Option LinkFault → Type 0) (a b : Option LinkFault) → P a → P b → P (a or b)
either_way P None b first second = second
either_way P (Some fault) b first second = first

duplicate_early : (counts : List ℕ) (repeat : Option Repeat) → IsEarly (duplicate_of counts repeat)
duplicate_early counts None = tt
duplicate_early counts (Some repeat) = tt

code_early : (wrong : CodeWrong) (n : ℕ) (id : Option ℕ) → IsEarly (option_map (code_fault wrong n) id)
code_early wrong n None = tt
code_early Missing n (Some id) = tt
code_early Unwanted n (Some id) = tt

codes_early : (wrong : CodeWrong) (files : List FileContent) (n : ℕ) → IsEarly (code_fault_from wrong n files)
codes_early wrong [] n = tt
codes_early wrong (file ∷ more) n = either_way IsEarly _ _ (code_early wrong n (wrong_in_classes wrong file.classes)) (codes_early wrong more (suc n))

is_early : (files : List FileContent) → IsEarly (early_fault files)
is_early files =
    either_way IsEarly (duplicate_fault files) _ (duplicate_early _ _) (either_way IsEarly (code_fault_from Missing 0 files) _ (codes_early Missing files 0) (codes_early Unwanted files 0))

above_late : (which : Counted) (b : Bool) → IsLate (if b then Some (Limit which) else None)
above_late which true = tt
above_late which false = tt

is_late : (files : List FileContent) → IsLate (late_fault files)
is_late files = either_way IsLate (units_fault files) _ (above_late _ _) (either_way IsLate (locks_fault (linked files)) _ (above_late _ _) (above_late _ _))

-- a fault that comes early is the answer
pub early_linked : (files : List FileContent) (fault : LinkFault) → early_fault files ≡ Some fault → IsLinked files (Err fault)
early_linked files (DuplicateClass file row earlier) is = is
early_linked files (CodeMissing file method) is = is
early_linked files (CodeUnwanted file method) is = is
early_linked files (SuperCycle file row) is = absurd (subst IsEarly is (is_early files))
early_linked files (Limit which) is = absurd (subst IsEarly is (is_early files))
early_linked files Memory is = tt

late_linked : (files : List FileContent) (fault : LinkFault) → early_fault files ≡ None → IsAcyclic files → late_fault files ≡ Some fault → IsLinked files (Err fault)
late_linked files (DuplicateClass file row earlier) early acyclic is = absurd (subst IsLate is (is_late files))
late_linked files (CodeMissing file method) early acyclic is = absurd (subst IsLate is (is_late files))
late_linked files (CodeUnwanted file method) early acyclic is = absurd (subst IsLate is (is_late files))
late_linked files (SuperCycle file row) early acyclic is = absurd (subst IsLate is (is_late files))
late_linked files (Limit which) early acyclic is = (early, acyclic, is)
late_linked files Memory early acyclic is = tt

ended : (files : List FileContent) (result : Result AppParts LinkFault) → early_fault files ≡ None → IsAcyclic files → IsWithin (units_fault files) (linked files) result → IsChecked files result
ended files (Ok rows) early acyclic end = (end.0, early, acyclic, end.1, end.2)
ended files (Err fault) early acyclic end = late_linked files fault early acyclic end

-- and so is what is found at last
pub checked : (files : List FileContent) (rows : AppParts) (units : Option LinkFault) (result : Result AppParts LinkFault) → rows ≡ linked files → units ≡ units_fault files
    → early_fault files ≡ None → IsAcyclic files → IsWithin units rows result → IsChecked files result
checked files rows units result are is early acyclic end =
    ended files result early acyclic (subst (λ r. IsWithin (units_fault files) r result) are (subst (λ u. IsWithin u rows result) is end))

-- files that have an application have no other answer but want of memory
pub linked_once : (files : List FileContent) (app : AppParts) (other : Result AppParts LinkFault) → IsLinked files (Ok app) → IsLinked files other → (other ≡ Ok app) ⊎ (other ≡ Err Memory)
linked_once files app (Ok b) p q = inl (ap Ok (q.0 ∙ sym p.0))
linked_once files app (Err Memory) p q = inr refl
linked_once files app (Err (SuperCycle file row)) p q = absurd (p.2 q.1.number q.1.class (at_get _ _ _ q.1.there).0 q.1.there q.1.cyclic)
linked_once files app (Err (Limit which)) p q = let none = p.3 in let some = q.2 in absurd (let no : ⊥ = cc in no)
linked_once files app (Err (DuplicateClass file row earlier)) p q = let none = p.1 in absurd (let no : ⊥ = cc in no)
linked_once files app (Err (CodeMissing file method)) p q = let none = p.1 in absurd (let no : ⊥ = cc in no)
linked_once files app (Err (CodeUnwanted file method)) p q = let none = p.1 in absurd (let no : ⊥ = cc in no)
