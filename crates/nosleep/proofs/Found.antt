-- From what the steps give to what the files come to.
use Rattle.std.proofs.Common.{◌≡◌, ℕ, ◌≤◌, Bool, true, false, List, Result, Ok, Err, refl, sym, subst}
use Rattle.std.proofs.lemmas.Bool.{false≢true}
use Rattle.ns_base.specs.Answers.{limit_of}
use Rattle.ns_base.specs.Steps.{Unless}
use Rattle.ns_base.specs.declared.answers.Counted.{Counted}
use Rattle.ns_base.specs.declared.answers.Counted.TheVariants.{TagCells, Targets}
use Rattle.app_model.specs.CallGraph.{GraphParts}
use Rattle.app_model.specs.Components.{ComponentParts}
use Rattle.app_model.specs.Parts.{AppParts}
use Rattle.app_model.specs.Subject.{SubjectParts}
use Rattle.app_model.specs.TagTable.{TagParts}
use Rattle.app_model.specs.Targets.{IsCallGraph, entry_count}
use Rattle.component_list.specs.Binding.{bound_of}
use Rattle.component_list.specs.Listed.{ListedParts}
use Rattle.component_list.specs.Reading as lists
use Rattle.component_list.specs.declared.fault.ListFault.{ListFault}
use Rattle.flow_model.specs.Breaks.{Candidate}
use Rattle.flow_model.specs.InScope.{IsInScope, candidate_of}
use Rattle.flow_model.specs.TagFlow.{IsTagTableOf}
use Rattle.scope_check.specs.Causes.{IsCause}
use Rattle.scope_check.specs.declared.scoping.ScopeFault.{ScopeFault}
use Rattle.call_targets.specs.Answers as targets
use Rattle.call_targets.specs.declared.fault.TargetFault.{TargetFault}
use Rattle.call_targets.specs.declared.fault.TargetFault.TheVariants as target
use Rattle.tag_flow.specs.Answers as tags
use Rattle.tag_flow.specs.declared.fault.TagFault.{TagFault}
use Rattle.tag_flow.specs.declared.fault.TagFault.TheVariants as tag
use Rattle.nosleep.specs.declared.finding.Found.TheVariants.{Subject, Refused}
use Rattle.nosleep.specs.declared.refusing.Answer.{Answer}
use Rattle.nosleep.specs.Files.{ComesTo, IsApplication, IsWithinLimits, many_targets, many_cells, out_of_scope, judged}
use Rattle.nosleep.specs.Outcome.{HasFound, IsTooMany, counted_tag, counted_target}
use Rattle.nosleep.specs.Refusals.{Exceeds, InList, IsOver, IsRefused, OutOfScope}

-- a fault that is owed unless it is want of memory
owed : (b : Bool) (P : Type 0) → b ≡ false → Unless b P → P
owed true P e u = absurd (false≢true (sym e))
owed false P e u = u

-- a list is refused, whose reading or binding is exact
pub list_found : {T : Type 0} (listed : Result (List ListedParts) ListFault) (files : List (List ℕ)) (wanted : Result T ListFault) (fault : ListFault) (a : Answer) → Unless (lists.is_memory fault) (wanted ≡ Err fault)
    → (wanted ≡ Err fault → ComesTo listed files (Err (InList fault))) → IsRefused (InList fault) a.text.items a.exit → HasFound listed files (Refused a)
list_found listed files wanted fault a exact comes is = (InList fault, comes (owed (lists.is_memory fault) (wanted ≡ Err fault) is.0 exact), is)

-- ---- what is found of the code is too much, or breaks a rule of scope
abbrev candidate_by : AppParts → GraphParts → List ComponentParts → TagParts → Candidate
candidate_by app graph list tags = record { app = app; graph = graph; list = list; tags = tags }

module _ (files : List (List ℕ)) (rows : List ListedParts) (app : AppParts) (list : List ComponentParts) (is : IsApplication files app) (bound : bound_of app rows ≡ Ok list) where
  pub targets_found : (fault : TargetFault) (a : Answer) → targets.IsCause app fault → IsTooMany (counted_target fault) a.text.items a.exit → HasFound (Ok rows) files (Refused a)
  targets_found (target.Limit which) a cause told = (Exceeds Targets, many_targets rows app list refl is bound cause.1, (refl, subst (λ (c : Counted). IsOver c a.text.items a.exit) cause.0 told))
  targets_found target.Memory a cause told = absurd told

  pub tags_found : (graph : GraphParts) (fault : TagFault) (a : Answer) → entry_count app ≤ limit_of Targets → IsCallGraph app graph → tags.IsCause app graph list fault → IsTooMany (counted_tag fault) a.text.items a.exit
      → HasFound (Ok rows) files (Refused a)
  tags_found graph (tag.Limit which) a few is_graph cause told =
      (Exceeds TagCells, many_cells rows app graph list cause.1.0 refl is bound few is_graph cause.1.1 cause.1.2, (refl, subst (λ (c : Counted). IsOver c a.text.items a.exit) cause.0 told))
  tags_found graph tag.Memory a few is_graph cause told = absurd told

  module _ (graph : GraphParts) (table : TagParts) (within : IsWithinLimits app graph list) where
    pub scope_found : (fault : ScopeFault) (a : Answer) → IsTagTableOf app graph list table → IsCause (candidate_by app graph list table) fault → IsRefused (OutOfScope fault) a.text.items a.exit → HasFound (Ok rows) files (Refused a)
    scope_found fault a is_table cause told = (OutOfScope fault, out_of_scope rows (candidate_by app graph list table) fault refl is bound within is_table cause, told)

    pub subject_found : (x : SubjectParts) → candidate_of x ≡ candidate_by app graph list table → IsInScope x → HasFound (Ok rows) files (Subject x)
    subject_found x same scope =
        judged rows x refl (subst (λ (c : Candidate). IsApplication files c.app) (sym same) is) (subst (λ (c : Candidate). bound_of c.app rows ≡ Ok c.list) (sym same) bound)
        (subst (λ (c : Candidate). IsWithinLimits c.app c.graph c.list) (sym same) within) scope
