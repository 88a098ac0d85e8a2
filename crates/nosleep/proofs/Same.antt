-- What files come to is one thing: where it is a subject, an answer to them is its judgement.
use Rattle.std.proofs.Common.{◌≡◌, ℕ, ◌<◌, List, Result, Ok, Err, ◌⊎◌, inl, inr, refl, ◌∙◌, ap, sym, subst, arith}
use Rattle.std.proofs.lemmas.Bool.{false≢true}
use Rattle.ns_base.specs.Answers.{limit_of}
use Rattle.ns_base.specs.declared.answers.Counted.TheVariants.{TagCells, Targets}
use Rattle.ns_base.specs.declared.answers.Exit.{Exit}
use Rattle.app_model.specs.CallGraph.{GraphParts}
use Rattle.app_model.specs.Components.{ComponentParts}
use Rattle.app_model.specs.Parts.{AppParts}
use Rattle.app_model.specs.Subject.{SubjectParts}
use Rattle.app_model.specs.Targets.{IsCallGraph, entry_count}
use Rattle.app_link.specs.declared.link_fault.LinkFault.{LinkFault}
use Rattle.app_link.specs.declared.link_fault.LinkFault.TheVariants as link
use Rattle.app_link.specs.Linking.{IsLinked}
use Rattle.app_link.proofs.FirstFault.{linked_once}
use Rattle.component_list.specs.Binding.{bound_of}
use Rattle.component_list.specs.Listed.{ListedParts}
use Rattle.component_list.specs.declared.fault.ListFault.{ListFault}
use Rattle.dex_file.specs.Content.{FileContent}
use Rattle.dex_file.specs.Exact.{IsFault}
use Rattle.dex_file.specs.declared.fault.FileFault.{FileFault}
use Rattle.dex_file.specs.declared.fault.FileFault.TheVariants.{Dex, Code, Memory}
use Rattle.flow_model.specs.Breaks.{Breaks, Candidate}
use Rattle.flow_model.specs.InScope.{IsInScope}
use Rattle.flow_model.specs.TagFlow.{IsTagTableOf}
use Rattle.scope_check.specs.Causes.{IsCause}
use Rattle.scope_check.specs.declared.scoping.ScopeFault.{ScopeFault}
use Rattle.scope_check.specs.declared.scoping.ScopeFault.TheVariants as scopes
use Rattle.tag_flow.specs.Answers.{HasCells}
use Rattle.one_scope.proofs.Graphs.{same_cells, same_targets}
use Rattle.one_scope.proofs.Breaks.{same_breaks}
use Rattle.nosleep.specs.Answer.{IsOutcomeBy}
use Rattle.nosleep.specs.Files.{ComesTo, IsApplication, IsWithinLimits, bad_list, bad_file, bad_link, unbound, many_targets, many_cells, out_of_scope, judged, named_by}
use Rattle.nosleep.specs.Refusals.{IsRefused, InFile, InLink, OutOfScope, Refusal}
use Rattle.nosleep.proofs.ReadLaws.{contents_once, has_content}

not_both : {X E : Type 0} (x : X) (e : E) (r : Result X E) → r ≡ Ok x → r ≡ Err e → ⊥
not_both x e r p q = cc

same_ok : {X E : Type 0} (x y : X) (r : Result X E) → r ≡ Ok x → r ≡ Ok y → x ≡ y
same_ok x y r p q = cc

-- a file with a content has no fault but want of memory
no_fault : (content : FileContent) (fault : FileFault) (wanted : Result FileContent FileFault) (i : ℕ) (text : List ℕ) (exit : Exit)
    → wanted ≡ Ok content → IsFault fault wanted → IsRefused (InFile i fault) text exit → ⊥
no_fault content Memory wanted i text exit ok is r = false≢true (sym r.0)
no_fault content (Dex fault) wanted i text exit ok is r = not_both content (Dex fault) wanted ok is.1
no_fault content (Code method fault) wanted i text exit ok is r = not_both content (Code method fault) wanted ok is.1

no_link_fault : (contents : List FileContent) (app : AppParts) (name : List ℕ) (fault : LinkFault) (text : List ℕ) (exit : Exit)
    → IsLinked contents (Ok app) → IsLinked contents (Err fault) → IsRefused (InLink name fault) text exit → ⊥
no_link_fault contents app name fault text exit ok is r = by_case (linked_once contents app (Err fault) ok is) where
  by_case : (◌≡◌ {A = Result AppParts LinkFault} (Err fault) (Ok app)) ⊎ (◌≡◌ {A = Result AppParts LinkFault} (Err fault) (Err link.Memory)) → ⊥
  by_case (inl e) = not_both app fault (Err fault) e refl
  by_case (inr e) = let same : fault ≡ link.Memory = cc in false≢true (sym (subst (λ (f : LinkFault). IsRefused (InLink name f) text exit) same r).0)

same_app : (files : List (List ℕ)) (app other : AppParts) → IsApplication files app → IsApplication files other → other ≡ app
same_app files app other p q =
    let same = contents_once files q.contents p.contents q.read p.read in
    by_case (linked_once p.contents app (Ok other) p.linked (subst (λ (c : List FileContent). IsLinked c (Ok other)) same q.linked)) where
      by_case : (◌≡◌ {A = Result AppParts LinkFault} (Ok other) (Ok app)) ⊎ (◌≡◌ {A = Result AppParts LinkFault} (Ok other) (Err link.Memory)) → other ≡ app
      by_case (inl e) = cc
      by_case (inr e) = cc

module _ (listed : Result (List ListedParts) ListFault) (files : List (List ℕ)) (rows : List ListedParts) (x : SubjectParts)
    (l : listed ≡ Ok rows) (is : IsApplication files x.app) (bound : bound_of x.app rows ≡ Ok x.list) (within : IsWithinLimits x.app x.graph x.list) (scope : IsInScope x) where
  bound_here : (others : List ListedParts) (other : AppParts) (r : Result (List ComponentParts) ListFault) → listed ≡ Ok others → IsApplication files other → bound_of other others ≡ r
      → (other ≡ x.app) × (bound_of x.app rows ≡ r)
  bound_here others other r e at b =
      let one = same_app files x.app other is at in let two = same_ok others rows listed e l in
      (one, ap (λ (a : AppParts). bound_of a rows) (sym one) ∙ ap (λ (o : List ListedParts). bound_of other o) (sym two) ∙ b)

  -- the same components
  list_here : (others : List ListedParts) (other : AppParts) (list : List ComponentParts) → listed ≡ Ok others → IsApplication files other → bound_of other others ≡ Ok list → (other ≡ x.app) × (list ≡ x.list)
  list_here others other list e at b = let here = bound_here others other (Ok list) e at b in (here.0, same_ok list x.list (bound_of x.app rows) here.1 bound)

  -- no limit is exceeded, and no rule of scope broken, by whatever graph and table
  few_targets : (other : AppParts) → other ≡ x.app → limit_of Targets < entry_count other → ⊥
  few_targets other same many = let here : limit_of Targets < entry_count x.app = subst (λ (a : AppParts). limit_of Targets < entry_count a) same many in omega (arith, here, within.targets)

  few_cells : (other : AppParts) (graph : GraphParts) (list : List ComponentParts) (n : ℕ) → other ≡ x.app → list ≡ x.list → IsCallGraph other graph → HasCells other graph list n → limit_of TagCells < n → ⊥
  few_cells other graph list n same_app same_list is_graph cells many =
      let graph_here = subst (λ (a : AppParts). IsCallGraph a graph) same_app is_graph in
      let cells_here = subst (λ (a : AppParts). HasCells a graph x.list n) same_app (subst (λ (c : List ComponentParts). HasCells other graph c n) same_list cells) in
      let own = within.cells.1 in
      let total = same_cells x.graph graph (same_targets x.app x.graph graph within.calls graph_here) x.app x.list own.reached cells_here.reached own.reaches cells_here.reaches in
      omega (arith, many, within.cells.2, own.count, cells_here.count, total)

  no_break : (found : Candidate) (fault : ScopeFault) (text : List ℕ) (exit : Exit) → found.app ≡ x.app → found.list ≡ x.list → IsWithinLimits found.app found.graph found.list → IsTagTableOf found.app found.graph found.list found.tags
      → IsCause found fault → IsRefused (OutOfScope fault) text exit → ⊥
  no_break found scopes.Memory text exit same_app same_list fits table cause r = false≢true (sym r.0)
  no_break found (scopes.Rule rule method pc class name) text exit same_app same_list fits table cause r =
      let graph_here = subst (λ (a : AppParts). IsCallGraph a found.graph) same_app fits.calls in
      let table_here = subst (λ (a : AppParts). IsTagTableOf a found.graph x.list found.tags) same_app (subst (λ (c : List ComponentParts). IsTagTableOf found.app found.graph c found.tags) same_list table) in
      let broken = cause.first.broken in
      let same : found ≡ record { app = x.app; graph = found.graph; list = x.list; tags = found.tags } = rw (same_app, same_list) refl in
      scope.unbroken rule method.0 pc
      (same_breaks x.app x.list found.graph x.graph found.tags x.tags graph_here scope.graph table_here scope.tags (subst (λ (c : Candidate). Breaks c rule method.0 pc) same broken))

  judged_outcome : (P : SubjectParts → List ℕ → Exit → Type 0) (r : Result SubjectParts Refusal) (text : List ℕ) (exit : Exit) → ComesTo listed files r → IsOutcomeBy P r text exit → P x text exit
  judged_outcome P _ text exit (bad_list fault e) o = absurd (not_both rows fault listed l e)
  judged_outcome P _ text exit (bad_file others i fault e fails) o =
      let c = has_content files is.contents i fails.bytes is.read fails.there in
      absurd (no_fault c.0 fault _ i text exit c.1 fails.fails o)
  judged_outcome P _ text exit (bad_link others contents fault e are linked) o =
      let same = contents_once files contents is.contents are is.read in
      absurd (no_link_fault is.contents x.app (named_by contents fault) fault text exit is.linked (subst (λ (c : List FileContent). IsLinked c (Err fault)) same linked) o)
  judged_outcome P _ text exit (unbound others other fault e at b) o = absurd (not_both x.list fault _ bound (bound_here others other _ e at b).1)
  judged_outcome P _ text exit (many_targets others other list e at b many) o = absurd (few_targets other (bound_here others other _ e at b).0 many)
  judged_outcome P _ text exit (many_cells others other graph list n e at b few is_graph cells many) o =
      let here = list_here others other list e at b in absurd (few_cells other graph list n here.0 here.1 is_graph cells many)
  judged_outcome P _ text exit (out_of_scope others found fault e at b fits table cause) o =
      let here = list_here others found.app found.list e at b in absurd (no_break found fault text exit here.0 here.1 fits table cause o)
  judged_outcome P _ text exit (judged others other e at b fits in_scope) o =
      let here = list_here others other.app other.list e at b in o x (record { app = here.0; list = here.1; first = in_scope; second = scope })

module _ (listed : Result (List ListedParts) ListFault) (files : List (List ℕ)) where
  pub outcome_of_judged : (P : SubjectParts → List ℕ → Exit → Type 0) (s r : Result SubjectParts Refusal) (x : SubjectParts) (text : List ℕ) (exit : Exit) → s ≡ Ok x → ComesTo listed files s → ComesTo listed files r → IsOutcomeBy P r text exit → P x text exit
  outcome_of_judged P _ r x text exit same (judged rows y l is b within scope) c o =
      subst (λ (z : SubjectParts). P z text exit) (same_ok y x (Ok y) refl same) (judged_outcome listed files rows y l is b within scope P r text exit c o)
  outcome_of_judged P _ r x text exit same (bad_list fault e) c o = absurd (not_both x _ _ same refl)
  outcome_of_judged P _ r x text exit same (bad_file rows i fault e fails) c o = absurd (not_both x _ _ same refl)
  outcome_of_judged P _ r x text exit same (bad_link rows contents fault e are linked) c o = absurd (not_both x _ _ same refl)
  outcome_of_judged P _ r x text exit same (unbound rows app fault e at b) c o = absurd (not_both x _ _ same refl)
  outcome_of_judged P _ r x text exit same (many_targets rows app list e at b many) c o = absurd (not_both x _ _ same refl)
  outcome_of_judged P _ r x text exit same (many_cells rows app graph list n e at b few is_graph cells many) c o = absurd (not_both x _ _ same refl)
  outcome_of_judged P _ r x text exit same (out_of_scope rows other fault e at b fits table cause) c o = absurd (not_both x _ _ same refl)
