-- What a component list and DEX files come to: a subject that is judged, or the first refusal.
use Rattle.std.specs.Prelude.{ℕ, ◌≡◌, ◌≤◌, ◌<◌, vec_len, List, [], length, Option, Some, None, Result, Ok, Err, slice_get}
use Rattle.std.specs.List.{All}
use Rattle.std.specs.declared.alloc.Global.{Global}
use Rattle.std.specs.declared.vec.Vec.{Vec}
use Rattle.ns_base.specs.Answers.{limit_of}
use Rattle.ns_base.specs.declared.answers.Counted.TheVariants.{FileBytes, TagCells, Targets}
use Rattle.app_model.specs.CallGraph.{GraphParts}
use Rattle.app_model.specs.Components.{ComponentParts}
use Rattle.app_model.specs.Parts.{AppParts}
use Rattle.app_model.specs.Subject.{SubjectParts}
use Rattle.app_model.specs.Targets.{IsCallGraph, entry_count}
use Rattle.app_link.specs.Linking.{IsLinked}
use Rattle.app_link.specs.declared.link_fault.LinkFault.{LinkFault}
use Rattle.app_link.specs.declared.link_fault.LinkFault.TheVariants as link
use Rattle.component_list.specs.Binding.{bound_of}
use Rattle.component_list.specs.Listed.{ListedParts}
use Rattle.component_list.specs.declared.fault.ListFault.{ListFault}
use Rattle.dex_file.specs.Content.{FileContent, class_text}
use Rattle.dex_file.specs.Exact.{IsFault}
use Rattle.dex_file.specs.Reading.{content_of}
use Rattle.dex_file.specs.declared.fault.FileFault.{FileFault}
use Rattle.flow_model.specs.Breaks.{Candidate}
use Rattle.flow_model.specs.InScope.{IsInScope}
use Rattle.flow_model.specs.TagFlow.{IsTagTableOf}
use Rattle.scope_check.specs.Causes.{IsCause}
use Rattle.scope_check.specs.declared.scoping.ScopeFault.{ScopeFault}
use Rattle.tag_flow.specs.Answers.{HasCells, HasFew}
use Rattle.nosleep.specs.Refusals.{Refusal, Exceeds, InFile, InLink, InList, OutOfScope}

-- none has more bytes than a DEX file may have
abbrev pub AreSmall : List (Vec ℕ Global) → Type 0
AreSmall files = All (λ (bytes : Vec ℕ Global). vec_len bytes ≤ limit_of FileBytes) files

-- file number i comes to this
pub record Reads (files : List (List ℕ)) (i : ℕ) (result : Result FileContent FileFault) : Type 0 where
  pub bytes : List ℕ
  pub there : slice_get files i ≡ Some bytes
  pub read : content_of bytes ≡ result

abbrev pub AreReadTo : List (List ℕ) → ℕ → List FileContent → Type 0
AreReadTo files n contents = (length contents ≡ n) × ((i : ℕ) (content : FileContent) → slice_get contents i ≡ Some content → Reads files i (Ok content))

-- the contents of the files
abbrev pub AreContents : List (List ℕ) → List FileContent → Type 0
AreContents files contents = AreReadTo files (length files) contents

-- file number i has this first fault, or memory ran out there; those before it are read
pub record FailsAt (files : List (List ℕ)) (i : ℕ) (fault : FileFault) : Type 0 where
  pub bytes : List ℕ
  pub there : slice_get files i ≡ Some bytes
  pub before : List FileContent
  pub read : AreReadTo files i before
  pub fails : IsFault fault (content_of bytes)

-- the class that a fault of linking names, from the file that the fault names
abbrev pub class_in : Option FileContent → (row : ℕ) → List ℕ
class_in None row = []
class_in (Some content) row = class_text content row

abbrev pub named_by : List FileContent → LinkFault → List ℕ
named_by contents (link.DuplicateClass file row earlier) = class_in (slice_get contents file) row
named_by contents fault = []

-- the application of the files
pub record IsApplication (files : List (List ℕ)) (app : AppParts) : Type 0 where
  pub contents : List FileContent
  pub read : AreContents files contents
  pub linked : IsLinked contents (Ok app)

-- the entries of its call graph and the cells of its tags are as many as there may be
pub record IsWithinLimits (app : AppParts) (graph : GraphParts) (list : List ComponentParts) : Type 0 where
  pub targets : entry_count app ≤ limit_of Targets
  pub calls : IsCallGraph app graph
  pub cells : HasFew app graph list

-- each step is taken where those before it are
pub data ComesTo (listed : Result (List ListedParts) ListFault) (files : List (List ℕ)) : Result SubjectParts Refusal → Type 0 where
  bad_list : (fault : ListFault) → listed ≡ Err fault → ComesTo listed files (Err (InList fault))
  bad_file : (rows : List ListedParts) (i : ℕ) (fault : FileFault) → listed ≡ Ok rows → FailsAt files i fault
      → ComesTo listed files (Err (InFile i fault))
  bad_link : (rows : List ListedParts) (contents : List FileContent) (fault : LinkFault) → listed ≡ Ok rows → AreContents files contents → IsLinked contents (Err fault)
      → ComesTo listed files (Err (InLink (named_by contents fault) fault))
  unbound : (rows : List ListedParts) (app : AppParts) (fault : ListFault) → listed ≡ Ok rows → IsApplication files app → bound_of app rows ≡ Err fault
      → ComesTo listed files (Err (InList fault))
  -- the limits on what is found of the code: entries of the call graph, then cells of tags
  many_targets : (rows : List ListedParts) (app : AppParts) (list : List ComponentParts) → listed ≡ Ok rows → IsApplication files app → bound_of app rows ≡ Ok list → limit_of Targets < entry_count app
      → ComesTo listed files (Err (Exceeds Targets))
  many_cells : (rows : List ListedParts) (app : AppParts) (graph : GraphParts) (list : List ComponentParts) (n : ℕ) → listed ≡ Ok rows → IsApplication files app → bound_of app rows ≡ Ok list → entry_count app ≤ limit_of Targets
      → IsCallGraph app graph → HasCells app graph list n → limit_of TagCells < n → ComesTo listed files (Err (Exceeds TagCells))
  -- a broken rule of scope
  out_of_scope : (rows : List ListedParts) (found : Candidate) (fault : ScopeFault) → listed ≡ Ok rows → IsApplication files found.app → bound_of found.app rows ≡ Ok found.list → IsWithinLimits found.app found.graph found.list
      → IsTagTableOf found.app found.graph found.list found.tags → IsCause found fault → ComesTo listed files (Err (OutOfScope fault))
  judged : (rows : List ListedParts) (x : SubjectParts) → listed ≡ Ok rows → IsApplication files x.app → bound_of x.app rows ≡ Ok x.list → IsWithinLimits x.app x.graph x.list → IsInScope x → ComesTo listed files (Ok x)
