-- What always holds of an application that is looked at, with its call graph, its component list and its tags.
use Rattle.std.specs.Prelude.{List}
use Rattle.app_model.specs.CallGraph.{GraphParts}
use Rattle.app_model.specs.Components.{BelongsTo, ComponentParts}
use Rattle.app_model.specs.Parts.{AppParts}
use Rattle.app_model.specs.Sound.{IsSoundApp}
use Rattle.app_model.specs.TagTable.{TagParts}
use Rattle.app_model.specs.Targets.{IsCallGraph}
use Rattle.flow_model.specs.Breaks.{Candidate}
use Rattle.flow_model.specs.TagFlow.{IsTagTableOf}

abbrev pub candidate : AppParts → GraphParts → List ComponentParts → TagParts → Candidate
candidate app graph list tags = record { app = app; graph = graph; list = list; tags = tags }

pub record IsCase (x : Candidate) : Type 0 where
  pub sound : IsSoundApp x.app
  pub list : BelongsTo x.app x.list
  pub graph : IsCallGraph x.app x.graph
  pub tags : IsTagTableOf x.app x.graph x.list x.tags
