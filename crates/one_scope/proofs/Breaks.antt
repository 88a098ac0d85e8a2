-- The same rules are broken, whichever call graph and table of tags an application is given with.
use Rattle.std.proofs.Common.{◌≡◌, ℕ, Bool, true, List, sym, ap, ◌∙◌}
use Rattle.std.specs.Prelude.{Option}
use Rattle.app_model.specs.declared.rows.FieldRow.{FieldRow}
use Rattle.app_model.specs.declared.tag.Tag.{Tag}
use Rattle.app_model.specs.CallGraph.{GraphParts}
use Rattle.app_model.specs.Components.{ComponentParts}
use Rattle.app_model.specs.Parts.{AppParts}
use Rattle.app_model.specs.TagTable.{TagParts, row_at}
use Rattle.act_model.specs.declared.act.Act.{Act}
use Rattle.act_model.specs.Acts.{act_at}
use Rattle.flow_model.specs.Breaks.{Breaks, Candidate, IsAccess, IsBelow, IsEntered, IsMade, StoresNew, class_init_touches, escape, init_touches, loads, made_by_hand, native_call, native_entry, reflective_call, second_store, thread_call, thread_made, unfit_access, unlisted, unowned, unreached, wrong_call}
use Rattle.flow_model.specs.Scope.{is_escape, is_wrong_call, stores_new}
use Rattle.flow_model.specs.TagFlow.{IsTagTableOf}
use Rattle.app_model.specs.Targets.{IsCallGraph}
use Rattle.one_scope.proofs.Graphs.{HasSameTargets, callee_over, reached_over, same_targets, turned}
use Rattle.one_scope.proofs.Tables.{same_rows}

abbrev pub candidate : AppParts → List ComponentParts → GraphParts → TagParts → Candidate
candidate app list graph tags = record { app = app; graph = graph; list = list; tags = tags }

module _ (app : AppParts) (list : List ComponentParts) (one other : GraphParts) (same : HasSameTargets one other) (low high : TagParts) (rows : (m i : ℕ) → row_at low m i ≡ row_at high m i) where
  abbrev left : Candidate
  left = candidate app list one low

  abbrev right : Candidate
  right = candidate app list other high

  entered_over : (m : ℕ) → IsEntered left m → IsEntered right m
  entered_over m entered = reached_over one other same _ m entered

  left_out_over : (m : ℕ) → ¬ IsEntered left m → ¬ IsEntered right m
  left_out_over m out entered = out (reached_over other one (turned one other same) _ m entered)

  pub below_over : (m n : ℕ) → IsBelow left m n → IsBelow right m n
  below_over m n below = reached_over one other same _ n below

  pub access_over : {m i l : ℕ} {field : FieldRow} → IsAccess left m i l field → IsAccess right m i l field
  access_over {m = m} access = record { reached = entered_over m access.reached; slot = access.slot; is = access.is }

  made_over : (field : FieldRow) → IsMade left field → IsMade right field
  made_over field made = record {
    method = made.method;
    index = made.index;
    kind = made.kind;
    reached = entered_over made.method made.reached;
    makes = made.makes;
    below = made.below;
  }

  pub test_over : (m i : ℕ) (test : Option Act → List Tag → Bool) → test (act_at app m i) (row_at low m i) ≡ true → test (act_at app m i) (row_at high m i) ≡ true
  test_over m i test is = ap (test (act_at app m i)) (sym (rows m i)) ∙ is

  store_over : {l m i : ℕ} → StoresNew left l m i → StoresNew right l m i
  store_over {l = l} {m = m} {i = i} store = record { reached = entered_over m store.reached; stores = test_over m i (stores_new l) store.stores }

  pub breaks_over : {rule m pc : ℕ} → Breaks left rule m pc → Breaks right rule m pc
  breaks_over (native_entry c k there native) = native_entry c k there native
  breaks_over (native_call {m = m} i n entered at callee native) = native_call i n (entered_over m entered) at (callee_over one other same m i n callee) native
  breaks_over (loads {m = m} i entered at is) = loads i (entered_over m entered) at is
  breaks_over (reflective_call {m = m} i entered at is) = reflective_call i (entered_over m entered) at is
  breaks_over (thread_made {m = m} i t entered at makes is) = thread_made i t (entered_over m entered) at makes is
  breaks_over (thread_call {m = m} i entered at is) = thread_call i (entered_over m entered) at is
  breaks_over (escape {m = m} i entered at is) = escape i (entered_over m entered) at (test_over m i is_escape is)
  breaks_over (wrong_call {m = m} i entered at is) = wrong_call i (entered_over m entered) at (test_over m i is_wrong_call is)
  breaks_over (second_store i l n j at second first earlier) = second_store i l n j at (store_over second) (store_over first) earlier
  breaks_over (unowned i at access instance count) = unowned i at (access_over access) instance count
  breaks_over (made_by_hand {field = field} i at access instance made) = made_by_hand i at (access_over access) instance (made_over field made)
  breaks_over (unfit_access i at access unfit) = unfit_access i at (access_over access) unfit
  breaks_over (unreached {m = m} i out named at is) = unreached i (left_out_over m out) named at is
  breaks_over (unlisted {m = m} n i out named below is) = unlisted n i (left_out_over m out) named (below_over m n below) is
  breaks_over (class_init_touches {m = m} n i named below is) = class_init_touches n i named (below_over m n below) is
  breaks_over (init_touches {m = m} n i out named there listed inherits below is) = init_touches n i (left_out_over m out) named there listed inherits (below_over m n below) is

-- of an application with its component list
pub same_breaks : (app : AppParts) (list : List ComponentParts) (one other : GraphParts) (low high : TagParts) → IsCallGraph app one → IsCallGraph app other → IsTagTableOf app one list low → IsTagTableOf app other list high
    → {rule m pc : ℕ} → Breaks (candidate app list one low) rule m pc → Breaks (candidate app list other high) rule m pc
same_breaks app list one other low high by_one by_other left right =
    let same = same_targets app one other by_one by_other in
    breaks_over app list one other same low high (same_rows app list one other low high same left right)
