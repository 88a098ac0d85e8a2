-- Call graphs of one application have the same targets, so that the same is reached.
use Rattle.std.proofs.Common.{◌≡◌, ℕ, Bool, true, List, sym, ap, ◌∙◌, subst}
use Rattle.std.specs.Prelude.{Contains}
use Rattle.std.proofs.Math.Path.{fun_ext}
use Rattle.ns_base.specs.declared.rows.MethodNo.{MethodNo}
use Rattle.app_model.specs.CallGraph.{GraphParts, TargetParts, callees_at, outside_at, targets_at}
use Rattle.app_model.specs.Components.{ComponentParts, entries_of}
use Rattle.app_model.specs.Parts.{AppParts}
use Rattle.app_model.specs.Reach.{Assigns, IsReached, called, given}
use Rattle.app_model.specs.TagTable.{cell_total}
use Rattle.app_model.specs.Targets.{IsCallGraph}
use Rattle.flow_model.specs.TagFlow.{TellsReached, TellsStores}
use Rattle.flow_model.proofs.TestLaws.{bool_same}

-- each instruction can call the same in both
pub record HasSameTargets (one other : GraphParts) : Type 0 where
  pub at : (m i : ℕ) → targets_at one m i ≡ targets_at other m i

pub same_targets : (app : AppParts) (one other : GraphParts) → IsCallGraph app one → IsCallGraph app other → HasSameTargets one other
same_targets app one other left right = record { at = λ m i. left.rows m i ∙ sym (right.rows m i) }

pub turned : (one other : GraphParts) → HasSameTargets one other → HasSameTargets other one
turned one other same = record { at = λ m i. sym (same.at m i) }

-- ---- what the one has, the other has
module _ (one other : GraphParts) (same : HasSameTargets one other) where
  pub callee_over : (m i : ℕ) (n : MethodNo) → Contains (callees_at one m i) n → Contains (callees_at other m i) n
  callee_over m i n among = subst (λ (set : TargetParts). Contains set.callees n) (same.at m i) among

  pub outside_over : (m i : ℕ) → outside_at one m i ≡ true → outside_at other m i ≡ true
  outside_over m i leads = ap (λ (set : TargetParts). set.outside) (sym (same.at m i)) ∙ leads

  pub reached_over : (from : List MethodNo) (m : ℕ) → IsReached one from m → IsReached other from m
  reached_over from m (given n among) = given n among
  reached_over from m (called {m = caller} i n reached among) = called i n (reached_over from caller reached) (callee_over caller i n among)

  pub assigns_over : (app : AppParts) (m l : ℕ) → Assigns app one m l → Assigns app other m l
  assigns_over app m l assigns = record {
    by = assigns.by;
    reached = reached_over _ assigns.by assigns.reached;
    index = assigns.index;
    stores = assigns.stores;
  }

-- ---- tests of it agree
module _ (one other : GraphParts) (same : HasSameTargets one other) where
  pub same_reach : (list : List ComponentParts) (first second : ℕ → Bool) → TellsReached one list first → TellsReached other list second → (m : ℕ) → first m ≡ second m
  same_reach list first second left right m =
      bool_same (first m) (second m) (λ is. (right m).1 (reached_over one other same (entries_of list) m ((left m).0 is)))
      (λ is. (left m).1 (reached_over other one (turned one other same) (entries_of list) m ((right m).0 is)))

  pub same_stores : (app : AppParts) (first second : (n l : ℕ) → Bool) → TellsStores app one first → TellsStores app other second → first ≡ second
  same_stores app first second left right = fun_ext (λ n. fun_ext (λ l.
      bool_same (first n l) (second n l) (λ is. (right n l).1 (assigns_over one other same app n l ((left n l).0 is)))
      (λ is. (left n l).1 (assigns_over other one (turned one other same) app n l ((right n l).0 is)))))

  pub same_cells : (app : AppParts) (list : List ComponentParts) (first second : ℕ → Bool) → TellsReached one list first → TellsReached other list second → cell_total app first ≡ cell_total app second
  same_cells app list first second left right = ap (cell_total app) (fun_ext (same_reach list first second left right))
