-- Reach is the least set that has the given methods and is closed under callees.
use Rattle.std.proofs.Common.{ℕ, List, ◌≡◌, true}
use Rattle.ns_base.specs.declared.rows.MethodNo.{MethodNo}
use Rattle.app_model.specs.CallGraph.{GraphParts}
use Rattle.app_model.specs.Reach.{IsReached, given, called, IsClosedUnderCalls, IsLeastReach}

under : (graph : GraphParts) (from : List MethodNo) (set : ℕ → Type 0) → IsClosedUnderCalls graph from set → (m : ℕ) → IsReached graph from m → set m
under graph from set closed m (given n among) = closed.given n among
under graph from set closed m (called {m = caller} i n reached among) = closed.callees caller i n (under graph from set closed caller reached) among

pub reach_is_least : (graph : GraphParts) (from : List MethodNo) → IsLeastReach graph from
reach_is_least graph from = record {
  closed = record { given = λ n among. given n among; callees = λ caller i n reached among. called i n reached among };
  least = λ test closed m reached. under graph from (λ (n : ℕ). test n ≡ true) closed m reached;
}
