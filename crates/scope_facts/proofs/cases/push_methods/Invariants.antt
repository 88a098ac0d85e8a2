use Rattle.std.proofs.Common.{◌≡◌, ◌++◌, Option, take}
use Rattle.std.specs.Prelude.{filter_map}
use Rattle.ns_base.specs.declared.rows.MethodNo.{MethodNo}
use Rattle.scope_facts.proofs.cases.push_methods.Given as goal

abbrev pub invariant-loop-k : goal.invariant-loop-k
invariant-loop-k l = l.entries.items ≡ l.fn.entries.items ++ filter_map (λ (m : Option MethodNo). m) (take l.k l.methods)
