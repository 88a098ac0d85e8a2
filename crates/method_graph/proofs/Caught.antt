-- The handlers of the try that covers a pc.
use Rattle.std.proofs.Common.{ℕ, suc, ◌+◌, ◌<◌, ◌≤◌, List, [], ◌∷◌, length, get_or, drop, Bool, true, false, cond, Option, Some, None, arith, length-drop}
use Rattle.std.specs.Option.{IfSome}
use Rattle.std.proofs.lemmas.List.{get_or-take, get_or-drop, length-take}
use Rattle.dex_code.specs.declared.code.TryRow.{TryRow}
use Rattle.dex_code.specs.declared.code.Handler.{Handler}
use Rattle.method_graph.specs.Tries.{AreTries, IsCaught, covers, try_at, handlers_in}

some_of : {X : Type 0} (P : X → Type 0) (test : Bool) (x : X) (more : Option X) → P x → IfSome more P → IfSome (cond test (Some x) more) P
some_of P true x more here rest = here
some_of P false x more here rest = rest

-- what holds of each holds of the one that is found
find_of : (P : TryRow → Type 0) (pc : ℕ) (tries : List TryRow) → ((t : ℕ) (d : TryRow) → t < length tries → P (get_or tries t d)) → IfSome (try_at tries pc) P
find_of P pc [] each = tt
find_of P pc (row ∷ tries) each =
    some_of P (covers pc row) row (try_at tries pc) (each 0 row (omega arith)) (find_of P pc tries (λ t d h. each (suc t) d (omega arith)))

pub found_within : (bs : List ℕ) (tries : List TryRow) (handlers : List Handler) (pc : ℕ) → AreTries bs tries handlers
    → IfSome (try_at tries pc) (λ row. row.handlers.at + row.handlers.len ≤ length handlers)
found_within bs tries handlers pc are = find_of (λ row. row.handlers.at + row.handlers.len ≤ length handlers) pc tries are.within

-- what holds of each handler holds of those of a try
pub each_in : (P : Handler → Type 0) (handlers : List Handler) (row : Option TryRow) → ((k : ℕ) (d : Handler) → k < length handlers → P (get_or handlers k d))
    → (k : ℕ) (d : Handler) → k < length (handlers_in handlers row) → P (get_or (handlers_in handlers row) k d)
each_in P handlers None each k d h = absurd (omega arith)
each_in P handlers (Some row) each k d h =
    let len = length-take row.handlers.len (drop row.handlers.at handlers) in
    let left = length-drop row.handlers.at handlers in
    let lt : k < row.handlers.len = omega arith in
    rw (get_or-take row.handlers.len (drop row.handlers.at handlers) k d lt, get_or-drop) (each (row.handlers.at + k) d (omega arith))

pub caught_in : (bs : List ℕ) (tries : List TryRow) (handlers : List Handler) (row : Option TryRow) → AreTries bs tries handlers
    → (k : ℕ) (d : Handler) → k < length (handlers_in handlers row) → IsCaught bs (get_or (handlers_in handlers row) k d).caught
caught_in bs tries handlers row are = each_in (λ handler. IsCaught bs handler.caught) handlers row are.caught
