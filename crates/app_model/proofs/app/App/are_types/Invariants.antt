use Rattle.std.proofs.Common.{◌≡◌, map, drop}
use Rattle.app_model.specs.Names.{are_types}
use Rattle.app_model.proofs.app.App.are_types.Given as goal

-- what is left of both lists decides
abbrev pub invariant-loop-i : goal.invariant-loop-i
invariant-loop-i l =
    are_types l.self l.types (map (λ t. t.now) l.texts) ≡ are_types l.self (drop l.i l.types) (map (λ t. t.now) (drop l.i l.texts))
