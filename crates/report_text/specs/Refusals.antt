-- The refusal of an application that is out of scope.
use Rattle.std.specs.Prelude.{ℕ, List, [], ◌∷◌, ◌++◌, codes, decimal}
use Rattle.app_model.specs.Shown.{member_text}
use Rattle.scope_check.specs.declared.scoping.ScopeFault.{ScopeFault}
use Rattle.scope_check.specs.declared.scoping.ScopeFault.TheVariants.{Rule, Memory}
use Rattle.report_text.specs.Numbers.{numbers_text}
use Rattle.report_text.specs.Texts.{line}

-- the rule, class and name of the method, its number and the pc; nothing where there is no rule
abbrev pub refused_text : ScopeFault → List ℕ
refused_text (Rule rule method pc class name) =
    line (codes "refused N" ++ decimal rule ++ codes " " ++ member_text class.items name.items ++ numbers_text (method.0 ∷ pc ∷ []))
refused_text Memory = []
