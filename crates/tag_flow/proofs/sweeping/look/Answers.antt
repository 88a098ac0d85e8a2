use Rattle.tag_flow.proofs.Turns.{holds_none}
use Rattle.tag_flow.proofs.sweeping.look.Goals as goal

pub returns-then-method-method_count : goal.returns-then-method-method_count
returns-then-method-method_count c =
    holds_none _ _

pub returns-else-place-code_len : goal.returns-else-place-code_len
returns-else-place-code_len c =
    holds_none _ _
