use Rattle.derivation.proofs.Down.{one_down, as_before}
use Rattle.derivation.proofs.marking.mark_line.Goals as goal

pub returns-then-is_marked : goal.returns-then-is_marked
returns-then-is_marked c = one_down _ _ _ c.line_at-x.ensures _ _ c.mark_why.ensures

pub returns-else-is_marked : goal.returns-else-is_marked
returns-else-is_marked c = as_before _ _ _ c.line_at-x.ensures _ (λ m. (let t = c.is_marked.ensures.1 (rw c.deref.ensures.value m) in let f = c.if-is_marked.false in cc))
