use Rattle.std.proofs.Common.{◌≡◌, ℕ, Option, Some, subst}
use Rattle.derivation.specs.Cuts.{Marks, cited_by}
use Rattle.derivation.proofs.Down.{one_view_down, view_as_before}
use Rattle.derivation.proofs.marking.mark_view.Goals as goal

pub returns-then-is_marked : goal.returns-then-is_marked
returns-then-is_marked c = λ lines.
    (let q : Marks c.args.marks.now.items (λ n. cited_by c.view_at-v.result.by ≡ Some n) c.set_cited.new.marks.items = subst (λ (o : Option ℕ). Marks c.args.marks.now.items (λ n. o ≡ Some n) c.set_cited.new.marks.items) c.line_cited.ensures c.set_cited.ensures in
    one_view_down lines c.args.views.now c.args.k c.view_at-v.result c.view_at-v.ensures _ _ _ _ c.mark_by.ensures q)

pub returns-else-is_marked : goal.returns-else-is_marked
returns-else-is_marked c = λ lines.
    view_as_before lines c.args.views.now c.args.k c.view_at-v.result c.view_at-v.ensures _ _ (λ m. (let t = c.is_marked.ensures.1 (rw c.deref.ensures.value m) in let f = c.if-is_marked.false in cc))
