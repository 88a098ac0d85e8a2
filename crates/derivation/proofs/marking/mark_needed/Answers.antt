use Rattle.std.proofs.Common.{◌≡◌, ◌∙◌, length, arith}
use Rattle.derivation.specs.Cuts.{AreAllMarked, AreViewsMarked}
use Rattle.derivation.proofs.Down.{all_needed}
use Rattle.derivation.proofs.marking.mark_needed.Goals as goal

pub returns : goal.returns
returns c =
    let lines = c.args.log.now.lines.items in
    let views = c.args.log.now.views.items in
    let places : length c.in_ok-views.views.items ≡ length views = omega (arith, c.in_ok-views.ensures.len, c.in_ok-views.views.ok.0, c.len.ensures, c.args.log.now.views.ok.0) in
    let numbers : length c.in_ok-lines.lines.items ≡ length lines = omega (arith, c.in_ok-lines.ensures.len, c.in_ok-lines.lines.ok.0, c.len-2.ensures, c.args.log.now.lines.ok.0) in
    let seen : AreViewsMarked lines views c.set_mark.new.marks.items c.set_cited.new.marks.items c.mark_views.new.seen.items c.mark_views.new.marks.items = rw c.deref.ensures.value at (c.mark_views.ensures lines (c.set_cited.ensures.len ∙ numbers)) in
    let all : AreAllMarked lines c.mark_views.new.marks.items c.mark_lines.new.marks.items = rw c.deref-2.ensures.value at c.mark_lines.ensures in
    all_needed lines views c.args.exit _ _ _ _ _ _ _ places numbers c.set_mark.ensures c.set_cited.ensures seen all
