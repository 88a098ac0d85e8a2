use Rattle.std.proofs.Common.{◌∙◌, ◌++◌, ◌∷◌, [], length, sym, ap, subst, arith, append_assoc, All}
use Rattle.std.proofs.lemmas.List.Elements.{All-push}
use Rattle.std.specs.Vec.Iter.{into_iter_items}
use Rattle.dex_file.specs.Reading.{IsContent}
use Rattle.dex_file.specs.Sizes.{HasFewMembers}
use Rattle.app_link.proofs.linking.take_parts.Goals as goal

pub loop-file-preserved : goal.loop-file-preserved
loop-file-preserved c =
    let at = c.loop-file in
    let steps = c.in-Some.ensures.steps.0 in
    let put = c.in_ok-push.ensures.items ∙ ap (λ x. at.taken.items ++ x ∷ []) c.into_parts.ensures.same in record {
      rest =
          ap (λ xs. xs ++ into_iter_items c.next.new.self) put
          ∙ append_assoc at.taken.items _ _
          ∙ ap (λ xs. at.taken.items ++ xs) (sym steps)
          ∙ at.invariant.rest;
      len =
          let was = at.invariant.len in
          let gone = c.in-Some.ensures.steps.1 in
          let short = ap length steps in
          omega arith;
      contents = subst (All IsContent) (sym c.in_ok-push.ensures.items) (All-push IsContent at.taken.items c.into_parts.result at.invariant.contents c.into_parts.ensures.content);
      few = subst (All HasFewMembers) (sym c.in_ok-push.ensures.items) (All-push HasFewMembers at.taken.items c.into_parts.result at.invariant.few c.into_parts.ensures.members);
    }
