use Rattle.std.proofs.Common.{◌<◌, ◌∙◌, false, length, refl, sym, ap, subst, inl}
use Rattle.std.proofs.lemmas.List.{length-replicate}
use Rattle.app_link.specs.Cycles.{IsMarked}
use Rattle.app_link.proofs.Ancestry.{none_marked, marked_all}
use Rattle.app_link.proofs.cycles.search.Goals as goal

pub climb-requires-clause-types : goal.climb-requires-clause-types
climb-requires-clause-types c = λ k class here u p. subst (λ n. u < n) (sym (ap length c.in_ok-marks.ensures ∙ length-replicate _ false)) (c.type_bound.ensures.types k class here u p)

pub mark_all-requires : goal.mark_all-requires
mark_all-requires c = λ k class here u p.
    subst (λ n. u < n) (sym (c.climb.ensures.len ∙ ap length c.in_ok-marks.ensures ∙ length-replicate _ false)) (c.type_bound.ensures.types k class here u p)

pub returns : goal.returns
returns c =
    let all = c.mark_all.ensures.ancestors (c.climb.ensures.ancestors (λ u marked. absurd (none_marked _ u (subst (λ l. IsMarked l u) c.in_ok-marks.ensures marked)))) in
    let seen = c.deref.ensures.value in (
      λ yes. all c.args.start (subst (λ l. IsMarked l c.args.start) seen (c.is_marked-found.ensures.0 yes)),
      λ cyclic. c.is_marked-found.ensures.1 (subst (λ l. IsMarked l c.args.start) (sym seen)
          (marked_all c.args.classes.now c.args.start _ c.args.start c.args.start c.mark_all.ensures.done cyclic (inl refl))),
    )
