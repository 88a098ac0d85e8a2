use Rattle.std.proofs.Common.{ap, ap₂, sym, subst, ◌∙◌, ◌<◌, [], ◌∷◌, length, Option, None, IfSome, ℕ}
use Rattle.std.proofs.lemmas.List.Elements.{All-nil, All-push}
use Rattle.std.proofs.lemmas.Result.{IfOk-weaker}
use Rattle.app_model.specs.Targets.{found_virtually, row_of}
use Rattle.class_graph.specs.declared.graph.Found.TheVariants as variant
use Rattle.call_targets.specs.Sources.{found_by, named_parts}
use Rattle.call_targets.proofs.Look.{row_found}
use Rattle.call_targets.proofs.Receivers.{look_within}
use Rattle.call_targets.proofs.Tried.{IsWithin}
use Rattle.call_targets.proofs.looking.Maker.set.Goals as goal

pub returns-in-Some-clause-row : goal.returns-in-Some-clause-row
returns-in-Some-clause-row c =
    let app = c.args.app.now in
    let within = subst (λ (o : Option ℕ). IfSome o (λ n. n < length app.methods)) (sym c.look_one.ensures) (look_within app c.in-Some.class c.args.source.name c.args.source.proto) in
    IfOk-weaker c.row_of.result _ _ (λ row h.
    h (length app.methods) (All-push (IsWithin app) [] c.look_one.result (All-nil (IsWithin app)) within)
    ∙ ap (λ (o : Option ℕ). row_of (length app.methods) (o ∷ [])) c.look_one.ensures
    ∙ sym (row_found app c.args.source _ (ap (λ o. found_by app o c.args.source.below c.args.source.name c.args.source.proto) c.in-Some.is))) c.row_of.ensures

pub returns-in-Some-below-clause-row : goal.returns-in-Some-below-clause-row
returns-in-Some-below-clause-row c =
    let app = c.args.app.now in
    IfOk-weaker c.below_set.result _ _ (λ row h.
    h 0 ∙ sym (row_found app c.args.source (found_virtually app 0 (named_parts c.in-Some-below.kind c.args.source.name c.args.source.proto)) (ap₂ (λ o b. found_by app o b c.args.source.name c.args.source.proto) c.in_default.is c.in-Some-below.is))) c.below_set.ensures.row

pub returns-in-None-clause-row : goal.returns-in-None-clause-row
returns-in-None-clause-row c =
    let app = c.args.app.now in
    IfOk-weaker c.row_of-in-None.result _ _ (λ row h.
    h (length app.methods) (All-push (IsWithin app) [] variant.Outside (All-nil (IsWithin app)) tt)
    ∙ sym (row_found app c.args.source (None ∷ []) (ap₂ (λ o b. found_by app o b c.args.source.name c.args.source.proto) c.in_default.is c.in-None.is))) c.row_of-in-None.ensures
