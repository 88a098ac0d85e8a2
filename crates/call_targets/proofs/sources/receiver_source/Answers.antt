use Rattle.std.proofs.Common.{refl, ap, sym, ◌∙◌, subst, [], ◌∷◌, None, length}
use Rattle.std.specs.Prelude.{IfSome, not}
use Rattle.app_model.specs.Targets.{found_virtually, row_of}
use Rattle.call_targets.specs.Sources.{named_parts, IndexParts, IsUnknownOne}
use Rattle.call_targets.proofs.Look.{row_found, undeclared_row, unknown_same, map_none}
use Rattle.call_targets.proofs.sources.receiver_source.Goals as goal

pub returns-then-is_none : goal.returns-then-is_none
returns-then-is_none c m =
    row_found c.args.app.now c.make_source.result (None ∷ []) (rw c.make_source.ensures refl)
    ∙ undeclared_row c.args.app.now c.args.index.now.declared c.requires.index.declared c.told.ensures c.args.named
    (rw (← c.index.view_is) (sym c.classes.ensures ∙ map_none _ c.classes.result (c.is_none.ensures ∙ ap not c.if-is_none.true))) m

pub returns-in-Some : goal.returns-in-Some
returns-in-Some c m =
    let one : IsUnknownOne c.args.app.now c.in-Some.unknown = subst (λ o. IfSome o (IsUnknownOne c.args.app.now)) (ap (λ (i : IndexParts). i.unknown) (sym c.index.view_is) ∙ c.in-Some.is) c.requires.index.unknown in
    row_found c.args.app.now c.make_source-in-Some.result (found_virtually c.args.app.now m (named_parts c.in-Some.unknown.0 c.args.named.name.0 c.args.named.proto.0)) (rw c.make_source-in-Some.ensures refl)
    ∙ ap (row_of (length c.args.app.now.methods)) (unknown_same c.args.app.now m c.in-Some.unknown.0 c.args.named.class.0 c.args.named.name.0 c.args.named.proto.0 one.there c.requires.named one.is (sym c.is_unknown.ensures ∙ c.if-is_unknown.true))

pub returns-in_default : goal.returns-in_default
returns-in_default c m = row_found c.args.app.now c.make_source-in_default.result (found_virtually c.args.app.now m c.args.named) (rw c.make_source-in_default.ensures refl)
