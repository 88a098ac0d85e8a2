use Rattle.std.proofs.Common.{ap, sym, subst, ◌∙◌, ◌++◌, ◌<◌, length, map, take}
use Rattle.std.specs.List.{All}
use Rattle.std.proofs.lemmas.Result.{IfOk-weaker}
use Rattle.ns_base.specs.declared.rows.ClassNo.{ClassNo}
use Rattle.app_model.specs.Targets.{row_of}
use Rattle.call_targets.specs.Looking.{AreFound, MakerParts, begins, look_at}
use Rattle.call_targets.proofs.Tried.{tops_within, tried_row, tried_within}
use Rattle.call_targets.proofs.looking.Maker.below_set.Goals as goal

pub look_all-requires-clause-tried : goal.look_all-requires-clause-tried
look_all-requires-clause-tried c =
    let app = c.args.app.now in
    subst (All (λ (k : ClassNo). k.0 < length app.classes)) (sym (c.deref.ensures.value ∙ c.in_ok-tried.ensures)) (tried_within app c.told.ensures c.args.kind.0 c.ask.new.self c.in_ok-ask.ensures c.args.source.name c.args.source.proto)

pub look_tops-requires-clause-tops : goal.look_tops-requires-clause-tops
look_tops-requires-clause-tops c =
    let app = c.args.app.now in
    subst (All (λ (k : ClassNo). k.0 < length app.classes)) (sym (c.tops.ensures ∙ ap (λ (m : MakerParts). m.below.tops) c.self.view_is)) (tops_within app c.told.ensures c.args.kind.0 c.ask.new.self c.in_ok-ask.ensures c.args.source.name c.args.source.proto)

pub returns-clause-row : goal.returns-clause-row
returns-clause-row c =
    let app = c.args.app.now in
    let look = map (look_at app c.args.source.name c.args.source.proto) in
    let began = c.in_ok-look_all.ensures (begins app c.args.kind.0) c.in_ok-found.ensures in
    let found = subst (AreFound app ((begins app c.args.kind.0 ++ look c.deref.result.now) ++ look (take c.in_ok-look_tops.field-0 c.tops.result.now))) (sym c.deref-2.ensures.value) (c.in_ok-look_tops.ensures.found _ began) in
    IfOk-weaker c.row_of.result _ _ (λ row h m.
    h (length app.methods) found.each ∙ ap (row_of (length app.methods)) found.is
    ∙ tried_row app c.told.ensures c.args.kind.0 c.ask.new.self c.in_ok-ask.ensures c.args.source.name c.args.source.proto m c.in_ok-look_tops.field-0 c.deref.result.now c.tops.result.now
    (c.deref.ensures.value ∙ c.in_ok-tried.ensures) (c.tops.ensures ∙ ap (λ (m : MakerParts). m.below.tops) c.self.view_is) c.in_ok-look_tops.ensures.enough) c.row_of.ensures
