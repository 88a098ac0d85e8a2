use Rattle.std.proofs.Common.{◌≡◌, List, arith, length, refl, ap, sym, ◌∙◌, subst}
use Rattle.std.proofs.lemmas.List.{length-map}
use Rattle.app_model.specs.TagTable.{tag_at, tag_of}
use Rattle.app_model.specs.declared.tag.Tag.{Tag}
use Rattle.app_model.specs.declared.tag.Tag.TheVariants.{Zero}
use Rattle.act_model.specs.Changes.{tag_in}
use Rattle.tag_flow.proofs.Entered.{first_under}
use Rattle.tag_flow.proofs.Spots.{row_len}
use Rattle.tag_flow.proofs.calling.first_open.Goals as goal

pub starts_zero-requires : goal.starts_zero-requires
starts_zero-requires c =
    let len = sym (length-map _ tag_of) ∙ ap length c.row.ensures ∙ row_len _ _ _ c.requires.state c.requires.spot in
    omega (arith, len, c.method-method.ensures.width, c.method-method.ensures.ins, c.requires.spot.width)

pub returns-then-starts_zero : goal.returns-then-starts_zero
returns-then-starts_zero c =
    λ words r lt.
    first_under c.args.known.now.app.methods c.args.to.method.0 _ words r _ c.method-method.ensures.is c.method-method.ensures.ins lt
    (subst (λ i. tag_at c.args.state.now.table c.args.to.method.0 i r ≡ Zero) c.requires.first (subst (λ (row : List Tag). tag_in row r ≡ Zero) c.row.ensures (c.if-starts_zero.ensures refl r lt)))
