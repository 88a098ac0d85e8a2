use Rattle.std.proofs.Common.{◌≡◌, Some, ap, arith, subst}
use Rattle.app_model.specs.Parts.{AppParts}
use Rattle.act_model.specs.Changes.{tag_in}
use Rattle.act_model.specs.Entries.{callback_row}
use Rattle.tag_flow.specs.Known.{KnownParts}
use Rattle.tag_flow.proofs.Below.{begin_turn}
use Rattle.tag_flow.proofs.Entered.{begun_fit, begun_is}
use Rattle.tag_flow.proofs.sweeping.begin_cell.Goals as goal

pub callback_tag-tag-requires-clause-register : goal.callback_tag-tag-requires-clause-register
callback_tag-tag-requires-clause-register c =
    omega (arith, c.method-method.ensures.width, c.requires.begins.spot.width, c.requires.register)

pub join-requires-clause-tag : goal.join-requires-clause-tag
join-requires-clause-tag c =
    let same = ap (λ (k : KnownParts). k.app) c.known.view_is in
    let is = begun_is _ _ c.requires.state _ _ c.args.register _ c.method-method.ensures.is (subst (λ (a : AppParts). c.callback_tag-tag.result ≡ tag_in (callback_row a (Some c.method-method.result.now)) c.args.register) same c.callback_tag-tag.ensures) in
    begun_fit _ _ c.requires.state _ _ _ is

pub returns : goal.returns
returns c =
    let same = ap (λ (k : KnownParts). k.app) c.known.view_is in
    let is = begun_is _ _ c.requires.state _ _ c.args.register _ c.method-method.ensures.is (subst (λ (a : AppParts). c.callback_tag-tag.result ≡ tag_in (callback_row a (Some c.method-method.result.now)) c.args.register) same c.callback_tag-tag.ensures) in
    begin_turn _ _ _ _ _ _ _ c.requires.state c.requires.begins c.requires.register is (begun_fit _ _ c.requires.state _ _ _ is) c.join.ensures.joins c.join.ensures.answers
