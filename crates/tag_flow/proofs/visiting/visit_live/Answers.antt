use Rattle.std.proofs.Common.{◌≡◌, ◌∙◌, ap, sym}
use Rattle.std.proofs.lemmas.Bool.{false≢true}
use Rattle.flow_model.specs.TagFlow.{can_throw, is_call, leads_on}
use Rattle.tag_flow.proofs.Turns.{turn_as}
use Rattle.tag_flow.proofs.Parts.{calls_nothing, not_call}
use Rattle.tag_flow.proofs.visiting.visit_live.Goals as goal

pub returns-in-Call : goal.returns-in-Call
returns-in-Call c =
    turn_as _ _ _ _ _ _ (λ s h live act e. (let was = c.act-act.ensures in let same : act ≡ c.act-act.result = cc in rw same ((h.0, (h.1, λ answer returns. absurd (let is = sym c.in-Call.is ∙ returns in cc)))))) c.call_and_go.ensures

pub returns-in-Return : goal.returns-in-Return
returns-in-Return c =
    turn_as _ _ _ _ _ _ (λ s h live act e. (let was = c.act-act.ensures in let same : act ≡ c.act-act.result = cc in
    rw same ((
      (λ on. absurd (false≢true (sym (ap leads_on c.in-Return.is) ∙ on)), λ on. absurd (false≢true (sym (ap can_throw c.in-Return.is) ∙ on))),
      (calls_nothing _ c.told.ensures _ _ _ was (ap is_call c.in-Return.is) s, h),
    )))) c.give_back.ensures

pub returns-in_default : goal.returns-in_default
returns-in_default c =
    turn_as _ _ _ _ _ _ (λ s h live act e. (let was = c.act-act.ensures in let same : act ≡ c.act-act.result = cc in
    rw same (h, (calls_nothing _ c.told.ensures _ _ _ was (not_call _ c.in_default.not-Call) s, λ answer returns. absurd (c.in_default.not-Return answer returns))))) c.go_or_throw.ensures
