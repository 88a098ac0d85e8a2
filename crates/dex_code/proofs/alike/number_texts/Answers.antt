use Rattle.std.proofs.Common.{◌≡◌, ap, arith, ◌∙◌}
use Rattle.dex_bytes.specs.declared.layout.Header.{Header}
use Rattle.dex_code.proofs.Firsts.{numbers_tell}
use Rattle.dex_code.proofs.alike.number_texts.Goals as goal

pub returns : goal.returns
returns c =
    let all : c.loop-s.s ≡ c.header_from-count.result.strings.size = omega arith in
    numbers_tell _ _ _ _ c.loop-s.invariant (all ∙ ap (λ (h : Header). h.strings.size) c.header_from-count.ensures)
