use Rattle.std.proofs.Common.{◌∙◌, sym}
use Rattle.std.proofs.lemmas.Bool.{true≢false}
use Rattle.tag_rows.proofs.runs.are_joined.Goals as goal

pub returns-then-not-pair : goal.returns-then-not-pair
returns-then-not-pair c =
    λ _ r low high. (let clear = c.requires.clear r low high in (record { first = clear.0; second = clear.1; plain = λ on. absurd (true≢false (sym on ∙ c.if-not-pair.true)) }, c.are_equal.ensures c.if-not-are_equal.false r low high))

pub returns-else-not-pair : goal.returns-else-not-pair
returns-else-not-pair c =
    λ plain r low high. (let clear = c.requires.clear r low high in (record { first = clear.0; second = clear.1; plain = λ on. c.are_plain.ensures plain r low high }, c.are_equal.ensures c.if-not-are_equal.false r low high))
