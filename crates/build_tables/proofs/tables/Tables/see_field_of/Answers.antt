use Rattle.std.proofs.Common.{ℕ, [], ◌∷◌, ap, ◌∙◌}
use Rattle.build_tables.specs.Tables.{Seen, ◌>>=◌, string_seen, field_row_seen, field_of_seen}
use Rattle.build_tables.proofs.tables.Tables.see_field_of.Goals as goal

pub returns-clause-seen : goal.returns-clause-seen
unfolding field_of_seen
returns-clause-seen c =
    ap (λ (s : Seen ℕ). s >>= (λ kind rows. string_seen c.args.name.now rows >>= (λ name. field_row_seen (c.args.class ∷ kind ∷ name ∷ [])))) c.in_ok-kind.ensures.seen
    ∙ ap (λ (s : Seen ℕ). s >>= (λ name. field_row_seen (c.args.class ∷ c.in_ok-kind.kind ∷ name ∷ []))) c.in_ok-name.ensures.seen
    ∙ c.in_ok-number.ensures.seen
