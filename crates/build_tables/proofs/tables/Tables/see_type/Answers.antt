use Rattle.std.proofs.Common.{ℕ, [], ◌∷◌, ap, ◌∙◌}
use Rattle.build_tables.specs.Tables.{Seen, ◌>>=◌, type_row_seen, type_seen}
use Rattle.build_tables.proofs.tables.Tables.see_type.Goals as goal

pub returns-clause-seen : goal.returns-clause-seen
unfolding type_seen
returns-clause-seen c =
    ap (λ (s : Seen ℕ). s >>= (λ string. type_row_seen (string ∷ []))) c.in_ok-string.ensures.seen ∙ c.in_ok-number.ensures.seen
