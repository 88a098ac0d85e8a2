use Rattle.std.proofs.Common.{ℕ, ap, ◌∙◌}
use Rattle.build_tables.specs.Tables.{Seen, ◌>>=◌, field_of_seen, field_seen}
use Rattle.build_tables.proofs.tables.Tables.see_field.Goals as goal

pub returns-clause-seen : goal.returns-clause-seen
unfolding field_seen
returns-clause-seen c =
    ap (λ (s : Seen ℕ). s >>= (λ class. field_of_seen class c.args.kind.now c.args.name.now)) c.in_ok-class.ensures.seen ∙ c.in_ok-number.ensures.seen
