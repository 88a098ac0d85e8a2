use Rattle.std.proofs.Common.{ℕ, map, string_bytes, ap, ◌∙◌}
use Rattle.build_tables.specs.Tables.{Seen, ◌>>=◌, method_of_seen, method_seen}
use Rattle.build_tables.proofs.tables.Tables.see_method.Goals as goal

pub returns-clause-seen : goal.returns-clause-seen
unfolding method_seen
returns-clause-seen c =
    ap (λ (s : Seen ℕ). s >>= (λ class. method_of_seen class c.args.name.now c.args.gives.now (map string_bytes c.args.params.now))) c.in_ok-class.ensures.seen ∙ c.in_ok-number.ensures.seen
