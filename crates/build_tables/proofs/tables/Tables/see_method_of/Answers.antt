use Rattle.std.proofs.Common.{ℕ, [], ◌∷◌, ap, ◌∙◌}
use Rattle.build_tables.specs.Tables.{Seen, ◌>>=◌, string_seen, method_row_seen, method_of_seen}
use Rattle.build_tables.proofs.tables.Tables.see_method_of.Goals as goal

pub returns-clause-seen : goal.returns-clause-seen
unfolding method_of_seen
returns-clause-seen c =
    ap (λ (s : Seen ℕ). s >>= (λ proto rows. string_seen c.args.name.now rows >>= (λ name. method_row_seen (c.args.class ∷ proto ∷ name ∷ [])))) c.in_ok-proto.ensures.seen
    ∙ ap (λ (s : Seen ℕ). s >>= (λ name. method_row_seen (c.args.class ∷ c.in_ok-proto.proto ∷ name ∷ []))) c.in_ok-name.ensures.seen
    ∙ c.in_ok-number.ensures.seen
