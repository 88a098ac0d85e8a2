use Rattle.std.proofs.Common.{ℕ, ◌∷◌, List, map, string_bytes, sym, ap, ◌∙◌}
use Rattle.build_tables.specs.Spelling.{shorty_of}
use Rattle.build_tables.specs.Tables.{Seen, ◌>>=◌, string_seen, proto_row_seen, types_seen, proto_seen}
use Rattle.build_tables.proofs.tables.Tables.see_proto.Goals as goal

pub returns-clause-seen : goal.returns-clause-seen
unfolding proto_seen
returns-clause-seen c =
    ap (λ (s : Seen ℕ). s >>= (λ kind rows. types_seen (map string_bytes c.args.params.now) rows >>= (λ kinds rows. string_seen (shorty_of c.args.gives.now (map string_bytes c.args.params.now)) rows >>= (λ shorty. proto_row_seen (shorty ∷ kind ∷ kinds))))) c.in_ok-kind.ensures.seen
    ∙ ap (λ (s : Seen (List ℕ)). s >>= (λ kinds rows. string_seen (shorty_of c.args.gives.now (map string_bytes c.args.params.now)) rows >>= (λ shorty. proto_row_seen (shorty ∷ c.in_ok-kind.kind ∷ kinds)))) c.in_ok-kinds.ensures.seen
    ∙ ap (λ (s : Seen ℕ). s >>= (λ shorty. proto_row_seen (shorty ∷ c.in_ok-kind.kind ∷ c.in_ok-kinds.kinds.items))) c.in_ok-shorty.ensures.seen
    ∙ ap (λ l. proto_row_seen (c.in_ok-shorty.shorty ∷ c.in_ok-kind.kind ∷ l) c.see_shorty.new.self) (sym c.deref.ensures.value)
    ∙ c.in_ok-number.ensures.seen
