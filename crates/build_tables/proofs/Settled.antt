-- What a call leaves that sees names and cuts them off again where it refuses.
use Rattle.std.proofs.Common.{◌≡◌, ℕ, Result, Ok, Err, IfOk, List, [], subst, sym, ap, ◌∙◌}
use Rattle.build_tables.specs.declared.fault.BuildFault.{BuildFault}
use Rattle.build_tables.specs.declared.fault.BuildFault.TheVariants.{NoClass, TooMany, Refused, Memory}
use Rattle.build_tables.specs.Tables.{IdRows, Seen, mark_of, cut_at, has_room, HasGrown, IsSettled, IsRef, AreSeen}
use Rattle.build_tables.specs.declared.tables.Mark.{Mark}

-- what was added is cut off again
pub cut_grown : (old new : IdRows) → HasGrown old new → cut_at (mark_of old) new ≡ old
cut_grown old new g =
    ap (λ l. record { strings = l; types = (cut_at (mark_of old) new).types; protos = (cut_at (mark_of old) new).protos; fields = (cut_at (mark_of old) new).fields; methods = (cut_at (mark_of old) new).methods }) g.strings
    ∙ ap (λ l. record { strings = old.strings; types = l; protos = (cut_at (mark_of old) new).protos; fields = (cut_at (mark_of old) new).fields; methods = (cut_at (mark_of old) new).methods }) g.types
    ∙ ap (λ l. record { strings = old.strings; types = old.types; protos = l; fields = (cut_at (mark_of old) new).fields; methods = (cut_at (mark_of old) new).methods }) g.protos
    ∙ ap (λ l. record { strings = old.strings; types = old.types; protos = old.protos; fields = l; methods = (cut_at (mark_of old) new).methods }) g.fields
    ∙ ap (λ l. record { strings = old.strings; types = old.types; protos = old.protos; fields = old.fields; methods = l }) g.methods

settled : {E : Type 0} (old new last : IdRows) (seen : Seen ℕ) (r : Result ℕ E) (result : Result ℕ BuildFault)
    → IfOk r (λ n. seen ≡ record { found = n; rows = new }) → HasGrown old new → IsSettled (mark_of old) new last r result → IsRef old seen last result
settled old new last seen (Ok n) (Ok m) is g (room, same, rows) =
    (ap (λ (s : Seen ℕ). has_room (mark_of old) s.rows) is ∙ room, same ∙ sym (ap (λ (s : Seen ℕ). s.found) is), rows ∙ sym (ap (λ (s : Seen ℕ). s.rows) is))
settled old new last seen (Ok n) (Err TooMany) is g (room, rows) =
    (ap (λ (s : Seen ℕ). has_room (mark_of old) s.rows) is ∙ room, rows ∙ cut_grown old new g)
settled old new last seen (Err e) (Err Memory) is g rows = rows ∙ cut_grown old new g
settled old new last seen (Ok n) (Err NoClass) is g rows = elim rows [ ]
settled old new last seen (Ok n) (Err Refused) is g rows = elim rows [ ]
settled old new last seen (Ok n) (Err Memory) is g rows = elim rows [ ]
settled old new last seen (Err e) (Ok m) is g rows = elim rows [ ]
settled old new last seen (Err e) (Err NoClass) is g rows = elim rows [ ]
settled old new last seen (Err e) (Err TooMany) is g rows = elim rows [ ]
settled old new last seen (Err e) (Err Refused) is g rows = elim rows [ ]

pub settled_ref : {E : Type 0} (old new last : IdRows) (seen : Seen ℕ) (mark : Mark) (r : Result ℕ E) (result : Result ℕ BuildFault)
    → mark ≡ mark_of old → IfOk r (λ n. seen ≡ record { found = n; rows = new }) → HasGrown old new → IsSettled mark new last r result → IsRef old seen last result
settled_ref old new last seen mark r result at is g by = settled old new last seen r result is g (subst (λ m. IsSettled m new last r result) at by)

-- numbers behind none
pub are_seen : (new : List ℕ) (rows : IdRows) (seen : Seen (List ℕ)) → AreSeen [] new rows seen → seen ≡ record { found = new; rows = rows }
are_seen new rows seen (numbers, same) =
    ap (λ l. record { found = l; rows = seen.rows }) (sym numbers) ∙ ap (λ (r : IdRows). record { found = new; rows = r }) (sym same)
