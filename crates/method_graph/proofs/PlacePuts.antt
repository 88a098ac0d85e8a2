-- Places put one behind another.
use Rattle.std.proofs.Common.{◌≡◌, ℕ, ◌+◌, ◌<◌, ◌≤◌, List, [], ◌∷◌, ◌++◌, length, get_or, Result, Ok, Err, refl, ap, sym, ◌∙◌, append_assoc, append-nil, arith}
use Rattle.std.specs.List.{AllPairs}
use Rattle.std.proofs.lemmas.List.{get_or_default}
use Rattle.dalvik.specs.declared.body.Place.{Place}
use Rattle.dalvik_decode.specs.declared.faults.CodeFault.{CodeFault}
use Rattle.dex_code.specs.Content.{CodeContent}
use Rattle.dex_code.specs.declared.code.TryRow.{TryRow}
use Rattle.method_graph.specs.declared.sweep.Row.{Row}
use Rattle.method_graph.specs.declared.sweep.Piece.{Piece}
use Rattle.method_graph.specs.declared.sweep.Piece.TheVariants.{Whole, Payload, Broken}
use Rattle.method_graph.specs.Exact.{behind}
use Rattle.method_graph.specs.Graph.{place_at, put_place, put_piece, places_of}
use Rattle.method_graph.specs.Tries.{IsPast}

behind_twice : (old : List Place) (place : Place) (more : Result (List Place) CodeFault) → behind old (behind (place ∷ []) more) ≡ behind (old ++ place ∷ []) more
behind_twice old place (Ok places) = ap (λ (all : List Place). let r : Result (List Place) CodeFault = Ok all in r) (sym (append_assoc old (place ∷ []) places))
behind_twice old place (Err e) = refl

place_ok : (one : Result Place CodeFault) (more : Result (List Place) CodeFault) (old new : List Place) → behind old (put_place one (Ok [])) ≡ Ok new
    → behind old (put_place one more) ≡ behind new more
place_ok (Ok place) more old new h = let same : old ++ place ∷ [] ≡ new = cc in behind_twice old place more ∙ ap (λ (front : List Place). behind front more) same
place_ok (Err e) more old new h = absurd (cc)

piece_ok : (bs : List ℕ) (code : CodeContent) (rows : List Row) (pc : ℕ) (piece : Piece) (more : Result (List Place) CodeFault) (old new : List Place)
    → behind old (put_piece bs code rows pc piece (Ok [])) ≡ Ok new → behind old (put_piece bs code rows pc piece more) ≡ behind new more
piece_ok bs code rows pc (Whole i next) more old new h = place_ok (place_at bs code rows pc next i) more old new h
piece_ok bs code rows pc (Payload ident next) more old new h =
    let same : old ++ [] ≡ new = cc in
    ap (λ (front : List Place). behind front more) (sym (append-nil old) ∙ same)
piece_ok bs code rows pc (Broken fault) more old new h = absurd (cc)

place_err : (one : Result Place CodeFault) (more : Result (List Place) CodeFault) (e : CodeFault) → put_place one (Ok []) ≡ Err e → put_place one more ≡ Err e
place_err (Ok place) more e h = absurd (cc)
place_err (Err f) more e h = cc

piece_err : (bs : List ℕ) (code : CodeContent) (rows : List Row) (pc : ℕ) (piece : Piece) (more : Result (List Place) CodeFault) (e : CodeFault)
    → put_piece bs code rows pc piece (Ok []) ≡ Err e → put_piece bs code rows pc piece more ≡ Err e
piece_err bs code rows pc (Whole i next) more e h = place_err (place_at bs code rows pc next i) more e h
piece_err bs code rows pc (Payload ident next) more e h = absurd (cc)
piece_err bs code rows pc (Broken fault) more e h = cc

behind_err : (old : List Place) (wanted : Result (List Place) CodeFault) (e : CodeFault) → behind old wanted ≡ Err e → wanted ≡ Err e
behind_err old (Ok places) e h = absurd (cc)
behind_err old (Err f) e h = cc

pub row_ok : (bs : List ℕ) (code : CodeContent) (rows left more : List Row) (row : Row) (old new : List Place) (all : Result (List Place) CodeFault)
    → left ≡ row ∷ more → behind old (places_of bs code rows left) ≡ all → behind old (places_of bs code rows (row ∷ [])) ≡ Ok new
    → behind new (places_of bs code rows more) ≡ all
row_ok bs code rows left more row old new all here before put =
    sym (piece_ok bs code rows row.pc row.piece (places_of bs code rows more) old new put) ∙ (rw here at before)

pub row_err : (bs : List ℕ) (code : CodeContent) (rows left more : List Row) (row : Row) (old : List Place) (all : Result (List Place) CodeFault) (e : CodeFault)
    → left ≡ row ∷ more → behind old (places_of bs code rows left) ≡ all → places_of bs code rows (row ∷ []) ≡ Err e → all ≡ Err e
row_err bs code rows left more row old all e here before put =
    sym before ∙ (rw here (ap (λ (r : Result (List Place) CodeFault). behind old r) (piece_err bs code rows row.pc row.piece (places_of bs code rows more) e put)))

-- what is past at one row is past at each later one
pub past_later : (tries : List TryRow) (at : ℕ) (rows : List Row) (i : ℕ) (d : Row) (pc : ℕ) → AllPairs (λ a b. a.pc < b.pc) rows → (get_or rows i d).pc ≡ pc → IsPast tries at pc
    → (k : ℕ) (e : Row) → i + 1 ≤ k → k < length rows → IsPast tries at (get_or rows k e).pc
past_later tries at rows i d pc rising is past k e le lt t f h =
    let default : get_or rows i e ≡ get_or rows i d = get_or_default rows i e d (omega arith) in
    let later : (get_or rows i e).pc < (get_or rows k e).pc = rising i k e (omega arith) lt in
    let same : (get_or rows i e).pc ≡ pc = ap (λ (row : Row). row.pc) default ∙ is in
    let before = past t f h in
    omega arith
