-- One line of the text is read.
use Rattle.std.proofs.Common.{◌≡◌, ℕ, ◌+◌, ◌<◌, List, [], ◌∷◌, length, Option, Some, None, Err, refl, sym, ap, ◌∙◌, arith}
use Rattle.std.specs.Prelude.{◌==◌}
use Rattle.std.proofs.lemmas.List.Splits.{length-slice_split}
use Rattle.cert_line.specs.Reading.{pieces}
use Rattle.path_reader.specs.Parts.{State}
use Rattle.path_reader.specs.Reading.{or_wrong, read, step}

pub some_piece : (bytes : List ℕ) → 0 < length (pieces 10 bytes)
some_piece bytes = omega (arith, length-slice_split (λ b. b == 10) bytes)

pub read_one : (s : State) (n : ℕ) (line : List ℕ) (ps : List (List ℕ)) → 0 < length ps → read s n (line ∷ ps) ≡ or_wrong n (step s line) (λ t. read t (n + 1) ps)
unfolding read
read_one s n line [] some = absurd (omega arith)
read_one s n line (p ∷ ps) some = refl

-- a line that may stand there
pub read_line : (s t : State) (n : ℕ) (bytes line more : List ℕ) → pieces 10 bytes ≡ line ∷ pieces 10 more → Some t ≡ step s line → read s n (pieces 10 bytes) ≡ read t (n + 1) (pieces 10 more)
read_line s t n bytes line more cut e =
    ap (λ (ps : List (List ℕ)). read s n ps) cut ∙ read_one s n line (pieces 10 more) (some_piece more) ∙ sym (ap (λ (o : Option State). or_wrong n o (λ t. read t (n + 1) (pieces 10 more))) e)

-- a line that may not
pub wrong_line : (s : State) (n : ℕ) (bytes line more : List ℕ) → pieces 10 bytes ≡ line ∷ pieces 10 more → None ≡ step s line → read s n (pieces 10 bytes) ≡ Err n
wrong_line s n bytes line more cut e =
    ap (λ (ps : List (List ℕ)). read s n ps) cut ∙ read_one s n line (pieces 10 more) (some_piece more) ∙ sym (ap (λ (o : Option State). or_wrong n o (λ t. read t (n + 1) (pieces 10 more))) e)
