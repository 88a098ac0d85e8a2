-- One line of the text is read.
use Rattle.std.proofs.Common.{◌≡◌, ℕ, ◌+◌, ◌<◌, List, [], ◌∷◌, length, Option, Some, None, Err, refl, sym, ap, ◌∙◌, arith}
use Rattle.std.specs.Prelude.{◌==◌}
use Rattle.std.proofs.lemmas.List.Splits.{length-slice_split}
use Rattle.cert_line.specs.Reading.{pieces}
use Rattle.certificate.specs.declared.reading.Place.{Place}
use Rattle.certificate.specs.Parts.{CertParts}
use Rattle.certificate.specs.Reading.{step, or_wrong, read}

pub some_piece : (bytes : List ℕ) → 0 < length (pieces 10 bytes)
some_piece bytes = omega (arith, length-slice_split (λ b. b == 10) bytes)

pub read_one : (c : CertParts) (at : Place) (n : ℕ) (line : List ℕ) (ps : List (List ℕ)) → 0 < length ps → read c at n (line ∷ ps) ≡ or_wrong n (step c at line) (λ x. read x.0 x.1 (n + 1) ps)
unfolding read
read_one c at n line [] some = absurd (omega arith)
read_one c at n line (p ∷ ps) some = refl

-- a line that may stand there
pub read_line : (c d : CertParts) (at next : Place) (n : ℕ) (bytes line more : List ℕ) → pieces 10 bytes ≡ line ∷ pieces 10 more → Some (d, next) ≡ step c at line → read c at n (pieces 10 bytes) ≡ read d next (n + 1) (pieces 10 more)
read_line c d at next n bytes line more cut e =
    ap (λ (ps : List (List ℕ)). read c at n ps) cut ∙ read_one c at n line (pieces 10 more) (some_piece more) ∙ sym (ap (λ (o : Option (CertParts × Place)). or_wrong n o (λ x. read x.0 x.1 (n + 1) (pieces 10 more))) e)

-- a line that may not
pub wrong_line : (c : CertParts) (at : Place) (n : ℕ) (bytes line more : List ℕ) → pieces 10 bytes ≡ line ∷ pieces 10 more → None ≡ step c at line → read c at n (pieces 10 bytes) ≡ Err n
wrong_line c at n bytes line more cut e =
    ap (λ (ps : List (List ℕ)). read c at n ps) cut ∙ read_one c at n line (pieces 10 more) (some_piece more) ∙ sym (ap (λ (o : Option (CertParts × Place)). or_wrong n o (λ x. read x.0 x.1 (n + 1) (pieces 10 more))) e)
