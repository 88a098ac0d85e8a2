-- The first wrong line of bytes that are no certificate's text.
use Rattle.std.specs.Prelude.{ℕ, ◌≡◌, ◌+◌, ◌<◌, List, [], ◌∷◌, ◌++◌, length, Result, Ok, Err, flat_map}
use Rattle.cert_line.specs.Reading.{pieces}
use Rattle.certificate.specs.Parts.{CertParts}
use Rattle.certificate.specs.Texts.{IsCert, certificate_text}
use Rattle.certificate.specs.declared.parts.CertFault.{CertFault}
use Rattle.certificate.specs.declared.parts.CertFault.TheVariants as faults

-- bytes with which the text of some certificate begins
abbrev pub IsFront : List ℕ → Type 0
IsFront bytes = (c : CertParts) × (more : List ℕ) × IsCert c × (certificate_text c ≡ bytes ++ more)

-- lines, each with its line feed
abbrev pub feed : List (List ℕ) → List ℕ
feed lines = flat_map (λ l. l ++ 10 ∷ []) lines

-- The n - 1 lines before it begin a text. With the line itself none begins, if the line is finished; and the bytes are no text.
pub record IsFirstWrong (n : ℕ) (good : List (List ℕ)) (line : List ℕ) (more : List (List ℕ)) (bytes : List ℕ) : Type 0 where
  pub cut : pieces 10 bytes ≡ good ++ line ∷ more
  pub counted : n ≡ length good + 1
  pub good_front : IsFront (feed good)
  pub wrong : 0 < length more → IsFront (feed (good ++ line ∷ [])) → ⊥
  pub no_text : (c : CertParts) → IsCert c → bytes ≡ certificate_text c → ⊥

abbrev pub HasFirstWrong : ℕ → List ℕ → Type 0
HasFirstWrong n bytes = (good : List (List ℕ)) × (line : List ℕ) × (more : List (List ℕ)) × IsFirstWrong n good line more bytes

-- what is returned is a certificate or the number of a line, unless memory ran out
abbrev pub Gives : Result CertParts CertFault → Result CertParts ℕ → Type 0
Gives (Ok c) read = read ≡ Ok c
Gives (Err (faults.Line n)) read = read ≡ Err n
Gives (Err faults.Memory) read = Unit {0}

abbrev pub OnLine : Result CertParts CertFault → (ℕ → Type 0) → Type 0
OnLine (Err (faults.Line n)) P = P n
OnLine (Err faults.Memory) P = Unit {0}
OnLine (Ok c) P = Unit {0}
