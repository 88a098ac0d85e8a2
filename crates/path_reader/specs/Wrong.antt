-- The first wrong line of bytes that are no text of reports.
use Rattle.std.specs.Prelude.{ℕ, ◌≡◌, ◌+◌, ◌<◌, List, [], ◌∷◌, ◌++◌, map, length, Result, Ok, Err, flat_map}
use Rattle.std.specs.declared.vec.Vec.{Vec}
use Rattle.std.specs.declared.alloc.Global.{Global}
use Rattle.cert_line.specs.Reading.{pieces}
use Rattle.report_path.specs.declared.report.Report.{Report}
use Rattle.path_reader.specs.Parts.{ReportParts}
use Rattle.path_reader.specs.Texts.{IsReportsText, report_parts}
use Rattle.path_reader.specs.declared.reading.ReadBack.{ReadBack}
use Rattle.path_reader.specs.declared.reading.ReadBack.TheVariants as faults

-- bytes with which the text of some reports begins
abbrev pub IsFront : List ℕ → Type 0
IsFront bytes = (rs : List ReportParts) × (more : List ℕ) × IsReportsText (bytes ++ more) rs

-- lines, each with its line feed
abbrev pub feed : List (List ℕ) → List ℕ
feed lines = flat_map (λ l. l ++ 10 ∷ []) lines

-- The n - 1 lines before it begin a text. With the line itself none begins, if the line is finished; and the bytes are no text.
pub record IsFirstWrong (n : ℕ) (good : List (List ℕ)) (line : List ℕ) (more : List (List ℕ)) (bytes : List ℕ) : Type 0 where
  pub cut : pieces 10 bytes ≡ good ++ line ∷ more
  pub counted : n ≡ length good + 1
  pub good_front : IsFront (feed good)
  pub wrong : 0 < length more → IsFront (feed (good ++ line ∷ [])) → ⊥
  pub no_text : (rs : List ReportParts) → IsReportsText bytes rs → ⊥

abbrev pub HasFirstWrong : ℕ → List ℕ → Type 0
HasFirstWrong n bytes = (good : List (List ℕ)) × (line : List ℕ) × (more : List (List ℕ)) × IsFirstWrong n good line more bytes

-- what is returned is the reports or the number of a line, unless memory ran out
abbrev pub Gives : Result (Vec Report Global) ReadBack → Result (List ReportParts) ℕ → Type 0
Gives (Ok v) read = read ≡ Ok (map report_parts v.items)
Gives (Err (faults.Line n)) read = read ≡ Err n
Gives (Err faults.Memory) read = Unit {0}

abbrev pub OnLine : Result (Vec Report Global) ReadBack → (ℕ → Type 0) → Type 0
OnLine (Err (faults.Line n)) P = P n
OnLine (Err faults.Memory) P = Unit {0}
OnLine (Ok v) P = Unit {0}
