-- What the steps from bytes to an answer come to.
use Rattle.std.specs.Prelude.{ℕ, ◌≡◌, ◌≢◌, List, [], ◌∷◌, Option, Some, None, Result, Ok, Err}
use Rattle.ns_base.specs.declared.answers.Counted.{Counted}
use Rattle.ns_base.specs.declared.answers.Exit.{Exit}
use Rattle.ns_base.specs.declared.answers.Exit.TheVariants as exits
use Rattle.app_model.specs.Components.{ComponentParts}
use Rattle.app_model.specs.Parts.{AppParts}
use Rattle.app_model.specs.Subject.{SubjectParts}
use Rattle.component_list.specs.Listed.{ListedParts}
use Rattle.component_list.specs.declared.fault.ListFault.{ListFault}
use Rattle.app_link.specs.Linking.{AreShort}
use Rattle.flow_model.specs.declared.policy.Violation.{Violation}
use Rattle.report_text.specs.Heads.{heads_text}
use Rattle.report_text.specs.Texts.{accept_text}
use Rattle.nosleep.specs.Answer.{BytesComeTo, IsOutcome}
use Rattle.nosleep.specs.Events.{AreHelds}
use Rattle.nosleep.specs.Files.{AreContents, ComesTo, FailsAt}
use Rattle.certificate.specs.declared.parts.CertFault.{CertFault}
use Rattle.certificate.specs.declared.parts.CertFault.TheVariants as certs
use Rattle.report_text.specs.Verdicts.{bad_certificate_text}
use Rattle.call_targets.specs.declared.fault.TargetFault.{TargetFault}
use Rattle.call_targets.specs.declared.fault.TargetFault.TheVariants as targets
use Rattle.tag_flow.specs.declared.fault.TagFault.{TagFault}
use Rattle.tag_flow.specs.declared.fault.TagFault.TheVariants as tags
use Rattle.nosleep.specs.Refusals.{IsOver, IsRefused, Refusal}
use Rattle.nosleep.specs.Words.{Form, Check}
use Rattle.nosleep.specs.declared.contents.Contents.{Contents}
use Rattle.nosleep.specs.declared.contents.Contents.TheVariants.{Read, Bad}
use Rattle.nosleep.specs.declared.finding.Found.{Found}
use Rattle.nosleep.specs.declared.finding.Found.TheVariants.{Subject, Refused}

-- a list and files come to a subject, or to a refusal, to which this is the answer
abbrev pub HasFound : Result (List ListedParts) ListFault → List (List ℕ) → Found → Type 0
HasFound listed files (Subject x) = ComesTo listed files (Ok x)
HasFound listed files (Refused a) = (refusal : Refusal) × ComesTo listed files (Err refusal) × IsRefused refusal a.text.items a.exit

-- the files of a form come to something, which has this text and exit, and these violations
abbrev pub FormHasOutcome : Form → List (List ℕ) → List ℕ → Exit → List Violation → Type 0
FormHasOutcome form files text exit found = (result : Result SubjectParts Refusal) × BytesComeTo form files result × IsOutcome form files result text exit × AreHelds result exit found

abbrev pub HasContents : List (List ℕ) → Contents → Type 0
HasContents files (Read parts) = AreContents files parts.items
HasContents files (Bad i fault) = FailsAt files i fault

-- they can be linked
abbrev pub CanBeLinked : Contents → Type 0
CanBeLinked (Read parts) = AreShort parts.items
CanBeLinked (Bad i fault) = Unit {0}

-- the count that a step found too many; none where memory ran out
abbrev pub counted_target : TargetFault → Option Counted
counted_target (targets.Limit which) = Some which
counted_target targets.Memory = None

abbrev pub counted_tag : TagFault → Option Counted
counted_tag (tags.Limit which) = Some which
counted_tag tags.Memory = None

abbrev pub IsTooMany : Option Counted → List ℕ → Exit → Type 0
IsTooMany None text exit = ⊥
IsTooMany (Some which) text exit = IsOver which text exit

abbrev pub IsNoCertificate : CertFault → List ℕ → Exit → Type 0
IsNoCertificate (certs.Line n) text exit = (exit ≡ exits.Bad) × (text ≡ bad_certificate_text n)
IsNoCertificate certs.Memory text exit = ⊥

-- the answer to the violations of an application: their heads, where there are some
abbrev pub IsReport : AppParts → List ComponentParts → List Violation → List ℕ → Exit → Type 0
IsReport app list violations text exit = (exit ≡ exits.Reports) × (text ≡ heads_text app list violations)

pub data IsTold (app : AppParts) (list : List ComponentParts) (violations : List Violation) (text : List ℕ) (exit : Exit) : Type 0 where
  none : violations ≡ [] → text ≡ accept_text → exit ≡ exits.Accept → IsTold app list violations text exit
  some : violations ≢ [] → IsReport app list violations text exit → IsTold app list violations text exit

-- the files of a form that are judged: its list, where it names one, and its DEX files
abbrev pub judged_files : {X : Type 0} → Form → List X → List X
judged_files (Check cert list files) (one ∷ rest) = rest
judged_files form all = all
