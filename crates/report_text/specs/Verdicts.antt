-- The answers to a certificate.
use Rattle.std.specs.Prelude.{ℕ, List, [], ◌∷◌, ◌++◌, codes}
use Rattle.app_model.specs.Components.{ComponentParts}
use Rattle.app_model.specs.Parts.{AppParts}
use Rattle.cert_check.specs.declared.verdict.Checked.{Checked}
use Rattle.cert_check.specs.declared.verdict.Checked.TheVariants.{Valid, ListDigest, DexDigest, Shape, Broken, Unmet}
use Rattle.cert_check.specs.declared.verdict.Rule.{Rule}
use Rattle.cert_check.specs.declared.verdict.Rule.TheVariants.{V1, V2, V3, V4, V5, I1, I2, I3, C1, C2, C3}
use Rattle.report_text.specs.Heads.{violation_text}
use Rattle.report_text.specs.Numbers.{numbers_text}
use Rattle.report_text.specs.Texts.{line}

abbrev pub rule_name : Rule → List ℕ
rule_name V1 = codes "V1"
rule_name V2 = codes "V2"
rule_name V3 = codes "V3"
rule_name V4 = codes "V4"
rule_name V5 = codes "V5"
rule_name I1 = codes "I1"
rule_name I2 = codes "I2"
rule_name I3 = codes "I3"
rule_name C1 = codes "C1"
rule_name C2 = codes "C2"
rule_name C3 = codes "C3"

abbrev pub valid_text : List ℕ
valid_text = line (codes "valid")

abbrev pub checked_text : AppParts → List ComponentParts → Checked → List ℕ
checked_text app list Valid = valid_text
checked_text app list ListDigest = line (codes "broken digest list")
checked_text app list (DexDigest i) = line (codes "broken digest dex" ++ numbers_text (i ∷ []))
checked_text app list (Shape l) = line (codes "broken shape" ++ numbers_text (l ∷ []))
checked_text app list (Broken rule l a b c) = line (codes "broken " ++ rule_name rule ++ numbers_text (l ∷ a ∷ b ∷ c ∷ []))
checked_text app list (Unmet c k l s) = line (codes "unmet " ++ violation_text app list (record { component = c; callback = k; lock = l; status = s }))

-- bytes that are no certificate: their first wrong line
abbrev pub bad_certificate_text : ℕ → List ℕ
bad_certificate_text n = line (codes "bad certificate line" ++ numbers_text (n ∷ []))
