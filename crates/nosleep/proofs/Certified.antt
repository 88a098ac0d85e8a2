-- Certificates that are written, and those that are read.
use Rattle.std.proofs.Common.{◌≡◌, ℕ, zero, suc, ◌<◌, ◌≤◌, ◌^◌, ◌==◌, Bool, true, false, List, [], ◌∷◌, length, map, Vec, Global, Result, Ok, Err, IfOk, refl, sym, ap, subst, ◌∙◌, arith}
use Rattle.std.specs.List.{All}
use Rattle.std.proofs.lemmas.Bool.{eqb-true, false≢true}
use Rattle.std.proofs.lemmas.List.{length-map}
use Rattle.std.specs.Vec.{vec_len}
use Rattle.ns_base.specs.Answers.{limit_of}
use Rattle.ns_base.specs.declared.answers.Counted.TheVariants.{CertBytes}
use Rattle.app_model.specs.Components.{ComponentParts}
use Rattle.app_model.specs.Parts.{AppParts}
use Rattle.app_model.specs.Subject.{SubjectParts, slot_count}
use Rattle.cert_facts.specs.Sets.{facts_at}
use Rattle.cert_check.specs.Verdict as verdict
use Rattle.cert_check.specs.Verdict.{IsVerdict}
use Rattle.cert_check.specs.declared.verdict.Checked.{Checked}
use Rattle.cert_check.specs.declared.verdict.Checked.TheVariants.{Valid}
use Rattle.cert_line.specs.Lines.{IsDigest}
use Rattle.certificate.specs.Parts.{CertParts}
use Rattle.certificate.specs.declared.parts.CertFault.{CertFault}
use Rattle.certificate.specs.declared.parts.CertFault.TheVariants as certs
use Rattle.certificate.specs.Texts.{IsCert, certificate_text}
use Rattle.certificate.specs.Wrong.{HasFirstWrong, OnLine}
use Rattle.flow_model.specs.declared.policy.Violation.{Violation}
use Rattle.flow_model.specs.Derived.{IsClosed, Set}
use Rattle.flow_model.specs.Policy.{MeetsPolicy}
use Rattle.flow_model.specs.Rules.{Rules}
use Rattle.one_scope.specs.Alike.{AreAlike}
use Rattle.report_text.specs.Verdicts.{checked_text}
use Rattle.run_model.specs.Machine.{run_of}
use Rattle.run_model.specs.Soundness.{LeavesNoneHeld, StandsWell}
use Rattle.sha1.specs.Sha1.{sha1}
use Rattle.nosleep.specs.declared.refusing.Answer.{Answer}
use Rattle.nosleep.specs.Judged.{IsChecked, IsSafe, IsVerdictOn}
use Rattle.nosleep.specs.Outcome.{IsNoCertificate}

-- a written certificate that is short enough is valid for each subject that is alike
module _ (x : SubjectParts) (cert : CertParts) (list : List ℕ) (dex : List (List ℕ)) (one : cert.list ≡ sha1 list) (all : cert.dex ≡ map sha1 dex)
    (accepted : length (certificate_text cert) < 2 ^ 32 → verdict.IsAccepted x cert.list cert.dex cert)
    (over : (y : SubjectParts) → AreAlike x y → (l : List ℕ) (d : List (List ℕ)) (c : CertParts) → verdict.IsAccepted x l d c → verdict.IsAccepted y l d c)
    (valid : (y : SubjectParts) (l : List ℕ) (d : List (List ℕ)) (c : CertParts) → verdict.IsAccepted y l d c → IsVerdict y l d c Valid) where
  pub valid_over : (y : SubjectParts) → AreAlike x y → length (certificate_text cert) ≤ limit_of CertBytes → IsVerdict y (sha1 list) (map sha1 dex) cert Valid
  valid_over y alike few =
      let own : verdict.IsAccepted x cert.list cert.dex cert = accepted (omega (arith, few)) in
      let here = subst (λ (d : List (List ℕ)). verdict.IsAccepted x (sha1 list) d cert) all (subst (λ (l : List ℕ). verdict.IsAccepted x l cert.dex cert) one own) in
      valid y (sha1 list) (map sha1 dex) cert (over y alike (sha1 list) (map sha1 dex) cert here)

-- the facts of an accepted certificate are closed and meet the policy, so that every run is safe
pub certificate_safe : (y : SubjectParts) (list : List ℕ) (dex : List (List ℕ)) (cert : CertParts) → verdict.IsAccepted y list dex cert
    → ((l : ℕ) (set : Set) → l < slot_count y → IsClosed (Rules y l) set → MeetsPolicy y l set → (choices : List ℕ) → StandsWell y l (run_of y choices))
    → ((l : ℕ) (set : Set) → l < slot_count y → IsClosed (Rules y l) set → MeetsPolicy y l set → (choices : List ℕ) → LeavesNoneHeld y l (run_of y choices)) → IsSafe y
certificate_safe y list dex cert is stands leaves l below choices =
    (stands l (facts_at cert l) below (is.closed l below) (is.policy l below) choices, leaves l (facts_at cert l) below (is.closed l below) (is.policy l below) choices)

pub same_checked_text : (x y : SubjectParts) (checked : Checked) → AreAlike x y → checked_text x.app x.list checked ≡ checked_text y.app y.list checked
same_checked_text x y checked alike =
    ap (λ (app : AppParts). checked_text app x.list checked) alike.app ∙ ap (λ (list : List ComponentParts). checked_text y.app list checked) alike.list

-- bytes that are a certificate have its verdict
pub read_answer : {E : Type 0} (x : SubjectParts) (bytes list : List ℕ) (dex : List (List ℕ)) (cert : CertParts) (r : Result Answer E) → IsCert cert → bytes ≡ certificate_text cert
    → IfOk r (λ a. (y : SubjectParts) → AreAlike x y → IsVerdictOn cert list dex y a.text.items a.exit) → IfOk r (λ a. (y : SubjectParts) → AreAlike x y → IsChecked bytes list dex y a.text.items a.exit)
read_answer x bytes list dex cert (Ok a) is text on = λ y alike. IsChecked.read cert is text (on y alike)
read_answer x bytes list dex cert (Err e) is text on = tt

pub unread_answer : {E : Type 0} (x : SubjectParts) (bytes list : List ℕ) (dex : List (List ℕ)) (fault : CertFault) (r : Result Answer E) → OnLine (Err fault) (λ n. HasFirstWrong n bytes)
    → IfOk r (λ a. IsNoCertificate fault a.text.items a.exit) → IfOk r (λ a. (y : SubjectParts) → AreAlike x y → IsChecked bytes list dex y a.text.items a.exit)
unread_answer x bytes list dex (certs.Line n) (Ok a) wrong is = λ y alike. IsChecked.unread n wrong is.1 is.0
unread_answer x bytes list dex certs.Memory (Ok a) wrong is = absurd is
unread_answer x bytes list dex fault (Err e) wrong is = tt

-- ---- what a certificate is made of
all_made : {A B : Type 0} (P : B → Type 0) (f : A → B) → ((a : A) → P (f a)) → (xs : List A) → All P (map f xs)
all_made P f each [] k d less = absurd (omega (arith, less))
all_made P f each (x ∷ xs) zero d less = each x
all_made P f each (x ∷ xs) (suc k) d less = all_made P f each xs k d (omega (arith, less))

pub all_digests : ((m : List ℕ) → IsDigest (sha1 m)) → (files : List (List ℕ)) → All IsDigest (map sha1 files)
all_digests each files = all_made IsDigest sha1 each files

pub some_files : (files : List (Vec ℕ Global)) (digests : List (List ℕ)) → digests ≡ map sha1 (map (λ (v : Vec ℕ Global). v.items) files) → 0 < length files → 0 < length digests
some_files files digests same some =
    omega (arith, some, ap length same, length-map (map (λ (v : Vec ℕ Global). v.items) files) sha1, length-map files (λ (v : Vec ℕ Global). v.items))

pub none_found : (found : Vec Violation Global) (b : Bool) → (b ≡ (vec_len found == 0)) → b ≡ true → found.items ≡ []
none_found found b is e = by found.items (omega (arith, found.ok, eqb-true _ _ (sym is ∙ e))) where
  by : (xs : List Violation) → length xs ≡ 0 → xs ≡ []
  by [] none = refl
  by (x ∷ xs) none = absurd (omega (arith, none))

pub some_found : (found : Vec Violation Global) (b : Bool) → (b ≡ (vec_len found == 0)) → b ≡ false → found.items ≡ [] → ⊥
some_found found b is e none = false≢true (sym e ∙ is ∙ ap (λ (n : ℕ). n == 0) (found.ok.0 ∙ ap length none))
