use Rattle.std.proofs.Common.{ℕ, List, map, subst, ◌∙◌}
use Rattle.cert_check.specs.Verdict.{IsAccepted, IsVerdict}
use Rattle.sha1.specs.Sha1.{sha1}
use Rattle.nosleep.proofs.Alike.{tagged_over}
use Rattle.nosleep.proofs.Certified.{certificate_safe, same_checked_text}
use Rattle.nosleep.proofs.checking.check_read.Goals as goal

pub returns-in-Ok : goal.returns-in-Ok
returns-in-Ok c = λ y alike.
    let x = c.args.subject.now in
    let cert = c.args.cert.now in
    let list = sha1 c.args.list.now in
    let dex = map sha1 (map (λ v. v.items) c.args.files.now) in
    let same = c.deref.ensures.value ∙ c.in_ok-digests.ensures in
    let verdict : IsVerdict x list dex cert c.check-checked.result =
    subst (λ (d : List (List ℕ)). IsVerdict x list d cert c.check-checked.result) same
    (subst (λ (l : List ℕ). IsVerdict x l c.deref.result.now cert c.check-checked.result) c.digest.ensures c.check-checked.ensures.verdict) in
    let tagged = tagged_over x y c.told.ensures alike in
    record {
      checked = c.check-checked.result;
      verdict = c.alike_verdicts.ensures.verdict x y alike list dex cert c.check-checked.result verdict;
      says = c.in-Ok.ensures ∙ same_checked_text x y c.check-checked.result alike;
      ends = c.exit_of.ensures;
      safe = λ valid.
          let accepted : IsAccepted x list dex cert =
          subst (λ (d : List (List ℕ)). IsAccepted x list d cert) same
          (subst (λ (l : List ℕ). IsAccepted x l c.deref.result.now cert) c.digest.ensures (c.check-checked.ensures.valid.0 valid)) in
          certificate_safe y list dex cert (c.alike_verdicts.ensures.accepted x y alike list dex cert accepted)
          (λ l set. c.tagged_soundness.ensures.runs y l set tagged) (λ l set. c.tagged_soundness.ensures.counts y l set tagged);
    }
