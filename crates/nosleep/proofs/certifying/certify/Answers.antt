use Rattle.std.proofs.Common.{ℕ, ◌<◌, List, [], length, map, refl, sym, ap, ◌∙◌, subst}
use Rattle.std.specs.List.{All}
use Rattle.app_model.specs.Subject.{SubjectParts, slot_count}
use Rattle.cert_line.specs.Lines.{IsDigest}
use Rattle.certificate.specs.Parts.{CertParts}
use Rattle.flow_model.specs.declared.policy.Violation.{Violation}
use Rattle.flow_model.specs.Policy.{AreViolations}
use Rattle.report_path.specs.Reports.{violation_of}
use Rattle.sha1.specs.Sha1.{sha1}
use Rattle.nosleep.proofs.Alike.{certificate_over, least_over, reports_over, solved_least, tagged_over, violations_over}
use Rattle.nosleep.proofs.Certified.{all_digests, none_found, some_files, some_found, valid_over}
use Rattle.nosleep.proofs.Told.{all_safe, report_answer, report_helds, written_answer, written_helds}
use Rattle.nosleep.proofs.certifying.certify.Goals as goal

pub returns-then-not-is_empty-clause-judged : goal.returns-then-not-is_empty-clause-judged
returns-then-not-is_empty-clause-judged c =
    report_answer c.args.list.now (map (λ v. v.items) c.args.files.now) c.args.subject.now c.order_reports.new.reports.items _ _
    (λ y alike. reports_over c.args.subject.now y alike (c.alike_reports.ensures c.args.subject.now y alike) c.order_reports.new.reports.items c.order_reports.ensures)
    (λ none. some_found c.in_ok-found.found _ c.is_empty.ensures c.if-not-is_empty.true ((rw c.deref.ensures.value at c.in_ok-found.ensures) ∙ ap (map violation_of) none))
    (rw c.deref-then-not-is_empty.ensures.value at c.in_ok-answer.ensures)

pub returns-then-not-is_empty-clause-found : goal.returns-then-not-is_empty-clause-found
returns-then-not-is_empty-clause-found c =
    report_helds c.args.subject.now c.order_reports.new.reports.items c.in_ok-found.found.items _ _ (rw c.deref.ensures.value at c.in_ok-found.ensures)
    (λ y alike. reports_over c.args.subject.now y alike (c.alike_reports.ensures c.args.subject.now y alike) c.order_reports.new.reports.items c.order_reports.ensures)
    (rw c.deref-then-not-is_empty.ensures.value at c.in_ok-answer.ensures)

pub returns-clause-found : goal.returns-clause-found
returns-clause-found c =
    written_helds c.args.subject.now c.in_ok-found.found.items _ (none_found c.in_ok-found.found _ c.is_empty.ensures c.if-not-is_empty.false)
    (λ y alike. subst (λ (vs : List Violation). AreViolations y vs) (sym (rw c.deref.ensures.value at c.in_ok-found.ensures)) (violations_over c.args.subject.now y alike (map violation_of c.order_reports.new.reports.items) c.order_reports.ensures.names))

pub returns-clause-judged : goal.returns-clause-judged
returns-clause-judged c =
    let x = c.args.subject.now in
    let dex = map (λ v. v.items) c.args.files.now in
    let parts = c.in_ok-solved.solved.parts.items in
    let cert : CertParts = record { list = c.digest.result; dex = c.in_ok-digests_of.field-0.items; locks = parts } in
    let same = c.in_ok-digests_of.ensures in
    let solved = c.in_ok-solved.ensures.parts in
    let empty = none_found c.in_ok-found.found _ c.is_empty.ensures c.if-not-is_empty.false in
    let are : AreViolations x [] = subst (λ (vs : List Violation). AreViolations x vs) (sym (rw c.deref.ensures.value at c.in_ok-found.ensures) ∙ empty) c.order_reports.ensures.names in
    let digests : All IsDigest cert.dex = subst (λ (ds : List (List ℕ)). All IsDigest ds) (sym same) (all_digests c.written_certificates.ensures.digest dex) in
    let one : IsDigest cert.list = subst IsDigest (sym c.digest.ensures) (c.written_certificates.ensures.digest c.args.list.now) in
    let some : 0 < length cert.dex = some_files c.args.files.now cert.dex same c.requires in
    written_answer c.args.list.now dex x cert _ _ (c.written_certificates.ensures.text x cert c.told.ensures solved one digests some)
    (λ y alike.
    let tagged = tagged_over x y c.told.ensures alike in
    let over = violations_over x y alike [] are in (
      certificate_over x y alike (sha1 c.args.list.now) (map sha1 dex) cert c.digest.ensures same solved,
      (over, all_safe y [] over (least_over x y alike (solved_least x (slot_count x) parts solved)) (λ l set. c.tagged_soundness.ensures.runs y l set tagged) (λ l set. c.tagged_soundness.ensures.counts y l set tagged) refl),
      valid_over x cert c.args.list.now dex c.digest.ensures same (c.written_certificates.ensures.accepted x cert c.told.ensures are solved) (c.alike_verdicts.ensures.accepted x) c.accepted_certificates.ensures.valid y alike,
    ))
    c.in_ok-answer-2.ensures
