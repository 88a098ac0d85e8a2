use Rattle.std.proofs.Common.{List, [], ◌∷◌, ◌++◌, sym, ap, ◌∙◌}
use Rattle.std.proofs.lemmas.Bool.{both_ways}
use Rattle.std.proofs.lemmas.List.{append-nil}
use Rattle.cert_line.specs.Parts.{BodyParts}
use Rattle.solution.specs.Facts.{holds}
use Rattle.certificate.proofs.BodyRows.{row_kept, row_left}
use Rattle.certificate.proofs.solved.put_body.Goals as goal

pub returns-in_ok-push : goal.returns-in_ok-push
returns-in_ok-push c =
    let kept = row_kept (holds c.args.solution.now) c.args.code.method.0 c.args.code.len c.args.entry c.args.facts c.requires.entry c.requires.facts (c.has_row.ensures.0 c.if-has_row.true) in
    c.in_ok-push.ensures.items ∙ ap (λ (row : BodyParts). c.args.rows.now.items ++ row ∷ []) c.in_ok-body_of.ensures ∙ ap (λ (l : List BodyParts). c.args.rows.now.items ++ l) (sym kept)

pub returns-else-has_row : goal.returns-else-has_row
returns-else-has_row c =
    let left = row_left (holds c.args.solution.now) c.args.code.method.0 c.args.code.len c.args.entry c.args.facts c.requires.entry c.requires.facts (λ h. both_ways _ c.if-has_row.false (c.has_row.ensures.1 h)) in
    sym (append-nil c.args.rows.now.items) ∙ ap (λ (l : List BodyParts). c.args.rows.now.items ++ l) (sym left)
