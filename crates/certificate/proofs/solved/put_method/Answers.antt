use Rattle.std.proofs.Common.{ap, sym, ◌∙◌}
use Rattle.app_model.specs.Subject.{SubjectParts}
use Rattle.app_model.specs.Words.{code_len}
use Rattle.certificate.proofs.BodyRows.{has_room}
use Rattle.certificate.proofs.solved.put_method.Goals as goal

pub put_bodies-requires : goal.put_bodies-requires
put_bodies-requires c =
    let len = c.code_len-len.ensures ∙ ap (λ (x : SubjectParts). code_len x.app c.args.method.0) c.subject.view_is in
    has_room c.args.subject.now c.args.solution.now c.args.method.0 c.code_len-len.result c.requires.places (sym c.reaches.ensures ∙ c.if-not-reaches.false) c.requires.method len
