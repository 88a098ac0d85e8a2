use Rattle.scope_check.proofs.CalledLaws.{called_told}
use Rattle.scope_check.proofs.survey.Survey.called_by.Goals as goal

pub returns : goal.returns
returns c =
    called_told c.args.self.now.case.app c.args.op c.args.named c.kind-kind.result c.name-name.result c.is_thread_call.result c.kind-kind.ensures c.name-name.ensures c.is_thread_call.ensures
