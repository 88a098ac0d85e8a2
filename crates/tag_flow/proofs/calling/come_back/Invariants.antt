use Rattle.tag_flow.specs.Turns.{Turn}
use Rattle.tag_flow.specs.Goals.{AnswerPassed, Below}
use Rattle.tag_flow.proofs.calling.come_back.Given as goal

abbrev pub invariant-loop-number : goal.invariant-loop-number
invariant-loop-number l = Turn l.known (Below (AnswerPassed l.known l.from.method.0 l.from.index l.callee) l.number) l.fn.state l.state l.changed
