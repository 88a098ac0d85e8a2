use Rattle.std.proofs.Common.{map, string_bytes}
use Rattle.nosleep.specs.Asked.{request_by}
use Rattle.nosleep.proofs.Answering.{formless, names_some}
use Rattle.nosleep.proofs.answer.find_answer.Goals as goal

pub returns-in_default-clause-answer : goal.returns-in_default-clause-answer
returns-in_default-clause-answer g c =
    formless (map string_bytes c.args.words.now) (g.F.Shelf.content c.args.shelf.now) (g.F.Shelf.faults c.args.shelf.now) (g.F.Shelf.faults c.args.shelf.now) _ _
    c.in_default.ensures (rw c.in_ok-found_text.ensures at c.usage_text.ensures) c.new-events.ensures.items

pub answer_form-requires-clause-some : goal.answer_form-requires-clause-some
answer_form-requires-clause-some g c = names_some (map string_bytes c.args.words.now) (request_by c.in-Some.order) c.in-Some.ensures
