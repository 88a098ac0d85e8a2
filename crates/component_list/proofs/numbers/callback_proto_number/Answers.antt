use Rattle.component_list.proofs.numbers.callback_proto_number.Goals as goal

pub returns-in-Activity-eq0 : goal.returns-in-Activity-eq0
returns-in-Activity-eq0 c = rw (c.in-Activity-eq0.is-0, c.in-Activity-eq0.is-1) c.find_proto.ensures
