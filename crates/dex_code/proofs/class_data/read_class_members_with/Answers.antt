use Rattle.dex_code.proofs.MembersLaw.{members_read}
use Rattle.dex_code.proofs.class_data.read_class_members_with.Goals as goal

pub returns-in-Ok-clause-content : goal.returns-in-Ok-clause-content
returns-in-Ok-clause-content c = members_read _ _ _ c.in-Ok.ensures.members
