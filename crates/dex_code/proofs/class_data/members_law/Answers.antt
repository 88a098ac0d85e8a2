use Rattle.dex_code.proofs.MembersLaw.{members_read, members_reads}
use Rattle.dex_code.proofs.class_data.members_law.Goals as goal

pub returns : goal.returns
returns c = λ bs class members. (members_read bs class members, members_reads bs class members)
