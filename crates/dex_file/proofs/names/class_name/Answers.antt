use Rattle.std.proofs.Common.{◌∙◌}
use Rattle.dex_file.proofs.ClassNames.{row_same, header_fault, tables_fault}
use Rattle.dex_file.proofs.names.class_name.Goals as goal

pub returns-in-Err-clause-fault : goal.returns-in-Err-clause-fault
returns-in-Err-clause-fault c = λ content read. header_fault c.args.bytes.now content c.in-Err.fault read c.in-Err.ensures.exact

pub returns-in_ok-name_in-in-Ok-read_ids-clause-name : goal.returns-in_ok-name_in-in-Ok-read_ids-clause-name
returns-in_ok-name_in-in-Ok-read_ids-clause-name c = λ content read.
    c.in_ok-name_in-in-Ok-read_ids.ensures ∙ row_same c.args.bytes.now content _ c.args.row c.in-Ok-read_ids.ensures.content read

pub returns-in-Err-read_ids-clause-fault : goal.returns-in-Err-read_ids-clause-fault
returns-in-Err-read_ids-clause-fault c = λ content read. tables_fault c.args.bytes.now content c.in-Err-read_ids.fault read c.in-Err-read_ids.ensures.exact
