-- Reports whose text can be read back.
use Rattle.path_reader.specs.Texts.{IsRead, as_read, report_parts}
use Rattle.report_path.specs.declared.report.Report.{Report}

-- its numbers and statuses fit those of a report
abbrev pub IsReadable : Report → Type 0
IsReadable r = IsRead (as_read (report_parts r))
