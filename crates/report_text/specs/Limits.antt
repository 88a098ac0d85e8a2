-- The refusal of a count that exceeds its limit.
use Rattle.std.specs.Prelude.{ℕ, List, ◌++◌, codes}
use Rattle.ns_base.specs.declared.answers.Counted.{Counted}
use Rattle.ns_base.specs.declared.answers.Counted.TheVariants.{Files, FileBytes, ListBytes, CertBytes, Strings, TypeLists, Members, Handlers, Units, Locks, Sites, Components, Targets, TagCells}
use Rattle.report_text.specs.Texts.{line}

abbrev pub counted_name : Counted → List ℕ
counted_name Files = codes "Files"
counted_name FileBytes = codes "FileBytes"
counted_name ListBytes = codes "ListBytes"
counted_name CertBytes = codes "CertBytes"
counted_name Strings = codes "Strings"
counted_name TypeLists = codes "TypeLists"
counted_name Members = codes "Members"
counted_name Handlers = codes "Handlers"
counted_name Units = codes "Units"
counted_name Locks = codes "Locks"
counted_name Sites = codes "Sites"
counted_name Components = codes "Components"
counted_name Targets = codes "Targets"
counted_name TagCells = codes "TagCells"

abbrev pub over_limit_text : Counted → List ℕ
over_limit_text which = line (codes "limit " ++ counted_name which)
