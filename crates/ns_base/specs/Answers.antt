-- The numbers of exits and limits.
use Rattle.std.specs.Prelude.{ℕ}
use Rattle.ns_base.specs.declared.answers.Counted.{Counted}
use Rattle.ns_base.specs.declared.answers.Counted.TheVariants.{Files, FileBytes, ListBytes, CertBytes, Strings, TypeLists, Members, Handlers, Units, Locks, Sites, Components, Targets, TagCells}
use Rattle.ns_base.specs.declared.answers.Exit.{Exit}
use Rattle.ns_base.specs.declared.answers.Exit.TheVariants.{Accept, Reports, Scope, Bad, Usage, ReadFault, WriteFault, WatcherFault, Limit, Memory, Broken, Partly}

-- the status of the process at each exit
abbrev pub number_of : Exit → ℕ
number_of Accept = 0
number_of Reports = 1
number_of Scope = 2
number_of Bad = 3
number_of Usage = 4
number_of ReadFault = 5
number_of WriteFault = 6
number_of WatcherFault = 7
number_of Limit = 8
number_of Memory = 9
number_of Broken = 10
number_of Partly = 11

-- the largest count that is accepted
abbrev pub limit_of : Counted → ℕ
limit_of Files = 16
limit_of FileBytes = 33554432
limit_of ListBytes = 1048576
limit_of CertBytes = 268435456
limit_of Strings = 67108864
limit_of TypeLists = 4194304
limit_of Members = 1048576
limit_of Handlers = 4194304
limit_of Units = 4194304
limit_of Locks = 64
limit_of Sites = 64
limit_of Components = 256
limit_of Targets = 16777216
limit_of TagCells = 134217728
