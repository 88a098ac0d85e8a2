-- Tables within their limits, and how many members a file has.
use Rattle.std.specs.Prelude.{ℕ, ◌≤◌, ◌+◌, length, sum_by}
use Rattle.ns_base.specs.Answers.{limit_of}
use Rattle.ns_base.specs.declared.answers.Counted.TheVariants.{Members}
use Rattle.dex_file.specs.Content.{ClassContent, FileContent}

-- the fields and methods of a class, and of all classes of a file
abbrev pub members_of : ClassContent → ℕ
members_of class = length class.statics + length class.instances + length class.directs + length class.virtuals

abbrev pub members_in : FileContent → ℕ
members_in file = sum_by members_of file.classes

-- they are within their limit
abbrev pub HasFewMembers : FileContent → Type 0
HasFewMembers file = members_in file ≤ limit_of Members

-- no table of a file is longer than its limit
pub record IsShort (file : FileContent) : Type 0 where
  pub strings : length file.strings ≤ 8388608
  pub types : length file.types ≤ 8388608
  pub protos : length file.protos ≤ 8388608
  pub fields : length file.fields ≤ 8388608
  pub methods : length file.methods ≤ 8388608
  pub classes : length file.classes ≤ 8388608
