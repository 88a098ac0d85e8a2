-- Files that are small enough to be one application.
use Rattle.std.specs.Prelude.{◌≤◌, List, length}
use Rattle.std.specs.List.{All}
use Rattle.dex_file.specs.Content.{FileContent}
use Rattle.dex_file.specs.Sizes.{HasFewMembers, IsShort}

-- a file whose tables and members are within their limits
pub record IsSmall (file : FileContent) : Type 0 where
  pub short : IsShort file
  pub members : HasFewMembers file

-- the files of an application
pub record AreSmall (files : List FileContent) : Type 0 where
  pub count : length files ≤ 16
  pub each : All IsSmall files
