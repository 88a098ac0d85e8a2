use Rattle.std.proofs.Common.{refl}
use Rattle.nosleep.specs.Files.{bad_file}
use Rattle.nosleep.specs.Refusals.{InFile}
use Rattle.nosleep.proofs.finding.find_listed.Goals as goal

pub returns-in_ok-refuse_file-in-Bad : goal.returns-in_ok-refuse_file-in-Bad
returns-in_ok-refuse_file-in-Bad c =
    let fails = rw c.in-Bad.is at c.in_ok-number.ensures.contents in
    (InFile c.in-Bad.number c.in-Bad.fault, bad_file c.args.listed.now c.in-Bad.number c.in-Bad.fault refl fails, c.in_ok-refuse_file-in-Bad.ensures)
