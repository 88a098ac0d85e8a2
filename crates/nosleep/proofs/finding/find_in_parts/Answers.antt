use Rattle.std.proofs.Common.{rules, refl, map, Err}
use Rattle.app_link.specs.Linking.{IsLinked}
use Rattle.nosleep.specs.Files.{bad_link, named_by}
use Rattle.nosleep.specs.Refusals.{InLink}
use Rattle.nosleep.proofs.finding.find_in_parts.Goals as goal

pub returns-in-Ok : goal.returns-in-Ok
returns-in-Ok c = c.find_in_app.ensures (map (λ v. v.items) c.args.files.now) (record { contents = c.args.parts.items; read = c.requires.contents; linked = c.in-Ok.ensures.linked })

pub returns-in_ok-refuse_link-in-Err : goal.returns-in_ok-refuse_link-in-Err
returns-in_ok-refuse_link-in-Err c =
    let linked : IsLinked c.args.parts.items (Err c.in-Err.fault) = search rules in
    (InLink (named_by c.args.parts.items c.in-Err.fault) c.in-Err.fault, bad_link c.args.listed.now c.args.parts.items c.in-Err.fault refl c.requires.contents linked, c.in_ok-refuse_link-in-Err.ensures c.args.parts.items c.requires.contents)
