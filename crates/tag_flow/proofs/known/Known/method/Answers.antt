use Rattle.std.proofs.Common.{◌≡◌, Some, ap, subst}
use Rattle.std.specs.Prelude.{slice_get}
use Rattle.app_model.specs.Parts.{AppParts}
use Rattle.tag_flow.specs.Known.{KnownParts}
use Rattle.tag_flow.proofs.Spots.{method_fits}
use Rattle.tag_flow.proofs.known.Known.method.Goals as goal

pub returns-clause-width : goal.returns-clause-width
returns-clause-width c =
    let same = ap (λ (k : KnownParts). k.app) c.self.view_is in
    (method_fits c.args.self.now c.told.ensures c.args.method.0 c.method.result.now (subst (λ (a : AppParts). slice_get a.methods c.args.method.0 ≡ Some c.method.result.now) same c.method.ensures.is)).1

pub returns-clause-ins : goal.returns-clause-ins
returns-clause-ins c =
    let same = ap (λ (k : KnownParts). k.app) c.self.view_is in
    (method_fits c.args.self.now c.told.ensures c.args.method.0 c.method.result.now (subst (λ (a : AppParts). slice_get a.methods c.args.method.0 ≡ Some c.method.result.now) same c.method.ensures.is)).0
