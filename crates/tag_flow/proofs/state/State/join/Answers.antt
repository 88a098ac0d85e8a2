use Rattle.std.proofs.Common.{◌≡◌, ap}
use Rattle.tag_flow.specs.State.{StateParts}
use Rattle.tag_flow.proofs.Spots.{place_within}
use Rattle.tag_flow.proofs.state.State.join.Goals as goal

pub join-requires-clause-place : goal.join-requires-clause-place
join-requires-clause-place c =
    let at : c.self.inside.rows ≡ c.args.self.now.table = ap (λ (s : StateParts). s.table) c.self.view_is in
    rw (at, c.place_of.ensures.place) (place_within _ _ c.args.spot _ c.requires.state c.requires.spot c.requires.register)

pub returns : goal.returns
returns c =
    let at : c.self.inside.rows ≡ c.args.self.now.table = ap (λ (s : StateParts). s.table) c.self.view_is in
    record { joins = rw (at, c.place_of.ensures.place) at c.join.ensures; answers = ap (λ (s : StateParts). s.answers) c.self.view_is }
