use Rattle.std.proofs.Common.{ap, ◌∙◌}
use Rattle.std.specs.Option.{unwrap_or}
use Rattle.class_graph.specs.Graph.{member_of}
use Rattle.class_graph.proofs.Rows.{added_one}
use Rattle.class_graph.proofs.members.Members.add.Goals as goal

pub returns : goal.returns
returns c name second class =
    let q = member_of name second class in
    let first = c.unwrap_or-first.ensures ∙ ap (λ o. unwrap_or o c.args.number) (c.copied.ensures ∙ c.get.ensures.value) in
    rw (← c.self.view_is) (c.in_ok-insert.ensures.updates.0 q ∙ added_one _ c.args.member _ c.args.number q first)
