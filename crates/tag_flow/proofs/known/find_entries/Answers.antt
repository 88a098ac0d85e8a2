use Rattle.std.proofs.Common.{◌∙◌, ap, arith, length, take_all}
use Rattle.std.specs.Prelude.{flat_map}
use Rattle.app_model.specs.Components.{entries_of}
use Rattle.tag_flow.proofs.Reached.{own_entries}
use Rattle.tag_flow.proofs.known.find_entries.Goals as goal

pub returns : goal.returns
unfolding entries_of
returns c = c.loop-component.invariant ∙ ap (flat_map own_entries) (take_all c.loop-component.component c.args.list.now (omega (arith, c.loop-component-test.false, c.len-component-end.ensures, ap length c.list.view_is, c.list.inside.rows.ok.0)))
