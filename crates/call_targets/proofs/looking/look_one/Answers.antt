use Rattle.std.proofs.Common.{ap, sym, ◌∙◌, option_map}
use Rattle.ns_base.specs.declared.rows.ClassNo.{ClassNo}
use Rattle.app_model.specs.Hierarchy.{lookup_of}
use Rattle.class_graph.proofs.Lists.{class_found}
use Rattle.call_targets.proofs.Look.{look_none}
use Rattle.call_targets.proofs.looking.look_one.Goals as goal

pub returns-in-Some : goal.returns-in-Some
returns-in-Some c =
    let found = class_found c.args.app.now.classes c.args.class.0 c.in-Some.class.0 (sym c.class_of_type.ensures.is ∙ ap (option_map (λ (k : ClassNo). k.0)) c.in-Some.is) in
    c.lookup.ensures c.args.app.now found.0 c.requires found.1 ∙ ap (λ t. lookup_of c.args.app.now t c.args.source.name c.args.source.proto) found.2

pub returns-in-None : goal.returns-in-None
returns-in-None c =
    sym (look_none c.args.app.now c.args.class.0 c.args.source.name c.args.source.proto c.told.ensures (sym c.class_of_type.ensures.is ∙ ap (option_map (λ (k : ClassNo). k.0)) c.in-None.is))
