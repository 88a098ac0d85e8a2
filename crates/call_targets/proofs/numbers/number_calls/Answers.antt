use Rattle.std.proofs.Common.{◌+◌, ap, arith, length, map, subst, sym, ◌∙◌, ◌≡◌, List, Option, ℕ}
use Rattle.std.specs.declared.alloc.Global.{Global}
use Rattle.std.specs.declared.vec.Vec.{Vec}
use Rattle.std.proofs.lemmas.List.{map_push}
use Rattle.call_targets.specs.Numbered.{AddsMethods, IsNumbered, TableParts}
use Rattle.call_targets.proofs.Uses.{all_numbered, empty, methods_more}
use Rattle.call_targets.proofs.numbers.number_calls.Goals as goal

abbrev items : Vec (Option ℕ) Global → List (Option ℕ)
items v = v.items

pub loop-m-preserved : goal.loop-m-preserved
loop-m-preserved c =
    subst (AddsMethods c.args.app.now (c.loop-m.m + 1) (empty c.args.app.now) c.number_method.new.table) (sym (ap (map items) c.in_ok-push.ensures.items ∙ map_push items c.loop-m.uses.items c.in_ok-number_method.field-0))
    (methods_more c.args.app.now c.loop-m.m (empty c.args.app.now) c.loop-m.table c.number_method.new.table (map items c.loop-m.uses.items) c.in_ok-number_method.field-0.items c.loop-m.invariant c.in_ok-number_method.ensures)

pub returns : goal.returns
returns c =
    let all : c.loop-m.m ≡ length c.args.app.now.methods = omega (arith, c.loop-m-test.false, c.method_count-m-end.ensures, c.loop-m.auto.m-end) in
    subst (λ rows. IsNumbered c.args.app.now (record { rows = rows; uses = map items c.loop-m.uses.items })) (ap (λ (t : TableParts). t.rows) (sym c.table-2.view_is))
    (all_numbered c.args.app.now c.loop-m.table (map items c.loop-m.uses.items) (subst (λ m. AddsMethods c.args.app.now m (empty c.args.app.now) c.loop-m.table (map items c.loop-m.uses.items)) all c.loop-m.invariant))
