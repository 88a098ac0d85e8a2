use Rattle.dex_code.specs.Content.{CodeContent}
use Rattle.method_graph.specs.Graph.{places_of}
use Rattle.std.proofs.Common.{arith, sym, ap, drop-cons, add-one, ◌∙◌, drop, suc, List, ◌∷◌}
use Rattle.std.proofs.lemmas.Result.{err_from_is_err_and}
use Rattle.method_graph.specs.declared.sweep.Row.{Row}
use Rattle.method_graph.proofs.PlacePuts.{row_ok, row_err, past_later}
use Rattle.method_graph.proofs.graph.make_places.Goals as goal

pub returns-in_err-put_row-clause-fault : goal.returns-in_err-put_row-clause-fault
returns-in_err-put_row-clause-fault c =
    let p = err_from_is_err_and c.from_residual-in_err-put_row.result c.from_residual-in_err-put_row.ensures.1 in
    let row = c.nth_row-row.result in
    let here = drop-cons c.rows-rows.result.now c.loop-k.k row c.loop-k-test.true
    ∙ ap (λ (r : Row). r ∷ drop (suc c.loop-k.k) c.rows-rows.result.now) (c.nth_row-row.ensures row) in
    rw (p.1, p.2) (λ ne.
    ap (λ (rows : List Row). places_of c.args.bytes.now c.args.code.now c.args.sweep.now.rows rows) (sym c.rows-rows.ensures)
    ∙ row_err _ _ _ _ _ _ _ _ _ here c.loop-k.invariant.0 (c.in_err-put_row.ensures.put ne))

pub loop-k-preserved : goal.loop-k-preserved
loop-k-preserved c =
    let row = c.nth_row-row.result in
    let here = drop-cons c.rows-rows.result.now c.loop-k.k row c.loop-k-test.true
    ∙ ap (λ (r : Row). r ∷ drop (suc c.loop-k.k) c.rows-rows.result.now) (c.nth_row-row.ensures row) in (
      rw add-one (row_ok _ _ _ _ _ _ _ _ _ here c.loop-k.invariant.0 c.in_ok-put_row.ensures.put),
      c.in_ok-put_row.ensures.sums,
      past_later c.args.code.now.tries c.advance-at.result c.rows-rows.result.now c.loop-k.k row row.pc (rw c.rows-rows.ensures c.requires.rising)
          (ap (λ (r : Row). r.pc) (c.nth_row-row.ensures row))
          (rw (c.as_slice.ensures.value, ap (λ (v : CodeContent). v.tries) c.code.view_is) at c.advance-at.ensures.past),
    )

pub advance-at-requires-clause-past : goal.advance-at-requires-clause-past
advance-at-requires-clause-past c =
    let row = c.nth_row-row.result in
    let same = ap (λ (r : Row). r.pc) (c.nth_row-row.ensures row) in
    rw (c.as_slice.ensures.value, ap (λ (v : CodeContent). v.tries) c.code.view_is)
    (λ t d h. let before = c.loop-k.invariant.2 c.loop-k.k row (omega arith) c.loop-k-test.true t d h in omega arith)
