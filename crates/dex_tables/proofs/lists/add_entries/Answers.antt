use Rattle.std.proofs.Common.{arith, ◌∙◌}
use Rattle.dex_tables.specs.Rows.{list_entry}
use Rattle.dex_tables.proofs.Below.{list_below-more}
use Rattle.dex_tables.proofs.Words.{entry_within}
use Rattle.dex_tables.proofs.lists.add_entries.Goals as goal

pub entry_from-requires : goal.entry_from-requires
entry_from-requires c = entry_within _ _ _ c.requires (omega (arith, c.size_from-size.ensures, c.loop-k-test.true))

pub loop-k-preserved : goal.loop-k-preserved
loop-k-preserved c = (
  c.in_ok-push.ensures.items ∙ list_below-more (list_entry c.args.bytes.now c.args.off) c.loop-k.k _ _ _ c.loop-k.invariant.0 c.entry_from.ensures,
  omega (arith, c.in_ok-push.ensures.len, c.loop-k.invariant.1),
)
