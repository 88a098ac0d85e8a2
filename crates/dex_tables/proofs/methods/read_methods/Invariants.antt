use Rattle.std.proofs.Common.{◌≡◌, Ok}
use Rattle.dex_tables.specs.Reading.{rows_below, method_in}
use Rattle.dex_tables.proofs.methods.read_methods.Given as goal

abbrev pub invariant-loop-m : goal.invariant-loop-m
invariant-loop-m l = rows_below (method_in l.bytes l.header) l.m ≡ Ok l.methods.items
