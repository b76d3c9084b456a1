use Rattle.std.proofs.Common.{◌≡◌, ◌++◌}
use Rattle.std.specs.Prelude.{filter, option_to_list}
use Rattle.kl_rel.specs.Headers.{section, is_symbol_table}
use Rattle.kl_rel.specs.SymbolTables.{symbol_tables}
use Rattle.kl_rel.proofs.Passes.{upto}
use Rattle.kl_rel.proofs.symbol.find_symbol_table.Given as goal

abbrev pub invariant-loop-number : goal.invariant-loop-number
invariant-loop-number l = option_to_list l.found ++ filter (λ n. is_symbol_table (section l.bytes n)) (upto l.number l.table.count) ≡ symbol_tables l.bytes
