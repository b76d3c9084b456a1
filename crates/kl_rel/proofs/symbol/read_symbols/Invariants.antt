use Rattle.std.proofs.Common.{◌≡◌, ◌++◌}
use Rattle.std.specs.Prelude.{map}
use Rattle.kl_rel.specs.Flaws.{first_of}
use Rattle.kl_rel.specs.SymbolTables.{symbol_flaw_of, symbol_of, symbols_flaw, symbols_in}
use Rattle.kl_rel.proofs.Passes.{upto}
use Rattle.kl_rel.proofs.symbol.read_symbols.Given as goal

abbrev pub invariant-loop-number : goal.invariant-loop-number
invariant-loop-number l = record {
  flaw : first_of (map (symbol_flaw_of l.bytes) (upto l.number l.symbol_table.count)) ≡ symbols_flaw l.bytes;
  list : l.symbols ++ map (symbol_of l.bytes) (upto l.number l.symbol_table.count) ≡ symbols_in l.bytes;
}
