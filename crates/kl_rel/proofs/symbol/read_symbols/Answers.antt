use Rattle.std.proofs.Common.{sym, refl, arith, ne_eqb}
use Rattle.std.proofs.lemmas.Result.{err_from_is_err_and}
use Rattle.kl_rel.specs.SymbolTables.{symbol_flaw_of, symbol_of, symbols_flaw, symbols_in}
use Rattle.kl_rel.proofs.Passes.{first_passes, first_stops, map_passes}
use Rattle.kl_rel.proofs.Tables.{strings_lie}
use Rattle.kl_rel.proofs.symbol.read_symbols.Goals as goal

pub returns-then-symbol_table-eq0-clause-symbols : goal.returns-then-symbol_table-eq0-clause-symbols
unfolding symbols_in
returns-then-symbol_table-eq0-clause-symbols c =
    let none = rw c.requires.symbol_table.count at c.if-symbol_table-eq0.true in
    rw (c.from_vec-symbols.ensures, c.in_ok-with_capacity.ensures.items, none) refl

pub returns-then-symbol_table-eq0-clause-sound : goal.returns-then-symbol_table-eq0-clause-sound
unfolding symbols_flaw
returns-then-symbol_table-eq0-clause-sound c =
    let none = rw c.requires.symbol_table.count at c.if-symbol_table-eq0.true in
    rw none refl

pub loop-number-init : goal.loop-number-init
unfolding symbols_flaw symbols_in
loop-number-init c =
    let some = rw c.requires.symbol_table.count at c.if-symbol_table-eq0.false in
    let test = ne_eqb _ 0 some in
    record {
      flaw = rw c.requires.symbol_table.count refl;
      list = rw (c.in_ok-push.ensures.ok, c.from_vec-symbols.ensures, c.in_ok-with_capacity.ensures.items, c.requires.symbol_table.count, test) refl;
    }

pub new-requires-clause-lies : goal.new-requires-clause-lies
new-requires-clause-lies c =
    let some = rw c.requires.symbol_table.count at c.if-symbol_table-eq0.false in
    rw (c.section.ensures, c.requires.symbol_table.strings)
    (strings_lie c.args.bytes.now c.requires.ranges c.requires.form (ne_eqb _ 0 some))

pub loop-number-preserved : goal.loop-number-preserved
loop-number-preserved c =
    let b = c.args.bytes.now in
    let n = c.loop-number.number in
    let count = c.args.symbol_table.now.count in
    let is = c.requires.symbol_table in
    let flaw = rw (c.in_ok-strings.ensures.header, c.section.ensures, is.strings, c.from.ensures, is.locals, is.place, c.requires.table.count) at (c.in_ok-symbol.ensures.flaw) in
    let symbol = rw (c.in_ok-strings.ensures.header, c.section.ensures, is.strings, is.place) at (c.in_ok-symbol.ensures.symbol) in
    record {
      flaw = first_passes (symbol_flaw_of b) n count (sym flaw) (omega arith) c.loop-number.invariant.flaw;
      list = rw (c.in_ok-push-2.ensures.ok, symbol) (map_passes (symbol_of b) n count c.loop-number.symbols (omega arith) c.loop-number.invariant.list);
    }

pub returns-in_err-symbol-clause-flaw : goal.returns-in_err-symbol-clause-flaw
returns-in_err-symbol-clause-flaw c =
    let b = c.args.bytes.now in
    let n = c.loop-number.number in
    let count = c.args.symbol_table.now.count in
    let is = c.requires.symbol_table in
    let p = err_from_is_err_and c.from_residual-in_err-symbol.result c.from_residual-in_err-symbol.ensures.1 in
    let flaw = rw (c.in_ok-strings.ensures.header, c.section.ensures, is.strings, c.from.ensures, is.locals, is.place, c.requires.table.count) at (c.in_err-symbol.ensures.flaw) in
    rw (p.1, p.2) (first_stops (symbol_flaw_of b) n count c.in_err-symbol.field-0.0 (sym flaw) (omega arith) c.loop-number.invariant.flaw)
