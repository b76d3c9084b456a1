use Rattle.std.proofs.Common.{sym, refl, ne_eqb, eq-eqb}
use Rattle.std.proofs.lemmas.Result.{err_from_is_err_and}
use Rattle.kl_rel.specs.SymbolTables.{symbol_table}
use Rattle.kl_rel.proofs.Tables.{table_here, table_lies, flaw_second, flaw_form, flaw_none}
use Rattle.kl_rel.proofs.symbol.read_symbol_table.Goals as goal
use Rattle.kl_rel.proofs.symbol.read_symbol_table.Goals.{then-number-ne0+in_ok-check_form, else-number-ne0}

pub returns-in_err-find_symbol_table-clause-flaw : goal.returns-in_err-find_symbol_table-clause-flaw
returns-in_err-find_symbol_table-clause-flaw c =
    let p = err_from_is_err_and c.from_residual.result c.from_residual.ensures.1 in
    rw (p.1, p.2) (flaw_second c.args.bytes.now c.in_err-find_symbol_table.field-0.0 c.in_err-find_symbol_table.ensures.flaw)

pub place_of-requires-clause-number : goal.place_of-requires-clause-number
place_of-requires-clause-number c =
    let number = rw c.in_ok-find_symbol_table.ensures.number at c.unwrap_or-number.ensures in
    let apart = rw number at c.if-number-ne0.true in
    rw (number, c.requires.table.count) (table_here c.args.bytes.now (ne_eqb _ 0 apart))

pub returns-in_err-check_form-clause-flaw : goal.returns-in_err-check_form-clause-flaw
unfolding symbol_table
returns-in_err-check_form-clause-flaw c =
    let b = c.args.bytes.now in
    let p = err_from_is_err_and c.from_residual-in_err-check_form.result c.from_residual-in_err-check_form.ensures.1 in
    let number = rw c.in_ok-find_symbol_table.ensures.number at c.unwrap_or-number.ensures in
    let apart = rw number at c.if-number-ne0.true in
    let flaw = rw (c.place_of.ensures, c.section-header.ensures, c.requires.table.place, number) at c.in_err-check_form.ensures in
    rw (p.1, p.2, flaw_form b c.in_ok-find_symbol_table.ensures.flaw (ne_eqb _ 0 apart)) flaw

pub returns-clause-table : goal.returns-clause-table
unfolding symbol_table
returns-clause-table c =
    let number = rw c.in_ok-find_symbol_table.ensures.number at c.unwrap_or-number.ensures in
    let header = rw number at c.section-header.ensures in
    rw header (record { place = refl; count = refl; locals = refl; strings = refl; lies = table_lies c.args.bytes.now c.requires.ranges })

pub returns-clause-flaw : goal.returns-clause-flaw
unfolding symbol_table
returns-clause-flaw c =
    let b = c.args.bytes.now in
    let number = rw c.in_ok-find_symbol_table.ensures.number at c.unwrap_or-number.ensures in
    elim c.if-number-ne0.branch [
      | then-number-ne0+in_ok-check_form w ↦
          let apart = rw number at w.if-number-ne0.true in
          let flaw = rw (w.place_of.ensures, c.section-header.ensures, c.requires.table.place, number) at w.in_ok-check_form.ensures in
          rw (flaw_form b c.in_ok-find_symbol_table.ensures.flaw (ne_eqb _ 0 apart)) flaw
      | else-number-ne0 w ↦
          let same = rw number at w.if-number-ne0.false in
          sym (flaw_none b c.in_ok-find_symbol_table.ensures.flaw (eq-eqb _ 0 same))
    ]
