use Rattle.std.proofs.Common.{ℕ, ◌≡◌, false, [], refl, arith, eq-eqb, ne_eqb}
use Rattle.std.specs.Prelude.{Option, Some, None, is_some, option_to_list}
use Rattle.kl_rel.specs.Headers.{section, is_symbol_table}
use Rattle.kl_rel.specs.SymbolTables.{symbol_tables}
use Rattle.kl_rel.proofs.Passes.{filter_takes, filter_passes}
use Rattle.kl_rel.proofs.symbol.find_symbol_table.Goals as goal
use Rattle.kl_rel.proofs.symbol.find_symbol_table.Goals.{then-section-eq-SHT_SYMTAB+else-is_some, else-section-eq-SHT_SYMTAB}

none_found : (o : Option ℕ) → is_some o ≡ false → option_to_list o ≡ []
none_found None e = refl
none_found (Some n) e = cc

pub loop-number-init : goal.loop-number-init
unfolding symbol_tables
loop-number-init c = rw c.requires.table.count refl

pub loop-number-preserved : goal.loop-number-preserved
loop-number-preserved c =
    let b = c.args.bytes.now in
    let n = c.loop-number.number in
    let p = λ (n : ℕ). is_symbol_table (section b n) in
    elim c.if-section-eq-SHT_SYMTAB.branch [
      | then-section-eq-SHT_SYMTAB+else-is_some w ↦
          let kind = rw c.section.ensures at w.if-section-eq-SHT_SYMTAB.true in
          let empty = none_found c.loop-number.found (rw w.is_some.ensures at w.if-is_some.false) in
          let so_far = rw empty at c.loop-number.invariant in
          rw w.found-is (filter_takes p n c.args.table.now.count [] (eq-eqb _ _ kind) (omega arith) so_far)
      | else-section-eq-SHT_SYMTAB w ↦
          let kind = rw c.section.ensures at w.if-section-eq-SHT_SYMTAB.false in
          rw w.found-is (filter_passes p n c.args.table.now.count (option_to_list c.loop-number.found) (ne_eqb _ _ kind) (omega arith) c.loop-number.invariant)
    ]
