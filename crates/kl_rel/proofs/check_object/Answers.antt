use Rattle.std.proofs.Common.{◌∙◌, ap, length}
use Rattle.std.proofs.lemmas.Result.{err_from_is_err_and}
use Rattle.kl_rel.specs.Objects.{object}
use Rattle.kl_rel.proofs.Whole.{has_table, head_answer, ranges_answer, sections_answer, symbol_table_answer, symbols_answer, relocations_answer, groups_answer, no_flaw}
use Rattle.kl_rel.proofs.check_object.Goals as goal

pub returns-in_err-table-clause-flaw : goal.returns-in_err-table-clause-flaw
returns-in_err-table-clause-flaw c =
    let b = c.args.bytes.now in
    let p = err_from_is_err_and c.from_residual.result c.from_residual.ensures.1 in
    rw (p.1, p.2) (head_answer b c.in_err-table.field-0.0 c.in_err-table.ensures.flaw)

pub returns-in_err-check_ranges-clause-flaw : goal.returns-in_err-check_ranges-clause-flaw
returns-in_err-check_ranges-clause-flaw c =
    let b = c.args.bytes.now in
    let p = err_from_is_err_and c.from_residual-in_err-check_ranges.result c.from_residual-in_err-check_ranges.ensures.1 in
    rw (p.1, p.2) (ranges_answer b c.in_err-check_ranges.field-0.0 (has_table b c.in_ok-table.ensures.flaw) c.in_err-check_ranges.ensures)

pub returns-in_err-sections-clause-flaw : goal.returns-in_err-sections-clause-flaw
returns-in_err-sections-clause-flaw c =
    let b = c.args.bytes.now in
    let p = err_from_is_err_and c.from_residual-in_err-sections.result c.from_residual-in_err-sections.ensures.1 in
    rw (p.1, p.2) (sections_answer b c.in_err-sections.field-0.0 (has_table b c.in_ok-table.ensures.flaw) c.in_ok-check_ranges.ensures c.in_err-sections.ensures.flaw)

pub returns-in_err-symbol_table-clause-flaw : goal.returns-in_err-symbol_table-clause-flaw
returns-in_err-symbol_table-clause-flaw c =
    let b = c.args.bytes.now in
    let p = err_from_is_err_and c.from_residual-in_err-symbol_table.result c.from_residual-in_err-symbol_table.ensures.1 in
    rw (p.1, p.2) (symbol_table_answer b c.in_err-symbol_table.field-0.0 (has_table b c.in_ok-table.ensures.flaw) c.in_ok-check_ranges.ensures c.in_ok-sections.ensures.sound c.in_err-symbol_table.ensures.flaw)

pub returns-in_err-symbols-clause-flaw : goal.returns-in_err-symbols-clause-flaw
returns-in_err-symbols-clause-flaw c =
    let b = c.args.bytes.now in
    let p = err_from_is_err_and c.from_residual-in_err-symbols.result c.from_residual-in_err-symbols.ensures.1 in
    rw (p.1, p.2) (symbols_answer b c.in_err-symbols.field-0.0 (has_table b c.in_ok-table.ensures.flaw) c.in_ok-check_ranges.ensures c.in_ok-sections.ensures.sound c.in_ok-symbol_table.ensures.flaw c.in_err-symbols.ensures.flaw)

pub returns-in_err-check_relocations-clause-flaw : goal.returns-in_err-check_relocations-clause-flaw
returns-in_err-check_relocations-clause-flaw c =
    let b = c.args.bytes.now in
    let p = err_from_is_err_and c.from_residual-in_err-check_relocations.result c.from_residual-in_err-check_relocations.ensures.1 in
    rw (p.1, p.2) (relocations_answer b c.in_err-check_relocations.field-0.0 (has_table b c.in_ok-table.ensures.flaw) c.in_ok-check_ranges.ensures c.in_ok-sections.ensures.sound c.in_ok-symbol_table.ensures.flaw c.in_ok-symbols.ensures.sound c.in_err-check_relocations.ensures.flaw)

pub returns-in_err-read_groups-clause-flaw : goal.returns-in_err-read_groups-clause-flaw
returns-in_err-read_groups-clause-flaw c =
    let b = c.args.bytes.now in
    let p = err_from_is_err_and c.from_residual-in_err-read_groups.result c.from_residual-in_err-read_groups.ensures.1 in
    rw (p.1, p.2) (groups_answer b c.in_err-read_groups.field-0.0 (has_table b c.in_ok-table.ensures.flaw) c.in_ok-check_ranges.ensures c.in_ok-sections.ensures.sound c.in_ok-symbol_table.ensures.flaw c.in_ok-symbols.ensures.sound c.in_ok-check_relocations.ensures.sound c.in_err-read_groups.ensures.flaw)

pub returns-clause-sound : goal.returns-clause-sound
returns-clause-sound c =
    let b = c.args.bytes.now in
    no_flaw b (has_table b c.in_ok-table.ensures.flaw) c.in_ok-check_ranges.ensures c.in_ok-sections.ensures.sound c.in_ok-symbol_table.ensures.flaw
    c.in_ok-symbols.ensures.sound c.in_ok-check_relocations.ensures.sound c.in_ok-read_groups.ensures.sound

pub returns-clause-counts : goal.returns-clause-counts
unfolding object
returns-clause-counts c = record {
  sections_are = c.section_count.ensures.count ∙ ap length (c.items-3.ensures ∙ c.in_ok-sections.ensures.sections);
  symbols_are = c.symbol_count.ensures.count ∙ ap length (c.items-4.ensures ∙ c.in_ok-symbols.ensures.symbols);
  sections_short = c.section_count.ensures.short;
  symbols_short = c.symbol_count.ensures.short;
}
