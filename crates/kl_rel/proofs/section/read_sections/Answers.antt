use Rattle.std.proofs.Common.{sym, refl, arith}
use Rattle.kl_rel.specs.Sections.{section_flaw_of, section_of, sections_flaw, sections_in}
use Rattle.kl_rel.proofs.Passes.{first_passes, map_passes}
use Rattle.kl_rel.proofs.Places.{names_lie}
use Rattle.kl_rel.proofs.section.read_sections.Goals as goal

pub new-requires-clause-lies : goal.new-requires-clause-lies
new-requires-clause-lies c = rw (c.section.ensures, c.requires.table.names) (names_lie c.args.bytes.now c.requires.form c.requires.ranges)

pub loop-number-init : goal.loop-number-init
unfolding sections_flaw sections_in
loop-number-init c = record {
  flaw = rw c.requires.table.count refl;
  list = rw (c.from_vec-sections.ensures, c.in_ok-with_capacity.ensures.items, c.requires.table.count) refl;
}

pub loop-number-preserved : goal.loop-number-preserved
loop-number-preserved c =
    let b = c.args.bytes.now in
    let n = c.loop-number.number in
    let count = c.args.table.now.count in
    let flaw = rw (c.in_ok-names.ensures.header, c.section.ensures, c.requires.table.names, c.section-header.ensures, c.place_of.ensures, c.requires.table.place) at (c.in_ok-section.ensures.flaw) in
    let section = rw (c.in_ok-names.ensures.header, c.section.ensures, c.requires.table.names, c.section-header.ensures) at (c.in_ok-section.ensures.section) in
    record {
      flaw = first_passes (section_flaw_of b) n count (sym flaw) (omega arith) c.loop-number.invariant.flaw;
      list = rw (c.in_ok-push.ensures.ok, section) (map_passes (section_of b) n count c.loop-number.sections (omega arith) c.loop-number.invariant.list);
    }
