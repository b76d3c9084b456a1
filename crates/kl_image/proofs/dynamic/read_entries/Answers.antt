use Rattle.std.proofs.Common.{◌/◌, ◌∙◌, refl, sym, arith, eq-eqb, ne_eqb, length-append}
use Rattle.kl_elf.specs.declared.abi.TheConstants.{DT_NULL}
use Rattle.kl_image.proofs.Entries.{dyns_more, dyns_end}
use Rattle.kl_image.proofs.dynamic.read_entries.Goals as goal

pub returns-then-entry-eq-DT_NULL : goal.returns-then-entry-eq-DT_NULL
returns-then-entry-eq-DT_NULL c =
    let b = c.args.bytes.now in
    let at = c.args.header.now.offset in
    let i = c.loop-number.number in
    let null = rw c.read-entry.ensures at (eq-eqb c.read-entry.result.tag DT_NULL c.if-entry-eq-DT_NULL.true) in
    c.loop-number.invariant.entries ∙ sym (dyns_end b at i (c.args.header.now.filesz / 16) c.loop-number.invariant.count (omega arith) null)

pub loop-number-preserved : goal.loop-number-preserved
loop-number-preserved c =
    let b = c.args.bytes.now in
    let at = c.args.header.now.offset in
    let i = c.loop-number.number in
    let some = rw c.read-entry.ensures at (ne_eqb c.read-entry.result.tag DT_NULL c.if-entry-eq-DT_NULL.false) in
    let more = dyns_more b at i c.loop-number.invariant.count some in
    record {
      entries = c.in_ok-push.ensures.items ∙ rw (c.loop-number.invariant.entries, c.read-entry.ensures, more) refl;
      count = rw (more, length-append) (omega (arith, c.loop-number.invariant.count));
    }
