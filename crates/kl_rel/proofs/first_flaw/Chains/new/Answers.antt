use Rattle.std.proofs.Common.{◌≡◌, ◌+◌, ◌-◌, ◌<◌, ◌∙◌, sym, refl, arith, length}
use Rattle.std.proofs.lemmas.List.{get_or_default}
use Rattle.kl_rel.specs.Headers.{section}
use Rattle.kl_rel.proofs.Stamps.{target_number, chained_more, chained_passed}
use Rattle.kl_rel.proofs.first_flaw.Chains.new.Goals as goal

pub overflow_cast-header : goal.overflow_cast-header
overflow_cast-header c =
    let reads = rw (c.section.ensures, c.section-header.ensures) at c.is_read.ensures in
    let at = target_number c.args.bytes.now (c.loop-number.number - 1) (sym reads ∙ c.if-is_read.true) in
    rw c.section-header.ensures (omega (arith, at.1, c.requires.table.count, c.requires.table.lies, c.requires.long))

pub index-requires : goal.index-requires
index-requires c =
    let reads = rw (c.section.ensures, c.section-header.ensures) at c.is_read.ensures in
    let at = target_number c.args.bytes.now (c.loop-number.number - 1) (sym reads ∙ c.if-is_read.true) in
    let all = c.loop-number.invariant.chains.firsts in
    rw c.section-header.ensures (omega (arith, at.1, all, c.loop-number.chains.first.ok.0))

pub overflow_cast-header-then-is_read : goal.overflow_cast-header-then-is_read
overflow_cast-header-then-is_read c =
    let reads = rw (c.section.ensures, c.section-header.ensures) at c.is_read.ensures in
    let at = target_number c.args.bytes.now (c.loop-number.number - 1) (sym reads ∙ c.if-is_read.true) in
    rw c.section-header.ensures (omega (arith, at.1, c.requires.table.count, c.requires.table.lies, c.requires.long))

pub index_mut-requires-then-is_read : goal.index_mut-requires-then-is_read
index_mut-requires-then-is_read c =
    let reads = rw (c.section.ensures, c.section-header.ensures) at c.is_read.ensures in
    let at = target_number c.args.bytes.now (c.loop-number.number - 1) (sym reads ∙ c.if-is_read.true) in
    let all = c.loop-number.invariant.chains.firsts in
    rw c.section-header.ensures (omega (arith, at.1, all, c.loop-number.chains.first.ok.0))

pub loop-number-preserved-then-is_read : goal.loop-number-preserved-then-is_read
loop-number-preserved-then-is_read c =
    let b = c.args.bytes.now in
    let n = c.loop-number.number in
    let chains = c.loop-number.chains in
    let is = c.loop-number.invariant.chains in
    let reads = rw (c.section.ensures, c.section-header.ensures) at c.is_read.ensures in
    let at = target_number b (n - 1) (sym reads ∙ c.if-is_read.true) in
    let e : n - 1 + 1 ≡ n = omega arith in
    let same = c.section-header.ensures in
    let inside : (section b (n - 1)).info < length chains.first.items = omega (arith, at.1, is.firsts) in
    let read = rw same at c.index.ensures in
    let value = read ∙ get_or_default chains.first.items (section b (n - 1)).info c.index.result.now 0 inside in
    record {
      low = omega (arith, c.loop-number-test.true);
      high = omega (arith, c.loop-number.invariant.high);
      chains = chained_more b (n - 1) chains _ (omega (arith, c.loop-number-test.true)) (omega (arith, c.loop-number-test.true, c.loop-number.invariant.high, c.requires.table.count))
          (sym reads ∙ c.if-is_read.true) at.1 (rw same refl) (rw value refl) (rw e is);
    }

pub loop-number-preserved : goal.loop-number-preserved
loop-number-preserved c =
    let b = c.args.bytes.now in
    let n = c.loop-number.number in
    let reads = rw (c.section.ensures, c.section-header.ensures) at c.is_read.ensures in
    let e : n - 1 + 1 ≡ n = omega arith in
    record {
      low = omega (arith, c.loop-number-test.true);
      high = omega (arith, c.loop-number.invariant.high);
      chains = chained_passed b (n - 1) c.loop-number.chains (sym reads ∙ c.if-is_read.false) (rw e c.loop-number.invariant.chains);
    }
