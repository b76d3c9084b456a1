use Rattle.std.proofs.Common.{◌∙◌, length, sym, refl, arith}
use Rattle.std.proofs.lemmas.Bool.{lt-leb}
use Rattle.kl_rel.specs.Relocations.{fields_in}
use Rattle.kl_rel.proofs.Entries.{count_read, count_none, count_next, count_all}
use Rattle.kl_rel.proofs.relocation.entry_count.Goals as goal
use Rattle.kl_rel.proofs.relocation.entry_count.Goals.{then-is_read+else-more-limit, else-is_read}

pub loop-number-init : goal.loop-number-init
loop-number-init c = record { bound = omega arith; count = rw c.requires.count (omega (arith, count_all c.args.bytes.now)) }

pub returns-then-more-limit : goal.returns-then-more-limit
returns-then-more-limit c =
    let b = c.args.bytes.now in
    let n = c.loop-number.number in
    let reads = rw (c.section.ensures, c.section-header.ensures) at c.is_read.ensures in
    let here = count_read b n (sym reads ∙ c.if-is_read.true) in
    let next = count_next b n c.args.table.now.count (omega arith) in
    let more = rw c.section-header.ensures at c.if-more-limit.true in
    rw (lt-leb (length (fields_in b)) c.args.limit (omega (arith, more, here, next, c.loop-number.invariant.count, c.loop-number.invariant.bound))) refl

pub loop-number-preserved : goal.loop-number-preserved
loop-number-preserved c =
    let b = c.args.bytes.now in
    let n = c.loop-number.number in
    let reads = rw (c.section.ensures, c.section-header.ensures) at c.is_read.ensures in
    let next = count_next b n c.args.table.now.count (omega arith) in
    let so_far = c.loop-number.invariant.count in
    elim c.if-is_read.branch [
      | then-is_read+else-more-limit w ↦
          let here = count_read b n (sym reads ∙ w.if-is_read.true) in
          let less = rw c.section-header.ensures at w.if-more-limit.false in
          let count = rw c.section-header.ensures at w.count-is in
          record { bound = omega (arith, less, count, c.loop-number.invariant.bound); count = omega (arith, here, next, so_far, count) }
      | else-is_read w ↦
          let here = count_none b n (sym reads ∙ w.if-is_read.false) in
          let count = w.count-is in
          record { bound = omega (arith, count, c.loop-number.invariant.bound); count = omega (arith, here, next, so_far, count) }
    ]
