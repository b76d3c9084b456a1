use Rattle.std.proofs.Common.{◌≡◌, ◌+◌, ◌<◌, ◌∙◌, inl, inr, true, false, length, refl, sym, arith}
use Rattle.std.proofs.lemmas.Bool.{cases_order}
use Rattle.std.proofs.lemmas.List.{get_or_default}
use Rattle.kl_rel.specs.Chains.{IsNext}
use Rattle.kl_rel.proofs.Entries.{rela_read, rela_lies}
use Rattle.kl_rel.proofs.Stamps.{changes_parts, target_size, turn_first, turn_next}
use Rattle.kl_rel.proofs.first_flaw.Chains.check.Goals as goal

pub loop-number-init : goal.loop-number-init
loop-number-init c =
    let b = c.args.bytes.now in
    let target = c.args.target in
    let number = c.index-number.result.now in
    let chains = c.requires.chains in
    let inside : target < length c.args.self.now.first.items = omega (arith, c.requires.target.1, c.requires.table.count, chains.firsts) in
    let value = c.index-number.ensures ∙ get_or_default c.args.self.now.first.items target number 0 inside in
    let next : IsNext b target 1 number = rw value (chains.first target (omega (arith, inside, chains.firsts))) in
    record {
      known = refl;
      passed = λ n low before high is. (let bad : true ≡ false = sym is ∙ next.others n low (omega (arith, high, c.requires.known.high)) before in cc);
      turn = λ some. turn_first b target number c.args.stamps.now next c.requires.stamps some;
      values = λ x. omega (arith, c.requires.stamps x);
      count = refl;
    }

pub stamp-requires-clause-entries : goal.stamp-requires-clause-entries
stamp-requires-clause-entries c =
    let turn = c.loop-number.invariant.turn c.loop-number-test.true in
    let parts = changes_parts c.args.bytes.now c.args.target c.loop-number.number turn.is in
    record {
      header = c.section.ensures;
      symbols = c.requires.symbol_table.count;
      size = rw (c.section-size.ensures, c.section.ensures, parts.1) refl;
      reads = parts.0;
    }

pub stamp-requires-clause-lies : goal.stamp-requires-clause-lies
stamp-requires-clause-lies c =
    let turn = c.loop-number.invariant.turn c.loop-number-test.true in
    let parts = changes_parts c.args.bytes.now c.args.target c.loop-number.number turn.is in
    rw c.section.ensures (rela_lies c.args.bytes.now c.loop-number.number c.requires.ranges parts.0)

pub stamp-requires-clause-room : goal.stamp-requires-clause-room
stamp-requires-clause-room c =
    let b = c.args.bytes.now in
    let n = c.loop-number.number in
    let turn = c.loop-number.invariant.turn c.loop-number-test.true in
    let parts = changes_parts b c.args.target n turn.is in
    let before = rw c.loop-number.invariant.known at c.if-number-known.true in
    let size = rw parts.1 at (target_size b n c.requires.ranges c.requires.sections (c.requires.forms n turn.low before) parts.0) in
    rw c.section-size.ensures (omega (arith, size, c.requires.room, c.loop-number.invariant.count))

pub stamp-requires-clause-stamps : goal.stamp-requires-clause-stamps
stamp-requires-clause-stamps c =
    let turn = c.loop-number.invariant.turn c.loop-number-test.true in
    let parts = changes_parts c.args.bytes.now c.args.target c.loop-number.number turn.is in
    rw parts.1 turn.stamped

pub returns-in-Err-clause-passed : goal.returns-in-Err-clause-passed
returns-in-Err-clause-passed c = λ k low high is.
    let before = c.if-number-known.true in
    c.loop-number.invariant.passed k low (λ _. high) (omega (arith, high, before)) is

pub returns-in-Err-clause-stamps : goal.returns-in-Err-clause-stamps
returns-in-Err-clause-stamps c = λ x.
    let turn = c.loop-number.invariant.turn c.loop-number-test.true in
    let parts = changes_parts c.args.bytes.now c.args.target c.loop-number.number turn.is in
    elim (c.stamp.ensures.others x) [
      | inl kept ↦ omega (arith, kept, c.loop-number.invariant.values x)
      | inr now ↦ (let is = rw (c.section.ensures, parts.1) at now in omega (arith, is))
    ]

pub returns-in-Err-clause-known : goal.returns-in-Err-clause-known
returns-in-Err-clause-known c =
    let b = c.args.bytes.now in
    let n = c.loop-number.number in
    let turn = c.loop-number.invariant.turn c.loop-number-test.true in
    let parts = changes_parts b c.args.target n turn.is in
    let before = rw c.loop-number.invariant.known at c.if-number-known.true in
    record {
      high = omega (arith, turn.high);
      flaw = inl (turn.high, turn.low, c.in-Err.fault, refl, rela_read b n (c.requires.forms n turn.low before) parts.0 ∙ sym c.in-Err.ensures.flaw);
    }

pub loop-number-preserved : goal.loop-number-preserved
loop-number-preserved c =
    let b = c.args.bytes.now in
    let n = c.loop-number.number in
    let target = c.args.target in
    let m = c.index-number-in-loop-number.result.now in
    let chains = c.requires.chains in
    let turn = c.loop-number.invariant.turn c.loop-number-test.true in
    let parts = changes_parts b target n turn.is in
    let before = rw c.loop-number.invariant.known at c.if-number-known.true in
    let inside : n < length c.args.self.now.next.items = omega (arith, turn.high, chains.nexts) in
    let value = c.index-number-in-loop-number.ensures ∙ get_or_default c.args.self.now.next.items n m 0 inside in
    let next : IsNext b target (n + 1) m = rw value (rw parts.1 at (chains.next n turn.low turn.high parts.0)) in
    let stamped = rw c.section.ensures at c.in_default.ensures.stamps in
    record {
      known = c.loop-number.invariant.known;
      passed = λ k low ahead high is. elim (cases_order k n) [
        | inl same ↦ rw same (rela_read b n (c.requires.forms n turn.low before) parts.0 ∙ sym c.in_default.ensures.flaw)
        | inr (inl less) ↦ c.loop-number.invariant.passed k low (λ _. less) high is
        | inr (inr more) ↦
            let below = rw c.loop-number.invariant.known at high in
            let bad : true ≡ false = sym is ∙ next.others k (omega (arith, more)) (omega (arith, below, c.requires.known.high)) ahead in
            cc
      ];
      turn = λ some. turn_next b target n m c.stamp.new.stamps turn.low turn.is next stamped some;
      values = λ x. elim (c.stamp.ensures.others x) [
        | inl kept ↦ omega (arith, kept, c.loop-number.invariant.values x)
        | inr now ↦ (let is = rw (c.section.ensures, parts.1) at now in omega (arith, is))
      ];
      count = c.stamp.ensures.count ∙ c.loop-number.invariant.count;
    }
