use Rattle.std.proofs.Common.{◌≤◌, ◌-◌, ◌∙◌, sym, refl, arith}
use Rattle.std.proofs.lemmas.Result.{err_from_is_err_and}
use Rattle.kl_model.specs.Fit.{ShareNoByte}
use Rattle.kl_rel.specs.Headers.{head}
use Rattle.kl_rel.specs.Relocations.{rela_flaw_of, relocations_flaw}
use Rattle.kl_rel.proofs.Passes.{first_passes, first_stops, answer_stops}
use Rattle.kl_rel.proofs.Allocated.{size_limited}
use Rattle.kl_rel.proofs.Entries.{before-start, before-read, before-passed, before-all, rela_none, rela_some, rela_read, rela_lies, info_below, target_allocated}
use Rattle.kl_rel.proofs.Scans.{pairs_kept, told_here, told_more}
use Rattle.kl_rel.proofs.relocation.scan_sections.Goals as goal
use Rattle.kl_rel.proofs.relocation.scan_sections.Goals.{then-is_read+in_ok-scan, else-is_read}

pub loop-number-init : goal.loop-number-init
unfolding relocations_flaw
loop-number-init c = record {
  flaw = λ pairs. rw c.requires.table.count refl;
  fields = c.requires.empty ∙ sym (before-start c.args.bytes.now);
  scan = c.requires.scan;
  count = c.requires.count;
}

pub returns-in_err-check_form-clause-flaw : goal.returns-in_err-check_form-clause-flaw
returns-in_err-check_form-clause-flaw c =
    let b = c.args.bytes.now in
    let n = c.loop-number.number in
    let p = err_from_is_err_and c.from_residual.result c.from_residual.ensures.1 in
    let checks = rw (c.section-header.ensures, c.place_of.ensures, c.requires.table.place) at c.in_err-check_form.ensures in
    let flaw = rela_some b n c.in_err-check_form.field-0.0 checks in
    rw (p.1, p.2)
    (λ pairs. first_stops (rela_flaw_of b) n c.args.table.now.count c.in_err-check_form.field-0.0 flaw (omega arith) (c.loop-number.invariant.flaw pairs))

pub returns-in_err-check_form-clause-told : goal.returns-in_err-check_form-clause-told
unfolding relocations_flaw
returns-in_err-check_form-clause-told c =
    let b = c.args.bytes.now in
    let n = c.loop-number.number in
    let p = err_from_is_err_and c.from_residual.result c.from_residual.ensures.1 in
    let checks = rw (c.section-header.ensures, c.place_of.ensures, c.requires.table.place) at c.in_err-check_form.ensures in
    let flaw = rela_some b n c.in_err-check_form.field-0.0 checks in
    rw (p.1, p.2)
    (told_here (rela_flaw_of b) 1 ((head b).shnum - 1) n c.in_err-check_form.field-0.0 (omega arith) (omega (arith, c.loop-number-test.true, c.requires.table.count)) flaw)

pub scan-requires-clause-lies : goal.scan-requires-clause-lies
scan-requires-clause-lies c =
    let reads = rw (c.section-target.ensures, c.section-header.ensures) at c.is_read.ensures in
    rw c.section-header.ensures (rela_lies c.args.bytes.now c.loop-number.number c.requires.ranges (sym reads ∙ c.if-is_read.true))

pub scan-requires-clause-size : goal.scan-requires-clause-size
scan-requires-clause-size c =
    let b = c.args.bytes.now in
    let reads = rw (c.section-target.ensures, c.section-header.ensures) at c.is_read.ensures in
    rw (c.section-target.ensures, c.section-header.ensures)
    (size_limited b _ c.requires.sections (target_allocated b c.loop-number.number (sym reads ∙ c.if-is_read.true)))

pub scan-requires-clause-section : goal.scan-requires-clause-section
scan-requires-clause-section c =
    let reads = rw (c.section-target.ensures, c.section-header.ensures) at c.is_read.ensures in
    let checks = rw (c.section-header.ensures, c.place_of.ensures, c.requires.table.place) at c.in_ok-check_form.ensures in
    rw (c.section-header.ensures, c.loop-number.invariant.count, c.requires.table.count)
    (info_below c.args.bytes.now c.loop-number.number checks (sym reads ∙ c.if-is_read.true))

pub returns-in_err-scan-clause-flaw : goal.returns-in_err-scan-clause-flaw
returns-in_err-scan-clause-flaw c =
    let b = c.args.bytes.now in
    let n = c.loop-number.number in
    let p = err_from_is_err_and c.from_residual-in_err-scan.result c.from_residual-in_err-scan.ensures.1 in
    let reads = rw (c.section-target.ensures, c.section-header.ensures) at c.is_read.ensures in
    let checks = rw (c.section-header.ensures, c.place_of.ensures, c.requires.table.place) at c.in_ok-check_form.ensures in
    rw (p.1, p.2) (λ pairs.
    let flaw = rw (← rela_read b n checks (sym reads ∙ c.if-is_read.true)) at (c.in_err-scan.ensures.flaw pairs) in
    let before = pairs_kept ShareNoByte c.loop-number.scan.fields.items c.scan.new.scan.fields.items c.scan.ensures.kept pairs in
    answer_stops (rela_flaw_of b) n c.args.table.now.count c.in_err-scan.field-0.0 flaw (omega arith) (c.loop-number.invariant.flaw before))

pub returns-in_err-scan-clause-told : goal.returns-in_err-scan-clause-told
unfolding relocations_flaw
returns-in_err-scan-clause-told c =
    let b = c.args.bytes.now in
    let n = c.loop-number.number in
    let p = err_from_is_err_and c.from_residual-in_err-scan.result c.from_residual-in_err-scan.ensures.1 in
    let reads = rw (c.section-target.ensures, c.section-header.ensures) at c.is_read.ensures in
    let checks = rw (c.section-header.ensures, c.place_of.ensures, c.requires.table.place) at c.in_ok-check_form.ensures in
    let tells = rw (← rela_read b n checks (sym reads ∙ c.if-is_read.true)) at c.in_err-scan.ensures.told in
    rw (p.1, p.2)
    (told_more (rela_flaw_of b) 1 ((head b).shnum - 1) n c.in_err-scan.field-0.0 (omega arith) (omega (arith, c.loop-number-test.true, c.requires.table.count)) tells)

pub loop-number-preserved : goal.loop-number-preserved
loop-number-preserved c =
    let b = c.args.bytes.now in
    let n = c.loop-number.number in
    let count = c.args.table.now.count in
    let low : 1 ≤ n = omega arith in
    let reads = rw (c.section-target.ensures, c.section-header.ensures) at c.is_read.ensures in
    let checks = rw (c.section-header.ensures, c.place_of.ensures, c.requires.table.place) at c.in_ok-check_form.ensures in
    elim c.if-is_read.branch [
      | then-is_read+in_ok-scan w ↦
          let is = sym reads ∙ w.if-is_read.true in
          let made = rw c.section-header.ensures at w.in_ok-scan.ensures.fields in
          record {
            flaw = λ pairs.
                let all = rw w.scan-is at pairs in
                let before = pairs_kept ShareNoByte c.loop-number.scan.fields.items w.scan.new.scan.fields.items w.scan.ensures.kept all in
                first_passes (rela_flaw_of b) n count (rela_read b n checks is ∙ w.in_ok-scan.ensures.sound all) (omega arith) (c.loop-number.invariant.flaw before);
            fields = rw w.scan-is (made ∙ sym (before-read b n low is));
            scan = rw w.scan-is w.in_ok-scan.ensures.scan;
            count = rw w.scan-is (w.scan.ensures.count ∙ c.loop-number.invariant.count);
          }
      | else-is_read w ↦
          let is = sym reads ∙ w.if-is_read.false in
          record {
            flaw = λ pairs. first_passes (rela_flaw_of b) n count (rela_none b n checks is) (omega arith) (c.loop-number.invariant.flaw (rw w.scan-is at pairs));
            fields = rw w.scan-is (c.loop-number.invariant.fields ∙ sym (before-passed b n low is));
            scan = rw w.scan-is c.loop-number.invariant.scan;
            count = rw w.scan-is c.loop-number.invariant.count;
          }
    ]

pub returns-clause-fields : goal.returns-clause-fields
returns-clause-fields c =
    let b = c.args.bytes.now in
    rw c.loop-number.invariant.fields (before-all b c.loop-number.number (let end = c.loop-number.auto.number-end c.requires.table.some in omega (arith, c.requires.table.count, end)))
