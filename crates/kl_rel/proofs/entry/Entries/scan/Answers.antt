use Rattle.std.proofs.Common.{◌/◌, ◌∙◌, sym, refl, arith}
use Rattle.std.proofs.lemmas.List.{take_all}
use Rattle.std.proofs.lemmas.Result.{err_from_is_err_and}
use Rattle.kl_model.specs.Fit.{ShareNoByte}
use Rattle.kl_rel.specs.Headers.{section}
use Rattle.kl_rel.specs.Relocations.{entry_flaw_of, entries_flaw}
use Rattle.kl_rel.proofs.Passes.{first_passes, first_stops, upto-start}
use Rattle.kl_rel.proofs.Entries.{before-more}
use Rattle.kl_rel.proofs.Pairs.{pairs_front}
use Rattle.kl_rel.proofs.Scans.{plain_some, plain_none, plain_fits, kept_more, told_here}
use Rattle.kl_rel.proofs.entry.Entries.scan.Goals as goal
use Rattle.kl_elf.specs.declared.records.TheConstants.Rela as rela

pub loop-index-init : goal.loop-index-init
unfolding entries_flaw
loop-index-init c = record {
  flaw = λ pairs. rw (c.requires.entries.header, upto-start ((section c.args.bytes.now c.args.self.now.number).size / rela.SIZE)) refl;
  fields = c.requires.before;
  kept = take_all _ c.args.scan.now.fields.items (omega arith);
  scan = c.requires.scan;
  count = refl;
}

pub returns-in_err-check-clause-flaw : goal.returns-in_err-check-clause-flaw
returns-in_err-check-clause-flaw c =
    let b = c.args.bytes.now in
    let number = c.args.self.now.number in
    let index = c.loop-index.index in
    let p = err_from_is_err_and c.from_residual.result c.from_residual.ensures.1 in
    let is = c.requires.entries in
    let checks = rw (is.symbols, is.size, c.field-field.ensures, is.header) at c.in_err-check.ensures in
    let flaw = plain_some b number index c.in_err-check.field-0.0 checks in
    rw (p.1, p.2)
    (λ pairs. first_stops (entry_flaw_of b number) index (c.args.self.now.header.size / rela.SIZE) c.in_err-check.field-0.0 flaw (omega arith) (c.loop-index.invariant.flaw pairs))

pub returns-in_err-check-clause-told : goal.returns-in_err-check-clause-told
unfolding entries_flaw
returns-in_err-check-clause-told c =
    let b = c.args.bytes.now in
    let number = c.args.self.now.number in
    let index = c.loop-index.index in
    let p = err_from_is_err_and c.from_residual.result c.from_residual.ensures.1 in
    let is = c.requires.entries in
    let checks = rw (is.symbols, is.size, c.field-field.ensures, is.header) at c.in_err-check.ensures in
    let flaw = plain_some b number index c.in_err-check.field-0.0 checks in
    let short = rw is.header at c.loop-index-test.true in
    rw (p.1, p.2) (told_here (entry_flaw_of b number) 0 ((section b number).size / rela.SIZE) index c.in_err-check.field-0.0 (omega arith) (omega (arith, short)) flaw)

pub push-requires-clause-end : goal.push-requires-clause-end
push-requires-clause-end c =
    let fits = plain_fits c.args.self.now.symbols c.args.self.now.size _ c.field-field.result c.in_ok-check.ensures in
    omega (arith, fits, c.requires.size)

pub loop-index-preserved : goal.loop-index-preserved
loop-index-preserved c =
    let b = c.args.bytes.now in
    let number = c.args.self.now.number in
    let index = c.loop-index.index in
    let is = c.requires.entries in
    let checks = rw (is.symbols, is.size, c.field-field.ensures, is.header) at c.in_ok-check.ensures in
    record {
      flaw = λ pairs.
          let all = rw c.in_ok-push.ensures.fields at pairs in
          let up_to = rw (c.loop-index.invariant.fields, c.field-field.ensures, is.header) at all in
          first_passes (entry_flaw_of b number) index (c.args.self.now.header.size / rela.SIZE) (plain_none b number index checks up_to) (omega arith)
          (c.loop-index.invariant.flaw (pairs_front ShareNoByte c.loop-index.scan.fields.items c.field-field.result all));
      fields = rw (c.in_ok-push.ensures.fields, c.loop-index.invariant.fields, c.field-field.ensures, is.header) (sym (before-more b number index));
      kept = rw c.in_ok-push.ensures.fields (kept_more c.args.scan.now.fields.items c.loop-index.scan.fields.items c.field-field.result c.loop-index.invariant.kept);
      scan = c.in_ok-push.ensures.scan;
      count = c.push.ensures.count ∙ c.loop-index.invariant.count;
    }
