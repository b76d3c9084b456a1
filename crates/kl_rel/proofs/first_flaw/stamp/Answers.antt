use Rattle.std.proofs.Common.{◌≡◌, ◌/◌, ◌+◌, ◌≤◌, ◌∙◌, inl, inr, length, sym, refl, arith}
use Rattle.std.proofs.lemmas.Result.{err_from_is_err_and}
use Rattle.kl_model.specs.Relocations.{width}
use Rattle.kl_rel.specs.Headers.{section}
use Rattle.kl_rel.specs.Relocations.{entry_flaw_of, entries_flaw}
use Rattle.kl_rel.proofs.Passes.{first_passes, first_stops, upto-start}
use Rattle.kl_rel.proofs.Places.{not_false, not_true}
use Rattle.kl_rel.proofs.Scans.{plain_some, plain_free, plain_shared, plain_fits}
use Rattle.kl_rel.proofs.Stamps.{stamps_shared, stamped_more}
use Rattle.kl_rel.proofs.first_flaw.stamp.Goals as goal
use Rattle.kl_elf.specs.declared.records.TheConstants.Rela as rela

pub loop-index-init : goal.loop-index-init
unfolding entries_flaw
loop-index-init c = record {
  flaw = rw (c.requires.entries.header, upto-start ((section c.args.bytes.now c.args.entries.now.number).size / rela.SIZE)) refl;
  stamps = c.requires.stamps;
  others = λ x. inl refl;
  count = refl;
}

pub returns-in_err-check-clause-flaw : goal.returns-in_err-check-clause-flaw
returns-in_err-check-clause-flaw c =
    let b = c.args.bytes.now in
    let number = c.args.entries.now.number in
    let index = c.loop-index.index in
    let is = c.requires.entries in
    let checks = rw (is.symbols, is.size, c.field-field.ensures, is.header) at c.in_err-check.ensures in
    let flaw = plain_some b number index c.in_err-check.field-0.0 checks in
    let p = err_from_is_err_and c.from_residual.result c.from_residual.ensures.1 in
    rw (p.1, p.2)
    (sym (first_stops (entry_flaw_of b number) index (c.args.entries.now.header.size / rela.SIZE) c.in_err-check.field-0.0 flaw (omega arith) c.loop-index.invariant.flaw))

pub overflow_add-field : goal.overflow_add-field
overflow_add-field c =
    let fits = plain_fits c.args.entries.now.symbols c.args.entries.now.size _ c.field-field.result c.in_ok-check.ensures in
    omega (arith, fits, c.width.ensures, c.requires.room, c.requires.short)

pub mark-requires-clause-room : goal.mark-requires-clause-room
mark-requires-clause-room c =
    let fits = plain_fits c.args.entries.now.symbols c.args.entries.now.size _ c.field-field.result c.in_ok-check.ensures in
    omega (arith, fits, c.width.ensures, c.requires.room, c.loop-index.invariant.count)

pub returns-then-not-mark-clause-flaw : goal.returns-then-not-mark-clause-flaw
returns-then-not-mark-clause-flaw c =
    let b = c.args.bytes.now in
    let number = c.args.entries.now.number in
    let index = c.loop-index.index in
    let field = c.field-field.result in
    let is = c.requires.entries in
    let fits = plain_fits c.args.entries.now.symbols c.args.entries.now.size _ field c.in_ok-check.ensures in
    let room : field.offset + width field.kind ≤ length c.loop-index.stamps = omega (arith, fits, c.requires.room, c.loop-index.invariant.count) in
    let same : field.section ≡ (section b number).info = rw (c.field-field.ensures, is.header) refl in
    let found = rw c.width.ensures at c.mark.ensures.free in
    let any = sym (stamps_shared b number index field c.loop-index.stamps c.loop-index.invariant.stamps same room) ∙ not_false _ (sym found ∙ c.if-not-mark.true) in
    let shared = rw (c.field-field.ensures, is.header) at any in
    let checks = rw (is.symbols, is.size, c.field-field.ensures, is.header) at c.in_ok-check.ensures in
    let flaw = plain_shared b number index checks shared in
    let stop = first_stops (entry_flaw_of b number) index (c.args.entries.now.header.size / rela.SIZE) _ flaw (omega arith) c.loop-index.invariant.flaw in
    rw (c.fault_at.ensures, stop, is.header) refl

pub loop-index-preserved : goal.loop-index-preserved
loop-index-preserved c =
    let b = c.args.bytes.now in
    let number = c.args.entries.now.number in
    let index = c.loop-index.index in
    let field = c.field-field.result in
    let is = c.requires.entries in
    let fits = plain_fits c.args.entries.now.symbols c.args.entries.now.size _ field c.in_ok-check.ensures in
    let room : field.offset + width field.kind ≤ length c.loop-index.stamps = omega (arith, fits, c.requires.room, c.loop-index.invariant.count) in
    let same : field.section ≡ (section b number).info = rw (c.field-field.ensures, is.header) refl in
    let into : field.section ≡ c.args.entries.now.header.info = rw c.field-field.ensures refl in
    let found = rw c.width.ensures at c.mark.ensures.free in
    let any = sym (stamps_shared b number index field c.loop-index.stamps c.loop-index.invariant.stamps same room) ∙ not_true _ (sym found ∙ c.if-not-mark.false) in
    let free = rw (c.field-field.ensures, is.header) at any in
    let checks = rw (is.symbols, is.size, c.field-field.ensures, is.header) at c.in_ok-check.ensures in
    let marked = rw (c.width.ensures, c.field-field.ensures, is.header) at c.if-not-mark.ensures.marked in
    record {
      flaw = first_passes (entry_flaw_of b number) index (c.args.entries.now.header.size / rela.SIZE) (plain_free b number index checks free) (omega arith) c.loop-index.invariant.flaw;
      stamps = stamped_more b number index c.loop-index.stamps c.mark.new.stamps c.loop-index.invariant.stamps c.mark.ensures.count marked;
      others = λ x. elim (c.mark.ensures.others x) [
        | inl kept ↦ rw kept (c.loop-index.invariant.others x)
        | inr now ↦ inr (now ∙ into)
      ];
      count = c.mark.ensures.count ∙ c.loop-index.invariant.count;
    }
