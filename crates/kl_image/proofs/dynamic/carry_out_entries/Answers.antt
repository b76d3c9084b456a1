use Rattle.std.proofs.Common.{◌≡◌, ◌∙◌, take, pos, sym}
use Rattle.std.specs.Prelude.{◌==◌, Some, fold}
use Rattle.kl_elf.specs.declared.abi.TheConstants.{PT_DYNAMIC}
use Rattle.kl_elf.specs.declared.records.Rela.{Rela}
use Rattle.kl_model.specs.Loaded.{with_rela}
use Rattle.kl_model.specs.Memory.{segments}
use Rattle.kl_image.specs.Dynamic.{dynamic_header}
use Rattle.kl_image.specs.Resolvers.{number_of}
use Rattle.kl_image.proofs.SegmentFlaws.{all_inside, found_inside}
use Rattle.kl_image.proofs.WrittenBytes.{entries_all, entries_more}
use Rattle.kl_image.proofs.dynamic.carry_out_entries.Goals as goal

-- what the list of entries is read as past its end
abbrev no_rela : Rela
no_rela = record { offset = 0; info = 0; addend = pos 0 }

pub read_entries-requires : goal.read_entries-requires
read_entries-requires g c =
    let b = c.args.image.now.bytes.now in
    let is : dynamic_header b ≡ Some c.in-Some.header.now = rw c.requires.headers at (sym c.in-Some.ensures) in
    found_inside b (λ s. s.kind == PT_DYNAMIC) (segments b) c.in-Some.header.now (all_inside b c.requires.placed.sound) is

pub loop-entry-preserved : goal.loop-entry-preserved
loop-entry-preserved g c = λ m was.
    let b = c.args.image.now.bytes.now in
    let base = c.args.image.now.base in
    let r = number_of (g.R.Resolver.numbers c.args.names.now) in
    let es = c.deref-entry-items.result.now in
    entries_more b base r c.carry_out.new.written m es c.loop-entry.entry-index no_rela c.loop-entry-test.true
    (c.in_ok-carry_out.ensures m (fold (with_rela b base r) m (take c.loop-entry.entry-index es)) (c.loop-entry.invariant m was))

pub returns : goal.returns
returns g c = λ m was.
    let b = c.args.image.now.bytes.now in
    let es = c.deref-entry-items.result.now in
    entries_all b c.args.image.now.base (number_of (g.R.Resolver.numbers c.args.names.now)) c.loop-entry.written m es c.loop-entry.entry-index c.loop-entry-test.false
    (c.deref-entry-items.ensures.value ∙ c.in_ok-relocations.ensures) (c.loop-entry.invariant m was)
