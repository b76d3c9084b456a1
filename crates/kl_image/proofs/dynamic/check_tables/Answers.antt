use Rattle.std.proofs.Common.{◌≡◌, ◌/◌, ◌∙◌, length, sym, ap, arith, lt-ltb}
use Rattle.std.specs.Prelude.{◌==◌, Some, None}
use Rattle.std.proofs.lemmas.Bool.{le-ltb}
use Rattle.std.proofs.lemmas.Result.{err_from_is_err_and}
use Rattle.kl_elf.specs.declared.abi.TheConstants.{PT_DYNAMIC}
use Rattle.kl_model.specs.Memory.{segments}
use Rattle.kl_model.specs.Loaded.{dynamics}
use Rattle.kl_image.specs.Dynamic.{dynamic_header}
use Rattle.kl_image.proofs.SegmentFlaws.{all_inside, found_inside}
use Rattle.kl_image.proofs.SectionFacts.{header_entries}
use Rattle.kl_image.proofs.Whole.{header_missing, entry_first, end_missing, tables_right}
use Rattle.kl_image.proofs.dynamic.check_tables.Goals as goal

pub returns-in_default-clause-flaw : goal.returns-in_default-clause-flaw
returns-in_default-clause-flaw c =
    let none : dynamic_header c.args.bytes.now ≡ None = rw c.requires.headers at (sym c.in_default.ensures) in
    header_missing c.args.bytes.now none

pub read_entries-requires : goal.read_entries-requires
read_entries-requires c =
    let b = c.args.bytes.now in
    let is : dynamic_header b ≡ Some c.in-Some.header.now = rw c.requires.headers at (sym c.in-Some.ensures) in
    found_inside b (λ s. s.kind == PT_DYNAMIC) (segments b) c.in-Some.header.now (all_inside b c.requires.segments) is

pub returns-in_err-check_entries-clause-flaw : goal.returns-in_err-check_entries-clause-flaw
returns-in_err-check_entries-clause-flaw c =
    let b = c.args.bytes.now in
    let is : dynamic_header b ≡ Some c.in-Some.header.now = rw c.requires.headers at (sym c.in-Some.ensures) in
    let p = err_from_is_err_and c.from_residual-in_err-check_entries.result c.from_residual-in_err-check_entries.ensures.1 in
    rw (p.1, p.2) (entry_first b c.in-Some.header.now c.in_err-check_entries.field-0.0 is c.in_err-check_entries.ensures.flaw)

pub returns-then-len-header-clause-flaw : goal.returns-then-len-header-clause-flaw
returns-then-len-header-clause-flaw c =
    let b = c.args.bytes.now in
    let s = c.in-Some.header.now in
    let is : dynamic_header b ≡ Some s = rw c.requires.headers at (sym c.in-Some.ensures) in
    let long = ap length (header_entries b s is ∙ sym c.in_ok-entries.ensures) in
    end_missing b s is c.in_ok-check_entries.ensures.sound (le-ltb (length (dynamics b)) (s.filesz / 16) (omega (arith, long)))

pub returns-clause-sound : goal.returns-clause-sound
returns-clause-sound c =
    let b = c.args.bytes.now in
    let s = c.in-Some.header.now in
    let is : dynamic_header b ≡ Some s = rw c.requires.headers at (sym c.in-Some.ensures) in
    let long = ap length (header_entries b s is ∙ sym c.in_ok-entries.ensures) in
    tables_right b s is c.in_ok-check_entries.ensures.sound (lt-ltb (length (dynamics b)) (s.filesz / 16) (omega (arith, long)))
