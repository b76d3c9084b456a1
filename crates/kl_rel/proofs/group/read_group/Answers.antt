use Rattle.std.proofs.Common.{ℕ, ◌<◌, ◌≤◌, ◌+◌, ◌*◌, length, sym, refl, arith, eqb-true}
use Rattle.std.proofs.lemmas.Result.{err_from_is_err_and}
use Rattle.kl_rel.specs.SymbolTables.{symbol_count}
use Rattle.kl_rel.proofs.Places.{section_of_type}
use Rattle.kl_rel.proofs.Tables.{table_lies}
use Rattle.kl_rel.proofs.Symbols.{symbols-length, symbol_fits}
use Rattle.kl_rel.proofs.Grouping.{form_of, group_some, group_members, made_group, members-group}
use Rattle.kl_rel.proofs.group.read_group.Goals as goal
use Rattle.kl_base.specs.declared.limits.TheConstants.{INPUT_LIMIT}
use Rattle.kl_elf.specs.declared.records.TheConstants.Sym as sym

pub check_form-requires-clause-symbols : goal.check_form-requires-clause-symbols
check_form-requires-clause-symbols c = rw c.requires.symbols (symbols-length c.args.bytes.now)

pub check_form-requires-clause-lies : goal.check_form-requires-clause-lies
check_form-requires-clause-lies c =
    rw c.section-header.ensures (section_of_type c.args.bytes.now c.args.number 17 c.requires.ranges (eqb-true _ 17 c.requires.group) refl)

pub returns-in_err-check_form-clause-flaw : goal.returns-in_err-check_form-clause-flaw
returns-in_err-check_form-clause-flaw c =
    let p = err_from_is_err_and c.from_residual.result c.from_residual.ensures.1 in
    let flaw = rw (c.place_of-place.ensures, c.section-header.ensures, c.requires.table.place) at c.in_err-check_form.ensures in
    rw (p.1, p.2) (group_some c.args.bytes.now c.args.number c.in_err-check_form.field-0.0 flaw)

pub read_members-requires-clause-size : goal.read_members-requires-clause-size
read_members-requires-clause-size c = (form_of c.args.bytes.now c.place_of-place.result c.section-header.result c.in_ok-check_form.ensures).size

pub read_members-requires-clause-lies : goal.read_members-requires-clause-lies
read_members-requires-clause-lies c =
    rw c.section-header.ensures (section_of_type c.args.bytes.now c.args.number 17 c.requires.ranges (eqb-true _ 17 c.requires.group) refl)

pub returns-in_err-members-clause-flaw : goal.returns-in_err-members-clause-flaw
returns-in_err-members-clause-flaw c =
    let p = err_from_is_err_and c.from_residual-in_err-members.result c.from_residual-in_err-members.ensures.1 in
    let checks = rw (c.place_of-place.ensures, c.section-header.ensures, c.requires.table.place) at c.in_ok-check_form.ensures in
    rw (p.1, p.2, group_members c.args.bytes.now c.args.number checks) c.in_err-members.ensures.flaw

pub get-requires-clause-room : goal.get-requires-clause-room
get-requires-clause-room c =
    let form = form_of c.args.bytes.now c.place_of-place.result c.section-header.result c.in_ok-check_form.ensures in
    let size = form.size in
    let lies = section_of_type c.args.bytes.now c.args.number 17 c.requires.ranges (eqb-true _ 17 c.requires.group) refl in
    let here = rw (← c.section-header.ensures) at lies in
    omega (arith, here, size)

-- the signature symbol's number is below a count that is small
below : (b : ℕ) (info count long : ℕ) → info < count → b + sym.SIZE * count ≤ long → long ≤ INPUT_LIMIT → info < INPUT_LIMIT
below b info count long l h k = omega arith

pub overflow_cast-header : goal.overflow_cast-header
overflow_cast-header c =
    let form = form_of c.args.bytes.now c.place_of-place.result c.section-header.result c.in_ok-check_form.ensures in
    let small = below _ _ (symbol_count c.args.bytes.now) (length c.args.bytes.now) form.high (table_lies c.args.bytes.now c.requires.ranges) c.requires.long in
    omega (arith, small)

pub offset_bounds-symbols-header : goal.offset_bounds-symbols-header
offset_bounds-symbols-header c =
    let form = form_of c.args.bytes.now c.place_of-place.result c.section-header.result c.in_ok-check_form.ensures in
    let small = below _ _ (symbol_count c.args.bytes.now) (length c.args.bytes.now) form.high (table_lies c.args.bytes.now c.requires.ranges) c.requires.long in
    omega (arith, small)

pub bounds-symbols-header : goal.bounds-symbols-header
bounds-symbols-header c =
    let form = form_of c.args.bytes.now c.place_of-place.result c.section-header.result c.in_ok-check_form.ensures in
    rw (c.requires.symbols, symbols-length c.args.bytes.now) form.high

pub signature-requires : goal.signature-requires
signature-requires c =
    let form = form_of c.args.bytes.now c.place_of-place.result c.section-header.result c.in_ok-check_form.ensures in
    record { section = rw (c.requires.symbols, c.requires.sections) (symbol_fits c.args.bytes.now c.section-header.result.info c.requires.checked form.low form.high) }

pub returns-clause-group : goal.returns-clause-group
returns-clause-group c =
    let b = c.args.bytes.now in
    let n = c.args.number in
    let members = rw c.section-header.ensures at c.in_ok-members.ensures.members in
    let name = rw (c.requires.symbols, c.requires.sections, c.section-header.ensures) at c.signature.ensures in
    let word = rw c.section-header.ensures at c.get.ensures.number in
    sym (made_group b n c.in_ok-members.members _ c.signature.result members (rw (word, c.from.ensures) refl) name)

pub returns-clause-grouped : goal.returns-clause-grouped
returns-clause-grouped c =
    let b = c.args.bytes.now in
    let n = c.args.number in
    let marks = rw c.section-header.ensures at c.in_ok-members.ensures.grouped in
    rw (members-group b n c.requires.number.0 c.requires.group) marks

pub returns-clause-sound : goal.returns-clause-sound
returns-clause-sound c =
    let checks = rw (c.place_of-place.ensures, c.section-header.ensures, c.requires.table.place) at c.in_ok-check_form.ensures in
    rw (group_members c.args.bytes.now c.args.number checks) c.in_ok-members.ensures.sound
