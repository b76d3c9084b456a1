use Rattle.std.proofs.Common.{◌≡◌, true, sym, arith}
use Rattle.std.specs.Prelude.{Some}
use Rattle.kl_model.specs.Loaded.{is_covered, rela_value}
use Rattle.std.proofs.lemmas.Result.{on_ok_weaker}
use Rattle.kl_image.specs.Resolvers.{number_of}
use Rattle.kl_image.proofs.WrittenBytes.{entry_over, room_covered}
use Rattle.kl_image.proofs.placed.Placed.carry_out.Goals as goal

pub overflow_add-self : goal.overflow_add-self
overflow_add-self g c =
    let covered : is_covered c.args.self.now.bytes.now c.args.entry.now.offset ≡ true = sym c.if-not-is_covered.ensures in
    let room = room_covered c.args.self.now.bytes.now c.args.self.now.base c.args.entry.now.offset c.requires.placed.room covered in
    omega (arith, room)

pub write_number-requires : goal.write_number-requires
write_number-requires g c =
    let covered : is_covered c.args.self.now.bytes.now c.args.entry.now.offset ≡ true = sym c.if-not-is_covered.ensures in
    room_covered c.args.self.now.bytes.now c.args.self.now.base c.args.entry.now.offset c.requires.placed.room covered

pub returns-in-Some : goal.returns-in-Some
returns-in-Some g c = λ m n was.
    let b = c.args.self.now.bytes.now in
    let covered : is_covered b c.args.entry.now.offset ≡ true = sym c.if-not-is_covered.ensures in
    let base = c.args.self.now.base in
    let e = c.args.entry.now in
    let r = number_of (g.R.Resolver.numbers c.args.names.now) in
    let told : Some c.in-Some.value ≡ rela_value c.args.symbols.now.bytes.now base r e = c.in-Some.ensures in
    let same : Some c.in-Some.value ≡ rela_value b base r e = rw c.requires.same at told in
    let value : rela_value b base r e ≡ Some c.in-Some.value = sym {b = rela_value b base r e} same in
    on_ok_weaker c.write_number.result
    (λ wrote. entry_over b base r c.args.written.now c.write_number.new.written m n e c.in-Some.value covered value wrote was)
    c.write_number.ensures
