use Rattle.std.proofs.Common.{◌≡◌, ◌+◌, sym}
use Rattle.std.specs.Prelude.{find, nat_le, Some, None}
use Rattle.kl_model.specs.Memory.{covers, segments}
use Rattle.kl_model.specs.Loaded.{is_covered}
use Rattle.kl_image.proofs.Covering.{covered_is}
use Rattle.kl_image.proofs.placed.Placed.is_covered.Goals as goal

pub returns-in-Some : goal.returns-in-Some
returns-in-Some c =
    let b = c.args.self.now.bytes.now in
    let a = c.args.address in
    let found : find (covers a) (segments b) ≡ Some c.in-Some.header = sym (c.in-Some.ensures (segments b) c.requires.cover) in
    let all = covered_is a b c.requires.cover.apart in
    let here : nat_le (a + 8) (c.in-Some.header.vaddr + c.in-Some.header.memsz) ≡ is_covered b a = rw found at all in
    rw (c.from.ensures, c.from-in-Some.ensures, c.from-in-Some-2.ensures, c.from-in-Some-3.ensures) here

pub returns-in-None : goal.returns-in-None
returns-in-None c =
    let b = c.args.self.now.bytes.now in
    let a = c.args.address in
    let none : find (covers a) (segments b) ≡ None = sym (c.in-None.ensures (segments b) c.requires.cover) in
    rw none at (covered_is a b c.requires.cover.apart)
