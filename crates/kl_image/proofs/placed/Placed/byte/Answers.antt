use Rattle.std.proofs.Common.{◌≡◌, ◌-◌, sym}
use Rattle.std.specs.Prelude.{find, Some}
use Rattle.kl_model.specs.Memory.{covers, segments}
use Rattle.kl_image.proofs.Covering.{cover_parts, found}
use Rattle.kl_image.proofs.SegmentFlaws.{all_inside, found_inside, inside}
use Rattle.kl_image.proofs.placed.Placed.byte.Goals as goal

pub byte_in-requires-clause-starts : goal.byte_in-requires-clause-starts
byte_in-requires-clause-starts c =
    let ss = segments c.args.self.now.bytes.now in
    let there = c.args.address - c.args.self.now.base in
    let is : find (covers there) ss ≡ Some c.in-Some.header = sym (c.in-Some.ensures ss c.requires.cover) in
    (cover_parts there c.in-Some.header (found (covers there) ss c.in-Some.header is).passes).starts

pub byte_in-requires-clause-in_file : goal.byte_in-requires-clause-in_file
byte_in-requires-clause-in_file c =
    let b = c.args.self.now.bytes.now in
    let there = c.args.address - c.args.self.now.base in
    let is : find (covers there) (segments b) ≡ Some c.in-Some.header = sym (c.in-Some.ensures (segments b) c.requires.cover) in
    inside b c.in-Some.header (found_inside b (covers there) (segments b) c.in-Some.header (all_inside b c.requires.sound) is)
