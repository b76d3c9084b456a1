use Rattle.std.proofs.Common.{refl, arith}
use Rattle.kl_image.proofs.CoverMaps.{covers_found, covers_none, covers_empty, up_to, there_is, below_last}
use Rattle.kl_image.proofs.cover.Cover.at.Goals as goal

pub overflow_sub-address : goal.overflow_sub-address
overflow_sub-address c =
    let entry = (c.range.ensures.in_range tt).3 _ _ c.in-Some.ensures.steps in
    up_to _ _ entry.0.1

pub returns-then-address-start : goal.returns-then-address-start
returns-then-address-start c = λ ss is.
    let entry = (c.range.ensures.in_range tt).3 _ _ c.in-Some.ensures.steps in
    let low = up_to _ _ entry.0.1 in
    covers_found c.args.self.now.starts ss _ c.args.address _ is entry.1 low (omega (arith, low, c.if-address-start.true))

pub returns-else-address-start : goal.returns-else-address-start
returns-else-address-start c = λ ss is.
    let range = c.range.ensures.in_range tt in
    let entry = range.3 _ _ c.in-Some.ensures.steps in
    let low = up_to _ _ entry.0.1 in
    covers_none c.args.self.now.starts ss _ c.args.address _ is entry.1 low (omega (arith, low, c.if-address-start.false))
    (λ q t there at. below_last _ _ (range.4 _ _ c.in-Some.ensures.steps q (tt, there_is q c.args.address there) (rw at refl)))

pub returns-in-None : goal.returns-in-None
returns-in-None c = λ ss is.
    let range = c.range.ensures.in_range tt in
    covers_empty c.args.self.now.starts ss c.args.address is (λ q there. range.5 c.in-None.ensures.steps.0 q (tt, there_is q c.args.address there))
