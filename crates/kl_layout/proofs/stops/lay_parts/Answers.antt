use Rattle.std.proofs.Common.{◌≡◌, ◌+◌, ◌%◌, ◌^◌, ◌∙◌, ◌∷◌, length, get_or, set, drop, ap, sym, arith, refl}
use Rattle.std.proofs.lemmas.List.{drop_more, length-set}
use Rattle.std.proofs.lemmas.List.Sums.{sum_by-cons}
use Rattle.std.proofs.lemmas.Map.Keys.{IsDistinct-tail}
use Rattle.kl_model.specs.Lists.{up}
use Rattle.kl_model.specs.Placed.{same_body}
use Rattle.kl_model.specs.declared.place.LinePart.{LinePart}
use Rattle.kl_layout.specs.Once.{AreOnce}
use Rattle.kl_layout.specs.Stops.{body_number, room}
use Rattle.kl_layout.proofs.LayMore.{no_part, part_more}
use Rattle.kl_layout.proofs.Rounding.{wrapped_up}
use Rattle.kl_layout.proofs.stops.lay_parts.Goals as goal

pub loop-part-preserved : goal.loop-part-preserved
loop-part-preserved c =
    let k = c.loop-part.part-index in
    let xs = c.args.parts.now in
    let x = get_or xs k no_part in
    let rest = drop (k + 1) xs in
    let old = c.loop-part.addresses in
    let n = length c.args.addresses.now in
    let part = c.requires.parts k no_part c.loop-part-test.true in
    let split : drop k xs ≡ x ∷ rest = drop_more xs k no_part c.loop-part-test.true in
    let e = c.args.base + c.loop-part.place in
    let stop : e + c.padding-place.result ≡ up e x.align = wrapped_up e x.align c.padding-place.result part.align c.padding-place.ensures.value in
    let place : c.args.base + (c.loop-part.place + c.padding-place.result) ≡ up e x.align = omega (arith, stop) in
    let next : c.args.base + (c.loop-part.place + c.padding-place.result + x.size) ≡ up e x.align + x.size = omega (arith, stop) in
    let inv = c.loop-part.invariant in
    let once : AreOnce (x ∷ rest) = rw split at inv.once in
    let number : c.body_number.result ≡ body_number x.body = c.body_number.ensures in
    let written : set old c.body_number.result ((c.args.base + (c.loop-part.place + c.padding-place.result)) % 2 ^ 64) ≡ set old (body_number x.body) (up e x.align % 2 ^ 64) = rw (number, place) refl in
    let taken : room (drop k xs) ≡ x.size + x.align + room rest = ap room split ∙ sum_by-cons (λ (y : LinePart). y.size + y.align) x rest in
    record {
      count = length-set old c.body_number.result _ ∙ inv.count;
      once = IsDistinct-tail (λ y z. same_body y.body z.body) x rest once;
      small = omega (arith, inv.small, taken, c.padding-place.ensures.short);
      stops = λ b i. rw (written, next) (part_more e n b x rest old (sym inv.count) part.known i once ∙ (rw split at (inv.stops b i)));
      at_end = rw next (rw split at inv.at_end);
    }
