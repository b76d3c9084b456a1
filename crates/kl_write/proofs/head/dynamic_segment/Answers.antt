use Rattle.std.proofs.Common.{◌≡◌, ◌-◌, ◌∙◌, get_or, ap, sym, arith}
use Rattle.std.proofs.lemmas.List.{get_or_default}
use Rattle.kl_model.specs.Laid.{area_at, no_area}
use Rattle.kl_model.specs.Reaches.{less}
use Rattle.kl_model.specs.declared.place.AreaAt.{AreaAt}
use Rattle.kl_write.proofs.Places.{plain_place, zero_area}
use Rattle.kl_write.proofs.SegmentFields.{dynamic_is}
use Rattle.kl_write.proofs.head.dynamic_segment.Goals as goal

pub returns : goal.returns
returns c =
    let p = c.args.placement.now in
    let same : get_or c.items.result.now 14 zero_area ≡ get_or p.areas 14 no_area = rw c.items.ensures (get_or_default p.areas 14 zero_area no_area c.requires.area.known) in
    let ordered = c.requires.area.ordered in let ends = c.requires.area.ends in let base = c.requires.zero in
    let start : (area_at p 14).start ≡ (get_or p.areas 14 no_area).start = plain_place p (get_or p.areas 14 no_area).start (omega (arith, ordered, ends, base)) in
    let end : (area_at p 14).end ≡ (get_or p.areas 14 no_area).end = plain_place p (get_or p.areas 14 no_area).end (omega (arith, ends, base)) in
    let begin : (get_or c.items.result.now 14 zero_area).start ≡ (area_at p 14).start = ap (λ (a : AreaAt). a.start) same ∙ sym start in
    let stop : (get_or c.items.result.now 14 zero_area).end ≡ (area_at p 14).end = ap (λ (a : AreaAt). a.end) same ∙ sym end in
    let size : less (get_or c.items.result.now 14 zero_area).end (get_or c.items.result.now 14 zero_area).start ≡ (area_at p 14).end - (area_at p 14).start =
    omega (arith, begin, stop, ordered, ends, base) in
    dynamic_is p _ _ _ c.flags_of.ensures begin size
