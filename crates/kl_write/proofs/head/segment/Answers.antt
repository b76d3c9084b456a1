use Rattle.std.proofs.Common.{◌≡◌, ◌<◌, ◌^◌, ◌∙◌, get_or, ap, sym, arith}
use Rattle.std.proofs.lemmas.List.{get_or_default}
use Rattle.kl_model.specs.Areas.{class_number}
use Rattle.kl_model.specs.Carries.{class_size, is_in_file}
use Rattle.std.specs.Prelude.{if◌then◌else◌}
use Rattle.kl_model.specs.Laid.{area_at, no_area}
use Rattle.kl_model.specs.declared.place.AreaAt.{AreaAt}
use Rattle.kl_write.specs.Writes.{file_place}
use Rattle.kl_write.proofs.Places.{plain_place, zero_area}
use Rattle.kl_write.proofs.SegmentFields.{segment_is}
use Rattle.kl_write.proofs.head.segment.Goals as goal

pub returns : goal.returns
returns c =
    let p = c.args.placement.now in let n = class_number c.args.class in let k = c.args.kind in
    let same : get_or c.items.result.now c.class_number.result zero_area ≡ get_or p.areas n no_area =
    rw (c.items.ensures, c.class_number.ensures) (get_or_default p.areas n zero_area no_area c.requires.area.known) in
    let size = c.requires.size in let some = c.requires.some in let ends = c.requires.area.ends in let base = c.requires.base in
    let small : (area_at p n).start < 2 ^ 64 = omega (arith, size, some, ends, base) in
    let start : (get_or c.items.result.now c.class_number.result zero_area).start ≡ (area_at p n).start =
    ap (λ (a : AreaAt). a.start) same ∙ sym (plain_place p (get_or p.areas n no_area).start small) in
    let offset : c.file_place.result ≡ file_place k p (area_at p n).start = rw same at c.file_place.ensures in
    let filesz : c.file_size.result ≡ (if is_in_file c.args.class then class_size p c.args.class else 0) = rw size at c.file_size.ensures in
    segment_is k c.args.page p c.args.class _ _ _ _ _ c.requires.page c.requires.zero c.flags_of.ensures start offset filesz size
