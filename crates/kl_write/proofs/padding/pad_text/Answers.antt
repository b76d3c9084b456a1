use Rattle.std.proofs.Common.{◌≡◌, ◌-◌, get_or, arith}
use Rattle.std.proofs.lemmas.List.{get_or_default}
use Rattle.kl_model.specs.Laid.{area_at, no_area}
use Rattle.kl_model.specs.declared.area.TheConstants as area
use Rattle.kl_write.specs.Writes.{file_place}
use Rattle.kl_write.proofs.Places.{zero_area}
use Rattle.kl_write.proofs.padding.pad_text.Goals as goal

pub returns : goal.returns
returns c =
    let p = c.args.placement.now in let a = c.requires.text in
    let same : get_or c.items.result.now area.TEXT zero_area ≡ get_or p.areas area.TEXT no_area = rw c.items.ensures (get_or_default p.areas area.TEXT zero_area no_area a.known) in
    let from : c.file_place-from.result ≡ file_place c.args.kind p (area_at p area.TEXT).start = rw same at c.file_place-from.ensures in
    let to : c.file_place-to.result ≡ file_place c.args.kind p (area_at p area.TEXT).end = rw same at c.file_place-to.ensures in
    let starts = a.starts in
    let ordered = a.ordered in
    let count : file_place c.args.kind p (area_at p area.TEXT).end - file_place c.args.kind p (area_at p area.TEXT).start ≡ (area_at p area.TEXT).end - (area_at p area.TEXT).start = omega (arith, starts, ordered) in
    rw (from, to, count) at c.pad_between.ensures
