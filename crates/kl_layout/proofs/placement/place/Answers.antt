use Rattle.std.proofs.Common.{ℕ, ◌≡◌, ◌+◌, ◌-◌, ◌<◌, ◌≤◌, ◌∙◌, List, length, take, ap, sym, subst, arith, inr, refl}
use Rattle.std.specs.Prelude.{All, slice_get}
use Rattle.std.specs.Option.{option_copied}
use Rattle.std.proofs.lemmas.Bool.{lt-ltb}
use Rattle.std.proofs.lemmas.List.{length-take-le}
use Rattle.kl_base.specs.declared.limits.TheConstants.{SPAN_LIMIT}
use Rattle.kl_base.specs.declared.class.Class.TheVariants.{Bss}
use Rattle.kl_model.specs.Laid.{reach, span}
use Rattle.kl_model.specs.Line.{class_line}
use Rattle.kl_model.specs.Placed.{class_from}
use Rattle.kl_model.specs.declared.place.AreaAt.{AreaAt}
use Rattle.kl_model.specs.declared.place.LinePart.{LinePart}
use Rattle.kl_model.specs.declared.place.Placement.{Placement}
use Rattle.kl_layout.specs.Once.{AreOnce}
use Rattle.kl_layout.specs.Spreads.{AreSpreads}
use Rattle.kl_layout.specs.Stops.{IsPart, laid_pieces, room}
use Rattle.kl_layout.proofs.LineParts.{line_known, lines_room}
use Rattle.kl_layout.proofs.OneEach.{lines_once}
use Rattle.kl_layout.proofs.PlacedStops.{end_is, get_take, laid_is, names, placed_is}
use Rattle.kl_layout.proofs.SpreadLaws.{line_listed, lines_listed}
use Rattle.kl_layout.proofs.placement.place.Goals as goal

pub lay_lists-requires-clause-steps : goal.lay_lists-requires-clause-steps
lay_lists-requires-clause-steps c = λ k d l. (c.requires.sound.pieces k d l).align

pub lay_lists-requires-clause-parts : goal.lay_lists-requires-clause-parts
lay_lists-requires-clause-parts c =
    let kit = c.args.kit.now in
    let g = c.args.graph.now in
    let gaps = option_copied c.args.gaps in
    let order = c.args.order.now in
    let made = c.args.made.now in
    let lists = c.deref.result.now in
    let s : AreSpreads kit g gaps order made lists = subst (AreSpreads kit g gaps order made) (sym c.deref.ensures.value) c.in_ok-lists.ensures in
    λ k. subst (λ (l : List LinePart). All (IsPart (19 + length g.pieces)) l) (sym (line_listed kit g gaps order made lists s k)) (line_known kit g gaps order made c.requires.sound c.requires.order k)

pub lay_lists-requires-clause-once : goal.lay_lists-requires-clause-once
lay_lists-requires-clause-once c =
    let kit = c.args.kit.now in
    let g = c.args.graph.now in
    let gaps = option_copied c.args.gaps in
    let order = c.args.order.now in
    let made = c.args.made.now in
    let lists = c.deref.result.now in
    let s : AreSpreads kit g gaps order made lists = subst (AreSpreads kit g gaps order made) (sym c.deref.ensures.value) c.in_ok-lists.ensures in
    subst AreOnce (sym (lines_listed kit g gaps order made lists s)) (lines_once kit g c.requires.sound.pieces order c.requires.order gaps made)

pub lay_lists-requires-clause-room : goal.lay_lists-requires-clause-room
lay_lists-requires-clause-room c =
    let kit = c.args.kit.now in
    let g = c.args.graph.now in
    let gaps = option_copied c.args.gaps in
    let order = c.args.order.now in
    let made = c.args.made.now in
    let lists = c.deref.result.now in
    let s : AreSpreads kit g gaps order made lists = subst (AreSpreads kit g gaps order made) (sym c.deref.ensures.value) c.in_ok-lists.ensures in
    subst (λ (l : List LinePart). room l < 4611686018427387904) (sym (lines_listed kit g gaps order made lists s))
    (lines_room kit g gaps order made c.requires.sound c.requires.order c.requires.gaps c.requires.made)

pub returns-then-stops-gt-SPAN_LIMIT-clause-err : goal.returns-then-stops-gt-SPAN_LIMIT-clause-err
returns-then-stops-gt-SPAN_LIMIT-clause-err c =
    let kit = c.args.kit.now in
    let g = c.args.graph.now in
    let gaps = option_copied c.args.gaps in
    let order = c.args.order.now in
    let made = c.args.made.now in
    let lists = c.deref.result.now in
    let s : AreSpreads kit g gaps order made lists = subst (AreSpreads kit g gaps order made) (sym c.deref.ensures.value) c.in_ok-lists.ensures in
    let ended : kit.base + c.in_ok-stops.stops.end ≡ reach (class_from kit g gaps order made Bss) (class_line kit g gaps order made Bss) =
    c.in_ok-stops.ensures.end ∙ end_is kit g gaps order made lists s in
    let whole : span kit g gaps order made ≡ c.in_ok-stops.stops.end = omega (arith, ended) in
    let past = lt-ltb SPAN_LIMIT c.in_ok-stops.stops.end (omega (arith, c.if-stops-gt-SPAN_LIMIT.true)) in
    inr (rw (whole, past) refl)

pub returns : goal.returns
returns c =
    let kit = c.args.kit.now in
    let g = c.args.graph.now in
    let gaps = option_copied c.args.gaps in
    let order = c.args.order.now in
    let made = c.args.made.now in
    let sound = c.requires.sound in
    let o = c.requires.order in
    let lists = c.deref.result.now in
    let addresses = c.in_ok-stops.stops.addresses.items in
    let areas = c.in_ok-stops.stops.areas.items in
    let s : AreSpreads kit g gaps order made lists = subst (AreSpreads kit g gaps order made) (sym c.deref.ensures.value) c.in_ok-lists.ensures in
    let ended : kit.base + c.in_ok-stops.stops.end ≡ reach (class_from kit g gaps order made Bss) (class_line kit g gaps order made Bss) =
    c.in_ok-stops.ensures.end ∙ end_is kit g gaps order made lists s in
    let small : span kit g gaps order made ≤ SPAN_LIMIT = omega (arith, ended, c.if-stops-gt-SPAN_LIMIT.false) in
    let p : Placement = record { base = kit.base; areas = c.from_vec.result; pieces = c.in_ok-pieces.pieces } in
    let lists_count = ap length c.deref.ensures.value in
    let kept_count : c.len.result - 1 ≡ 15 + length kit.runs = omega (arith, c.len.ensures, s.count, lists_count) in
    let cut : c.from_vec.result ≡ take (15 + length kit.runs) areas = c.from_vec.ensures ∙ (c.truncate.ensures.items ∙ ap (λ n. take n areas) kept_count) in
    let enough : 15 + length kit.runs ≤ length areas = omega (arith, c.in_ok-stops.ensures.areas, s.count) in
    let count : length p.areas ≡ 15 + length kit.runs = ap length cut ∙ length-take-le (15 + length kit.runs) areas enough in
    let kept = λ (n : ℕ) (l : n < 15 + length kit.runs). ap (λ (xs : List AreaAt). slice_get xs n) cut ∙ get_take (15 + length kit.runs) areas n l in
    let pieces : p.pieces ≡ laid_pieces g gaps addresses = c.in_ok-pieces.ensures ∙ ap (laid_pieces g gaps) c.deref-2.ensures.value in
    record {
      laid = laid_is kit g gaps order made c.requires.kit sound o small lists s addresses areas c.in_ok-stops.ensures.laid c.in_ok-stops.ensures.addresses p refl count kept pieces;
      names = names kit g gaps order made c.requires.kit sound o small lists s addresses areas c.in_ok-stops.ensures.laid c.in_ok-stops.ensures.addresses p refl count kept pieces;
      placed = placed_is kit g gaps order made c.requires.kit sound o small lists s addresses areas c.in_ok-stops.ensures.laid c.in_ok-stops.ensures.addresses p refl count kept pieces;
      small = small;
      err = tt;
    }
