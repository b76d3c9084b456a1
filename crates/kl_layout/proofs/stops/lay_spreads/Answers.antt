use Rattle.std.proofs.Common.{◌≡◌, ◌+◌, ◌%◌, ◌^◌, ◌<◌, ◌∙◌, List, [], ◌∷◌, ◌++◌, length, get_or, set, drop, ap, sym, subst, arith}
use Rattle.std.specs.Prelude.{All}
use Rattle.std.proofs.lemmas.List.{drop_more, get_or_default, length-set}
use Rattle.kl_model.specs.Laid.{reach}
use Rattle.kl_model.specs.Placed.{extent}
use Rattle.kl_model.specs.declared.place.LinePart.{LinePart}
use Rattle.kl_layout.specs.Once.{AreDistinct, AreOnce}
use Rattle.kl_layout.specs.Stops.{IsPart, IsStep, address_or, body_number, joined, room}
use Rattle.kl_layout.proofs.LayMore.{area_more, once_left, once_right, parts_more, reach_append, room_append}
use Rattle.kl_layout.proofs.LineParts.{all_left, all_right}
use Rattle.kl_layout.proofs.stops.lay_spreads.Goals as goal

pub first_stop-start-requires : goal.first_stop-start-requires
first_stop-start-requires c =
    let lists = c.args.lists.now in
    let numbers = c.args.numbers.now in
    let k = c.loop-number.number-index in
    let m = get_or numbers k 0 in
    let known = c.requires.known k 0 c.loop-number-test.true in
    let parts : c.items-parts.result.now ≡ get_or lists m [] = c.items-parts.ensures ∙ (c.index-lists-number.is ∙ get_or_default lists m c.index-lists-number.result [] known) in
    let split : joined lists (drop k numbers) ≡ get_or lists m [] ++ joined lists (drop (k + 1) numbers) = ap (joined lists) (drop_more numbers k 0 c.loop-number-test.true) in
    let P = IsPart (length c.args.addresses.now) in
    let all = all_left P (get_or lists m []) (joined lists (drop (k + 1) numbers)) (subst (λ (l : List LinePart). All P l) split c.loop-number.invariant.parts) in
    subst (λ (l : List LinePart). All (λ x. IsStep x.align) l) (sym parts) (λ i d l. (all i d l).align)

pub lay_parts-place-requires-clause-parts : goal.lay_parts-place-requires-clause-parts
lay_parts-place-requires-clause-parts c =
    let lists = c.args.lists.now in
    let numbers = c.args.numbers.now in
    let k = c.loop-number.number-index in
    let m = get_or numbers k 0 in
    let known = c.requires.known k 0 c.loop-number-test.true in
    let parts : c.items-parts.result.now ≡ get_or lists m [] = c.items-parts.ensures ∙ (c.index-lists-number.is ∙ get_or_default lists m c.index-lists-number.result [] known) in
    let split : joined lists (drop k numbers) ≡ get_or lists m [] ++ joined lists (drop (k + 1) numbers) = ap (joined lists) (drop_more numbers k 0 c.loop-number-test.true) in
    let P = IsPart (length c.args.addresses.now) in
    let all = all_left P (get_or lists m []) (joined lists (drop (k + 1) numbers)) (subst (λ (l : List LinePart). All P l) split c.loop-number.invariant.parts) in
    rw (c.loop-number.invariant.addresses_count, parts) all

pub lay_parts-place-requires-clause-once : goal.lay_parts-place-requires-clause-once
lay_parts-place-requires-clause-once c =
    let lists = c.args.lists.now in
    let numbers = c.args.numbers.now in
    let k = c.loop-number.number-index in
    let m = get_or numbers k 0 in
    let known = c.requires.known k 0 c.loop-number-test.true in
    let parts : c.items-parts.result.now ≡ get_or lists m [] = c.items-parts.ensures ∙ (c.index-lists-number.is ∙ get_or_default lists m c.index-lists-number.result [] known) in
    let split : joined lists (drop k numbers) ≡ get_or lists m [] ++ joined lists (drop (k + 1) numbers) = ap (joined lists) (drop_more numbers k 0 c.loop-number-test.true) in
    subst AreOnce (sym parts) (once_left (get_or lists m []) (joined lists (drop (k + 1) numbers)) (subst AreOnce split c.loop-number.invariant.once))

pub loop-number-preserved : goal.loop-number-preserved
loop-number-preserved c =
    let lists = c.args.lists.now in
    let numbers = c.args.numbers.now in
    let k = c.loop-number.number-index in
    let m = get_or numbers k 0 in
    let inv = c.loop-number.invariant in
    let xs = get_or lists m [] in
    let later = drop (k + 1) numbers in
    let rest = joined lists later in
    let below = c.requires.known k 0 c.loop-number-test.true in
    let parts : c.items-parts.result.now ≡ xs = c.items-parts.ensures ∙ (c.index-lists-number.is ∙ get_or_default lists m c.index-lists-number.result [] below) in
    let more : drop k numbers ≡ m ∷ later = drop_more numbers k 0 c.loop-number-test.true in
    let split : joined lists (drop k numbers) ≡ xs ++ rest = ap (joined lists) more in
    let P = IsPart (length c.args.addresses.now) in
    let from = c.args.base + c.loop-number.place in
    let once : AreOnce (xs ++ rest) = subst AreOnce split inv.once in
    let apart : AreDistinct (m ∷ later) = subst AreDistinct more inv.apart in
    let ended : c.args.base + c.lay_parts-place.result ≡ reach from xs = c.lay_parts-place.ensures.reach ∙ ap (reach from) parts in
    let start : c.first_stop-start.result ≡ (extent from xs).start = c.first_stop-start.ensures ∙ ap (λ l. (extent from l).start) parts in
    let known : m < length c.loop-number.areas = omega (arith, below, c.requires.areas, inv.areas_count) in
    let written : set c.loop-number.areas m (record { start = c.first_stop-start.result; end = (c.args.base + c.lay_parts-place.result) % 2 ^ 64 }) ≡ set c.loop-number.areas m (extent from xs) =
    ap (λ s. set c.loop-number.areas m (record { start = s; end = (c.args.base + c.lay_parts-place.result) % 2 ^ 64 })) start
    ∙ ap (λ n. set c.loop-number.areas m (record { start = (extent from xs).start; end = n % 2 ^ 64 })) ended in
    let taken : room (joined lists (drop k numbers)) ≡ room xs + room rest = ap room split ∙ room_append xs rest in
    let used = c.lay_parts-place.ensures.room in
    let roomy = ap room parts in
    record {
      addresses_count = c.lay_parts-place.ensures.count ∙ inv.addresses_count;
      areas_count = length-set c.loop-number.areas m _ ∙ inv.areas_count;
      parts = all_right P xs rest (subst (λ (l : List LinePart). All P l) split inv.parts);
      once = once_right xs rest once;
      apart = apart.1;
      small = omega (arith, used, roomy, taken, inv.small);
      stops = λ b i.
          let laid = c.lay_parts-place.ensures.stops b (rw inv.addresses_count i) in
          let laid_here : get_or c.lay_parts-place.new.addresses (body_number b) 0 ≡ address_or b from xs (get_or c.loop-number.addresses (body_number b) 0) =
          laid ∙ ap (λ l. address_or b from l (get_or c.loop-number.addresses (body_number b) 0)) parts in
          rw (ended, laid_here)
          (parts_more b from xs rest (get_or c.loop-number.addresses (body_number b) 0) once
          ∙ (ap (λ l. address_or b from l (get_or c.loop-number.addresses (body_number b) 0)) (sym split) ∙ inv.stops b i));
      areas = λ n l. rw (written, ended) (area_more lists n from m later c.loop-number.areas known apart ∙ (rw more at (inv.areas n l)));
      at_end = rw ended (sym (reach_append from xs rest) ∙ (ap (reach from) (sym split) ∙ inv.at_end));
    }
