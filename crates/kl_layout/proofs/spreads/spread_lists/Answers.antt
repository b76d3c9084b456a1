use Rattle.std.proofs.Common.{ℕ, ◌≡◌, ◌+◌, ◌<◌, ◌∙◌, List, [], ◌++◌, length, get_or, ap, sym, subst, arith}
use Rattle.std.specs.Option.{option_copied}
use Rattle.kl_model.specs.Line.{inputs_in}
use Rattle.kl_model.specs.declared.object.Part.TheVariants.{Head}
use Rattle.kl_model.specs.declared.place.LinePart.{LinePart}
use Rattle.kl_layout.specs.Once.{later_inputs}
use Rattle.kl_layout.specs.Spreads.{AreSpreads, parts_of_spread}
use Rattle.kl_layout.proofs.Areas.{area_below}
use Rattle.kl_layout.proofs.LayMore.{written_back}
use Rattle.kl_layout.proofs.LineParts.{all_left, all_right}
use Rattle.kl_layout.proofs.Sequences.{sequence_known}
use Rattle.kl_layout.proofs.SpreadLaws.{are_spreads}
use Rattle.kl_layout.proofs.spreads.spread_lists.Goals as goal

pub push_all-requires-clause-head : goal.push_all-requires-clause-head
push_all-requires-clause-head c =
    let g = c.args.graph.now in
    rw c.in_ok-inputs.ensures.head
    (all_left (λ i. i < length g.parts) (inputs_in g Head) (later_inputs g c.args.order.now) (sequence_known g c.args.order.now c.requires.order))

pub push_all-requires-clause-later : goal.push_all-requires-clause-later
push_all-requires-clause-later c =
    let g = c.args.graph.now in
    rw c.in_ok-inputs.ensures.later
    (all_right (λ i. i < length g.parts) (inputs_in g Head) (later_inputs g c.args.order.now) (sequence_known g c.args.order.now c.requires.order))

pub push_all-requires-clause-areas : goal.push_all-requires-clause-areas
push_all-requires-clause-areas c =
    λ k d l.
    let x = get_or c.args.graph.now.pieces k d in
    let s = c.requires.sound.pieces k d l in
    let below = area_below x.class c.args.kit.now x.area s.area in
    let lists = ap length c.deref_mut.ensures.value in
    let runs = ap length c.items.ensures in
    omega (arith, below, lists, runs, c.in_ok-lists.ensures.count)

pub returns : goal.returns
returns c =
    let kit = c.args.kit.now in
    let g = c.args.graph.now in
    let order = c.args.order.now in
    let made = c.args.made.now in
    let gaps = option_copied c.args.gaps in
    let lists = c.push_all.new.lists in
    let old = c.in_ok-lists.lists.items in
    let runs = ap length c.items.ensures in
    let before : c.deref_mut.result.now ≡ old = c.deref_mut.ensures.value in
    let long = ap length before in
    let count : length lists ≡ 15 + (length kit.runs + 1) = omega (arith, long, runs, c.in_ok-push_all.ensures.count, c.in_ok-lists.ensures.count) in
    let given = λ (n : ℕ) (l : n < length lists).
    let pushed = c.in_ok-push_all.ensures.pushed n (omega (arith, l, c.in_ok-push_all.ensures.count)) in
    let empty : get_or c.deref_mut.result.now n [] ≡ [] = ap (λ (m : List (List LinePart)). get_or m n []) before ∙ c.in_ok-lists.ensures.empty n in
    let some : get_or lists n [] ≡ parts_of_spread g c.in_ok-inputs.inputs.head.items c.in_ok-inputs.inputs.later.items gaps made (15 + length c.items.result.now) n =
    pushed ∙ ap (λ m. m ++ parts_of_spread g c.in_ok-inputs.inputs.head.items c.in_ok-inputs.inputs.later.items gaps made (15 + length c.items.result.now) n) empty in
    some
    ∙ (ap (λ h. parts_of_spread g h c.in_ok-inputs.inputs.later.items gaps made (15 + length c.items.result.now) n) c.in_ok-inputs.ensures.head
    ∙ (ap (λ h. parts_of_spread g (inputs_in g Head) h gaps made (15 + length c.items.result.now) n) c.in_ok-inputs.ensures.later
    ∙ ap (λ m. parts_of_spread g (inputs_in g Head) (later_inputs g order) gaps made (15 + m) n) runs)) in
    let whole : AreSpreads kit g gaps order made lists = are_spreads kit g c.requires.sound.pieces gaps order made lists count given in
    subst (AreSpreads kit g gaps order made) (sym (written_back lists old c.in_ok-lists.lists.len (omega (arith, long, c.in_ok-push_all.ensures.count, c.in_ok-lists.lists.ok.0)) (omega (arith, c.in_ok-lists.lists.ok.0)))) whole
