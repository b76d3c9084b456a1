use Rattle.std.proofs.Common.{◌≡◌, ◌+◌, ◌∙◌, List, [], ◌++◌, get_or, drop, ap, sym, subst}
use Rattle.std.specs.Prelude.{All}
use Rattle.std.proofs.lemmas.List.{drop_more, get_or_default}
use Rattle.kl_model.specs.declared.place.LinePart.{LinePart}
use Rattle.kl_layout.specs.Stops.{IsStep, joined}
use Rattle.kl_layout.proofs.LineParts.{all_left}
use Rattle.kl_layout.proofs.stops.line_start.Goals as goal

pub first_stop-requires : goal.first_stop-requires
first_stop-requires c =
    let lists = c.args.lists.now in
    let numbers = c.args.numbers.now in
    let k = c.loop-number.number-index in
    let m = get_or numbers k 0 in
    let known = c.requires.known k 0 c.loop-number-test.true in
    let parts : c.items-parts.result.now ≡ get_or lists m [] = c.items-parts.ensures ∙ (c.index-lists-number.is ∙ get_or_default lists m c.index-lists-number.result [] known) in
    let split : joined lists numbers ≡ get_or lists m [] ++ joined lists (drop (k + 1) numbers) = sym c.loop-number.invariant ∙ ap (joined lists) (drop_more numbers k 0 c.loop-number-test.true) in
    subst (λ (l : List LinePart). All (λ x. IsStep x.align) l) (sym parts)
    (all_left (λ x. IsStep x.align) (get_or lists m []) (joined lists (drop (k + 1) numbers)) (subst (λ (l : List LinePart). All (λ x. IsStep x.align) l) split c.requires.parts))
