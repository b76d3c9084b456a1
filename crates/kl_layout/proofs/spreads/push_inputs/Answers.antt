use Rattle.std.proofs.Common.{ℕ, ◌≡◌, ◌<◌, ◌∙◌, List, length, get_or, [], sym, subst, arith}
use Rattle.std.specs.Prelude.{All}
use Rattle.std.proofs.lemmas.List.{get_or_default}
use Rattle.kl_layout.specs.Spreads.{numbers_of}
use Rattle.kl_layout.proofs.ByInput.{numbers_known}
use Rattle.kl_layout.proofs.spreads.push_inputs.Goals as goal

pub push_pieces-requires-clause-known : goal.push_pieces-requires-clause-known
push_pieces-requires-clause-known c =
    let g = c.args.graph.now in
    let i = get_or c.args.inputs.now c.loop-input.input-index 0 in
    let known = c.requires.known c.loop-input.input-index 0 c.loop-input-test.true in
    let same : c.items.result.now ≡ numbers_of g i = c.items.ensures ∙ (c.index-numbers-input.is ∙ (get_or_default c.args.numbers.now i c.index-numbers-input.result [] (omega (arith, known, c.requires.count)) ∙ c.requires.numbers i known)) in
    subst (λ (l : List ℕ). All (λ m. m < length g.pieces) l) (sym same) (numbers_known g i)
