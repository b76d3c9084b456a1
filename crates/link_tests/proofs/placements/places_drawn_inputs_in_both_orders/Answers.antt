use Rattle.std.proofs.Common.{◌∙◌, List, [], ◌∷◌, refl, arith, subst, sym}
use Rattle.std.proofs.lemmas.List.Sorted.{IsPermutation-swap}
use Rattle.kl_model.specs.Orders.{drawn_count, IsOrder}
use Rattle.kl_model.specs.declared.object.Part.{Part}
use Rattle.link_tests.proofs.placements.places_drawn_inputs_in_both_orders.Goals as goal

pub place-requires-clause-sound : goal.place-requires-clause-sound
place-requires-clause-sound g c = c.in_ok-graph.ensures.sound c.in_ok-kit.kit

pub place-requires-2-clause-sound : goal.place-requires-2-clause-sound
place-requires-2-clause-sound g c = c.in_ok-graph.ensures.sound c.in_ok-kit.kit

pub place-requires-2-clause-order : goal.place-requires-2-clause-order
place-requires-2-clause-order g c =
    subst (λ (ps : List Part). IsOrder (drawn_count ps) (1 ∷ 0 ∷ [])) (sym (c.in_ok-graph.ensures.parts ∙ c.in_ok-parts.ensures.items))
    (IsPermutation-swap (0 ∷ 1 ∷ []) (1 ∷ 0 ∷ []) 0 1 (omega arith) (omega arith) refl)
