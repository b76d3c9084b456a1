use Rattle.link_tests.proofs.placements.places_gaps.Goals as goal

pub place-requires-clause-sound : goal.place-requires-clause-sound
place-requires-clause-sound g c = c.in_ok-graph.ensures.sound c.in_ok-kit.kit
