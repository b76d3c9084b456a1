use Rattle.link_tests.proofs.placements.refuses_a_page_too_many.Goals as goal

pub place-requires-clause-sound : goal.place-requires-clause-sound
place-requires-clause-sound g c = c.in_ok-greatest.ensures.sound c.in_ok-kit.kit

pub place-requires-2-clause-sound : goal.place-requires-2-clause-sound
place-requires-2-clause-sound g c = c.in_ok-too_long.ensures.sound c.in_ok-kit.kit
