use Rattle.field_tests.proofs.SmallGraph.{sound}
use Rattle.field_tests.proofs.slots.small_needs.Goals as goal

pub needs-requires : goal.needs-requires
needs-requires c = rw c.in_ok-graph.ensures (sound c.in_ok-kit.kit c.in_ok-kit.ensures)
