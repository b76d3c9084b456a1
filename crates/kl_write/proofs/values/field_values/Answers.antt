use Rattle.std.proofs.Common.{[]}
use Rattle.kl_model.proofs.ListWords.{once-apart}
use Rattle.kl_model.specs.Slots.{same_target}
use Rattle.std.specs.Prelude.{nat_eq}
use Rattle.kl_write.proofs.FewSlots.{few_slots, few_stubs}
use Rattle.kl_write.proofs.Spans.{fields_placed}
use Rattle.kl_write.proofs.values.field_values.Goals as goal

pub made_index-requires-clause-slots : goal.made_index-requires-clause-slots
made_index-requires-clause-slots c = rw c.requires.slots (once-apart same_target _)

pub made_index-requires-clause-stubs : goal.made_index-requires-clause-stubs
made_index-requires-clause-stubs c = rw c.requires.stubs (once-apart nat_eq _)

pub made_index-requires-clause-few_slots : goal.made_index-requires-clause-few_slots
made_index-requires-clause-few_slots c = let x = c.requires.laid in rw c.requires.slots (few_slots c.args.kit.now c.args.graph.now x.2.sound)

pub made_index-requires-clause-few_stubs : goal.made_index-requires-clause-few_stubs
made_index-requires-clause-few_stubs c = let x = c.requires.laid in rw c.requires.stubs (few_stubs c.args.kit.now c.args.graph.now x.2.sound)

pub values_of-requires-clause-fields : goal.values_of-requires-clause-fields
values_of-requires-clause-fields c = let x = c.requires.laid in fields_placed c.args.kit.now [] c.args.graph.now x.0 x.1 c.args.placement.now x.2 c.requires.addresses
