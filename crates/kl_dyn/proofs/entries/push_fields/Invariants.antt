use Rattle.std.proofs.Common.{◌≡◌, ◌++◌, take}
use Rattle.kl_dyn.specs.Entries.{field_relas}
use Rattle.kl_dyn.proofs.entries.push_fields.Given as goal

abbrev pub invariant-loop-field : goal.invariant-loop-field
invariant-loop-field l = l.relas.items ≡ l.fn.relas.items ++ field_relas l.placement l.graph (take l.field-index l.graph.fields)
