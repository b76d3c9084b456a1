use Rattle.std.proofs.Common.{◌≡◌, [], map, take}
use Rattle.kl_model.specs.Leads.{filed_value}
use Rattle.kl_model.specs.Lists.{each}
use Rattle.kl_write.specs.Values.{range_faults_of}
use Rattle.kl_write.proofs.values.values_of.Given as goal

abbrev pub invariant-loop-field : goal.invariant-loop-field
invariant-loop-field l = record {
  values : l.values.items ≡ map (filed_value l.kit l.placement l.graph) (take l.field-index l.graph.fields);
  fit : each (take l.field-index l.graph.fields) (λ k f. range_faults_of l.placement l.graph f) ≡ [];
}
