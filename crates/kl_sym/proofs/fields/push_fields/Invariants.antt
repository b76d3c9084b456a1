use Rattle.std.proofs.Common.{◌≡◌, ◌++◌, [], take}
use Rattle.kl_model.specs.Lists.{each}
use Rattle.kl_model.specs.Graphs.{kept_field}
use Rattle.kl_sym.proofs.FieldTargets.{field_faults_of}
use Rattle.kl_sym.proofs.fields.push_fields.Given as goal

abbrev pub invariant-loop-field : goal.invariant-loop-field
invariant-loop-field l = record {
  fields : l.fields.items ≡ l.initial.fields.items ++ each (take l.field-index l.field-items) (λ k f. kept_field l.kit l.inputs l.i f);
  sound : each (take l.field-index l.field-items) (λ k f. field_faults_of l.kit l.inputs l.i f) ≡ [];
}
