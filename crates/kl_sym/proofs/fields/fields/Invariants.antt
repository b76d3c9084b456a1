use Rattle.std.proofs.Common.{◌≡◌, [], length, take}
use Rattle.kl_model.specs.Lists.{each}
use Rattle.kl_model.specs.Graphs.{input_fields}
use Rattle.kl_model.specs.Faults.{input_faults}
use Rattle.kl_names.specs.Walked.{occurring_before}
use Rattle.kl_sym.proofs.fields.fields.Given as goal

abbrev pub invariant-loop-i : goal.invariant-loop-i
invariant-loop-i l = record {
  fields : l.fields.items ≡ each (take l.i l.inputs) (input_fields l.kit l.inputs);
  sound : each (take l.i l.inputs) (input_faults l.kit l.inputs) ≡ [];
  next : l.next ≡ length (occurring_before l.inputs l.i);
}
