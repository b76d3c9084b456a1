use Rattle.std.proofs.Common.{◌≡◌, ◌∷◌, [], take}
use Rattle.kl_model.specs.Lists.{each}
use Rattle.kl_model.specs.Kept.{earlier}
use Rattle.kl_names.specs.Removed.{Sees, repeated_table}
use Rattle.kl_names.proofs.removed.removed_sections.Given as goal

abbrev pub invariant-loop-i : goal.invariant-loop-i
invariant-loop-i l = record {
  tables : l.tables.items ≡ each (take l.i l.inputs) (λ i x. repeated_table l.inputs i ∷ []);
  sees : Sees l.seen (earlier l.inputs l.i 0);
}
