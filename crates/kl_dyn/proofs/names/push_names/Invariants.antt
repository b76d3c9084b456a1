use Rattle.std.proofs.Common.{◌≡◌, ◌++◌, take}
use Rattle.std.specs.Prelude.{flat_map}
use Rattle.kl_model.specs.Tables.{dyn_text, ended}
use Rattle.kl_dyn.proofs.names.push_names.Given as goal

abbrev pub invariant-loop-name : goal.invariant-loop-name
invariant-loop-name l = l.bytes.items ≡ l.initial.bytes.items ++ flat_map (λ d. ended (dyn_text l.inputs d)) (take l.name-index l.names)
