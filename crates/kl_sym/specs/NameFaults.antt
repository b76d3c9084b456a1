-- The faults of names, in the order in which they are answered. For the contracts inside this crate alone.
use Rattle.std.specs.Prelude.{List, ◌++◌}
use Rattle.kl_model.specs.Faults.{clashes, doubled, no_entry}
use Rattle.kl_model.specs.declared.object.Input.{Input}
use Rattle.kl_model.specs.declared.kit.Kit.{Kit}
use Rattle.kl_model.specs.declared.link.LinkFault.{LinkFault}

unfoldable pub name_faults : Kit → List Input → List LinkFault
name_faults kit inputs = doubled kit inputs ++ (clashes kit inputs ++ no_entry kit inputs)
