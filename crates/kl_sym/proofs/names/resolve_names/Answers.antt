use Rattle.std.proofs.Common.{◌∙◌, ap, map, sym}
use Rattle.kl_model.specs.Dynamic.{dyn_name}
use Rattle.kl_model.proofs.Kernels.{no_dynamic_names}
use Rattle.kl_sym.proofs.KernelNames.{kernel_targets}
use Rattle.kl_sym.proofs.names.resolve_names.Goals as goal

pub returns-in-Kernel-clause-dynamic : goal.returns-in-Kernel-clause-dynamic
returns-in-Kernel-clause-dynamic c =
    let kit = c.args.kit.now in let inputs = c.args.inputs.now in
    c.new.ensures.items ∙ ap (map (dyn_name kit inputs)) (sym (no_dynamic_names kit c.in-Kernel.is inputs))

pub returns-in-Kernel-clause-targets : goal.returns-in-Kernel-clause-targets
returns-in-Kernel-clause-targets c =
    let kit = c.args.kit.now in let inputs = c.args.inputs.now in
    c.in_ok-names.ensures.defined.definitions ∙ sym (kernel_targets kit c.in-Kernel.is inputs c.in_ok-names.names.numbering.index)
