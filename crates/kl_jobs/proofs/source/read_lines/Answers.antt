use Rattle.std.proofs.Common.{◌≡◌, ◌≤◌, ◌∷◌, length}
use Rattle.std.specs.Prelude.{None}
use Rattle.kl_base.specs.Names.{name_fault}
use Rattle.kl_base.specs.declared.limits.TheConstants.{FILE_LIMIT}
use Rattle.kl_model.specs.declared.kit.KitInput.{KitInput}
use Rattle.kl_jobs.proofs.KitLines.{are_fit, file_len, file_name, in_kit_order, order_lines}
use Rattle.kl_jobs.proofs.source.read_lines.Goals as goal

pub read_inputs-requires-clause-files : goal.read_inputs-requires-clause-files
read_inputs-requires-clause-files g c =
    rw (c.deref.ensures.value, c.in_ok-lines.ensures, c.items.ensures) (order_lines (λ (k : KitInput). length k.file ≤ FILE_LIMIT) file_len c.args.kit.now.inputs c.requires.inputs)

pub read_inputs-requires-clause-names : goal.read_inputs-requires-clause-names
read_inputs-requires-clause-names g c =
    rw (c.deref.ensures.value, c.in_ok-lines.ensures, c.items.ensures) (order_lines (λ (k : KitInput). name_fault (47 ∷ k.file) ≡ None) file_name c.args.kit.now.inputs c.requires.inputs)

pub returns-clause-linkable : goal.returns-clause-linkable
returns-clause-linkable g c = record {
  form = c.requires.form;
  fit = are_fit c.in_ok-inputs.inputs.items c.in_ok-inputs.ensures.fit c.in_ok-inputs.ensures.within
      ((rw (c.deref.ensures.value, c.in_ok-lines.ensures, c.items.ensures) at c.in_ok-inputs.ensures.places) (in_kit_order c.args.kit.now.inputs));
}
