use Rattle.std.proofs.Common.{◌∙◌, sym}
use Rattle.kl_kernel.proofs.KernelMade.{no_dynamic, no_stubs, no_tables}
use Rattle.kl_kernel.proofs.image.made_bytes.Goals as goal

pub returns-clause-stubs : goal.returns-clause-stubs
returns-clause-stubs c = λ inputs. c.new.ensures.items ∙ sym (no_stubs c.args.kit.now inputs c.args.graph.now c.args.placement.now c.requires.kernel)

pub returns-clause-tables : goal.returns-clause-tables
returns-clause-tables c = λ inputs. c.new-2.ensures.items ∙ sym (no_tables c.args.kit.now inputs c.args.graph.now c.args.placement.now c.requires.kernel)

pub returns-clause-dynamic : goal.returns-clause-dynamic
returns-clause-dynamic c = λ inputs. c.new-3.ensures.items ∙ sym (no_dynamic c.args.kit.now inputs c.args.graph.now c.args.placement.now c.requires.kernel)
