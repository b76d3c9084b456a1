use Rattle.std.specs.Prelude.{None}
use Rattle.std.proofs.lemmas.Result.{IfErr-weaker, err_from_is_err_and, on_ok_weaker}
use Rattle.kl_jobs.proofs.KernelEnds.{kernel_linked, kernel_wanted, kit_refuses, link_ends, link_refuses}
use Rattle.kl_jobs.proofs.kernel.link_kernel_kit.Goals as goal

pub returns-in_err-source-clause-refused : goal.returns-in_err-source-clause-refused
returns-in_err-source-clause-refused g c =
    let r = err_from_is_err_and c.from_residual-in_err-source.result c.from_residual-in_err-source.ensures.1 in
    rw (r.1, r.2)
    (kit_refuses c.args.seed _ _ c.check_kernel.ensures.still c.in_ok-check_kernel.ensures.stands c.in_err-source.field-0.0 (rw c.kernel_kit.ensures at c.in_err-source.ensures.refused))

pub returns-clause-linked : goal.returns-clause-linked
returns-clause-linked g c =
    let source = c.in_ok-source.source in
    let kind = kernel_wanted source.kit.kind c.in_ok-source.ensures.kind in
    kernel_linked c.args.seed _ _ c.check_kernel.ensures.still c.in_ok-check_kernel.ensures.stands source.kit source.inputs.items source.seed c.in_ok-source.ensures.seed
    (rw c.kernel_kit.ensures at c.in_ok-source.ensures.reads) c.link_source.result kind (c.in_ok-source.ensures.output kind) c.link_source.ensures.linked c.link_source.ensures.told

pub returns-clause-stands : goal.returns-clause-stands
returns-clause-stands g c =
    let source = c.in_ok-source.source in
    on_ok_weaker c.link_source.result
    (λ sound. link_ends c.args.seed _ _ c.check_kernel.ensures.still c.in_ok-check_kernel.ensures.stands source.kit source.inputs.items source.seed c.in_ok-source.ensures.seed
    (rw c.kernel_kit.ensures at c.in_ok-source.ensures.reads) None sound) c.link_source.ensures.sound

pub returns-clause-refused : goal.returns-clause-refused
returns-clause-refused g c =
    let source = c.in_ok-source.source in
    IfErr-weaker c.link_source.result _ _
    (λ cause stands. link_refuses c.args.seed _ _ c.check_kernel.ensures.still c.in_ok-check_kernel.ensures.stands source.kit source.inputs.items source.seed c.in_ok-source.ensures.seed
    (rw c.kernel_kit.ensures at c.in_ok-source.ensures.reads) cause stands) c.link_source.ensures.err
