use Rattle.std.proofs.Common.{inr}
use Rattle.std.proofs.lemmas.Result.{err_from_is_err_and}
use Rattle.kl_jobs.proofs.KernelInstalls.{is_batch, keeps_others, may_crash, may_stop, relinked}
use Rattle.kl_jobs.proofs.kernel.reorder_kernel.Goals as goal

pub returns-in_err-put_kernel-clause-stopped : goal.returns-in_err-put_kernel-clause-stopped
returns-in_err-put_kernel-clause-stopped g c =
    let r = err_from_is_err_and c.from_residual-in_err-put_kernel.result c.from_residual-in_err-put_kernel.ensures.1 in
    let batch = is_batch c.in_ok-linked.linked.image.items c.in_ok-linked.linked.map.items c.in_ok-linked.linked.report c.in_ok-linked.ensures.linked c.link_kernel_kit.ensures.still c.record_text-record.result c.record_text-record.ensures in
    rw r.1
    (inr (may_stop c.in_ok-linked.linked.image.items c.in_ok-linked.linked.map.items c.in_ok-linked.linked.report c.in_ok-linked.ensures.linked c.link_kernel_kit.ensures.still (g.S.Store.meaning c.put_kernel.new.store)
    ((rw (c.deref.ensures.value, c.deref-2.ensures.value) at c.put_kernel.ensures.stopped) c.in_ok-linked.ensures.linked.plan batch)))

pub returns-in_err-put_kernel-clause-crash : goal.returns-in_err-put_kernel-clause-crash
returns-in_err-put_kernel-clause-crash g c =
    let batch = is_batch c.in_ok-linked.linked.image.items c.in_ok-linked.linked.map.items c.in_ok-linked.linked.report c.in_ok-linked.ensures.linked c.link_kernel_kit.ensures.still c.record_text-record.result c.record_text-record.ensures in
    may_crash c.in_ok-linked.linked.image.items c.in_ok-linked.linked.map.items c.in_ok-linked.linked.report c.in_ok-linked.ensures.linked c.link_kernel_kit.ensures.still
    ((rw (c.deref.ensures.value, c.deref-2.ensures.value) at c.put_kernel.ensures.crash) c.in_ok-linked.ensures.linked.plan batch)

pub returns-in_err-put_kernel-clause-others : goal.returns-in_err-put_kernel-clause-others
returns-in_err-put_kernel-clause-others g c =
    keeps_others c.in_ok-linked.linked.image.items c.in_ok-linked.linked.map.items c.in_ok-linked.linked.report c.in_ok-linked.ensures.linked c.link_kernel_kit.ensures.still
    c.record_text-record.result (rw (c.deref.ensures.value, c.deref-2.ensures.value) at c.put_kernel.ensures.others)

pub returns-clause-done : goal.returns-clause-done
returns-clause-done g c =
    let batch = is_batch c.in_ok-linked.linked.image.items c.in_ok-linked.linked.map.items c.in_ok-linked.linked.report c.in_ok-linked.ensures.linked c.link_kernel_kit.ensures.still c.record_text-record.result c.record_text-record.ensures in
    relinked c.in_ok-linked.linked.image.items c.in_ok-linked.linked.map.items c.in_ok-linked.linked.report c.in_ok-linked.ensures.linked c.link_kernel_kit.ensures.still
    c.record_text-record.result (rw (c.deref.ensures.value, c.deref-2.ensures.value) at c.in_ok-put_kernel.ensures.installs.done)
    ((rw (c.deref.ensures.value, c.deref-2.ensures.value) at c.in_ok-put_kernel.ensures.installed) c.in_ok-linked.ensures.linked.plan batch)

pub returns-clause-crash : goal.returns-clause-crash
returns-clause-crash g c =
    let batch = is_batch c.in_ok-linked.linked.image.items c.in_ok-linked.linked.map.items c.in_ok-linked.linked.report c.in_ok-linked.ensures.linked c.link_kernel_kit.ensures.still c.record_text-record.result c.record_text-record.ensures in
    may_crash c.in_ok-linked.linked.image.items c.in_ok-linked.linked.map.items c.in_ok-linked.linked.report c.in_ok-linked.ensures.linked c.link_kernel_kit.ensures.still
    ((rw (c.deref.ensures.value, c.deref-2.ensures.value) at c.put_kernel.ensures.crash) c.in_ok-linked.ensures.linked.plan batch)

pub returns-clause-others : goal.returns-clause-others
returns-clause-others g c =
    keeps_others c.in_ok-linked.linked.image.items c.in_ok-linked.linked.map.items c.in_ok-linked.linked.report c.in_ok-linked.ensures.linked c.link_kernel_kit.ensures.still
    c.record_text-record.result (rw (c.deref.ensures.value, c.deref-2.ensures.value) at c.put_kernel.ensures.others)
