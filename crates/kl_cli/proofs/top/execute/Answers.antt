use Rattle.std.proofs.Common.{rules}
use Rattle.kl_store.proofs.Moments.{stays_none}
use Rattle.kl_cli.proofs.Said.{ends_in_memory, generates}
use Rattle.kl_cli.proofs.top.execute.Goals as goal

pub returns-in_ok-report-in-ReorderKernel-clause-stands : goal.returns-in_ok-report-in-ReorderKernel-clause-stands
returns-in_ok-report-in-ReorderKernel-clause-stands g c = rw c.in-ReorderKernel.is c.in_ok-report-in-ReorderKernel.ensures.stands

pub returns-in_ok-report-in-Generate-clause-done : goal.returns-in_ok-report-in-Generate-clause-done
returns-in_ok-report-in-Generate-clause-done g c =
    generates c.args.request.now.command c.in-Generate.count c.args.request.now.seed c.unwrap.result _ _ c.in_ok-report-in-Generate.report c.in-Generate.is (search rules)
    c.in_ok-report-in-Generate.ensures.generated

pub returns-in_ok-report-in-Generate-clause-stands : goal.returns-in_ok-report-in-Generate-clause-stands
returns-in_ok-report-in-Generate-clause-stands g c =
    ends_in_memory c.args.request.now.command c.in-Generate.count c.args.request.now.seed _ _ c.in-Generate.is c.requires

pub returns-in_ok-report-in-Generate-clause-others : goal.returns-in_ok-report-in-Generate-clause-others
returns-in_ok-report-in-Generate-clause-others g c = rw c.in-Generate.is stays_none
