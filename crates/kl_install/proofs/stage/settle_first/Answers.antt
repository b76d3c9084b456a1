use Rattle.std.proofs.Common.{refl, ap}
use Rattle.std.proofs.lemmas.Result.{on_ok_weaker}
use Rattle.std.specs.FinMap.{get}
use Rattle.kl_store.specs.Names.{Names}
use Rattle.kl_store.specs.Disk.{settled, names_now}
use Rattle.kl_store.proofs.Moments.{told_settled}
use Rattle.kl_store.proofs.Disks.{only_settled}
use Rattle.kl_install.proofs.stage.settle_first.Goals as goal

pub returns-then-first-clause-ready : goal.returns-then-first-clause-ready
returns-then-first-clause-ready g c = on_ok_weaker c.settle.result (λ s d told. record {
  now = settled d;
  told = told_settled d s told;
  names = refl;
  quiet = λ x image n plain. ap (λ (m : Names). get m n) (only_settled (names_now d) x image);
}) c.settle.ensures.settles.done

pub returns-else-first-clause-ready : goal.returns-else-first-clause-ready
returns-else-first-clause-ready g c = λ d told. record { now = d; told = told; names = refl; quiet = c.requires.quiet c.if-first.false d told }
