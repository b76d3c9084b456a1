use Rattle.kl_store.specs.Disk.{names_now}
use Rattle.kl_store.proofs.Moments.{told_names}
use Rattle.kl_install.specs.Installers.{slot_of}
use Rattle.kl_install.proofs.Ended.{ended}
use Rattle.kl_install.proofs.installer.Installer.recover.Goals as goal

pub returns-then-is_clear-clause-recovers : goal.returns-then-is_clear-clause-recovers
returns-then-is_clear-clause-recovers g c = λ d told.
    let done = c.in_ok-end.ensures.done d told in
    let end = c.in_ok-end.ensures.end (names_now d) (told_names (g.S.Store.meaning c.args.store.now) d told) in
    (done.0, done.1, ended (slot_of c.args.self.now) (names_now d) done.0 c.in_ok-end.end end done.2)

pub returns-else-is_clear-clause-recovers : goal.returns-else-is_clear-clause-recovers
returns-else-is_clear-clause-recovers g c = λ d told.
    let done = c.in_ok-end.ensures.done d told in
    let end = c.in_ok-end.ensures.end (names_now d) (told_names (g.S.Store.meaning c.args.store.now) d told) in
    (done.0, done.1, ended (slot_of c.args.self.now) (names_now d) done.0 c.in_ok-end.end end done.2)
