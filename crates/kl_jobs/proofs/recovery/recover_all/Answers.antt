use Rattle.kl_jobs.proofs.BothSlots.{both_done, both_end, both_others}
use Rattle.kl_jobs.proofs.recovery.recover_all.Goals as goal

pub returns-in-Ok-clause-ends : goal.returns-in-Ok-clause-ends
returns-in-Ok-clause-ends g c =
    both_end (g.S.Store.meaning c.args.store.now) (g.S.Store.meaning c.recover.new.store) _ _ c.in_ok-kernel.ensures.slot c.in_ok-libs.ensures.slot c.in_ok-first.ensures.done
    c.in_ok-first.first c.in-Ok.second c.in_ok-first.ensures.end c.in-Ok.ensures.end

pub returns-in-Ok-clause-done : goal.returns-in-Ok-clause-done
returns-in-Ok-clause-done g c =
    both_done (g.S.Store.meaning c.args.store.now) (g.S.Store.meaning c.recover.new.store) _ _ c.in_ok-kernel.ensures.slot c.in_ok-libs.ensures.slot c.in_ok-first.ensures.done
    (g.S.Store.meaning c.recover-2.new.store) c.in-Ok.ensures.done

pub returns-in-Ok-clause-others : goal.returns-in-Ok-clause-others
returns-in-Ok-clause-others g c =
    both_others (g.S.Store.meaning c.args.store.now) (g.S.Store.meaning c.recover.new.store) _ _ c.in_ok-kernel.ensures.slot c.in_ok-libs.ensures.slot c.in_ok-first.ensures.done
    (g.S.Store.meaning c.recover-2.new.store) c.recover.ensures.others c.recover-2.ensures.others

pub returns-clause-others : goal.returns-clause-others
returns-clause-others g c =
    both_others (g.S.Store.meaning c.args.store.now) (g.S.Store.meaning c.recover.new.store) _ _ c.in_ok-kernel.ensures.slot c.in_ok-libs.ensures.slot c.in_ok-first.ensures.done
    (g.S.Store.meaning c.recover-2.new.store) c.recover.ensures.others c.recover-2.ensures.others
