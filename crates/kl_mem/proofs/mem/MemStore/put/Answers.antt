use Rattle.std.proofs.Common.{refl}
use Rattle.std.proofs.lemmas.Result.{on_ok_weaker}
use Rattle.kl_mem.specs.declared.step.Step.TheVariants.{Put}
use Rattle.kl_mem.specs.declared.mem.MemStore.{MemStore}
use Rattle.kl_mem.specs.Record.{with_stable}
use Rattle.kl_mem.proofs.Calls.{turns_on}
use Rattle.kl_mem.proofs.mem.MemStore.put.Goals as goal

pub returns-clause-ok : goal.returns-clause-ok
returns-clause-ok c =
    let s = c.args.self.now in
    let next : MemStore = record { disk = c.put.new.self; planned = s.planned; calls = s.calls; faults = s.faults; starved = s.starved } in
    on_ok_weaker c.put.result (λ noted. record { turns = turns_on s next (Put c.args.name.now c.args.bytes.now) (with_stable c.args.name.now c.args.bytes.now) (λ d. refl) noted; rest = refl }) c.put.ensures.ok
