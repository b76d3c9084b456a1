use Rattle.std.proofs.Common.{◌≡◌, refl, rules, inl, [], ◌∷◌, ◌++◌}
use Rattle.kl_mem.specs.declared.step.Step.TheVariants.{Settle}
use Rattle.kl_mem.specs.declared.mem.MemStore.{MemStore}
use Rattle.kl_store.specs.Disk.{settled}
use Rattle.kl_mem.proofs.Calls.{settles_on, turns_on}
use Rattle.kl_mem.proofs.mem.MemStoreStore.settle.Goals as goal

pub returns-in-Ok-clause-settles : goal.returns-in-Ok-clause-settles
returns-in-Ok-clause-settles c =
    let noted : c.settle.new.self.steps.items ≡ c.args.self.now.disk.steps.items ++ Settle ∷ [] = search rules in
    settles_on c.args.self.now.disk.steps.items c.settle.new.self.steps.items (tt {0}) noted

pub returns-in-Ok-clause-ends : goal.returns-in-Ok-clause-ends
returns-in-Ok-clause-ends c =
    let noted : c.settle.new.self.steps.items ≡ c.args.self.now.disk.steps.items ++ Settle ∷ [] = search rules in
    let n = c.next_call-fault.new.self in
    let next : MemStore = record { disk = c.settle.new.self; planned = n.planned; calls = n.calls; faults = n.faults; starved = n.starved } in
    record {
      counts = search rules;
      ends = inl (record { fails = search rules; starved = search rules; done = turns_on c.args.self.now next Settle settled (λ d. refl) noted; kept = tt });
    }
