use Rattle.std.proofs.Common.{sym, ap, rules, ◌≡◌, List, ◌∷◌, [], ◌++◌}
use Rattle.kl_mem.specs.declared.step.Step.{Step}
use Rattle.kl_mem.specs.declared.step.Step.TheVariants.{Put}
use Rattle.kl_mem.specs.Record.{disk_of, changes_of}
use Rattle.kl_mem.proofs.Lost.{none_put, on_put, on_skip, put_settled}
use Rattle.kl_mem.proofs.crash.with_lost.Goals as goal

pub loop-name-init : goal.loop-name-init
loop-name-init c = record {
  settled = ap (λ (l : List Step). (disk_of l).changes) c.new-made.ensures;
  part = none_put (changes_of c.args.pending.now) c.args.carried c.args.twist c.args.files.now c.new-made.result.steps.items c.new-made.ensures;
}

pub loop-name-preserved-in_default : goal.loop-name-preserved-in_default
loop-name-preserved-in_default c = record {
  settled = c.loop-name.invariant.settled;
  part = on_skip _ _ _ _ _ c.deref-name-items.result.now c.loop-name.name-index c.name-item.result c.loop-name-test.true c.name-item.is c.loop-name.invariant.part (sym c.in_default.ensures);
}

pub loop-name-preserved : goal.loop-name-preserved
loop-name-preserved c =
    let put : c.put.new.self.steps.items ≡ c.loop-name.made.steps.items ++ Put c.name-item.result c.in_ok-left.left.items ∷ [] = search rules in
    record {
      settled = put_settled c.loop-name.made.steps.items c.put.new.self.steps.items c.name-item.result c.in_ok-left.left.items put;
      part = on_put (changes_of c.args.pending.now) c.args.carried c.args.twist c.args.files.now c.loop-name.made.steps.items c.put.new.self.steps.items c.deref-name-items.result.now c.loop-name.name-index c.name-item.result
          c.in-Some.bytes.now c.in_ok-left.left.items c.loop-name-test.true c.name-item.is put c.loop-name.invariant.part (sym c.in-Some.ensures) c.in_ok-left.ensures;
    }
