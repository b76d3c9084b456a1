use Rattle.std.proofs.Common.{MatchBool, subst, Bool, ◌≡◌}
use Rattle.kl_store.specs.Names.{Names}
use Rattle.kl_store.specs.Names as names
use Rattle.kl_store.specs.Names.{carried_out}
use Rattle.kl_mem.specs.declared.step.Step.TheVariants.{Rename}
use Rattle.kl_mem.proofs.Written.{same_after}
use Rattle.kl_mem.proofs.record.Record.rename.Goals as goal

pub invariant_of-self-then-branch : goal.invariant_of-self-then-branch
invariant_of-self-then-branch c =
    let moved : c.rename.new.self ≡ carried_out (names.Rename c.args.from.now c.args.to.now) c.args.self.now.files =
    subst (λ (b : Bool). MatchBool b (c.rename.new.self ≡ carried_out (names.Rename c.args.from.now c.args.to.now) c.args.self.now.files) (c.rename.new.self ≡ c.args.self.now.files)) c.if-branch.true c.in_ok-rename.ensures.ok in
    record { same = same_after c.args.self.now.files c.rename.new.self c.args.self.now.steps.items c.reserve.new.self.items c.push_reserved.new.self.items (Rename c.args.from.now c.args.to.now) c.args.self.now.same moved c.reserve.ensures.items c.push_reserved.ensures.items }
