use Rattle.std.proofs.Common.{◌≡◌, ◌++◌, [], rules, sym, ap, ◌∙◌, unwrap_or, List, ℕ}
use Rattle.std.specs.FinMap.{get, insert}
use Rattle.kl_mem.specs.declared.step.Step.TheVariants.{Append}
use Rattle.kl_mem.proofs.Written.{same_after}
use Rattle.kl_mem.proofs.record.Record.append.Goals as goal

pub invariant_of-self-2 : goal.invariant_of-self-2
invariant_of-self-2 c =
    let noted : c.from_vec-noted.result ≡ c.args.bytes.now = search rules in
    record {
      same = same_after c.args.self.now.files c.append.new.self c.args.self.now.steps.items c.reserve.new.self.items c.push_reserved.new.self.items (Append c.args.name.now c.from_vec-noted.result) c.args.self.now.same
          (c.in_ok-append.ensures.ok ∙ ap (λ (b : List ℕ). insert c.args.self.now.files c.args.name.now (unwrap_or (get c.args.self.now.files c.args.name.now) [] ++ b)) (sym noted)) c.reserve.ensures.items c.push_reserved.ensures.items;
    }
