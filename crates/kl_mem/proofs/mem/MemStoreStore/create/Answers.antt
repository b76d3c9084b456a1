use Rattle.std.proofs.Common.{◌≡◌, true, false, ap, sym, ◌∙◌, rules, inl, [], ◌∷◌, ◌++◌}
use Rattle.std.specs.Prelude.{Some}
use Rattle.std.specs.Option.{option_eq}
use mathlib.Core.Bool.{beq}
use Rattle.kl_store.specs.Names as names
use Rattle.kl_mem.specs.declared.step.Step.TheVariants.{Create}
use Rattle.kl_mem.specs.Mem.{mem}
use Rattle.kl_mem.proofs.Calls.{is_create, does_made, turns_on, ends_made}
use Rattle.kl_store.specs.Disk.{joined}
use Rattle.kl_mem.proofs.mem.MemStoreStore.create.Goals as goal

pub returns-in-Ok-clause-does : goal.returns-in-Ok-clause-does
returns-in-Ok-clause-does c =
    let noted : c.end.new.self.disk.steps.items ≡ c.args.self.now.disk.steps.items ++ Create c.args.name.now ∷ [] = search rules in
    does_made c.args.self.now.disk.steps.items c.end.new.self.disk.steps.items (Create c.args.name.now) (names.Create c.args.name.now) c.end.result (is_create c.args.name.now) tt noted

pub returns-in-Ok-clause-ends : goal.returns-in-Ok-clause-ends
returns-in-Ok-clause-ends c =
    let noted : c.end.new.self.disk.steps.items ≡ c.args.self.now.disk.steps.items ++ Create c.args.name.now ∷ [] = search rules in
    ends_made (names.Create c.args.name.now) (mem c.args.self.now) (mem c.end.new.self) c.end.result (search rules) (search rules) (search rules) (λ planned. let no : false ≡ true = sym c.if-eq.false ∙ c.eq.ensures ∙ ap (λ o. option_eq beq o (Some false)) (c.next_call-fault.ensures.fault ∙ planned) in cc)
    (inl (tt, turns_on c.args.self.now c.end.new.self (Create c.args.name.now) (joined (names.Create c.args.name.now)) (is_create c.args.name.now).joins noted))
