use Rattle.std.proofs.Common.{◌≡◌, true, false, ap, sym, ◌∙◌, rules, inl, [], ◌∷◌, ◌++◌}
use Rattle.std.specs.Prelude.{Some}
use Rattle.std.specs.Option.{option_eq}
use mathlib.Core.Bool.{beq}
use Rattle.kl_store.specs.Names as names
use Rattle.kl_mem.specs.declared.step.Step.TheVariants.{Append}
use Rattle.kl_mem.specs.Mem.{mem}
use Rattle.kl_mem.proofs.Calls.{is_append, does_made, turns_on, ends_made}
use Rattle.kl_store.specs.Disk.{joined}
use Rattle.kl_mem.proofs.mem.MemStoreStore.append.Goals as goal

pub returns-in-Ok-clause-does : goal.returns-in-Ok-clause-does
returns-in-Ok-clause-does c =
    let noted : c.end.new.self.disk.steps.items ≡ c.args.self.now.disk.steps.items ++ Append c.args.name.now c.args.bytes.now ∷ [] = search rules in
    does_made c.args.self.now.disk.steps.items c.end.new.self.disk.steps.items (Append c.args.name.now c.args.bytes.now) (names.Append c.args.name.now c.args.bytes.now) c.end.result (is_append c.args.name.now c.args.bytes.now) tt noted

pub returns-in-Ok-clause-ends : goal.returns-in-Ok-clause-ends
returns-in-Ok-clause-ends c =
    let noted : c.end.new.self.disk.steps.items ≡ c.args.self.now.disk.steps.items ++ Append c.args.name.now c.args.bytes.now ∷ [] = search rules in
    ends_made (names.Append c.args.name.now c.args.bytes.now) (mem c.args.self.now) (mem c.end.new.self) c.end.result (search rules) (search rules) (search rules) (λ planned. let no : false ≡ true = sym c.if-eq.false ∙ c.eq.ensures ∙ ap (λ o. option_eq beq o (Some false)) (c.next_call-fault.ensures.fault ∙ planned) in cc)
    (inl (tt, turns_on c.args.self.now c.end.new.self (Append c.args.name.now c.args.bytes.now) (joined (names.Append c.args.name.now c.args.bytes.now)) (is_append c.args.name.now c.args.bytes.now).joins noted))
