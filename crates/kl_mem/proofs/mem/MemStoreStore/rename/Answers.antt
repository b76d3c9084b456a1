use Rattle.std.proofs.Common.{◌≡◌, true, false, ap, sym, ◌∙◌, rules, [], ◌∷◌, ◌++◌}
use Rattle.std.specs.Prelude.{Some, None, IsSome, MatchBool, IfOk}
use Rattle.std.specs.FinMap.{get}
use Rattle.kl_store.specs.Disk.{names_now}
use Rattle.kl_mem.specs.Record.{disk_of}
use Rattle.std.specs.Option.{option_eq}
use mathlib.Core.Bool.{beq}
use Rattle.kl_store.specs.Names as names
use Rattle.kl_mem.specs.declared.step.Step.TheVariants.{Rename}
use Rattle.kl_mem.specs.Mem.{mem}
use Rattle.kl_mem.proofs.Calls.{is_rename, noted_rename, does_made_if, made_there, ends_made}
use Rattle.kl_mem.proofs.mem.MemStoreStore.rename.Goals as goal

pub returns-in-Ok-clause-does : goal.returns-in-Ok-clause-does
returns-in-Ok-clause-does c =
    let there : MatchBool c.in-Ok.was (IsSome (get (names_now (disk_of c.args.self.now.disk.steps.items)) c.args.from.now)) (get (names_now (disk_of c.args.self.now.disk.steps.items)) c.args.from.now ≡ None) = search rules in
    let noted : MatchBool c.in-Ok.was (c.end.new.self.disk.steps.items ≡ c.args.self.now.disk.steps.items ++ Rename c.args.from.now c.args.to.now ∷ []) (c.end.new.self.disk.steps.items ≡ c.args.self.now.disk.steps.items) = search rules in
    let given : IfOk c.end.result (λ answer. answer ≡ c.in-Ok.was) = search rules in
    does_made_if c.args.self.now.disk.steps.items c.end.new.self.disk.steps.items (Rename c.args.from.now c.args.to.now) (names.Rename c.args.from.now c.args.to.now) c.in-Ok.was c.end.result (is_rename c.args.from.now c.args.to.now)
    (noted_rename c.args.from.now c.args.to.now c.args.self.now.disk.steps.items c.end.new.self.disk.steps.items c.in-Ok.was there noted) given

pub returns-in-Ok-clause-ends : goal.returns-in-Ok-clause-ends
returns-in-Ok-clause-ends c =
    let there : MatchBool c.in-Ok.was (IsSome (get (names_now (disk_of c.args.self.now.disk.steps.items)) c.args.from.now)) (get (names_now (disk_of c.args.self.now.disk.steps.items)) c.args.from.now ≡ None) = search rules in
    let noted : MatchBool c.in-Ok.was (c.end.new.self.disk.steps.items ≡ c.args.self.now.disk.steps.items ++ Rename c.args.from.now c.args.to.now ∷ []) (c.end.new.self.disk.steps.items ≡ c.args.self.now.disk.steps.items) = search rules in
    ends_made (names.Rename c.args.from.now c.args.to.now) (mem c.args.self.now) (mem c.end.new.self) c.end.result (search rules) (search rules) (search rules) (λ planned. let no : false ≡ true = sym c.if-eq.false ∙ c.eq.ensures ∙ ap (λ o. option_eq beq o (Some false)) (c.next_call-fault.ensures.fault ∙ planned) in cc)
    (made_there c.args.self.now c.end.new.self (Rename c.args.from.now c.args.to.now) (names.Rename c.args.from.now c.args.to.now) c.in-Ok.was (is_rename c.args.from.now c.args.to.now) (noted_rename c.args.from.now c.args.to.now c.args.self.now.disk.steps.items c.end.new.self.disk.steps.items c.in-Ok.was there noted))
