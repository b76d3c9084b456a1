use Rattle.std.proofs.Common.{◌≡◌, ap, ◌∙◌, length, sym, subst, true, List, [], ℕ}
use Rattle.std.specs.List.{AllByRecursion}
use Rattle.kl_intent.specs.IntentText.{IsEntry, AreDistinct, is_new}
use Rattle.std.specs.Prelude.{None}
use Rattle.std.specs.Option.{ForSome}
use Rattle.std.specs.FinMap.{get}
use Rattle.kl_base.specs.declared.class.Slot.{Slot}
use Rattle.kl_intent.specs.IntentText.{entries_of, slot_name}
use Rattle.kl_install.specs.Batch.{batch, IsStaged}
use Rattle.kl_install.specs.Installers.{staged, batch_of}
use Rattle.kl_install.proofs.Stagings.{files_kept, each_more, distinct_more, kept_room, stages, still_free}
use Rattle.kl_install.proofs.installer.Installer.stage.Goals as goal

pub invariant_of-self-2-clause-each : goal.invariant_of-self-2-clause-each
invariant_of-self-2-clause-each g c = subst (AllByRecursion IsEntry) (sym c.push.ensures.entries) (each_more (staged c.args.self.now) c.entry_of.result c.args.self.now.each c.entry_of.ensures.is)

pub invariant_of-self-2-clause-distinct : goal.invariant_of-self-2-clause-distinct
invariant_of-self-2-clause-distinct g c =
    let new = subst (λ (t : List ℕ). is_new t (staged c.args.self.now) ≡ true) (sym c.entry_of.ensures.target) c.requires.fresh in
    subst (AreDistinct []) (sym c.push.ensures.entries) (distinct_more [] (staged c.args.self.now) c.entry_of.result c.args.self.now.distinct new)

pub returns-clause-staged : goal.returns-clause-staged
returns-clause-staged g c = stages (batch_of c.args.self.now) c.args.target.now c.args.bytes.now _ c.entry_of.result c.args.self.now.each c.entry_of.ensures.is c.requires.fresh c.requires.free c.requires.so_far
    c.push.ensures.entries c.entry_of.ensures.target (c.entry_of.ensures.new ∙ c.sha256.ensures) (λ d told. c.entry_of.ensures.old ∙ c.in_ok-old.ensures.old d told) c.in_ok-old.ensures.waits c.stage_file.ensures.images.tells

pub returns-clause-goes_on : goal.returns-clause-goes_on
returns-clause-goes_on g c =
    let done = stages {x = g.S.Store.meaning c.args.store.now} {y = g.S.Store.meaning c.stage_file.new.store} (batch_of c.args.self.now) c.args.target.now c.args.bytes.now _ c.entry_of.result c.args.self.now.each c.entry_of.ensures.is c.requires.fresh c.requires.free c.requires.so_far
    c.push.ensures.entries c.entry_of.ensures.target (c.entry_of.ensures.new ∙ c.sha256.ensures) (λ d told. c.entry_of.ensures.old ∙ c.in_ok-old.ensures.old d told) c.in_ok-old.ensures.waits c.stage_file.ensures.images.tells in
    λ d told. subst (λ (s : Slot). IsStaged (batch s (entries_of c.push.new.self)) d) (sym c.push.ensures.slot) (done.ready d told)

pub returns-clause-free : goal.returns-clause-free
returns-clause-free g c =
    let done = stages {x = g.S.Store.meaning c.args.store.now} {y = g.S.Store.meaning c.stage_file.new.store} (batch_of c.args.self.now) c.args.target.now c.args.bytes.now _ c.entry_of.result c.args.self.now.each c.entry_of.ensures.is c.requires.fresh c.requires.free c.requires.so_far
    c.push.ensures.entries c.entry_of.ensures.target (c.entry_of.ensures.new ∙ c.sha256.ensures) (λ d told. c.entry_of.ensures.old ∙ c.in_ok-old.ensures.old d told) c.in_ok-old.ensures.waits c.stage_file.ensures.images.tells in
    subst (λ (s : Slot). ForSome (g.S.Store.meaning c.stage_file.new.store).names (λ m. get m (slot_name s) ≡ None)) (sym c.push.ensures.slot) (still_free (g.S.Store.meaning c.stage_file.new.store) (batch c.args.self.now.intent.slot (entries_of c.push.new.self)) done.ready)

pub invariant_of-self-2-clause-room : goal.invariant_of-self-2-clause-room
invariant_of-self-2-clause-room g c = kept_room c.args.self.now.buf.len c.stage_file.new.buf c.args.self.now.buf.items (ap length (sym c.deref_mut.ensures.value) ∙ c.deref_mut.ensures.len) (c.stage_file.auto.buf ∙ ap length c.deref_mut.ensures.value) c.args.self.now.room

pub returns-in_err-old-clause-files : goal.returns-in_err-old-clause-files
returns-in_err-old-clause-files g c = files_kept c.args.target.now c.stage_file.ensures.others

pub returns-clause-files : goal.returns-clause-files
returns-clause-files g c = files_kept c.args.target.now c.stage_file.ensures.others
