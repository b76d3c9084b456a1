use Rattle.std.proofs.Common.{◌≡◌, ℕ, subst}
use Rattle.std.specs.Prelude.{Some, option_to_list, slice_get}
use Rattle.std.proofs.lemmas.List.Elements.{All-nil}
use Rattle.kl_ar.specs.Archives.{faults, name_faults}
use Rattle.kl_ar.specs.Grammar.{IsWithin}
use Rattle.kl_ar.specs.Readers.{table_place}
use Rattle.kl_ar.proofs.Walks.{all_added, faults_behind, faults_start, form_first, handed_on, magic_first, members_behind, members_start, name_first}
use Rattle.kl_ar.proofs.read.read_members.Goals as goal

pub returns-in_err-check_magic-clause-fault : goal.returns-in_err-check_magic-clause-fault
returns-in_err-check_magic-clause-fault c =
    let b = c.args.bytes.now in
    let f = c.in_err-check_magic.field-0.0 in
    handed_on (faults b) f c.from_residual.result c.from_residual.ensures.1 (magic_first b f c.in_err-check_magic.ensures)

pub loop-at-init : goal.loop-at-init
loop-at-init c =
    let b = c.args.bytes.now in
    record {
      table = tt;
      members = rw c.new-members.ensures.items (members_start b);
      faults = faults_start b c.in_ok-check_magic.ensures;
      within = rw c.new-members.ensures.items (All-nil (IsWithin b));
    }

pub returns-in_err-header-clause-fault : goal.returns-in_err-header-clause-fault
returns-in_err-header-clause-fault c =
    let b = c.args.bytes.now in
    let f = c.in_err-header.field-0.0 in
    handed_on (faults b) f c.from_residual-in_err-header.result c.from_residual-in_err-header.ensures.1
    (form_first b (table_place c.loop-at.table) c.loop-at.at f c.loop-at-test.true c.loop-at.invariant.faults c.in_err-header.ensures.fault)

pub returns-in_err-member-clause-fault : goal.returns-in_err-member-clause-fault
returns-in_err-member-clause-fault c =
    let b = c.args.bytes.now in
    let f = c.in_err-member.field-0.0 in
    let t = table_place c.loop-at.table in
    handed_on (faults b) f c.from_residual-in_err-member.result c.from_residual-in_err-member.ensures.1
    (name_first b t c.loop-at.at f c.loop-at-test.true c.loop-at.invariant.faults c.in_ok-header.ensures.sound
    (subst (λ (x : ℕ). Some f ≡ slice_get (name_faults b (record { at = x; table = t })) 0) c.in_ok-header.ensures.at c.in_err-member.ensures.fault))

pub loop-at-preserved : goal.loop-at-preserved
loop-at-preserved c =
    let b = c.args.bytes.now in
    let before = c.loop-at.invariant in
    record {
      table = c.in_ok-table.ensures.table;
      members = members_behind b c.in_ok-header.header c.loop-at.table c.in_ok-table.table c.loop-at.at c.next_place-at.result c.loop-at.members.items c.add.new.members.items (option_to_list c.in_ok-member.member)
          c.loop-at-test.true c.in_ok-header.ensures.at c.in_ok-header.ensures.header before.members c.in_ok-header.ensures.sound c.in_ok-member.ensures.member c.in_ok-table.ensures.place c.next_place-at.ensures.next
          c.in_ok-add.ensures;
      faults = faults_behind b c.in_ok-header.header c.loop-at.table c.in_ok-table.table c.loop-at.at c.next_place-at.result
          c.loop-at-test.true c.in_ok-header.ensures.at c.in_ok-header.ensures.header before.faults c.in_ok-header.ensures.sound c.in_ok-member.ensures.fault c.in_ok-table.ensures.place c.next_place-at.ensures.next;
      within = all_added (IsWithin b) c.loop-at.members.items c.add.new.members.items c.in_ok-member.member c.in_ok-add.ensures before.within c.in_ok-member.ensures.within;
    }
