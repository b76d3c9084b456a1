use Rattle.std.proofs.Common.{◌≡◌, ◌∙◌, true, false, take, get_or, refl, sym, arith}
use Rattle.std.specs.Prelude.{Some, None, is_some, ◌==◌}
use Rattle.std.specs.List.{list_any}
use Rattle.kl_elf.specs.declared.records.Dyn.{Dyn}
use Rattle.kl_image.specs.Dynamic.{has_tag, table_size}
use Rattle.kl_image.proofs.EntryFlaws.{told_seen, told_none, told_right, told_wrong, flaws_more, flaw_first, flaws_none, seen_more, seen_same}
use Rattle.kl_image.proofs.dynamic.DynamicSection.check_entries.Goals as goal

-- what the list of entries is read as past its end
abbrev no_dyn : Dyn
no_dyn = record { tag = 0; value = 0 }

pub loop-number-preserved-then-contains : goal.loop-number-preserved-then-contains
loop-number-preserved-then-contains c =
    let b = c.args.self.now.bytes.now in
    let ds = c.args.self.now.entries.now in
    let i = c.loop-number.number in
    let tag = (get_or ds i no_dyn).tag in
    let found : list_any (λ m. m == tag) c.loop-number.seen.items ≡ true = rw c.deref.ensures.value at (sym c.if-contains.ensures.value) in
    let again : is_some (table_size b tag) ≡ true → list_any (has_tag tag) (take i ds) ≡ true = λ is. sym (c.loop-number.invariant.seen tag is) ∙ found in
    record {
      flaws = flaws_more b c.args.self.now.header.offset ds i no_dyn c.loop-number-test.true c.loop-number.invariant.flaws
          (told_seen b c.args.self.now.header.offset (take i ds) i (get_or ds i no_dyn) again);
      seen = seen_same b ds i no_dyn c.loop-number.seen.items c.loop-number-test.true c.loop-number.invariant.seen again;
    }

pub loop-number-preserved-in_default : goal.loop-number-preserved-in_default
loop-number-preserved-in_default c =
    let b = c.args.self.now.bytes.now in
    let ds = c.args.self.now.entries.now in
    let i = c.loop-number.number in
    let none : table_size b (get_or ds i no_dyn).tag ≡ None = sym c.in_default.ensures in
    record {
      flaws = flaws_more b c.args.self.now.header.offset ds i no_dyn c.loop-number-test.true c.loop-number.invariant.flaws
          (told_none b c.args.self.now.header.offset (take i ds) i (get_or ds i no_dyn) none);
      seen = seen_same b ds i no_dyn c.loop-number.seen.items c.loop-number-test.true c.loop-number.invariant.seen
          (λ is. let bad : false ≡ true = rw none at is in cc);
    }

pub returns-then-is_wrong_table-clause-flaw : goal.returns-then-is_wrong_table-clause-flaw
returns-then-is_wrong_table-clause-flaw c =
    let b = c.args.self.now.bytes.now in
    let ds = c.args.self.now.entries.now in
    let i = c.loop-number.number in
    let tag = (get_or ds i no_dyn).tag in
    let is : table_size b tag ≡ Some c.in-Some.size = sym c.in-Some.ensures in
    let some : is_some (table_size b tag) ≡ true = rw is refl in
    let found : list_any (λ m. m == tag) c.loop-number.seen.items ≡ false = rw c.deref.ensures.value at (sym c.if-contains.ensures.value) in
    let first : list_any (has_tag tag) (take i ds) ≡ false = sym (c.loop-number.invariant.seen tag some) ∙ found in
    rw c.place_of.ensures (flaw_first b c.args.self.now.header.offset ds i no_dyn c.requires.entries_are c.loop-number-test.true c.loop-number.invariant.flaws
    (told_wrong b c.args.self.now.header.offset (take i ds) i (get_or ds i no_dyn) c.in-Some.size first is (sym c.if-is_wrong_table.ensures)))

pub loop-number-preserved : goal.loop-number-preserved
loop-number-preserved c =
    let b = c.args.self.now.bytes.now in
    let ds = c.args.self.now.entries.now in
    let i = c.loop-number.number in
    record {
      flaws = flaws_more b c.args.self.now.header.offset ds i no_dyn c.loop-number-test.true c.loop-number.invariant.flaws
          (told_right b c.args.self.now.header.offset (take i ds) i (get_or ds i no_dyn) c.in-Some.size (sym c.in-Some.ensures) (sym c.if-is_wrong_table.ensures));
      seen = rw c.in_ok-push.ensures.items (seen_more b ds i no_dyn c.loop-number.seen.items c.loop-number-test.true c.loop-number.invariant.seen);
    }

pub returns-clause-sound : goal.returns-clause-sound
returns-clause-sound c =
    flaws_none c.args.self.now.bytes.now c.args.self.now.header.offset c.args.self.now.entries.now c.loop-number.number c.requires.entries_are (omega arith)
    c.loop-number.invariant.flaws
