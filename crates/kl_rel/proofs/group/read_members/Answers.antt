use Rattle.std.proofs.Common.{◌≤◌, ◌+◌, ◌*◌, ◌/◌, ◌∙◌, sym, refl, arith}
use Rattle.kl_rel.specs.Headers.{section}
use Rattle.kl_rel.specs.SectionGroups.{word, members, members_before, member_flaw_of, members_flaw}
use Rattle.kl_rel.proofs.Passes.{first_passes, first_stops, map_passes}
use Rattle.kl_rel.proofs.Grouping.{member_free, member_refused, grouped_more, members-more}
use Rattle.kl_rel.proofs.group.read_members.Goals as goal

pub loop-word-init : goal.loop-word-init
unfolding members_flaw members
loop-word-init c = record {
  flaw = rw c.requires.header refl;
  list = rw c.new-members.ensures refl;
  grouped = c.requires.grouped;
}

pub returns-then-not-is_free-clause-flaw : goal.returns-then-not-is_free-clause-flaw
returns-then-not-is_free-clause-flaw c =
    let b = c.args.bytes.now in
    let n = c.args.number in
    let j = c.loop-word.word in
    let member = rw c.requires.header at c.get-member.ensures.number in
    let refused = member_refused b c.loop-word.grouped (members_before b n j) n ((section b n).offset + 4 * j) c.get-member.result c.loop-word.invariant.grouped (sym c.is_free.ensures ∙ c.if-not-is_free.true) in
    let flaw = rw member at refused in
    rw (c.into.ensures, c.fault_at.ensures, c.requires.header)
    (first_stops (member_flaw_of b n) j (c.args.header.now.size / 4) _ flaw (omega arith) c.loop-word.invariant.flaw)

pub loop-word-preserved : goal.loop-word-preserved
loop-word-preserved c =
    let b = c.args.bytes.now in
    let n = c.args.number in
    let j = c.loop-word.word in
    let low : 1 ≤ j = omega arith in
    let member = rw c.requires.header at c.get-member.ensures.number in
    let free = member_free b c.loop-word.grouped (members_before b n j) n ((section b n).offset + 4 * j) c.get-member.result c.loop-word.invariant.grouped (sym c.is_free.ensures ∙ c.if-not-is_free.false) in
    record {
      flaw = first_passes (member_flaw_of b n) j (c.args.header.now.size / 4) (rw member at free) (omega arith) c.loop-word.invariant.flaw;
      list = rw (c.in_ok-push.ensures.ok, c.get-member.ensures.number) (map_passes (word b c.args.header.now) j (c.args.header.now.size / 4) c.loop-word.members (omega arith) c.loop-word.invariant.list);
      grouped = rw (members-more b n j low, ← member) (grouped_more b c.loop-word.grouped (members_before b n j) c.get-member.result c.loop-word.invariant.grouped);
    }
