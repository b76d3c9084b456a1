use Rattle.std.proofs.Common.{◌+◌, ◌-◌, ℕ, length, sym, ap, ◌∙◌, arith, length-append, ◌∷◌, [], List, Err}
use Rattle.kl_intent.specs.declared.intent.Entry.{Entry}
use Rattle.kl_intent.specs.IntentText.{entries_of, entries_from, fresh_entry, is_last}
use Rattle.kl_intent.proofs.SoFar.{no_line, last_line, wrong_entry, more_entry, fresh_room, reads_same}
use Rattle.kl_intent.proofs.read.read_entries.Goals as goal
use Rattle.kl_intent.proofs.read.read_entries.Goals.{in-Some+else-is_last+in_default-fresh_entry, in_default}

pub push-requires : goal.push-requires
push-requires c =
    let before = entries_of c.loop-line.intent in
    let less = fresh_room before c.in-Some.line.now c.in-Some-fresh_entry.entry (ap (λ (l : List Entry). fresh_entry l c.in-Some.line.now) (sym c.entries-in-Some.ensures) ∙ sym c.in-Some-fresh_entry.ensures) in
    omega (arith, less, c.loop-line.invariant.size)

pub loop-line-preserved : goal.loop-line-preserved
loop-line-preserved c =
    let before = entries_of c.loop-line.intent in
    let e = c.in-Some-fresh_entry.entry in
    let line = c.in-Some.line.now in
    let is = ap (λ (l : List Entry). fresh_entry l line) (sym c.entries-in-Some.ensures) ∙ sym c.in-Some-fresh_entry.ensures in
    let less = fresh_room before line e is in
    let last = ap (λ (l : List Entry). is_last l line) (sym c.entries.ensures) ∙ sym c.is_last.ensures ∙ c.if-is_last.false in
    record {
      few = omega (arith, less, c.loop-line.invariant.size, c.push.ensures.count);
      size = ap length c.push.ensures.entries ∙ omega (arith, length-append before (e ∷ []), c.loop-line.invariant.size, c.push.ensures.count);
      slot = c.push.ensures.slot ∙ c.loop-line.invariant.slot;
      rest = c.loop-line.invariant.rest ∙ more_entry (8 - length before) before c.loop-line.rest.now line c.in-Some.more.now e (omega arith) (sym c.in-Some.ensures.cut) last is
          ∙ ap (λ (l : List Entry). entries_from (8 - length l) l c.in-Some.more.now) (sym c.push.ensures.entries);
    }

pub returns-then-is_last : goal.returns-then-is_last
returns-then-is_last c =
    let before = entries_of c.loop-line.intent in
    let last = ap (λ (l : List Entry). is_last l c.in-Some.line.now) (sym c.entries.ensures) ∙ sym c.is_last.ensures ∙ c.if-is_last.true in
    reads_same c.loop-line.intent.slot c.args.slot c.ended.result _ _ c.loop-line.invariant.slot
    (c.loop-line.invariant.rest ∙ last_line (8 - length before) before c.loop-line.rest.now c.in-Some.line.now c.in-Some.more.now (sym c.in-Some.ensures.cut) last) c.ended.ensures

pub returns : goal.returns
returns c = c.loop-line.invariant.rest ∙ elim c.match-first_line.branch [
  | in-Some+else-is_last+in_default-fresh_entry w ↦
      let before = entries_of c.loop-line.intent in
      wrong_entry (8 - length before) before c.loop-line.rest.now w.in-Some.line.now w.in-Some.more.now (omega arith) (sym w.in-Some.ensures.cut)
      (ap (λ (l : List Entry). is_last l w.in-Some.line.now) (sym w.entries.ensures) ∙ sym w.is_last.ensures ∙ w.if-is_last.false)
      (ap (λ (l : List Entry). fresh_entry l w.in-Some.line.now) (sym w.entries-in-Some.ensures) ∙ sym w.in_default-fresh_entry.ensures)
  | in_default w ↦ no_line (8 - length (entries_of c.loop-line.intent)) (entries_of c.loop-line.intent) c.loop-line.rest.now (sym w.in_default.ensures.cut)
] ∙ ap (λ (n : ℕ). Err (n + 3)) c.loop-line.invariant.size
