use Rattle.std.proofs.Common.{◌+◌, ◌-◌, ◌≡◌, ◌<◌, get_or, length, arith}
use Rattle.std.proofs.lemmas.List.{get_or_default}
use Rattle.std.proofs.lemmas.List.Sorted.{all_adjacent_more}
use Rattle.kl_rel.proofs.Overlaps.{Precedes, meet_next, precede_next, all_precede}
use Rattle.kl_rel.proofs.scan.has_neighbours_that_meet.Goals as goal
use Rattle.kl_rel.proofs.scan.has_neighbours_that_meet.Goals.{else-before-span-via-then-before-span+else-span-before, else-before-span-via-else-before-span}

pub returns-then-span-before-clause-found : goal.returns-then-span-before-clause-found
returns-then-span-before-clause-found c = λ pairs.
    let i = c.loop-index.index in
    let e : i - 1 + 1 ≡ i = omega arith in
    let sorted = rw e at (c.requires.sorted (i - 1) (0, 0, 0) (omega arith) (omega arith)) in
    meet_next _ _ sorted (c.requires.bytes i (0, 0, 0) (omega arith)) c.if-before-span.true c.if-span-before.true (pairs (i - 1) i (0, 0, 0) (omega arith) (omega arith))

pub loop-index-preserved : goal.loop-index-preserved
loop-index-preserved c =
    let spans = c.args.spans.now in
    let i = c.loop-index.index in
    let e : i - 1 + 1 ≡ i = omega arith in
    let before : i - 1 < length spans = omega arith in
    let sorted = rw e at (c.requires.sorted (i - 1) (0, 0, 0) (omega arith) (omega arith)) in
    let step : Precedes (get_or spans (i - 1) (0, 0, 0)) (get_or spans i (0, 0, 0)) = elim c.else-before-span.branch [
      | else-before-span-via-then-before-span+else-span-before w ↦ precede_next _ _ sorted (λ _. w.if-span-before.false)
      | else-before-span-via-else-before-span w ↦ precede_next _ _ sorted (λ same. absurd (w.if-before-span.false same))
    ] in
    all_adjacent_more spans Precedes i (omega arith) c.loop-index.invariant
    (λ d. rw (get_or_default spans (i - 1) d (0, 0, 0) before, get_or_default spans i d (0, 0, 0) c.loop-index-test.true) step)

pub returns-clause-free : goal.returns-clause-free
returns-clause-free c = all_precede c.args.spans.now c.requires.bytes (λ k d h. c.loop-index.invariant k d (omega (arith, h)))
