use Rattle.std.proofs.Common.{◌<◌}
use Rattle.std.specs.Prelude.{AllPairs}
use Rattle.std.proofs.lemmas.Bool.{OnTrue_at, OnFalse_at, OnTrue_from, OnFalse_from}
use Rattle.std.proofs.lemmas.List.Sorted.{All-permutation, IsPermutation-sym}
use Rattle.kl_model.specs.Fit.{ShareNoByte}
use Rattle.kl_rel.specs.FieldScans.{Apart, meet}
use Rattle.kl_rel.proofs.Pairs.{pairs_permutation}
use Rattle.kl_rel.proofs.Overlaps.{spans_have_bytes, apart_by_spans, spans_by_apart, meet_flips}
use Rattle.kl_rel.proofs.scan.FieldScan.has_overlap.Goals as goal

pub has_neighbours_that_meet-requires-clause-bytes : goal.has_neighbours_that_meet-requires-clause-bytes
has_neighbours_that_meet-requires-clause-bytes c =
    let s = c.args.self.now in
    rw c.deref.ensures.value
    (All-permutation (λ x. x.1 < x.2) _ _ c.in_ok-sort.ensures.permutation (rw c.in_ok-spans.ensures (spans_have_bytes s.noted.items s.fields.items)))

pub returns-clause-free : goal.returns-clause-free
returns-clause-free c =
    let s = c.args.self.now in
    let spans = c.in_ok-spans.spans.items in
    let sorted = c.sort.new.self.items in
    OnFalse_from c.has_neighbours_that_meet.result (AllPairs ShareNoByte s.fields.items) (λ none.
    let apart = rw c.deref.ensures.value at (OnFalse_at {P = AllPairs Apart c.deref.result.now} none c.has_neighbours_that_meet.ensures.free) in
    let back = pairs_permutation meet meet_flips sorted spans (IsPermutation-sym spans sorted c.in_ok-sort.ensures.permutation) apart in
    apart_by_spans s.noted.items s.fields.items c.requires.apart (rw c.in_ok-spans.ensures at back))

pub returns-clause-found : goal.returns-clause-found
returns-clause-found c =
    let s = c.args.self.now in
    let spans = c.in_ok-spans.spans.items in
    let sorted = c.sort.new.self.items in
    OnTrue_from c.has_neighbours_that_meet.result (¬ AllPairs ShareNoByte s.fields.items) (λ found pairs.
    let apart = rw (← c.in_ok-spans.ensures) at (spans_by_apart s.noted.items s.fields.items pairs) in
    let moved = pairs_permutation meet meet_flips spans sorted c.in_ok-sort.ensures.permutation apart in
    OnTrue_at {P = ¬ AllPairs Apart c.deref.result.now} found c.has_neighbours_that_meet.ensures.found (rw (← c.deref.ensures.value) at moved))
