use Rattle.std.proofs.Common.{◌≡◌, ◌<◌, ◌∙◌, [], length, get_or, take, ap, sym, rules, arith}
use Rattle.std.specs.Prelude.{Some, map, slice_get}
use Rattle.std.proofs.lemmas.List.{length-map, length-take-le, take_all}
use Rattle.kl_model.specs.Lists.{each}
use Rattle.kl_names.specs.Commons.{piece_of_common}
use Rattle.kl_names.specs.Facts.{common_symbol_names, facts_of}
use Rattle.kl_names.proofs.CommonLaws.{among-at, common_names-free, commons-small, free, free-same, chosen, is_free, holds-where, left_out, length-free, map-at, numbers-more, piece_of, pieces-more}
use Rattle.kl_names.proofs.NotedSteps.{get-inside, get-map}
use Rattle.kl_names.proofs.commons.common_pieces.Goals as goal
use Rattle.kl_names.proofs.commons.common_pieces.Goals.{in-Some+in_ok-push+in_ok-push-2, in_default}

pub index-requires : goal.index-requires
index-requires c =
    let kit = c.args.kit.now in let inputs = c.args.inputs.now in let index = c.args.numbering.now.index in let j = c.loop-number.number-index in
    let numbers = c.deref-number-items.ensures.value in
    let at = map-at (slice_get index) c.args.notes.now.commons.items (common_symbol_names inputs) j 0 [] c.requires.notes.commons (rw numbers at c.loop-number-test.true) in
    let inside : get_or c.deref-number-items.result.now j 0 < length c.args.notes.now.facts.items = rw (numbers, c.requires.notes.facts) (get-inside (facts_of kit inputs) index _ _ at.1) in
    search (rules, inside)

pub overflow_cast-len : goal.overflow_cast-len
overflow_cast-len c =
    let kit = c.args.kit.now in let inputs = c.args.inputs.now in let index = c.args.numbering.now.index in let j = c.loop-number.number-index in
    let numbers = c.deref-number-items.ensures.value in
    let at = map-at (slice_get index) c.args.notes.now.commons.items (common_symbol_names inputs) j 0 [] c.requires.notes.commons (rw numbers at c.loop-number-test.true) in
    let below = at.0 in
    let so_far = length-take-le j (common_symbol_names inputs) (omega arith) in
    let few = length-free kit inputs (take j (common_symbol_names inputs)) in
    let small = commons-small inputs c.requires.inputs.symbols in
    let here = ap length c.loop-number.invariant.pieces in
    let len = c.len-in-Some.ensures in
    omega arith

pub loop-number-preserved : goal.loop-number-preserved
loop-number-preserved c =
    let kit = c.args.kit.now in let inputs = c.args.inputs.now in let index = c.args.numbering.now.index in let j = c.loop-number.number-index in
    let names = common_symbol_names inputs in
    let numbers = c.deref-number-items.ensures.value in
    let at = map-at (slice_get index) c.args.notes.now.commons.items names j 0 [] c.requires.notes.commons (rw numbers at c.loop-number-test.true) in
    let name = get_or names j [] in
    let number = get_or c.args.notes.now.commons.items j 0 in
    let fact : c.index.result.now ≡ facts_of kit inputs name =
    rw (numbers, c.requires.notes.facts) at c.index.ensures ∙ get-map (facts_of kit inputs) index number name c.index.result.now at.1 in
    let holds = holds-where kit inputs name c.index.result.now fact (among-at names j [] at.0) in
    elim c.match-holding.branch [
      | in-Some+in_ok-push+in_ok-push-2 w ↦
          let got = chosen (is_free kit inputs name) _ _ (sym holds ∙ sym w.in-Some.ensures) in
          let so_far = each (free kit inputs (take j names)) (piece_of kit inputs) in
          let len : w.len-in-Some.result ≡ length so_far = (let n = w.len-in-Some.ensures in let here = ap length c.loop-number.invariant.pieces in omega arith) in
          let piece = w.common_piece.ensures ∙ (ap (λ k. piece_of_common k w.in-Some.common) len ∙ ap (piece_of_common (length so_far)) (sym got.1)) in
          record {
            pieces = rw (w.pieces-is, w.in_ok-push.ensures.items, piece, c.loop-number.invariant.pieces) (sym (pieces-more kit inputs names j [] at.0 got.0));
            numbers = rw (w.numbers-is, w.in_ok-push-2.ensures.items, numbers) (numbers-more kit inputs names j [] at.0 index c.loop-number.numbers.items number got.0 at.1 c.loop-number.invariant.numbers);
          }
      | in_default w ↦
          let same = free-same kit inputs names j [] at.0 (left_out (is_free kit inputs name) _ (sym holds ∙ sym w.in_default.ensures)) in
          record {
            pieces = rw (w.pieces-is, same) c.loop-number.invariant.pieces;
            numbers = rw (w.numbers-is, same) c.loop-number.invariant.numbers;
          }
    ]

pub returns-clause-pieces : goal.returns-clause-pieces
returns-clause-pieces c =
    let kit = c.args.kit.now in let inputs = c.args.inputs.now in
    let numbers = c.deref-number-items.ensures.value in
    let many = sym (length-map c.args.notes.now.commons.items (slice_get c.args.numbering.now.index)) ∙ (ap length c.requires.notes.commons ∙ length-map (common_symbol_names inputs) Some) in
    let past = rw numbers at c.loop-number-test.false in
    let all = take_all c.loop-number.number-index (common_symbol_names inputs) (omega arith) in
    c.loop-number.invariant.pieces ∙ ap (λ l. each l (piece_of kit inputs)) (ap (free kit inputs) all ∙ sym (common_names-free kit inputs))

pub returns-clause-numbers : goal.returns-clause-numbers
returns-clause-numbers c =
    let kit = c.args.kit.now in let inputs = c.args.inputs.now in
    let numbers = c.deref-number-items.ensures.value in
    let many = sym (length-map c.args.notes.now.commons.items (slice_get c.args.numbering.now.index)) ∙ (ap length c.requires.notes.commons ∙ length-map (common_symbol_names inputs) Some) in
    let past = rw numbers at c.loop-number-test.false in
    let all = take_all c.loop-number.number-index (common_symbol_names inputs) (omega arith) in
    c.loop-number.invariant.numbers ∙ ap (map Some) (ap (free kit inputs) all ∙ sym (common_names-free kit inputs))
