use Rattle.std.proofs.Common.{suc, false, ◌+◌, ◌≡◌, ◌<◌, ◌∙◌, length, take, get_or, ◌∷◌, refl, ap, sym, arith, append_assoc, length-append}
use Rattle.std.proofs.lemmas.List.{get_or_default}
use Rattle.kl_model.specs.Lists.{each, each_from}
use Rattle.kl_model.specs.Kept.{is_kept, is_repeated, input_at, name_at, no_input, no_section}
use Rattle.kl_model.specs.Graphs.{input_pieces, section_piece}
use Rattle.kl_model.specs.declared.object.Input.{Input}
use Rattle.kl_model.proofs.Each.{each_more, each_from_all}
use Rattle.kl_sym.proofs.PieceNumbers.{before, before-le}
use Rattle.kl_sym.proofs.PieceSteps.{piece-kept, entry-kept, piece-other, entry-other, length-marks, removed_at}
use Rattle.kl_sym.proofs.pieces.push_pieces.Goals as goal
use Rattle.kl_sym.proofs.pieces.push_pieces.Goals.{then-is_kept+in_ok-push-2+in_ok-push-3, else-is_kept+in_ok-push-4}

pub overflow_cast-len : goal.overflow_cast-len
overflow_cast-len c =
    let k = c.loop-k.k in
    let x = c.index-inputs-i.is ∙ get_or_default c.args.inputs.now c.args.i _ no_input c.requires.input in
    let items : c.items-section-items.result.now ≡ (input_at c.args.inputs.now c.args.i).object.sections = c.items-section-items.ensures ∙ ap (λ (x : Input). x.object.sections) x in
    let many = before-le c.args.kit.now c.args.inputs.now c.args.i k c.requires.input in
    let here : length c.loop-k.pieces.items ≡ before c.args.kit.now c.args.inputs.now c.args.i k =
    rw (c.loop-k.invariant.pieces, c.requires.before, items) (length-append (each (take c.args.i c.args.inputs.now) (input_pieces c.args.kit.now c.args.inputs.now)) (each_from 1 (section_piece c.args.kit.now c.args.inputs.now c.args.i (input_at c.args.inputs.now c.args.i)) (take k (input_at c.args.inputs.now c.args.i).object.sections))) in
    let limit = c.requires.inputs.sections in
    let len = c.len.ensures in
    omega arith

pub bounds-items-k : goal.bounds-items-k
bounds-items-k c =
    let inputs = c.args.inputs.now in let i = c.args.i in
    let x = c.index-inputs-i.is ∙ get_or_default inputs i _ no_input c.requires.input in
    let items : c.items-section-items.result.now ≡ (input_at inputs i).object.sections = c.items-section-items.ensures ∙ ap (λ (x : Input). x.object.sections) x in
    let l : c.loop-k.k < length (input_at inputs i).object.sections = rw items at c.loop-k-test.true in
    let many = length-marks (is_repeated inputs i) 0 (no_section ∷ (input_at inputs i).object.sections) in
    rw (c.items.ensures, c.requires.removed) (omega (arith, many, l))

pub loop-k-preserved : goal.loop-k-preserved
loop-k-preserved c =
    let k = c.loop-k.k in
    let kit = c.args.kit.now in let inputs = c.args.inputs.now in let i = c.args.i in
    let x = c.index-inputs-i.is ∙ get_or_default inputs i _ no_input c.requires.input in
    let items : c.items-section-items.result.now ≡ (input_at inputs i).object.sections = c.items-section-items.ensures ∙ ap (λ (x : Input). x.object.sections) x in
    let here : length c.loop-k.pieces.items ≡ before kit inputs i k =
    rw (c.loop-k.invariant.pieces, c.requires.before, items) (length-append (each (take i inputs) (input_pieces kit inputs)) (each_from 1 (section_piece kit inputs i (input_at inputs i)) (take k (input_at inputs i).object.sections))) in
    let h = c.requires.input in
    let l : k < length (input_at inputs i).object.sections = rw items at c.loop-k-test.true in
    let said = c.is_kept.ensures kit c.requires.lines in
    let named : c.text-name.result.now ≡ name_at inputs i (suc k) = rw (x, items) at c.text-name.ensures in
    let mark : get_or c.items.result.now (k + 1) false ≡ is_repeated inputs i (suc k) = rw (c.items.ensures, c.requires.removed) (removed_at inputs i k false l) in
    let marked : c.is_kept.result ≡ is_kept kit inputs i (suc k) = rw (items, named, mark) at said in
    elim c.if-is_kept.branch [
      | then-is_kept+in_ok-push-2+in_ok-push-3 w ↦
          let yes = sym marked ∙ w.if-is_kept.true in
          let what = rw items at (w.section_piece.ensures kit (input_at inputs i) c.requires.lines (rw x at c.text-name.ensures)) in
          let len : w.len.result ≡ before kit inputs i k = (let n = w.len.ensures in omega arith) in
          record {
            pieces = rw (w.pieces-is, w.in_ok-push-3.ensures.items, c.loop-k.invariant.pieces, items, piece-kept kit inputs i k h l yes, what, append_assoc) refl;
            table = rw (w.table-is, w.in_ok-push-2.ensures.ok, c.loop-k.invariant.table, items, entry-kept kit inputs i k h l yes, len) refl;
          }
      | else-is_kept+in_ok-push-4 w ↦
          let no = sym marked ∙ w.if-is_kept.false in
          record {
            pieces = rw (w.pieces-is, c.loop-k.invariant.pieces, items, piece-other kit inputs i k h l no) refl;
            table = rw (w.table-is, w.in_ok-push-4.ensures.ok, c.loop-k.invariant.table, items, entry-other kit inputs i k h l no) refl;
          }
    ]

pub returns-clause-pieces : goal.returns-clause-pieces
returns-clause-pieces c =
    let kit = c.args.kit.now in let inputs = c.args.inputs.now in let i = c.args.i in
    let x = c.index-inputs-i.is ∙ get_or_default inputs i _ no_input c.requires.input in
    let items : c.items-section-items.result.now ≡ (input_at inputs i).object.sections = c.items-section-items.ensures ∙ ap (λ (x : Input). x.object.sections) x in
    let whole = each_from_all 1 (section_piece kit inputs i (input_at inputs i)) c.items-section-items.result.now c.loop-k.k c.loop-k-test.false in
    rw (c.loop-k.invariant.pieces, whole, items, c.requires.before) (sym (each_more (input_pieces kit inputs) inputs i no_input c.requires.input))
