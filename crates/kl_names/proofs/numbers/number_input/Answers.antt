use Rattle.std.proofs.Common.{◌≡◌, ◌∙◌, get_or, ap, sym, eq-eqb, ne_eqb}
use Rattle.std.proofs.lemmas.List.{get_or_default}
use Rattle.kl_elf.specs.declared.abi.TheConstants.{STB_LOCAL}
use Rattle.kl_model.specs.Kept.{input_at, no_input, no_symbol}
use Rattle.kl_model.specs.declared.object.Input.{Input}
use Rattle.kl_names.specs.Walked.{occurrence}
use Rattle.kl_names.proofs.Steps.{occurring_up_to, whole, more_one, more_none, names-small, numbered_more}
use Rattle.kl_names.proofs.numbers.number_input.Goals as goal
use Rattle.kl_names.proofs.numbers.number_input.Goals.{then-symbol-ne-STB_LOCAL+in_ok-number+in_ok-push, else-symbol-ne-STB_LOCAL}

pub number-requires : goal.number-requires
number-requires c =
    let inputs = c.args.inputs.now in let i = c.args.i in
    let x = c.index-inputs-i.is ∙ get_or_default inputs i _ no_input c.requires.input in
    let symbols : c.items-symbol-items.result.now ≡ (input_at inputs i).object.symbols = c.items-symbol-items.ensures ∙ ap (λ (x : Input). x.object.symbols) x in
    let l = rw symbols at c.loop-symbol-test.true in
    rw c.loop-symbol.invariant.once (names-small inputs i c.loop-symbol.symbol-index c.requires.input l c.requires.inputs.symbols)

pub loop-symbol-preserved : goal.loop-symbol-preserved
loop-symbol-preserved c =
    let inputs = c.args.inputs.now in let i = c.args.i in let n = c.loop-symbol.symbol-index in
    let x = c.index-inputs-i.is ∙ get_or_default inputs i _ no_input c.requires.input in
    let symbols : c.items-symbol-items.result.now ≡ (input_at inputs i).object.symbols = c.items-symbol-items.ensures ∙ ap (λ (x : Input). x.object.symbols) x in
    let l = rw symbols at c.loop-symbol-test.true in
    elim c.if-symbol-ne-STB_LOCAL.branch [
      | then-symbol-ne-STB_LOCAL+in_ok-number+in_ok-push w ↦
          let apart = ne_eqb _ STB_LOCAL (rw symbols at w.if-symbol-ne-STB_LOCAL.true) in
          let name = rw (symbols, x) at w.symbol_name.ensures in
          let more = rw name at w.in_ok-number.ensures.names in
          let number = rw name at w.in_ok-number.ensures.number in
          rw (w.numbering-is, w.in_ok-push.ensures.items, more_one inputs i n c.requires.input l apart)
          (numbered_more (occurring_up_to inputs i n) (occurrence i (input_at inputs i) n (get_or (input_at inputs i).object.symbols n no_symbol)) _ _ _ _ c.loop-symbol.invariant more number)
      | else-symbol-ne-STB_LOCAL w ↦
          let same = eq-eqb _ STB_LOCAL (rw symbols at w.if-symbol-ne-STB_LOCAL.false) in
          rw (w.numbering-is, more_none inputs i n c.requires.input l same) c.loop-symbol.invariant
    ]

pub returns : goal.returns
returns c =
    let inputs = c.args.inputs.now in let i = c.args.i in
    let x = c.index-inputs-i.is ∙ get_or_default inputs i _ no_input c.requires.input in
    let symbols : c.items-symbol-items.result.now ≡ (input_at inputs i).object.symbols = c.items-symbol-items.ensures ∙ ap (λ (x : Input). x.object.symbols) x in
    rw (sym (whole inputs i c.loop-symbol.symbol-index c.requires.input (rw symbols at c.loop-symbol-test.false))) c.loop-symbol.invariant
