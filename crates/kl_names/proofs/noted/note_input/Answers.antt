use Rattle.std.proofs.Common.{◌≡◌, ◌∙◌, get_or, ap, sym, eq-eqb, ne_eqb, rules, inl, inr}
use Rattle.std.proofs.lemmas.List.{get_or_default}
use Rattle.std.proofs.lemmas.Result.{err_from_is_err_and}
use Rattle.kl_elf.specs.declared.abi.TheConstants.{STB_LOCAL}
use Rattle.kl_model.specs.Kept.{input_at, no_input, no_symbol}
use Rattle.kl_model.specs.declared.object.Input.{Input}
use Rattle.kl_names.proofs.Steps.{whole, more_none, symbols-small}
use Rattle.kl_names.proofs.NotedSteps.{defines-is, said_so_far, next-inside, place-inside, fact-is, noted-more, is-first}
use Rattle.kl_names.proofs.noted.note_input.Goals as goal
use Rattle.kl_names.proofs.noted.note_input.Goals.{then-symbol-ne-STB_LOCAL+in_ok-facts+in_ok-put_facts, else-symbol-ne-STB_LOCAL}

pub index-place-requires : goal.index-place-requires
index-place-requires c =
    let kit = c.args.kit.now in let inputs = c.args.inputs.now in let i = c.args.i in let n = c.loop-number.number in
    let x = c.index-inputs-i.is ∙ get_or_default inputs i _ no_input c.requires.input in
    let symbols : c.items-symbol-items.result.now ≡ (input_at inputs i).object.symbols = c.items-symbol-items.ensures ∙ ap (λ (x : Input). x.object.symbols) x in
    let l = rw symbols at c.loop-number-test.true in
    let other = ne_eqb _ STB_LOCAL (rw symbols at c.if-symbol-ne-STB_LOCAL.true) in
    let inside = next-inside kit inputs i n c.requires.input l other _ _ c.requires.numbered _ _ _ c.loop-number.invariant in
    search (rules, inside)

pub index-requires : goal.index-requires
index-requires c =
    let kit = c.args.kit.now in let inputs = c.args.inputs.now in let i = c.args.i in let n = c.loop-number.number in
    let x = c.index-inputs-i.is ∙ get_or_default inputs i _ no_input c.requires.input in
    let symbols : c.items-symbol-items.result.now ≡ (input_at inputs i).object.symbols = c.items-symbol-items.ensures ∙ ap (λ (x : Input). x.object.symbols) x in
    let l = rw symbols at c.loop-number-test.true in
    let other = ne_eqb _ STB_LOCAL (rw symbols at c.if-symbol-ne-STB_LOCAL.true) in
    let d = c.index-place.result.now in
    let place : c.index-place.result.now ≡ get_or c.args.numbering.now.numbers.items c.loop-number.walk.next d = c.index-place.ensures in
    let inside = rw (sym place) at (place-inside kit inputs i n c.requires.input l other _ _ c.requires.numbered _ _ _ c.loop-number.invariant d) in
    search (rules, inside)

pub returns-in_err-facts-clause-err : goal.returns-in_err-facts-clause-err
returns-in_err-facts-clause-err c =
    let kit = c.args.kit.now in let inputs = c.args.inputs.now in let i = c.args.i in let n = c.loop-number.number in
    let x = c.index-inputs-i.is ∙ get_or_default inputs i _ no_input c.requires.input in
    let symbols : c.items-symbol-items.result.now ≡ (input_at inputs i).object.symbols = c.items-symbol-items.ensures ∙ ap (λ (x : Input). x.object.symbols) x in
    let l = rw symbols at c.loop-number-test.true in
    let other = ne_eqb _ STB_LOCAL (rw symbols at c.if-symbol-ne-STB_LOCAL.true) in
    let d = c.index-place.result.now in
    let f = c.index.result.now in
    let fact : f ≡ said_so_far kit inputs i n c.requires.input l other _ _ c.requires.numbered _ _ _ c.loop-number.invariant =
    c.index.ensures ∙ (ap (λ k. get_or c.loop-number.walk.facts.items k f) c.index-place.ensures ∙ fact-is kit inputs i n c.requires.input l other _ _ c.requires.numbered _ _ _ c.loop-number.invariant d f) in
    let defines = rw (c.requires.table, symbols) at c.is_definition-defines.ensures ∙ defines-is kit inputs i n (get_or (input_at inputs i).object.symbols n no_symbol) in
    let name = rw (symbols, x) at c.symbol_name-name.ensures in
    let r = err_from_is_err_and c.from_residual.result c.from_residual.ensures.1 in
    let known = rw (symbols, name, fact, defines) at c.in_err-facts.ensures.err in
    rw (r.1, r.2) (elim known [
      | inl a ↦ inl a
      | inr e ↦ inr (is-first kit inputs i n c.requires.input l other _ _ c.requires.numbered _ _ _ c.loop-number.invariant _ e.0 e.1)
    ])

pub put_facts-requires-clause-place : goal.put_facts-requires-clause-place
put_facts-requires-clause-place c =
    let kit = c.args.kit.now in let inputs = c.args.inputs.now in let i = c.args.i in let n = c.loop-number.number in
    let x = c.index-inputs-i.is ∙ get_or_default inputs i _ no_input c.requires.input in
    let symbols : c.items-symbol-items.result.now ≡ (input_at inputs i).object.symbols = c.items-symbol-items.ensures ∙ ap (λ (x : Input). x.object.symbols) x in
    let l = rw symbols at c.loop-number-test.true in
    let other = ne_eqb _ STB_LOCAL (rw symbols at c.if-symbol-ne-STB_LOCAL.true) in
    let d = c.index-place.result.now in
    let place : c.index-place.result.now ≡ get_or c.args.numbering.now.numbers.items c.loop-number.walk.next d = c.index-place.ensures in
    let inside = rw (sym place) at (place-inside kit inputs i n c.requires.input l other _ _ c.requires.numbered _ _ _ c.loop-number.invariant d) in
    search (rules, inside)

pub put_facts-requires-clause-next : goal.put_facts-requires-clause-next
put_facts-requires-clause-next c =
    let inputs = c.args.inputs.now in let i = c.args.i in let n = c.loop-number.number in
    let x = c.index-inputs-i.is ∙ get_or_default inputs i _ no_input c.requires.input in
    let symbols : c.items-symbol-items.result.now ≡ (input_at inputs i).object.symbols = c.items-symbol-items.ensures ∙ ap (λ (x : Input). x.object.symbols) x in
    let l = rw symbols at c.loop-number-test.true in
    rw c.loop-number.invariant.count (symbols-small inputs i n c.requires.input l c.requires.inputs.symbols)

pub loop-number-preserved : goal.loop-number-preserved
loop-number-preserved c =
    let kit = c.args.kit.now in let inputs = c.args.inputs.now in let i = c.args.i in let n = c.loop-number.number in
    let x = c.index-inputs-i.is ∙ get_or_default inputs i _ no_input c.requires.input in
    let symbols : c.items-symbol-items.result.now ≡ (input_at inputs i).object.symbols = c.items-symbol-items.ensures ∙ ap (λ (x : Input). x.object.symbols) x in
    let l = rw symbols at c.loop-number-test.true in
    elim c.if-symbol-ne-STB_LOCAL.branch [
      | then-symbol-ne-STB_LOCAL+in_ok-facts+in_ok-put_facts w ↦
          let other = ne_eqb _ STB_LOCAL (rw symbols at w.if-symbol-ne-STB_LOCAL.true) in
          let d = w.index-place.result.now in
          let f = w.index.result.now in
          let fact : f ≡ said_so_far kit inputs i n c.requires.input l other _ _ c.requires.numbered _ _ _ c.loop-number.invariant =
          w.index.ensures ∙ (ap (λ k. get_or c.loop-number.walk.facts.items k f) w.index-place.ensures ∙ fact-is kit inputs i n c.requires.input l other _ _ c.requires.numbered _ _ _ c.loop-number.invariant d f) in
          let defines = rw (c.requires.table, symbols) at w.is_definition-defines.ensures ∙ defines-is kit inputs i n (get_or (input_at inputs i).object.symbols n no_symbol) in
          let said = rw (symbols, fact, defines) at w.in_ok-facts.ensures.noted in
          let none = rw (symbols, fact, defines) at w.in_ok-facts.ensures.single in
          let old = fact-is kit inputs i n c.requires.input l other _ _ c.requires.numbered _ _ _ c.loop-number.invariant d w.in_ok-facts.facts in
          let turn = noted-more kit inputs i n c.requires.input l other _ _ c.requires.numbered _ _ _ c.loop-number.invariant d none in
          rw (w.walk-is, w.in_ok-put_facts.ensures.facts, w.in_ok-put_facts.ensures.commons, w.in_ok-put_facts.ensures.next, w.index-place.ensures, old, said) turn
      | else-symbol-ne-STB_LOCAL w ↦
          let same = eq-eqb _ STB_LOCAL (rw symbols at w.if-symbol-ne-STB_LOCAL.false) in
          rw (w.walk-is, more_none inputs i n c.requires.input l same) c.loop-number.invariant
    ]

pub returns-clause-noted : goal.returns-clause-noted
returns-clause-noted c =
    let inputs = c.args.inputs.now in let i = c.args.i in
    let x = c.index-inputs-i.is ∙ get_or_default inputs i _ no_input c.requires.input in
    let symbols : c.items-symbol-items.result.now ≡ (input_at inputs i).object.symbols = c.items-symbol-items.ensures ∙ ap (λ (x : Input). x.object.symbols) x in
    rw (sym (whole inputs i c.loop-number.number c.requires.input (rw symbols at c.loop-number-test.false))) c.loop-number.invariant
