use Rattle.std.proofs.Common.{ℕ, ◌≡◌, ◌+◌, ◌∙◌, ◌++◌, ◌∷◌, [], List, length, get_or, map, take, ap, sym, refl, eq-eqb, ne_eqb, arith, rules}
use Rattle.std.specs.Prelude.{None, Option, Some, option_map, slice_get}
use Rattle.std.proofs.lemmas.List.{get_or_default, map-append, map_more}
use Rattle.kl_elf.specs.declared.abi.TheConstants.{STB_LOCAL}
use Rattle.kl_model.specs.Kept.{input_at, no_input, no_symbol}
use Rattle.kl_model.specs.declared.object.Input.{Input}
use Rattle.kl_model.specs.declared.object.Symbol.{Symbol}
use Rattle.kl_names.proofs.Steps.{more_none, occurring_up_to, symbols-small, whole}
use Rattle.kl_sym.specs.Linkage.{outer_name}
use Rattle.kl_sym.proofs.LeadSteps.{next_more, number-leads}
use Rattle.kl_sym.proofs.used.symbol_numbers.Goals as goal
use Rattle.kl_sym.proofs.used.symbol_numbers.Goals.{then-symbol-eq-STB_LOCAL+in_ok-push, else-symbol-eq-STB_LOCAL+in_ok-push-2}

pub index-requires : goal.index-requires
index-requires c =
    let inputs = c.args.inputs.now in let i = c.args.i in let n = c.loop-symbol.symbol-index in
    let x = get_or_default inputs i c.index-inputs-i.result no_input c.requires.input in
    let symbols : c.items-symbols.result.now ≡ (input_at inputs i).object.symbols = c.items-symbols.ensures ∙ ap (λ (x : Input). x.object.symbols) x in
    let l = rw symbols at c.loop-symbol-test.true in
    let other = ne_eqb _ STB_LOCAL (rw symbols at c.if-symbol-eq-STB_LOCAL.false) in
    let leads = number-leads inputs i n c.requires.input l other _ _ c.requires.numbered 0 in
    let inside = rw (sym c.loop-symbol.invariant.next) at leads.0 in
    search (rules, inside)

pub overflow_add-next : goal.overflow_add-next
overflow_add-next c =
    let inputs = c.args.inputs.now in let i = c.args.i in let n = c.loop-symbol.symbol-index in
    let x = get_or_default inputs i c.index-inputs-i.result no_input c.requires.input in
    let symbols : c.items-symbols.result.now ≡ (input_at inputs i).object.symbols = c.items-symbols.ensures ∙ ap (λ (x : Input). x.object.symbols) x in
    let l = rw symbols at c.loop-symbol-test.true in
    let small = symbols-small inputs i n c.requires.input l c.requires.inputs.symbols in
    let next = c.loop-symbol.invariant.next in
    omega (arith, small, next)

pub loop-symbol-preserved : goal.loop-symbol-preserved
loop-symbol-preserved c =
    let inputs = c.args.inputs.now in let i = c.args.i in let n = c.loop-symbol.symbol-index in
    let index = c.args.numbering.now.index in let numbers = c.args.numbering.now.numbers.items in
    let x = get_or_default inputs i c.index-inputs-i.result no_input c.requires.input in
    let symbols : c.items-symbols.result.now ≡ (input_at inputs i).object.symbols = c.items-symbols.ensures ∙ ap (λ (x : Input). x.object.symbols) x in
    let ys = (input_at inputs i).object.symbols in
    let l = rw symbols at c.loop-symbol-test.true in
    let lead = λ (number : Option ℕ). option_map (slice_get index) number in
    let named = λ (y : Symbol). option_map Some (outer_name (input_at inputs i) y) in
    let before : map lead c.loop-symbol.numbers.items ≡ map named (take n ys) = rw symbols at c.loop-symbol.invariant.numbers in
    let more : map named (take (n + 1) ys) ≡ map named (take n ys) ++ named (get_or ys n no_symbol) ∷ [] = map_more named ys n no_symbol l in
    let step = λ (number : Option ℕ). λ (e : lead number ≡ named (get_or ys n no_symbol)).
    map-append lead c.loop-symbol.numbers.items (number ∷ [])
    ∙ (ap (λ (l : List (Option (Option (List ℕ)))). l ++ lead number ∷ []) before ∙ (ap (λ (o : Option (Option (List ℕ))). map named (take n ys) ++ o ∷ []) e ∙ sym more)) in
    elim c.if-symbol-eq-STB_LOCAL.branch [
      | then-symbol-eq-STB_LOCAL+in_ok-push w ↦
          let same = eq-eqb _ STB_LOCAL (rw symbols at w.if-symbol-eq-STB_LOCAL.true) in
          record {
            numbers = rw (w.numbers-is, w.in_ok-push.ensures.items, symbols) (step None (rw same refl));
            next = w.next-is ∙ (c.loop-symbol.invariant.next ∙ ap length (sym (more_none inputs i n c.requires.input l same)));
          }
      | else-symbol-eq-STB_LOCAL+in_ok-push-2 w ↦
          let other = ne_eqb _ STB_LOCAL (rw symbols at w.if-symbol-eq-STB_LOCAL.false) in
          let d = w.index.result.now in
          let number : w.index.result.now ≡ get_or numbers (length (occurring_up_to inputs i n)) d = w.index.ensures ∙ ap (λ n. get_or numbers n d) c.loop-symbol.invariant.next in
          let leads = ap (slice_get index) number ∙ (number-leads inputs i n c.requires.input l other _ _ c.requires.numbered d).1 in
          record {
            numbers = rw (w.numbers-is, w.in_ok-push-2.ensures.items, symbols) (step (Some w.index.result.now) (rw other (ap Some leads)));
            next = w.next-is ∙ rw c.loop-symbol.invariant.next (sym (next_more inputs i n c.requires.input l other));
          }
    ]

pub returns-clause-next : goal.returns-clause-next
returns-clause-next c =
    let inputs = c.args.inputs.now in let i = c.args.i in let n = c.loop-symbol.symbol-index in
    let x = get_or_default inputs i c.index-inputs-i.result no_input c.requires.input in
    let symbols : c.items-symbols.result.now ≡ (input_at inputs i).object.symbols = c.items-symbols.ensures ∙ ap (λ (x : Input). x.object.symbols) x in
    c.loop-symbol.invariant.next ∙ ap length (whole inputs i n c.requires.input (rw symbols at c.loop-symbol-test.false))
