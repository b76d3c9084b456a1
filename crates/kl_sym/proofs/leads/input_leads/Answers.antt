use Rattle.std.proofs.Common.{◌≡◌, ◌∙◌, length, get_or, refl, ap, sym, eq-eqb, ne_eqb, arith, rules}
use Rattle.std.proofs.lemmas.List.{get_or_default, map_more}
use Rattle.kl_elf.specs.declared.abi.TheConstants.{STB_LOCAL}
use Rattle.kl_model.specs.Kept.{input_at, no_input, no_symbol}
use Rattle.kl_model.specs.declared.object.Input.{Input}
use Rattle.kl_names.proofs.Steps.{more_none, symbols-small, whole}
use Rattle.kl_sym.specs.Leads.{lead_of, named_target}
use Rattle.kl_sym.proofs.LeadSteps.{next_more, number-leads, value-is, value-there}
use Rattle.kl_sym.proofs.leads.input_leads.Goals as goal
use Rattle.kl_sym.proofs.leads.input_leads.Goals.{then-symbol-eq-STB_LOCAL+in_ok-push, else-symbol-eq-STB_LOCAL+in_ok-push-2}

pub index-number-requires : goal.index-number-requires
index-number-requires c =
    let inputs = c.args.inputs.now in let i = c.args.i in let n = c.loop-symbol.symbol-index in
    let x = get_or_default inputs i c.index-inputs-i.result no_input c.requires.input in
    let symbols : c.items-symbols.result.now ≡ (input_at inputs i).object.symbols = c.items-symbols.ensures ∙ ap (λ (x : Input). x.object.symbols) x in
    let l = rw symbols at c.loop-symbol-test.true in
    let other = ne_eqb _ STB_LOCAL (rw symbols at c.if-symbol-eq-STB_LOCAL.false) in
    let leads = number-leads inputs i n c.requires.input l other _ _ c.requires.numbered 0 in
    let inside = rw (sym c.loop-symbol.invariant.next) at leads.0 in
    search (rules, inside)

pub bounds-targets-number : goal.bounds-targets-number
bounds-targets-number c =
    let kit = c.args.kit.now in let inputs = c.args.inputs.now in let i = c.args.i in let n = c.loop-symbol.symbol-index in
    let x = get_or_default inputs i c.index-inputs-i.result no_input c.requires.input in
    let symbols : c.items-symbols.result.now ≡ (input_at inputs i).object.symbols = c.items-symbols.ensures ∙ ap (λ (x : Input). x.object.symbols) x in
    let l = rw symbols at c.loop-symbol-test.true in
    let other = ne_eqb _ STB_LOCAL (rw symbols at c.if-symbol-eq-STB_LOCAL.false) in
    let there = value-there inputs i n c.requires.input l other _ _ c.requires.numbered (named_target kit inputs) c.index-number.result.now in
    rw (c.requires.targets, c.index-number.ensures, c.loop-symbol.invariant.next) there

pub overflow_add-next : goal.overflow_add-next
overflow_add-next c =
    let inputs = c.args.inputs.now in let i = c.args.i in let n = c.loop-symbol.symbol-index in
    let x = get_or_default inputs i c.index-inputs-i.result no_input c.requires.input in
    let symbols : c.items-symbols.result.now ≡ (input_at inputs i).object.symbols = c.items-symbols.ensures ∙ ap (λ (x : Input). x.object.symbols) x in
    let l = rw symbols at c.loop-symbol-test.true in
    let small = symbols-small inputs i n c.requires.input l c.requires.inputs.symbols in
    let next = c.loop-symbol.invariant.next in
    omega (arith, small, next)

pub loop-symbol-preserved : goal.loop-symbol-preserved
loop-symbol-preserved c =
    let kit = c.args.kit.now in let inputs = c.args.inputs.now in let i = c.args.i in let n = c.loop-symbol.symbol-index in
    let x = get_or_default inputs i c.index-inputs-i.result no_input c.requires.input in
    let symbols : c.items-symbols.result.now ≡ (input_at inputs i).object.symbols = c.items-symbols.ensures ∙ ap (λ (x : Input). x.object.symbols) x in
    let l = rw symbols at c.loop-symbol-test.true in
    let y = get_or (input_at inputs i).object.symbols n no_symbol in
    let before = rw symbols at c.loop-symbol.invariant.leads in
    let more = map_more (lead_of kit inputs i) (input_at inputs i).object.symbols n no_symbol l in
    elim c.if-symbol-eq-STB_LOCAL.branch [
      | then-symbol-eq-STB_LOCAL+in_ok-push w ↦
          let same = eq-eqb _ STB_LOCAL (rw symbols at w.if-symbol-eq-STB_LOCAL.true) in
          let place = rw (symbols, c.requires.table) at w.symbol_place.ensures in
          let lead : w.lead_of_local.result ≡ lead_of kit inputs i y = rw same (w.lead_of_local.ensures ∙ rw place refl) in
          record {
            leads = rw (w.leads-is, w.in_ok-push.ensures.items, before, lead, symbols) (sym more);
            next = w.next-is ∙ (c.loop-symbol.invariant.next ∙ ap length (sym (more_none inputs i n c.requires.input l same)));
          }
      | else-symbol-eq-STB_LOCAL+in_ok-push-2 w ↦
          let other = ne_eqb _ STB_LOCAL (rw symbols at w.if-symbol-eq-STB_LOCAL.false) in
          let d = w.index-number.result.now in
          let value = value-is inputs i n c.requires.input l other _ _ c.requires.numbered (named_target kit inputs) d in
          let number : w.index-number.result.now ≡ get_or c.args.numbering.now.numbers.items c.loop-symbol.next d = w.index-number.ensures in
          let lead : w.lead_of_name.result ≡ lead_of kit inputs i y =
          w.lead_of_name.ensures ∙ rw (c.requires.targets, symbols, other, number, c.loop-symbol.invariant.next, value _) refl in
          record {
            leads = rw (w.leads-is, w.in_ok-push-2.ensures.items, before, lead, symbols) (sym more);
            next = w.next-is ∙ rw c.loop-symbol.invariant.next (sym (next_more inputs i n c.requires.input l other));
          }
    ]

pub returns-clause-next : goal.returns-clause-next
returns-clause-next c =
    let inputs = c.args.inputs.now in let i = c.args.i in let n = c.loop-symbol.symbol-index in
    let x = get_or_default inputs i c.index-inputs-i.result no_input c.requires.input in
    let symbols : c.items-symbols.result.now ≡ (input_at inputs i).object.symbols = c.items-symbols.ensures ∙ ap (λ (x : Input). x.object.symbols) x in
    c.loop-symbol.invariant.next ∙ ap length (whole inputs i n c.requires.input (rw symbols at c.loop-symbol-test.false))
