use Rattle.std.proofs.Common.{◌≡◌, ◌<◌, ◌∙◌, ℕ, [], List, length, get_or, map, ap, sym, rules}
use Rattle.std.specs.Prelude.{replicate, ◌==◌}
use Rattle.std.proofs.lemmas.List.{get_or_default, length-map}
use Rattle.kl_model.specs.Names.{Occurrence, occurrences}
use Rattle.kl_names.specs.Numbers.{place_in}
use Rattle.kl_names.proofs.NameLists.{number_leads}
use Rattle.kl_names.proofs.NotedSteps.{AreOnce, are-once, get-inside}
use Rattle.kl_sym.proofs.DynamicSteps.{empty-is, exported-all, exported-more, exported-none, exported-same, exported_by}
use Rattle.kl_sym.proofs.linkage.exportable_names.Goals as goal
use Rattle.kl_sym.proofs.linkage.exportable_names.Goals.{in-Some, in_default}

pub loop-line-init : goal.loop-line-init
loop-line-init c =
    let many = sym (length-map c.names.result.now (λ k. k.now)) ∙ ap length c.names.ensures in
    let items : c.in_ok-marks.marks.items ≡ replicate (length c.names.result.now) c.is_empty.result = search rules in
    let empty = c.is_empty.ensures ∙ (ap (λ (l : List (List ℕ)). length l == 0) c.items-lines.ensures ∙ empty-is c.args.kit.now.exports) in
    items ∙ (ap (λ n. replicate n c.is_empty.result) many ∙ (ap (replicate (length c.args.numbering.now.index)) empty ∙ exported-none c.args.kit.now.exports c.args.numbering.now.index))

pub index_mut-requires : goal.index_mut-requires
index_mut-requires c =
    let index = c.args.numbering.now.index in
    let at = number_leads index _ c.in-Some.number (sym c.in-Some.ensures) in
    let inside : c.in-Some.number < length c.loop-line.marks.items =
    rw c.loop-line.invariant (get-inside (exported_by c.args.kit.now.exports c.loop-line.line-index) index c.in-Some.number _ at) in
    search (rules, inside)

pub loop-line-preserved : goal.loop-line-preserved
loop-line-preserved c =
    let index = c.args.numbering.now.index in let exports = c.args.kit.now.exports in let k = c.loop-line.line-index in
    let h = rw c.items-lines.ensures at c.loop-line-test.true in
    let item : c.line-item.result ≡ get_or exports k [] =
    c.line-item.is ∙ (ap (λ (l : List (List ℕ)). get_or l k c.line-item.result) c.items-lines.ensures ∙ get_or_default exports k c.line-item.result [] h) in
    let word = c.items.ensures.items ∙ item in
    let once : AreOnce index = rw c.requires.numbered.once (are-once (map (λ (o : Occurrence). o.name) (occurrences c.args.inputs.now))) in
    elim c.match-find.branch [
      | in-Some w ↦
          let at = number_leads index (get_or exports k []) w.in-Some.number (ap (place_in index) (sym word) ∙ sym w.in-Some.ensures) in
          rw (w.marks-is, c.loop-line.invariant) (exported-more exports k [] h index w.in-Some.number once at)
      | in_default w ↦ rw (w.marks-is, c.loop-line.invariant) (exported-same exports k [] h index (ap (place_in index) (sym word) ∙ sym w.in_default.ensures))
    ]

pub returns : goal.returns
returns c =
    c.loop-line.invariant ∙ exported-all c.args.kit.now.exports c.args.numbering.now.index c.loop-line.line-index (rw c.items-lines.ensures at c.loop-line-test.false)
