use Rattle.std.proofs.Common.{ℕ, ◌≡◌, ◌∙◌, List, ap, map, rules}
use Rattle.std.specs.Borrow.{Bor}
use Rattle.std.specs.Prelude.{Some, filter, slice_get}
use Rattle.std.proofs.lemmas.List.Sorted.{All-permutation}
use Rattle.kl_sym.specs.Linkage.{is_dynamic}
use Rattle.kl_sym.proofs.SortedNames.{numbers_lead, sorted_are}
use Rattle.kl_sym.proofs.dynamic.sorted_numbers.Goals as goal

pub returns : goal.returns
returns c =
    let index = c.args.numbering.now.index in
    let p = is_dynamic c.args.kit.now c.args.inputs.now in
    let listed = c.in_ok-listed.listed.items in let sorted = c.sort_unstable.new.self.items in
    let name = λ (p : Bor (List ℕ) × ℕ). p.0.now in
    let number = λ (p : Bor (List ℕ) × ℕ). p.1 in
    let items : c.in_ok-collect.field-0.items ≡ map number sorted = search rules in
    let moved = c.sort_unstable.ensures.permutation in
    let names = sorted_are name number p c.args.inputs.now listed sorted (c.in_ok-listed.ensures.names ∙ ap (filter p) c.requires.numbered.once) moved c.sort_unstable.ensures.sorted in
    let lead = numbers_lead name number index sorted (All-permutation (λ x. slice_get index (number x) ≡ Some (name x)) listed sorted moved c.in_ok-listed.ensures.numbers) in
    ap (map (slice_get index)) items ∙ (lead ∙ ap (map Some) names)
