use Rattle.std.proofs.Common.{◌≡◌, length, map, take}
use Rattle.std.specs.Prelude.{Some, option_map, slice_get}
use Rattle.kl_model.specs.Kept.{input_at}
use Rattle.kl_names.proofs.Steps.{occurring_up_to}
use Rattle.kl_sym.specs.Linkage.{outer_name}
use Rattle.kl_sym.proofs.used.symbol_numbers.Given as goal

abbrev pub invariant-loop-symbol : goal.invariant-loop-symbol
invariant-loop-symbol l = record {
  numbers : map (option_map (slice_get l.numbering.index)) l.numbers.items
      ≡ map (λ y. option_map Some (outer_name (input_at l.inputs l.i) y)) (take l.symbol-index l.symbols);
  next : l.next ≡ length (occurring_up_to l.inputs l.i l.symbol-index);
}
