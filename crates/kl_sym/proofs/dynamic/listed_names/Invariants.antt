use Rattle.std.proofs.Common.{◌≡◌, map, take}
use Rattle.std.specs.Prelude.{All, Some, filter, slice_get}
use Rattle.kl_sym.specs.Linkage.{is_dynamic}
use Rattle.kl_sym.proofs.dynamic.listed_names.Given as goal

abbrev pub invariant-loop-number : goal.invariant-loop-number
invariant-loop-number l = record {
  names : map (λ p. p.0.now) l.listed.items ≡ filter (is_dynamic l.kit l.inputs) (take l.number l.numbering.index);
  numbers : All (λ p. slice_get l.numbering.index p.1 ≡ Some p.0.now) l.listed.items;
}
