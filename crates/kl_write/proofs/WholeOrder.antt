-- An order names each drawn input.
use Rattle.std.proofs.Common.{ℕ, ◌≡◌, List, get_or, subst, arith}
use Rattle.std.specs.List.{range_with_len}
use Rattle.std.proofs.lemmas.List.FromFn.{length-range_with_len, get_or-range_with_len}
use Rattle.std.proofs.lemmas.List.Sorted.{Contains-permutation}
use Rattle.kl_model.specs.Orders.{IsOrder, drawn_count}
use Rattle.kl_model.proofs.Covered.{In, IsWhole}
use Rattle.kl_write.proofs.SoundLaid.{in_get}
use Rattle.kl_model.specs.declared.graph.Graph.{Graph}

pub whole_order : (g : Graph) (order : List ℕ) → IsOrder (drawn_count g.parts) order → IsWhole g order
whole_order g order o j h =
    let n = drawn_count g.parts in
    let long = length-range_with_len 0 n in
    let found : get_or (range_with_len 0 n) j j ≡ j = omega (arith, get_or-range_with_len 0 n j j h) in
    let c = Contains-permutation (range_with_len 0 n) order j o (j, omega (arith, long, h), found) in
    subst (λ k. In k order) c.2 (in_get order c.0 j c.1)
