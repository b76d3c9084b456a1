use Rattle.std.proofs.Common.{ℕ, ◌≡◌, List, ◌∙◌, length}
use Rattle.std.specs.List.{range_with_len}
use Rattle.std.proofs.lemmas.List.Sorted.{IsPermutation-refl}
use Rattle.std.proofs.lemmas.List.FromFn.{length-range_with_len}
use Rattle.kl_model.specs.Orders.{IsOrder}
use Rattle.kernel_tests.proofs.kernels.links_three_hundred_objects.Goals as goal

-- the numbers in order are an order
in_order : (n : ℕ) (order : List ℕ) → order ≡ range_with_len 0 n → IsOrder (length order) order
in_order n order e = rw (e, length-range_with_len 0 n) (IsPermutation-refl (range_with_len 0 n))

pub link-requires-clause-order : goal.link-requires-clause-order
link-requires-clause-order g c = in_order 300 _ (c.deref-2.ensures.value ∙ c.in_ok-order.ensures)
