-- What a seed draws for a kit.
use Rattle.std.specs.Prelude.{ℕ, List, codes, map, Option, Some, None}
use Rattle.kl_draw.specs.Drawn.{gaps_from, order_from, sub_seed}
use Rattle.kl_model.specs.Orders.{drawn_count}
use Rattle.kl_model.specs.declared.kit.Kit.{Kit}
use Rattle.kl_model.specs.declared.kit.KitKind.{KitKind}
use Rattle.kl_model.specs.declared.kit.KitKind.TheVariants.{Kernel, Library}
use Rattle.kl_model.specs.declared.object.Input.{Input}
use Rattle.kl_model.specs.declared.place.Gaps.{Gaps}

-- THE DRAWN ORDER of a kit's drawn inputs, under the name of its output
abbrev pub order_of : List ℕ → Kit → List Input → List ℕ
order_of seed kit inputs = order_from (sub_seed seed kit.output (codes "order")) (drawn_count (map (λ x. x.place) inputs))

-- THE DRAWN GAPS of a kernel; a library has none
abbrev pub gaps_for : KitKind → List ℕ → Option Gaps
gaps_for Kernel sub = Some (gaps_from sub)
gaps_for Library sub = None

abbrev pub gaps_of : List ℕ → Kit → Option Gaps
gaps_of seed kit = gaps_for kit.kind (sub_seed seed kit.output (codes "gaps"))
