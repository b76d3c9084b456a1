use Rattle.std.proofs.Common.{◌≡◌, ◌+◌, ◌≤◌, length, drop, map}
use Rattle.std.specs.Prelude.{◌==◌}
use Rattle.kl_model.specs.Kept.{part_number}
use Rattle.kl_model.specs.Lists.{each_from, only_if}
use Rattle.kl_model.specs.Orders.{drawn_count}
use Rattle.kl_model.specs.declared.object.Part.TheVariants.{Drawn}
use Rattle.kl_link.proofs.link.count_drawn.Given as goal

-- those so far and those that are left are all
abbrev pub invariant-loop-input : goal.invariant-loop-input
invariant-loop-input l = record {
  all : l.count + length (each_from l.input-index (λ i x. only_if (part_number x == part_number Drawn) i) (map (λ x. x.place) (drop l.input-index l.inputs)))
      ≡ drawn_count (map (λ x. x.place) l.inputs);
  few : l.count ≤ l.input-index;
}
