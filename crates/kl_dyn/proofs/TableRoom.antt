-- The tables of a library stand in the span, and so the strings among them are few.
use Rattle.std.proofs.Common.{ℕ, ◌≡◌, ◌+◌, ◌≤◌, List, [], ap, arith}
use Rattle.std.specs.Prelude.{None}
use Rattle.kl_base.specs.declared.limits.TheConstants.{SPAN_LIMIT}
use Rattle.kl_model.proofs.InOrder.{le-up}
use Rattle.kl_model.specs.Sizes.{made_for, made_of, names_size, strings_size, tables_of}
use Rattle.kl_model.specs.declared.graph.Graph.{Graph}
use Rattle.kl_model.specs.declared.kit.Kit.{Kit}
use Rattle.kl_model.specs.declared.kit.KitKind.TheVariants.{Library}
use Rattle.kl_model.specs.declared.place.Placement.{Placement}
use Rattle.kl_write.proofs.Spans.{tables_room}
use Rattle.kl_write.specs.LaidKits.{HasAreaAddresses, IsLaidKit}

strings_inside : (kit : Kit) (g : Graph) → strings_size kit g ≤ (tables_of kit g).stop
strings_inside kit g = omega (arith, le-up ((tables_of kit g).strings + strings_size kit g) 8 (omega arith))

module _ (kit : Kit) (g : Graph) (order : List ℕ) (p : Placement) (library : kit.kind ≡ Library) (l : IsLaidKit kit g None order p) (numbers : HasAreaAddresses p) where
  pub tables_small : (tables_of kit g).stop ≤ SPAN_LIMIT
  tables_small =
      let size : (made_of kit g).tables ≡ (tables_of kit g).stop = ap (λ k. (made_for k kit g).tables) library in
      let room = tables_room kit [] g None order p l numbers in
      let starts = room.starts in
      let ends = room.ends in
      omega (arith, size, starts, ends)

  pub names_small : names_size g ≤ SPAN_LIMIT
  names_small = omega (arith, strings_inside kit g, tables_small)
