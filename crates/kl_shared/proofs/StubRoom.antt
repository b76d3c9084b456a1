-- The areas of stubs and slots of a library stand in the span.
use Rattle.std.proofs.Common.{ℕ, ◌≡◌, ◌+◌, ◌*◌, ◌<◌, ◌≤◌, ◌∙◌, List, [], get_or, length, refl, ap, sym, arith, false, nat_lt}
use Rattle.std.specs.Prelude.{None}
use Rattle.std.proofs.lemmas.Bool.{le-ltb}
use Rattle.std.proofs.lemmas.List.{get_or_default}
use Rattle.kl_base.specs.declared.limits.TheConstants.{SPAN_LIMIT}
use Rattle.kl_model.specs.Laid.{area_at, no_area}
use Rattle.kl_model.specs.Sizes.{made_for, made_of}
use Rattle.kl_model.specs.Slots.{slots, stubs}
use Rattle.kl_model.specs.declared.graph.Graph.{Graph}
use Rattle.kl_model.specs.declared.kit.Kit.{Kit}
use Rattle.kl_model.specs.declared.kit.KitKind.TheVariants.{Library}
use Rattle.kl_model.specs.declared.place.AreaAt.{AreaAt}
use Rattle.kl_model.specs.declared.place.Placement.{Placement}
use Rattle.kl_write.proofs.Places.{zero_area}
use Rattle.kl_write.proofs.Spans.{got_room, stubs_room}
use Rattle.kl_write.specs.LaidKits.{HasAreaAddresses, IsLaidKit}

module _ (kit : Kit) (g : Graph) (order : List ℕ) (p : Placement) (library : kit.kind ≡ Library) (l : IsLaidKit kit g None order p) (numbers : HasAreaAddresses p) where
  zero : p.base ≡ 0
  zero = l.laid.base ∙ l.origin library

  -- where an area starts, as the code reads it
  pub area_start : (n : ℕ) → n < 15 → {areas : List AreaAt} → areas ≡ p.areas → (get_or areas n zero_area).start ≡ (area_at p n).start
  area_start n h {areas} is =
      let count = l.laid.count in
      let same : get_or areas n zero_area ≡ get_or p.areas n no_area = rw is (get_or_default p.areas n zero_area no_area (omega (arith, count, h))) in
      let plain : nat_lt (get_or p.areas n no_area).start p.base ≡ false = le-ltb (get_or p.areas n no_area).start p.base (omega (arith, zero)) in
      ap (λ (a : AreaAt). a.start) same ∙ sym (rw plain refl)

  pub stubs_end : (area_at p 6).start + 16 * length (stubs g) ≤ SPAN_LIMIT
  stubs_end =
      let size : (made_of kit g).stubs ≡ 16 * length (stubs g) = ap (λ k. (made_for k kit g).stubs) library in
      let room = (stubs_room kit [] g None order p l numbers).ends in
      omega (arith, size, room, zero)

  pub got_ends : (area_at p 13).start + 8 * length (slots g) ≤ SPAN_LIMIT
  got_ends =
      let size : (made_of kit g).got ≡ 8 * length (slots g) = ap (λ k. (made_for k kit g).got) library in
      let room = (got_room kit [] g None order p l numbers).ends in
      omega (arith, size, room, zero)
