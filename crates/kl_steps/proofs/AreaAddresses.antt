-- The areas of a placement that is laid out start and end at numbers of 64 bits.
use Rattle.std.proofs.Common.{ℕ, ◌+◌, ◌-◌, ◌^◌, ◌<◌, List, [], ◌∷◌, ◌++◌, map, arith, false, inl, inr}
use Rattle.std.specs.Prelude.{All, IfSome, Option, Some, None, unwrap_or, ◌==◌}
use Rattle.std.specs.List.{range_with_len}
use Rattle.std.specs.Option.{option_map_or, option_or}
use Rattle.std.proofs.lemmas.Bool.{cases_Bool}
use Rattle.std.proofs.lemmas.List.Elements.{All-append, All-cons}
use Rattle.kl_base.specs.declared.class.Class.{Class}
use Rattle.kl_base.specs.declared.class.Class.TheVariants.{Text, Rodata, Rwdata, Bss}
use Rattle.kl_model.specs.Laid.{no_area, reach}
use Rattle.kl_model.specs.Line.{Spread, class_line, classes, spreads}
use Rattle.kl_model.specs.Lists.{each_from}
use Rattle.kl_model.specs.Placed.{area_extent, class_extent, class_from, extent, extent_of, placed, spread_extent}
use Rattle.kl_model.specs.declared.area.TheConstants as area
use Rattle.kl_model.specs.declared.graph.Graph.{Graph}
use Rattle.kl_model.specs.declared.kit.Kit.{Kit}
use Rattle.kl_model.specs.declared.place.AreaAt.{AreaAt}
use Rattle.kl_model.specs.declared.place.Gaps.{Gaps}
use Rattle.kl_model.specs.declared.place.LinePart.{LinePart}
use Rattle.kl_model.specs.declared.place.Made.{Made}
use Rattle.kl_model.proofs.Each.{each-all}
use Rattle.kl_write.specs.LaidKits.{HasAreaAddresses}

abbrev IsSmall : AreaAt → Type 0
IsSmall x = (x.start < 2 ^ 64) × (x.end < 2 ^ 64)

small_extent : (from : ℕ) (parts : List LinePart) → IsSmall (extent from parts)
small_extent from parts = (omega arith, omega arith)

small_of : (n from : ℕ) (ss : List Spread) → IfSome (extent_of n from ss) IsSmall
small_of n from [] = tt
small_of n from (s ∷ ss) =
    elim (cases_Bool (option_map_or (λ m. m == n) s.area false)) [
      | inl a ↦ rw a (small_extent from s.parts)
      | inr a ↦ rw a (small_of n (reach from s.parts) ss)
    ]

first_or : (a b : Option AreaAt) → IfSome a IsSmall → IfSome b IsSmall → IfSome (option_or a b) IsSmall
first_or None b h k = k
first_or (Some x) b h k = h

small_or : (a : Option AreaAt) → IfSome a IsSmall → IsSmall (unwrap_or a no_area)
small_or None h = (omega arith, omega arith)
small_or (Some x) h = h

all_map : {X Y : Type 0} (P : Y → Type 0) (f : X → Y) → ((x : X) → P (f x)) → (xs : List X) → All P (map f xs)
all_map P f h [] = λ k d l. absurd (omega arith)
all_map P f h (x ∷ xs) = All-cons P (f x) (map f xs) (h x) (all_map P f h xs)

module _ (kit : Kit) (g : Graph) (gaps : Option Gaps) (order : List ℕ) (made : Made) where
  small_in : (n : ℕ) (c : Class) → IfSome (spread_extent kit g gaps order made n c) IsSmall
  small_in n c = small_of n (class_from kit g gaps order made c) (spreads kit g gaps order made c)

  small_area : (n : ℕ) → IsSmall (area_extent kit g gaps order made n)
  small_area n =
      let last = first_or (spread_extent kit g gaps order made n Rwdata) (spread_extent kit g gaps order made n Bss) (small_in n Rwdata) (small_in n Bss) in
      let rest = first_or (spread_extent kit g gaps order made n Rodata) _ (small_in n Rodata) last in
      small_or _ (first_or (spread_extent kit g gaps order made n Text) _ (small_in n Text) rest)

  abbrev class_extents : List AreaAt
  class_extents = map (class_extent kit g gaps order made) classes

  abbrev named_extents : List AreaAt
  named_extents = map (area_extent kit g gaps order made) (range_with_len area.INIT (area.FIRST_RUN - area.INIT))

  abbrev run_extents : List AreaAt
  run_extents = each_from area.FIRST_RUN (λ n r. area_extent kit g gaps order made n ∷ []) kit.runs

  small_class : (c : Class) → IsSmall (class_extent kit g gaps order made c)
  small_class c = small_extent (class_from kit g gaps order made c) (class_line kit g gaps order made c)

  pub area_addresses : HasAreaAddresses (placed kit g gaps order made)
  area_addresses =
      All-append IsSmall class_extents (named_extents ++ run_extents)
      (all_map IsSmall (class_extent kit g gaps order made) small_class classes)
      (All-append IsSmall named_extents run_extents
      (all_map IsSmall (area_extent kit g gaps order made) small_area (range_with_len area.INIT (area.FIRST_RUN - area.INIT)))
      (each-all IsSmall area.FIRST_RUN (λ n r. area_extent kit g gaps order made n ∷ []) kit.runs
      (λ k d h. All-cons IsSmall (area_extent kit g gaps order made (area.FIRST_RUN + k)) [] (small_area (area.FIRST_RUN + k)) (λ j e m. absurd (omega arith)))))
