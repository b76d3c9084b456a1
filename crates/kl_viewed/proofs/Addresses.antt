-- The areas of a placement that is laid out start and end at numbers of 64 bits.
use Rattle.std.proofs.Common.{ℕ, zero, suc, ◌≡◌, ◌+◌, ◌-◌, ◌%◌, ◌^◌, ◌<◌, ◌≤◌, ◌∙◌, List, [], ◌∷◌, length, get_or, refl, sym, subst, arith, Bool, true, false, ◌||◌, inl, inr}
use Rattle.std.specs.Prelude.{All, IfSome, Option, Some, None, slice_get, ◌==◌}
use Rattle.std.specs.List.{list_any}
use Rattle.std.specs.Option.{option_map_or}
use Rattle.std.proofs.lemmas.Bool.{cases_lt, eqb-true}
use Rattle.kl_base.specs.declared.class.Class.{Class}
use Rattle.kl_base.specs.declared.class.Class.TheVariants.{Text, Rodata, Rwdata, Bss}
use Rattle.kl_model.specs.Laid.{AreasStand, IsArea, Laid, end_of, place_of, reach, start_of}
use Rattle.kl_model.specs.Line.{Spread, spreads}
use Rattle.kl_model.specs.Placed.{extent_of}
use Rattle.kl_model.specs.declared.graph.Graph.{Graph}
use Rattle.kl_model.specs.declared.kit.Kit.{Kit}
use Rattle.kl_model.specs.declared.place.AreaAt.{AreaAt}
use Rattle.kl_model.specs.declared.place.Body.{Body}
use Rattle.kl_model.specs.declared.place.Gaps.{Gaps}
use Rattle.kl_model.specs.declared.place.Made.{Made}
use Rattle.kl_model.specs.declared.place.Placement.{Placement}
use Rattle.kl_layout.proofs.OnlyPlaced.{Somewhere, any_extent, has_area, low_somewhere, run_somewhere}
use Rattle.kl_write.specs.LaidKits.{HasAreaAddresses}

abbrev IsSmall : AreaAt → Type 0
IsSmall x = (x.start < 2 ^ 64) × (x.end < 2 ^ 64)

found_or : (xs : List AreaAt) (n : ℕ) (d x : AreaAt) → slice_get xs n ≡ Some x → get_or xs n d ≡ x
found_or [] n d x e = cc
found_or (y ∷ ys) zero d x e = cc
found_or (y ∷ ys) (suc n) d x e = found_or ys n d x e

-- an area is kept modulo 2^64
small_area : (p : Placement) (n start end : ℕ) (d : AreaAt) → IsArea p n start end → IsSmall (get_or p.areas n d)
small_area p n start end d is = subst IsSmall (sym (found_or p.areas n d (record { start = start % 2 ^ 64; end = end % 2 ^ 64 }) is)) (omega arith, omega arith)

-- the area of a number that has an extent among spreads that stand
of_spreads : (p : Placement) (at : Body → ℕ) (n from low : ℕ) (ss : List Spread) (d e : AreaAt) → AreasStand p at from ss → extent_of n low ss ≡ Some e → IsSmall (get_or p.areas n d)
of_spreads p at n from low [] d e a h = cc
of_spreads p at n from low (s ∷ ss) d e a h = go s.area refl a.1 (λ f. of_spreads p at n (end_of at from s.parts) (reach low s.parts) ss d e a.2 f)
  where
    go : (o : Option ℕ) → s.area ≡ o → IfSome o (λ m. IsArea p m (start_of at from s.parts) (end_of at from s.parts))
        → (extent_of n (reach low s.parts) ss ≡ Some e → IsSmall (get_or p.areas n d)) → IsSmall (get_or p.areas n d)
    go None is own more = more (rw is at h)
    go (Some m) is own more = pick (m == n) refl
      where
        pick : (t : Bool) → (m == n) ≡ t → IsSmall (get_or p.areas n d)
        pick true f = subst (λ k. IsSmall (get_or p.areas k d)) (eqb-true m n f) (small_area p m (start_of at from s.parts) (end_of at from s.parts) d own)
        pick false f = more (rw (is, f) at h)

found_in : (p : Placement) (at : Body → ℕ) (n from : ℕ) (ss : List Spread) (d : AreaAt) → AreasStand p at from ss → list_any (has_area n) ss ≡ true → IsSmall (get_or p.areas n d)
found_in p at n from ss d a h = let r = any_extent n from ss h in of_spreads p at n from from ss d r.0 a r.1

module _ (kit : Kit) (g : Graph) (gaps : Option Gaps) (order : List ℕ) (made : Made) (p : Placement) (laid : Laid p kit g gaps order made) where
  in_class : (n : ℕ) (d : AreaAt) (c : Class) → list_any (has_area n) (spreads kit g gaps order made c) ≡ true → IsSmall (get_or p.areas n d)
  in_class n d Text h = found_in p (place_of p g) n _ (spreads kit g gaps order made Text) d laid.text.areas h
  in_class n d Rodata h = found_in p (place_of p g) n _ (spreads kit g gaps order made Rodata) d laid.rodata.areas h
  in_class n d Rwdata h = found_in p (place_of p g) n _ (spreads kit g gaps order made Rwdata) d laid.rwdata.areas h
  in_class n d Bss h = found_in p (place_of p g) n _ (spreads kit g gaps order made Bss) d laid.bss.areas h

  somewhere : (n : ℕ) (d : AreaAt) → Somewhere kit g gaps order made n → IsSmall (get_or p.areas n d)
  somewhere n d s = in_class n d s.0 s.1

  others : (n : ℕ) (d : AreaAt) → 4 ≤ n → n < length p.areas → IsSmall (get_or p.areas n d)
  others n d from l = elim (cases_lt n 15) [
    | inl low ↦ somewhere n d (low_somewhere kit g gaps order made n from low)
    | inr high ↦
        let many = laid.count in
        let same : 15 + (n - 15) ≡ n = omega (arith, high) in
        subst (λ k. IsSmall (get_or p.areas k d)) same (somewhere (15 + (n - 15)) d (run_somewhere kit g gaps order made (n - 15) (omega (arith, many, l, high))))
  ]

  pub area_addresses : HasAreaAddresses p
  area_addresses zero d l = small_area p 0 _ _ d laid.text.class
  area_addresses (suc zero) d l = small_area p 1 _ _ d laid.rodata.class
  area_addresses (suc (suc zero)) d l = small_area p 2 _ _ d laid.rwdata.class
  area_addresses (suc (suc (suc zero))) d l = small_area p 3 _ _ d laid.bss.class
  area_addresses (suc (suc (suc (suc n)))) d l = others (suc (suc (suc (suc n)))) d (omega arith) l
