-- Parts that stand apart in the lines stand apart in any order.
use Rattle.std.proofs.Common.{ℕ, zero, suc, ◌≡◌, ◌%◌, ◌+◌, ◌<◌, ◌≤◌, ◌⊎◌, ◌∙◌, List, [], ◌∷◌, length, get_or, refl, arith, Bool, true, false, ◌&&◌, inl, inr}
use Rattle.std.specs.Prelude.{All, AllPairs, IsPermutation, Option, flat_map, nat_lt}
use Rattle.std.specs.List.{AllByRecursion, IsDistinct}
use Rattle.std.proofs.lemmas.Bool.{cases_Bool, cases_lt, lt-ltb, ltb-true}
use Rattle.std.proofs.lemmas.List.Sorted.{All-permutation, IsPermutation-sym}
use Rattle.std.proofs.lemmas.Map.Keys.{IsDistinct-IsPermutation, apart_from_distinct}
use Rattle.kl_model.specs.Carries.{Apart}
use Rattle.kl_model.specs.Laid.{place_of}
use Rattle.kl_model.specs.Orders.{drawn_count, IsOrder}
use Rattle.kl_model.specs.Line.{class_line, classes, every_part}
use Rattle.kl_model.specs.declared.graph.Graph.{Graph}
use Rattle.kl_model.specs.declared.kit.Kit.{Kit}
use Rattle.kl_model.specs.declared.place.Gaps.{Gaps}
use Rattle.kl_model.specs.declared.place.Made.{Made}
use Rattle.kl_model.specs.declared.place.LinePart.{LinePart}
use Rattle.kl_model.specs.declared.place.Placement.{Placement}
use Rattle.kl_model.specs.Sound.{IsSoundPiece}
use Rattle.kl_layout.proofs.Once.{everything_once}

-- a relation that a test decides, and that goes both ways
module _ {X : Type 0} (R : X → X → Type 0) (e : X → X → Bool) (flips : (x y : X) → e x y ≡ e y x) (to : (x y : X) → R x y → e x y ≡ false) (from : (x y : X) → e x y ≡ false → R x y) where
  distinct : (xs : List X) → AllPairs R xs → IsDistinct e xs
  unfolding IsDistinct
  distinct [] a = tt
  distinct (x ∷ xs) a = (firsts xs (λ j d l. a zero (suc j) d (omega arith) (omega (arith, l))), distinct xs (λ i j d h l. a (suc i) (suc j) d (omega (arith, h)) (omega (arith, l))))
    where
      firsts : (ys : List X) → ((j : ℕ) (d : X) → j < length ys → R x (get_or ys j d)) → AllByRecursion (λ y. e x y ≡ false) ys
      firsts [] b = tt
      firsts (y ∷ ys) b = (to x y (b zero y (omega arith)), firsts ys (λ j d l. b (suc j) d (omega (arith, l))))

  pub pairs-permutation : (xs ys : List X) → IsPermutation xs ys → AllPairs R xs → AllPairs R ys
  pairs-permutation xs ys s a = λ i j d h l. from _ _ (apart_from_distinct e ys i j d (IsDistinct-IsPermutation e flips xs ys s (distinct xs a)) h l)

module _ (at : LinePart → ℕ) where
  abbrev AreClear : LinePart → LinePart → Type 0
  AreClear x y = (at x + x.size ≤ at y) ⊎ (at y + y.size ≤ at x)

  abbrev meet : LinePart → LinePart → Bool
  meet x y = nat_lt (at y) (at x + x.size) && nat_lt (at x) (at y + y.size)

  meet_flips : (x y : LinePart) → meet x y ≡ meet y x
  meet_flips x y = go (nat_lt (at y) (at x + x.size)) (nat_lt (at x) (at y + y.size))
    where
      go : (a b : Bool) → (a && b) ≡ (b && a)
      go true true = refl
      go true false = refl
      go false true = refl
      go false false = refl

  clear_to : (x y : LinePart) → AreClear x y → meet x y ≡ false
  clear_to x y (inl h) = elim (cases_Bool (nat_lt (at y) (at x + x.size))) [
    | inl a ↦ absurd (omega (arith, h, ltb-true (at y) (at x + x.size) a))
    | inr a ↦ rw a refl
  ]
  clear_to x y (inr h) = meet_flips x y ∙ elim (cases_Bool (nat_lt (at x) (at y + y.size))) [
    | inl a ↦ absurd (omega (arith, h, ltb-true (at x) (at y + y.size) a))
    | inr a ↦ rw a refl
  ]

  clear_from : (x y : LinePart) → meet x y ≡ false → AreClear x y
  clear_from x y e = elim (cases_lt (at y) (at x + x.size)) [
    | inr a ↦ inl (omega (arith, a))
    | inl a ↦ elim (cases_lt (at x) (at y + y.size)) [
      | inr b ↦ inr (omega (arith, b))
      | inl b ↦
          let one = lt-ltb (at y) (at x + x.size) a in
          let two = lt-ltb (at x) (at y + y.size) b in
          let bad : true ≡ false = rw (one, two) at e in
          cc
    ]
  ]

module _ (kit : Kit) (g : Graph) (sound : All (IsSoundPiece kit g) g.pieces) (order : List ℕ) (o : IsOrder (drawn_count g.parts) order) (gaps : Option Gaps) (made : Made) (p : Placement) where
  -- what is apart in the lines is apart as a whole
  pub every_apart : Apart p g (flat_map (class_line kit g gaps order made) classes) → Apart p g (every_part g gaps made)
  every_apart a =
      let back = IsPermutation-sym (every_part g gaps made) (flat_map (class_line kit g gaps order made) classes) (everything_once kit g sound order o gaps made) in
      let at = λ (x : LinePart). place_of p g x.body in
      record {
        aligned = All-permutation (λ x. place_of p g x.body % x.align ≡ 0) _ _ back a.aligned;
        apart = pairs-permutation (AreClear at) (meet at) (meet_flips at) (clear_to at) (clear_from at) _ _ back a.apart;
      }
