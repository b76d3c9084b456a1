-- The stubs by number are the area of stubs.
use Rattle.std.proofs.Common.{ℕ, zero, suc, ◌≡◌, ◌+◌, ◌*◌, ◌<◌, ◌∙◌, List, [], ◌∷◌, filter, get_or, length, map, refl, ap, sym, arith, true, false, inl, inr, nat_eq}
use Rattle.std.specs.Prelude.{All, AllPairs, Some, flat_map, unwrap_or}
use Rattle.std.specs.List.{position_from}
use Rattle.std.proofs.lemmas.Bool.{cases_Bool, eq-eqb}
use Rattle.kl_model.proofs.Covered.{In, here, there}
use Rattle.kl_model.proofs.ListWords.{once-all, once-apart}
use Rattle.kl_model.proofs.StandOnce.{target-refl}
use Rattle.kl_model.specs.Laid.{area_at}
use Rattle.kl_model.specs.Leads.{target_slot, target_stub}
use Rattle.kl_model.specs.Lists.{each, each_from}
use Rattle.kl_model.specs.Slots.{ByStub, Way, Directly, BySlot, Nowhere, name_of, same_target, slots, stubs, takes_slot, takes_stub, way_of}
use Rattle.kl_model.specs.Tables.{stub_code, stubs_bytes}
use Rattle.kl_model.specs.declared.area.TheConstants as area
use Rattle.kl_model.specs.declared.graph.Field.{Field}
use Rattle.kl_model.specs.declared.graph.Graph.{Graph}
use Rattle.kl_model.specs.declared.graph.Target.{Target}
use Rattle.kl_model.specs.declared.graph.Target.TheVariants.{Name, Zero}
use Rattle.kl_model.specs.declared.place.Placement.{Placement}
use Rattle.kl_write.proofs.SlotWords.{position, slot_there}
use Rattle.std.proofs.lemmas.List.Elements.{All-cons}
use Rattle.kl_loading.proofs.FieldReaches.{way_stub}
use Rattle.kl_shared.specs.Stubs.{HasSlot, nth_stub, slot_from}

each_flat : {X Y : Type 0} (f : ℕ → X → List Y) (h : X → List Y) (n : ℕ) (xs : List X) (d : X) → ((k : ℕ) → k < length xs → f (n + k) (get_or xs k d) ≡ h (get_or xs k d)) → each_from n f xs ≡ flat_map h xs
each_flat f h n [] d same = refl
each_flat f h n (x ∷ xs) d same =
    let z : n + 0 ≡ n = omega arith in
    let first : f n x ≡ h x = rw z at (same 0 (omega arith)) in
    rw (first, each_flat f h (suc n) xs d (λ k l. let e : suc n + k ≡ n + suc k = omega arith in rw e (same (suc k) (omega (arith, l))))) refl

-- a slot stands in its table
pub slot_low : (start : ℕ) (slots : List Target) (n : ℕ) → HasSlot slots n → slot_from start slots n < start + 8 * length slots
slot_low start slots n (k, h, e) = let is = ap (λ o. unwrap_or o 0) e in omega (arith, is, h)

-- where names stand once, each stands at its number
place_is : (m : ℕ) (xs : List ℕ) (k : ℕ) → AllPairs (λ x y. nat_eq x y ≡ false) xs → k < length xs → position_from (nat_eq (get_or xs k 0)) m xs ≡ Some (m + k)
place_is m [] k once h = absurd (omega (arith, h))
place_is m (x ∷ xs) zero once h = let z : m + 0 ≡ m = omega arith in rw (eq-eqb x x refl, z) refl
place_is m (x ∷ xs) (suc k) once h =
    let apart : nat_eq x (get_or xs k 0) ≡ false = once 0 (suc k) 0 (omega arith) h in
    let other : nat_eq (get_or xs k 0) x ≡ false = turned x (get_or xs k 0) apart in
    let next : m + 1 + k ≡ m + suc k = omega arith in
    rw other (place_is (m + 1) xs k (λ i j d l q. once (suc i) (suc j) d (omega (arith, l)) (omega (arith, q))) (omega (arith, h)) ∙ ap Some next)
  where
    turned : (a b : ℕ) → nat_eq a b ≡ false → nat_eq b a ≡ false
    turned a b e = elim (cases_Bool (nat_eq b a)) [
      | inr f ↦ f
      | inl f ↦ (let same : a ≡ b = sym (Rattle.std.proofs.lemmas.Bool.eqb-true b a f) in let yes = eq-eqb a b same in let no : true ≡ false = sym yes ∙ e in cc)
    ]

pub stubs_are : (p : Placement) (g : Graph) → each (stubs g) (nth_stub (area_at p area.STUBS).start (area_at p area.GOT).start (slots g)) ≡ stubs_bytes g p
stubs_are p g =
    each_flat (nth_stub (area_at p area.STUBS).start (area_at p area.GOT).start (slots g)) (λ n. stub_code (target_stub p g (Name n)) (target_slot p g (Name n))) 0 (stubs g) 0 (λ k h.
    let z : 0 + k ≡ k = omega arith in
    let place = place_is 0 (stubs g) k (once-apart nat_eq _) h in
    let number : unwrap_or (position_from (nat_eq (get_or (stubs g) k 0)) 0 (stubs g)) 0 ≡ k = ap (λ o. unwrap_or o 0) place ∙ z in
    rw z (ap (λ n. stub_code ((area_at p area.STUBS).start + 16 * n) (target_slot p g (Name (get_or (stubs g) k 0)))) (sym number)))

-- each name of a stub has a slot
by_stub : (w : Way) → takes_stub w ≡ true → w ≡ ByStub
by_stub Directly e = cc
by_stub BySlot e = cc
by_stub ByStub e = refl
by_stub Nowhere e = cc

module _ (g : Graph) where
  name_has : (f : Field) → In f g.fields → takes_stub (way_of f) ≡ true → HasSlot (slots g) (name_of f.target)
  name_has f i e =
      let by = by_stub (way_of f) e in
      let call = way_stub f.kind f.target by in
      let there = slot_there g f i (ap takes_slot by) in
      let at = position f.target 0 (slots g) Zero there (target-refl f.target) in
      let z : 0 + at.0 ≡ at.0 = omega arith in
      let is : f.target ≡ Name (name_of f.target) = call.1 ∙ ap Name (sym (ap name_of call.1)) in
      (at.0, at.1, ap (λ t. position_from (same_target t) 0 (slots g)) (sym is) ∙ (at.2 ∙ ap Some z))

  names_have : (fs : List Field) → ((f : Field) → In f fs → In f g.fields) → All (HasSlot (slots g)) (map (λ (f : Field). name_of f.target) (filter (λ (f : Field). takes_stub (way_of f)) fs))
  names_have [] own = λ k d h. absurd (omega (arith, h))
  names_have (f ∷ fs) own = elim (cases_Bool (takes_stub (way_of f))) [
    | inl e ↦ rw e (All-cons (HasSlot (slots g)) (name_of f.target) _ (name_has f (own f here) e) (names_have fs (λ x i. own x (there i))))
    | inr e ↦ rw e (names_have fs (λ x i. own x (there i)))
  ]

  pub stubs_have : All (HasSlot (slots g)) (stubs g)
  stubs_have = once-all nat_eq (HasSlot (slots g)) _ (names_have g.fields (λ f i. i))
