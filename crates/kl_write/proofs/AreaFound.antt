-- An area of a class that has an address lies in its class.
use Rattle.std.proofs.Common.{ℕ, ◌≡◌, ◌+◌, ◌^◌, ◌<◌, ◌≤◌, List, [], ◌∷◌, ◌++◌, refl, ap, arith}
use Rattle.std.specs.Prelude.{Some, flat_map}
use Rattle.kl_base.specs.declared.class.Class.{Class}
use Rattle.kl_model.specs.Areas.{class_number}
use Rattle.kl_model.specs.Carries.{InArea}
use Rattle.kl_model.specs.Laid.{AreasStand, IsArea, Stand, area_at, end_of, place_of, reach, start_of}
use Rattle.kl_model.specs.Line.{Spread}
use Rattle.kl_model.specs.Lists.{up}
use Rattle.kl_model.proofs.Covered.{In, here, there, in_flat_map}
use Rattle.kl_write.proofs.Homes.{AllAligned, all-aligned, in_class, ClassStands}
use Rattle.kl_model.proofs.InOrder.{Aligned, area_is, end-reach, le-reach, le-start}
use Rattle.kl_model.specs.declared.place.Body.{Body}
use Rattle.kl_model.specs.declared.place.LinePart.{LinePart}
use Rattle.kl_model.specs.declared.place.Placement.{Placement}
use Rattle.kl_model.specs.declared.graph.Graph.{Graph}

reach-append : (from : ℕ) (xs ys : List LinePart) → reach from (xs ++ ys) ≡ reach (reach from xs) ys
reach-append from [] ys = refl
reach-append from (x ∷ xs) ys = reach-append (up from x.align + x.size) xs ys

pub aligned-of : (s : Spread) (ss : List Spread) → AllAligned ss → In s ss → Aligned s.parts
aligned-of s [] a i = elim i [ ]
aligned-of s (t ∷ ts) a here = a.0
aligned-of s (t ∷ ts) a (there i) = aligned-of s ts a.1 i

-- an area among spreads: where it is laid from, and what it has
pub record Found (p : Placement) (at : Body → ℕ) (from : ℕ) (ss : List Spread) (n : ℕ) (s : Spread) : Type 0 where
  pub begin : ℕ
  pub is : IsArea p n (start_of at begin s.parts) (end_of at begin s.parts)
  pub stand : Stand at begin s.parts
  pub past : from ≤ begin
  pub ends : end_of at begin s.parts ≤ reach from (flat_map (λ x. x.parts) ss)

pub found : (p : Placement) (at : Body → ℕ) (from : ℕ) (ss : List Spread) (n : ℕ) (s : Spread) → AreasStand p at from ss → AllAligned ss → In s ss → s.area ≡ Some n → Found p at from ss n s
found p at from [] n s a b i e = elim i [ ]
found p at from (t ∷ ts) n s a b here e = record {
  begin = from;
  is = rw e at a.1;
  stand = a.0;
  past = omega arith;
  ends = omega (arith, reach-append from s.parts (flat_map (λ x. x.parts) ts), end-reach at from s.parts a.0, le-reach (reach from s.parts) (flat_map (λ x. x.parts) ts) (all-aligned ts b.1));
}
found p at from (t ∷ ts) n s a b (there i) e =
    let more = found p at (end_of at from t.parts) ts n s a.2 b.1 i e in
    let same = end-reach at from t.parts a.0 in
    record {
      begin = more.begin;
      is = more.is;
      stand = more.stand;
      past = omega (arith, more.past, same, le-reach from t.parts b.0);
      ends = omega (arith, more.ends, ap (λ k. reach k (flat_map (λ x. x.parts) ts)) same, reach-append from t.parts (flat_map (λ x. x.parts) ts));
    }

-- where an address lies in an area its first part is there
first_of : (at : Body → ℕ) (from a : ℕ) (xs : List LinePart) → start_of at from xs ≤ a → a < end_of at from xs → (x : LinePart) × In x xs × (start_of at from xs ≡ at x.body)
first_of at from a [] l h = absurd (omega (arith, l, h))
first_of at from a (x ∷ xs) l h = (x, here, refl)

pub area_in_class : (p : Placement) (g : Graph) (c : Class) (from : ℕ) (ss : List Spread) (n a : ℕ) (s : Spread) → AreasStand p (place_of p g) from ss → AllAligned ss
    → ClassStands p g (flat_map (λ x. x.parts) ss) c → In s ss → s.area ≡ Some n → p.base < 2 ^ 64 → p.base ≤ from → reach from (flat_map (λ x. x.parts) ss) < p.base + 2 ^ 64
    → reach from (flat_map (λ x. x.parts) ss) ≡ (area_at p (class_number c)).end → InArea p n a → InArea p (class_number c) a
area_in_class p g c from ss n a s stands all class i e base past limit end w =
    let f = found p (place_of p g) from ss n s stands all i e in
    let own = aligned-of s ss all i in
    let start = le-start (place_of p g) f.begin s.parts own f.stand in
    let stop = end-reach (place_of p g) f.begin s.parts f.stand in
    let both = area_is p n (start_of (place_of p g) f.begin s.parts) (end_of (place_of p g) f.begin s.parts) f.is base
    (omega (arith, start.0, f.past, past)) (omega (arith, start.1, stop)) (omega (arith, f.ends, limit)) in
    let first = first_of (place_of p g) f.begin a s.parts (omega (arith, both.0, w.0)) (omega (arith, both.1, w.1)) in
    let there_too = in_class p g (flat_map (λ x. x.parts) ss) c (all-aligned ss all) class first.0 (in_flat_map (λ x. x.parts) {y = first.0} i first.1) in
    (omega (arith, both.0, w.0, first.2, there_too.0), omega (arith, both.1, w.1, f.ends, end))
