-- The stub of a field's target.
use Rattle.std.proofs.Common.{ℕ, ◌≡◌, ◌+◌, ◌*◌, ◌%◌, ◌^◌, List, [], ◌∷◌, length, map, refl, ap, arith, Bool, true, false, nat_eq, inl, inr}
use Rattle.std.specs.Prelude.{Some, None, AllPairs, is_some, unwrap_or, cond}
use Rattle.std.proofs.lemmas.List.{get_or-map, length-map}
use Rattle.std.specs.List.{position_from}
use Rattle.std.proofs.lemmas.Bool.{cases_Bool}
use Rattle.kl_got.specs.Made.{stub_name}
use Rattle.kl_model.specs.Laid.{area_at}
use Rattle.kl_model.specs.Leads.{led_to, value_target}
use Rattle.kl_model.specs.Relocations.{is_slot_kind}
use Rattle.kl_model.specs.Slots.{Way, Directly, BySlot, ByStub, Nowhere, name_of, same_target, stubs, takes_stub, way, way_of}
use Rattle.kl_model.specs.declared.area.TheConstants as area
use Rattle.kl_model.specs.declared.graph.Field.{Field}
use Rattle.kl_model.specs.declared.graph.Graph.{Graph}
use Rattle.kl_model.specs.declared.graph.Target.{Target}
use Rattle.kl_model.specs.declared.graph.Target.TheVariants.{Place, Abs, Edge, Name, Zero, Gone}
use Rattle.kl_model.specs.declared.place.Placement.{Placement}
use Rattle.kl_write.specs.Values.{stub_address}

position_name : (n k : ℕ) (xs : List ℕ) → position_from (same_target (Name n)) k (map Name xs) ≡ position_from (nat_eq n) k xs
position_name n k [] = refl
position_name n k (x ∷ xs) = elim (cases_Bool (nat_eq n x)) [ inl e ↦ rw e refl | inr e ↦ rw e (position_name n (k + 1) xs) ]

takes : (f : Field) → is_some (stub_name f) ≡ true → takes_stub (way_of f) ≡ true
takes f e = go (takes_stub (way_of f)) (name_of f.target) e
  where
    go : (b : Bool) (n : ℕ) → is_some (cond b (Some n) None) ≡ true → b ≡ true
    go true n e = refl
    go false n e = cc

-- where a stub is taken, the value leads to it
by_kind : (p : Placement) (g : Graph) (kind : ℕ) (t : Target) → takes_stub (way kind t) ≡ true → stub_address p (map Name (stubs g)) t ≡ led_to p g t (way kind t)
by_kind p g kind (Place n k) e = no (is_slot_kind kind) e
  where
    no : (b : Bool) → takes_stub (cond b BySlot Directly) ≡ true → stub_address p (map Name (stubs g)) (Place n k) ≡ led_to p g (Place n k) (cond b BySlot Directly)
    no true e = cc
    no false e = cc
by_kind p g kind (Abs n) e = no (is_slot_kind kind) e
  where
    no : (b : Bool) → takes_stub (cond b BySlot Directly) ≡ true → stub_address p (map Name (stubs g)) (Abs n) ≡ led_to p g (Abs n) (cond b BySlot Directly)
    no true e = cc
    no false e = cc
by_kind p g kind (Edge n x) e = no (is_slot_kind kind) e
  where
    no : (b : Bool) → takes_stub (cond b BySlot Directly) ≡ true → stub_address p (map Name (stubs g)) (Edge n x) ≡ led_to p g (Edge n x) (cond b BySlot Directly)
    no true e = cc
    no false e = cc
by_kind p g kind Zero e = no (is_slot_kind kind) e
  where
    no : (b : Bool) → takes_stub (cond b BySlot Directly) ≡ true → stub_address p (map Name (stubs g)) Zero ≡ led_to p g Zero (cond b BySlot Directly)
    no true e = cc
    no false e = cc
by_kind p g kind Gone e = cc
by_kind p g kind (Name n) e = go (way kind (Name n)) e
  where
    go : (w : Way) → takes_stub w ≡ true → stub_address p (map Name (stubs g)) (Name n) ≡ led_to p g (Name n) w
    go Directly e = cc
    go BySlot e = cc
    go Nowhere e = cc
    go ByStub e = ap (λ o. ((area_at p area.STUBS).start + 16 * unwrap_or o 0) % 2 ^ 64) (position_name n 0 (stubs g))

pub stub_target : (p : Placement) (g : Graph) (f : Field) → is_some (stub_name f) ≡ true → stub_address p (map Name (stubs g)) f.target ≡ value_target p g f
stub_target p g f e = by_kind p g f.kind f.target (takes f e)

-- names that differ are targets that differ
pub names_apart : (xs : List ℕ) → AllPairs (λ x y. same_target (Name x) (Name y) ≡ false) xs → AllPairs (λ x y. same_target x y ≡ false) (map Name xs)
names_apart xs a i j d h l =
    let count : length (map Name xs) ≡ length xs = length-map xs Name in
    let first = get_or-map Name xs i 0 d (omega (arith, h, l, count)) in
    let second = get_or-map Name xs j 0 d (omega (arith, l, count)) in
    rw (first, second) (a i j 0 h (omega (arith, l, count)))
