-- The classes of a laid placement stand one behind another.
use Rattle.std.proofs.Common.{ℕ, zero, suc, ◌≡◌, ◌+◌, ◌-◌, ◌%◌, ◌^◌, ◌<◌, ◌≤◌, ◌∙◌, List, [], ◌∷◌, ◌++◌, get_or, refl, ap, arith, Option}
use Rattle.std.specs.Prelude.{Some, slice_get, flat_map, fold, max}
use Rattle.std.proofs.Math.Nat.{lt-div-mul-add, le-max_left}
use Rattle.kl_model.specs.Areas.{class_number}
use Rattle.kl_model.specs.Line.{class_line, Spread, spreads}
use Rattle.kl_base.specs.declared.limits.TheConstants.{BASE_LIMIT, PAGE, SPAN_LIMIT}
use Rattle.kl_model.specs.declared.place.Made.{Made}
use Rattle.kl_model.specs.Sizes.{page_for, page_of, text_from, text_from_for}
use Rattle.kl_model.specs.declared.kit.KitKind.{KitKind}
use Rattle.kl_model.specs.declared.kit.KitKind.TheVariants.{Kernel, Library}
use Rattle.kl_model.specs.declared.graph.Piece.{Piece}
use Rattle.kl_model.specs.Lists.{up}
use Rattle.kl_model.specs.Laid.{area_at, no_area, place_of, Stand, start_of, end_of, IsArea, AreasStand, Laid, ClassLaid, reach, span}
use Rattle.kl_model.proofs.Addresses.{unwrapped-mod}
use Rattle.kl_model.proofs.ClassMemory.{InOrder}
use Rattle.kl_base.specs.declared.class.Class.{Class}
use Rattle.kl_base.specs.declared.class.Class.TheVariants.{Text, Rodata, Rwdata, Bss}
use Rattle.kl_model.specs.declared.place.Body.{Body}
use Rattle.kl_model.specs.declared.place.LinePart.{LinePart}
use Rattle.kl_model.specs.declared.place.AreaAt.{AreaAt}
use Rattle.kl_model.specs.declared.place.Placement.{Placement}
use Rattle.kl_model.specs.declared.place.Gaps.{Gaps}
use Rattle.kl_model.specs.declared.graph.Graph.{Graph}
use Rattle.kl_model.specs.declared.kit.Kit.{Kit}

-- each part has an alignment
abbrev pub Aligned : List LinePart → Type 0
Aligned [] = Unit {0}
Aligned (x ∷ xs) = (0 < x.align) × Aligned xs

pub le-up : (a n : ℕ) → 0 < n → a ≤ up a n
le-up a n h = omega (arith, lt-div-mul-add {a = a + n - 1} {b = n} h)

pub le-reach : (from : ℕ) (parts : List LinePart) → Aligned parts → from ≤ reach from parts
le-reach from [] a = omega arith
le-reach from (x ∷ xs) a = omega (arith, le-up from x.align a.0, le-reach (up from x.align + x.size) xs a.1)

pub end-reach : (at : Body → ℕ) (from : ℕ) (parts : List LinePart) → Stand at from parts → end_of at from parts ≡ reach from parts
end-reach at from [] s = refl
end-reach at from (x ∷ xs) s = end-reach at (at x.body + x.size) xs s.1 ∙ ap (λ n. reach (n + x.size) xs) s.0

pub le-start : (at : Body → ℕ) (from : ℕ) (parts : List LinePart) → Aligned parts → Stand at from parts → (from ≤ start_of at from parts) × (start_of at from parts ≤ reach from parts)
le-start at from [] a s = (omega arith, omega arith)
le-start at from (x ∷ xs) a s =
    (omega (arith, le-up from x.align a.0, s.0), omega (arith, le-reach (up from x.align + x.size) xs a.1, s.0))

pub get_found : (xs : List AreaAt) (n : ℕ) (x : AreaAt) → slice_get xs n ≡ Some x → get_or xs n no_area ≡ x
get_found [] n x e = cc
get_found (y ∷ ys) zero x e = cc
get_found (y ∷ ys) (suc n) x e = get_found ys n x e

-- what an area's start and end are
pub area_is : (p : Placement) (n s e : ℕ) → IsArea p n s e → p.base < 2 ^ 64 → p.base ≤ s → s ≤ e → e < p.base + 2 ^ 64
    → ((area_at p n).start ≡ s) × ((area_at p n).end ≡ e)
area_is p n s e i b l m h =
    let found = get_found p.areas n (record { start = s % 2 ^ 64; end = e % 2 ^ 64 }) i in
    (rw found (unwrapped-mod p s b l (omega arith)), rw found (unwrapped-mod p e b (omega arith) h))

stand-append : (at : Body → ℕ) (from : ℕ) (xs ys : List LinePart) → Stand at from xs → Stand at (end_of at from xs) ys → Stand at from (xs ++ ys)
stand-append at from [] ys s t = t
stand-append at from (x ∷ xs) ys s t = (s.0, stand-append at (at x.body + x.size) xs ys s.1 t)

-- the parts of areas that stand so stand so
pub areas-stand : (p : Placement) (at : Body → ℕ) (from : ℕ) (ss : List Spread) → AreasStand p at from ss → Stand at from (flat_map (λ s. s.parts) ss)
areas-stand p at from [] a = tt
areas-stand p at from (s ∷ ss) a = stand-append at from s.parts (flat_map (λ x. x.parts) ss) a.0 (areas-stand p at (end_of at from s.parts) ss a.2)

-- a class that is laid from an address on
pub record IsLaidFrom (p : Placement) (kit : Kit) (g : Graph) (gaps : Option Gaps) (order : List ℕ) (made : Made) (c : Class) (from : ℕ) : Type 0 where
  pub start : from ≤ (area_at p (class_number c)).start
  pub ordered : (area_at p (class_number c)).start ≤ (area_at p (class_number c)).end
  pub ends : (area_at p (class_number c)).end ≡ reach from (class_line kit g gaps order made c)

pub class_is : (p : Placement) (kit : Kit) (g : Graph) (gaps : Option Gaps) (order : List ℕ) (made : Made) (c : Class) (from : ℕ) → ClassLaid p kit g gaps order made c from
    → Aligned (class_line kit g gaps order made c) → p.base < 2 ^ 64 → p.base ≤ from → reach from (class_line kit g gaps order made c) < p.base + 2 ^ 64 → IsLaidFrom p kit g gaps order made c from
class_is p kit g gaps order made c from l a b f h =
    let stand = areas-stand p (place_of p g) from (spreads kit g gaps order made c) l.areas in
    let s = le-start (place_of p g) from (class_line kit g gaps order made c) a stand in
    let e = end-reach (place_of p g) from (class_line kit g gaps order made c) stand in
    let both = area_is p (class_number c) (start_of (place_of p g) from (class_line kit g gaps order made c)) (end_of (place_of p g) from (class_line kit g gaps order made c)) l.class b
    (omega (arith, s.0)) (omega (arith, s.1, e)) (omega (arith, e)) in
    record { start = omega (arith, both.0, s.0); ordered = omega (arith, both.0, both.1, s.1, e); ends = both.1 ∙ e }

le-fold : (n : ℕ) (xs : List Piece) → n ≤ fold (λ n x. max n x.align) n xs
le-fold n [] = omega arith
le-fold n (x ∷ xs) = omega (arith, le-max_left n x.align, le-fold (max n x.align) xs)

-- a page has a byte, and text isn't laid before the base
pub page-pos : (kit : Kit) (g : Graph) → 0 < page_of kit g
page-pos kit g = go kit.kind
  where
    go : (k : KitKind) → 0 < page_for k g
    go Kernel = omega arith
    go Library = omega (arith, le-fold PAGE g.pieces)

pub base-le : (kit : Kit) (g : Graph) → kit.base ≤ text_from kit g
base-le kit g = go kit.kind
  where
    go : (k : KitKind) → kit.base ≤ text_from_for k kit.base g
    go Kernel = omega arith
    go Library = omega arith

-- the classes of a laid placement are in order
pub laid_in_order : (p : Placement) (kit : Kit) (g : Graph) (gaps : Option Gaps) (order : List ℕ) (made : Made) → Laid p kit g gaps order made → span kit g gaps order made ≤ SPAN_LIMIT
    → kit.base ≤ BASE_LIMIT → ((c : Class) → Aligned (class_line kit g gaps order made c)) → InOrder p
laid_in_order p kit g gaps order made l small limit a =
    let base = l.base in
    let n = page_of kit g in
    let pos : 0 < n = page-pos kit g in
    let from = text_from kit g in
    let past : kit.base ≤ from = base-le kit g in
    let t = reach from (class_line kit g gaps order made Text) in
    let r = reach (up t n) (class_line kit g gaps order made Rodata) in
    let w = reach (up r n) (class_line kit g gaps order made Rwdata) in
    let z = reach (up w n) (class_line kit g gaps order made Bss) in
    let lt : from ≤ t = le-reach from (class_line kit g gaps order made Text) (a Text) in
    let lr : up t n ≤ r = le-reach (up t n) (class_line kit g gaps order made Rodata) (a Rodata) in
    let lw : up r n ≤ w = le-reach (up r n) (class_line kit g gaps order made Rwdata) (a Rwdata) in
    let lz : up w n ≤ z = le-reach (up w n) (class_line kit g gaps order made Bss) (a Bss) in
    let ut : t ≤ up t n = le-up t n pos in
    let ur : r ≤ up r n = le-up r n pos in
    let uw : w ≤ up w n = le-up w n pos in
    let whole : z ≤ kit.base + SPAN_LIMIT = omega (arith, small) in
    let text = class_is p kit g gaps order made Text from l.text (a Text) (omega arith) (omega arith) (omega arith) in
    let rodata = class_is p kit g gaps order made Rodata (up t n) (rw text.ends at l.rodata) (a Rodata) (omega arith) (omega arith) (omega arith) in
    let rwdata = class_is p kit g gaps order made Rwdata (up r n) (rw rodata.ends at l.rwdata) (a Rwdata) (omega arith) (omega arith) (omega arith) in
    let bss = class_is p kit g gaps order made Bss (up w n) (rw rwdata.ends at l.bss) (a Bss) (omega arith) (omega arith) (omega arith) in
    record {
      base = omega (arith, text.start, past);
      text = text.ordered;
      rodata_from = omega (arith, rodata.start, text.ends);
      rodata = rodata.ordered;
      rwdata_from = omega (arith, rwdata.start, rodata.ends);
      rwdata = rwdata.ordered;
      bss_from = omega (arith, bss.start, rwdata.ends);
      bss = bss.ordered;
    }
