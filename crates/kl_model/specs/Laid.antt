-- Where the parts of a placement stand, and the span.
use Rattle.std.specs.Prelude.{ℕ, ◌+◌, ◌-◌, ◌%◌, ◌^◌, ◌≡◌, cond, if◌then◌else◌, nat_lt, List, [], ◌∷◌, length, slice_get, slice_index_or, Option, Some, IfSome}
use Rattle.kl_model.specs.Lists.{up}
use Rattle.kl_model.specs.Sizes.{page_of, text_from}
use Rattle.kl_model.specs.Line.{Spread, spreads, class_line}
use Rattle.kl_model.specs.Areas.{class_number}
use Rattle.kl_base.specs.declared.class.Class.{Class}
use Rattle.kl_base.specs.declared.class.Class.TheVariants.{Text, Rodata, Rwdata, Bss}
use Rattle.kl_model.specs.declared.place.Body.{Body}
use Rattle.kl_model.specs.declared.place.Body.TheVariants as body
use Rattle.kl_model.specs.declared.place.LinePart.{LinePart}
use Rattle.kl_model.specs.declared.graph.PieceId.TheVariants as id
use Rattle.kl_model.specs.declared.graph.Graph.{Graph}
use Rattle.kl_model.specs.declared.kit.Kit.{Kit}
use Rattle.kl_model.specs.declared.place.Gaps.{Gaps}
use Rattle.kl_model.specs.declared.place.Made.{Made}
use Rattle.kl_model.specs.declared.place.Placed.{Placed}
use Rattle.kl_model.specs.declared.place.AreaAt.{AreaAt}
use Rattle.kl_model.specs.declared.place.Placement.{Placement}
use Rattle.kl_model.specs.declared.area.TheConstants as area

-- what stands past the end of a list
abbrev pub no_placed : Placed
no_placed = record { id = id.Common 0; address = 0; size = 0 }

abbrev pub no_area : AreaAt
no_area = record { start = 0; end = 0 }

-- an address that is kept modulo 2^64, as the number from the base on that it stands for
abbrev pub unwrapped : Placement → ℕ → ℕ
unwrapped p a = if nat_lt a p.base then a + 2 ^ 64 else a

abbrev pub area_at : Placement → ℕ → AreaAt
area_at p n = record {
  start = unwrapped p (slice_index_or p.areas n no_area).start;
  end = unwrapped p (slice_index_or p.areas n no_area).end;
}

-- where a part stands: pieces stand first in a placement's list, by number, then the gaps by class
abbrev pub place_of : Placement → Graph → Body → ℕ
place_of p g (body.Piece n) = unwrapped p (slice_index_or p.pieces n no_placed).address
place_of p g (body.Gap c) = unwrapped p (slice_index_or p.pieces (length g.pieces + class_number c) no_placed).address
place_of p g (body.Area n) = (area_at p n).start

-- parts that stand one after another, each at the least address that its alignment divides at or past the end before it
abbrev pub Stand : (Body → ℕ) → ℕ → List LinePart → Type 0
Stand at from [] = Unit {0}
Stand at from (x ∷ xs) = (at x.body ≡ up from x.align) × Stand at (at x.body + x.size) xs

-- where they start and end: at their first part, or where there is none at the place reached
abbrev pub start_of : (Body → ℕ) → ℕ → List LinePart → ℕ
start_of at from [] = from
start_of at from (x ∷ xs) = at x.body

abbrev pub end_of : (Body → ℕ) → ℕ → List LinePart → ℕ
end_of at from [] = from
end_of at from (x ∷ xs) = end_of at (at x.body + x.size) xs

-- the area of this number has this start and end, each kept modulo 2^64
abbrev pub IsArea : Placement → ℕ → ℕ → ℕ → Type 0
IsArea p n start end = slice_get p.areas n ≡ Some (record { start = start % 2 ^ 64; end = end % 2 ^ 64 })

-- spreads that stand one after another, each area with its start and end
abbrev pub AreasStand : Placement → (Body → ℕ) → ℕ → List Spread → Type 0
AreasStand p at from [] = Unit {0}
AreasStand p at from (s ∷ ss) =
    Stand at from s.parts × IfSome s.area (λ n. IsArea p n (start_of at from s.parts) (end_of at from s.parts))
    × AreasStand p at (end_of at from s.parts) ss

-- a class that is laid from an address on
pub record ClassLaid (p : Placement) (kit : Kit) (g : Graph) (gaps : Option Gaps) (order : List ℕ) (made : Made) (c : Class) (from : ℕ) : Type 0 where
  pub areas : AreasStand p (place_of p g) from (spreads kit g gaps order made c)
  pub class : IsArea p (class_number c) (start_of (place_of p g) from (class_line kit g gaps order made c)) (end_of (place_of p g) from (class_line kit g gaps order made c))

-- where a class ends
abbrev pub class_end : Placement → Class → ℕ
class_end p c = (area_at p (class_number c)).end

-- A placement is laid out: text from the base on, or behind a library's headers, every other class from the next page on, and no
-- other area stands in it.
pub record Laid (p : Placement) (kit : Kit) (g : Graph) (gaps : Option Gaps) (order : List ℕ) (made : Made) : Type 0 where
  pub base : p.base ≡ kit.base
  pub text : ClassLaid p kit g gaps order made Text (text_from kit g)
  pub rodata : ClassLaid p kit g gaps order made Rodata (up (class_end p Text) (page_of kit g))
  pub rwdata : ClassLaid p kit g gaps order made Rwdata (up (class_end p Rodata) (page_of kit g))
  pub bss : ClassLaid p kit g gaps order made Bss (up (class_end p Rwdata) (page_of kit g))
  pub count : length p.areas ≡ area.FIRST_RUN + length kit.runs

-- where parts end that are laid from an address on
abbrev pub reach : ℕ → List LinePart → ℕ
reach from [] = from
reach from (x ∷ xs) = reach (up from x.align + x.size) xs

-- from the base to the end of bss, in bytes
abbrev pub span : Kit → Graph → Option Gaps → List ℕ → Made → ℕ
span kit g gaps order made =
    let text = reach (text_from kit g) (class_line kit g gaps order made Text) in
    let rodata = reach (up text (page_of kit g)) (class_line kit g gaps order made Rodata) in
    let rwdata = reach (up rodata (page_of kit g)) (class_line kit g gaps order made Rwdata) in
    reach (up rwdata (page_of kit g)) (class_line kit g gaps order made Bss) - kit.base
