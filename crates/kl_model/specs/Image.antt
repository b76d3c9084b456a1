-- The bytes of an image, place by place: what a linker writes of inputs, a graph and a placement.
use Rattle.std.specs.Prelude.{ℕ, ◌+◌, ◌-◌, ◌*◌, Bool, cond, if◌then◌else◌, not, ◌&&◌, ◌||◌, ◌==◌, nat_lt, nat_le, List, [], ◌∷◌, ◌++◌, map, flat_map, find, length, slice_index, slice_index_or, Option, Some, None}
use Rattle.std.specs.Option.{option_map_or}
use Rattle.std.specs.List.{range_with_len}
use Rattle.kl_base.specs.declared.class.Class.{Class}
use Rattle.kl_base.specs.declared.class.Class.TheVariants.{Text}
use Rattle.kl_elf.specs.declared.records.Phdr.{Phdr}
use Rattle.kl_model.specs.Areas.{class_number, same_class}
use Rattle.kl_model.specs.Line.{classes, every_part}
use Rattle.kl_model.specs.Sizes.{made_of, page_of}
use Rattle.kl_model.specs.Laid.{place_of, area_at}
use Rattle.kl_model.specs.Relocations.{width}
use Rattle.kl_model.specs.Leads.{filed_value}
use Rattle.kl_model.specs.Tables.{made_bytes}
use Rattle.kl_model.specs.Written.{byte_of, ehdr_bytes, phdr_bytes}
use Rattle.kl_model.specs.Carries.{piece_at, content, padding, is_in_file, class_size, segments_for, head_for, offset_for, ends_at}
use Rattle.kl_model.specs.declared.place.Body.{Body}
use Rattle.kl_model.specs.declared.place.Body.TheVariants as body
use Rattle.kl_model.specs.declared.place.LinePart.{LinePart}
use Rattle.kl_model.specs.declared.place.Gaps.{Gaps}
use Rattle.kl_model.specs.declared.place.Placement.{Placement}
use Rattle.kl_model.specs.declared.graph.Field.{Field}
use Rattle.kl_model.specs.declared.graph.Graph.{Graph}
use Rattle.kl_model.specs.declared.object.Input.{Input}
use Rattle.kl_model.specs.declared.kit.Kit.{Kit}
use Rattle.kl_model.specs.declared.area.TheConstants as area

-- x is one of the n numbers from `at` on
abbrev pub is_within : ℕ → ℕ → ℕ → Bool
is_within at n x = nat_le at x && nat_lt x (at + n)

-- the field that has byte k of piece n
abbrev pub field_on : Graph → ℕ → ℕ → Option Field
field_on g n k = find (λ f. (f.piece == n) && is_within f.offset (width f.kind) k) g.fields

module _ (kit : Kit) (inputs : List Input) (g : Graph) (gaps : Option Gaps) (p : Placement) where
  -- byte k of a part: a piece's is its field's, or its input's
  abbrev pub part_byte : Body → ℕ → ℕ
  part_byte (body.Piece n) k = option_map_or (λ f. byte_of (filed_value kit p g f) (k - f.offset)) (field_on g n k) (content inputs (piece_at g n) k)
  part_byte (body.Gap c) k = padding c
  part_byte (body.Area n) k = slice_index (made_bytes kit inputs g p n) k

  -- an address is in an area, and in one that is padded by nops
  abbrev pub is_in_area : ℕ → ℕ → Bool
  is_in_area n a = is_within (area_at p n).start ((area_at p n).end - (area_at p n).start) a

  abbrev pub is_nop : ℕ → Bool
  is_nop a = is_in_area area.INIT a || is_in_area area.FINI a

  -- the padding at an address
  abbrev pub padding_at : Class → ℕ → ℕ
  padding_at c a = if same_class c Text && is_nop a then area.NOP else padding c

  -- the part that has an address, and the byte at an address of a class
  abbrev pub part_on : ℕ → Option LinePart
  part_on a = find (λ x. is_within (place_of p g x.body) x.size a) (every_part g gaps (made_of kit g))

  abbrev pub byte_at : Class → ℕ → ℕ
  byte_at c a = option_map_or (λ x. part_byte x.body (a - place_of p g x.body)) (part_on a) (padding_at c a)

  -- the headers
  abbrev pub phdrs : List Phdr
  phdrs = segments_for kit.kind (page_of kit g) p

  abbrev pub head_bytes : List ℕ
  head_bytes = ehdr_bytes (head_for kit.kind phdrs p g) ++ flat_map phdr_bytes phdrs

  -- the class that has a place of the file
  abbrev pub class_on : ℕ → Option Class
  class_on q = find (λ c. is_in_file c && is_within (offset_for kit.kind p c) (class_size p c) q) classes

  -- The byte of the image at place q: of the headers, or of the class that has the place, or zero.
  abbrev pub image_byte : ℕ → ℕ
  image_byte q = if nat_lt q (length head_bytes) then slice_index head_bytes q
      else option_map_or (λ c. byte_at c ((area_at p (class_number c)).start + (q - offset_for kit.kind p c))) (class_on q) 0

  abbrev pub image_size : ℕ
  image_size = ends_at (length head_bytes) phdrs

  abbrev pub image_bytes : List ℕ
  image_bytes = map image_byte (range_with_len 0 image_size)
