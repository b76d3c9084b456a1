-- A kit that is laid out, and what is known of the bytes that are made of it.
use Rattle.std.specs.Prelude.{ℕ, ◌<◌, ◌≤◌, ◌+◌, ◌%◌, ◌^◌, ◌≡◌, List, [], ◌++◌, flat_map, length, Option, All}
use Rattle.kl_base.specs.declared.limits.TheConstants.{BASE_LIMIT, SPAN_LIMIT}
use Rattle.kl_model.specs.Carries.{Apart, CarriesGraph, Contents, File, LibraryMade, NamesPieces, Padded, head_for, segments_for}
use Rattle.kl_model.specs.Faults.{range_faults}
use Rattle.kl_model.specs.Image.{image_bytes}
use Rattle.kl_model.specs.Laid.{Laid, place_of, span}
use Rattle.kl_model.specs.Leads.{filed_value}
use Rattle.kl_model.specs.Line.{class_line, every_part}
use Rattle.kl_model.specs.Memory.{mem, num_in}
use Rattle.kl_model.specs.Orders.{IsOrder, drawn_count}
use Rattle.kl_model.specs.Relocations.{width}
use Rattle.kl_model.specs.Sizes.{made_of, page_of}
use Rattle.kl_model.specs.Sound.{HasSource, IsSoundGraph}
use Rattle.kl_model.specs.Tables.{made_bytes}
use Rattle.kl_model.specs.Written.{ehdr_bytes, phdr_bytes}
use Rattle.kl_model.specs.declared.area.TheConstants as area
use Rattle.kl_model.specs.declared.graph.Graph.{Graph}
use Rattle.kl_model.specs.declared.kit.Kit.{Kit}
use Rattle.kl_model.specs.declared.kit.KitKind.TheVariants.{Kernel, Library}
use Rattle.kl_model.specs.declared.object.Input.{Input}
use Rattle.kl_model.specs.declared.place.Body.TheVariants as body
use Rattle.kl_model.specs.declared.place.Gaps.{Gaps}
use Rattle.kl_model.specs.declared.place.Placement.{Placement}

-- a placement of a kit's sound graph, which is laid out under an order of the drawn inputs and spans no more than the limit; a
-- library's base is 0
pub record IsLaidKit (kit : Kit) (g : Graph) (gaps : Option Gaps) (order : List ℕ) (p : Placement) : Type 0 where
  pub base : kit.base ≤ BASE_LIMIT
  pub origin : kit.kind ≡ Library → kit.base ≡ 0
  pub sound : IsSoundGraph kit g
  pub whole : IsOrder (drawn_count g.parts) order
  pub laid : Laid p kit g gaps order (made_of kit g)
  pub names : NamesPieces p g gaps
  pub small : span kit g gaps order (made_of kit g) ≤ SPAN_LIMIT

-- the areas of a placement start and end at numbers of 64 bits
abbrev pub HasAreaAddresses : Placement → Type 0
HasAreaAddresses p = All (λ x. (x.start < 2 ^ 64) × (x.end < 2 ^ 64)) p.areas

-- the bytes of each piece that has some stand in the file of its input
abbrev pub HaveSources : List Input → Graph → Type 0
HaveSources inputs g = All (λ x. 0 < x.bytes.len → HasSource inputs x.bytes x.id) g.pieces

-- each made area has as many bytes as it is laid out with
pub record HasMadeBytes (kit : Kit) (inputs : List Input) (g : Graph) (p : Placement) : Type 0 where
  pub stubs : length (made_bytes kit inputs g p area.STUBS) ≡ (made_of kit g).stubs
  pub tables : length (made_bytes kit inputs g p area.TABLES) ≡ (made_of kit g).tables
  pub got : length (made_bytes kit inputs g p area.GOT) ≡ (made_of kit g).got
  pub dynamic : length (made_bytes kit inputs g p area.DYNAMIC) ≡ (made_of kit g).dynamic

-- the bytes of an image's headers
abbrev pub image_headers : Kit → Placement → Graph → List ℕ
image_headers kit p g =
    let phdrs = segments_for kit.kind (page_of kit g) p in
    ehdr_bytes (head_for kit.kind phdrs p g) ++ flat_map phdr_bytes phdrs

-- The bytes that `image_byte` gives for each place carry a kernel's graph, where each field's value is in range.
abbrev pub ImageCarries : Type 0
ImageCarries =
    (kit : Kit) (inputs : List Input) (g : Graph) (gaps : Option Gaps) (order : List ℕ) (p : Placement)
    → kit.kind ≡ Kernel → IsLaidKit kit g gaps order p → HasAreaAddresses p → range_faults p g ≡ []
    → CarriesGraph (image_bytes kit inputs g gaps p) p kit inputs g gaps order

-- what the file of a library holds: all that it is asked of it before a loader comes
pub record LibraryHolds (img : List ℕ) (p : Placement) (kit : Kit) (inputs : List Input) (g : Graph) (gaps : Option Gaps) (order : List ℕ) : Type 0 where
  pub apart : Apart p g (every_part g gaps (made_of kit g))
  pub contents : Contents img p inputs g gaps
  pub fields : All (λ f. num_in (mem img) (place_of p g (body.Piece f.piece) + f.offset) (width f.kind) ≡ filed_value kit p g f % 256 ^ width f.kind) g.fields
  pub made : LibraryMade img p kit inputs g
  pub padded : Padded img p g (class_line kit g gaps order (made_of kit g))
  pub file : File img (head_for kit.kind (segments_for kit.kind (page_of kit g) p) p g) (segments_for kit.kind (page_of kit g) p)

-- The bytes that `image_byte` gives for each place are those of a library's file.
abbrev pub ImageHolds : Type 0
ImageHolds =
    (kit : Kit) (inputs : List Input) (g : Graph) (gaps : Option Gaps) (order : List ℕ) (p : Placement)
    → kit.kind ≡ Library → IsLaidKit kit g gaps order p → HasAreaAddresses p → HasMadeBytes kit inputs g p
    → LibraryHolds (image_bytes kit inputs g gaps p) p kit inputs g gaps order
