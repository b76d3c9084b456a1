-- What a linked kernel or library is: an image and a placement that carry the graph of a kit.
use Rattle.std.specs.Prelude.{ℕ, ◌+◌, ◌-◌, ◌*◌, ◌%◌, ◌^◌, ◌≡◌, ◌<◌, ◌≤◌, ◌⊎◌, Bool, true, false, cond, if◌then◌else◌, not, ◌==◌, nat_lt, List, [], ◌∷◌, ◌++◌, map, flat_map, length, max, slice_index, slice_index_or, unwrap_or, Option, Some, None, IsSomeAnd, IfSome, All, Any, AllPairs}
use Rattle.std.specs.Option.{option_map_or}
use Rattle.std.specs.List.{position_from}
use Rattle.kl_le.specs.Bytes.{Within, Outside}
use Rattle.kl_elf.specs.Records.{ehdr_at}
use Rattle.kl_elf.specs.declared.records.Ehdr.{Ehdr}
use Rattle.kl_elf.specs.declared.records.Phdr.{Phdr}
use Rattle.kl_model.specs.Lists.{only_if}
use Rattle.kl_model.specs.Kept.{input_at}
use Rattle.kl_model.specs.Areas.{class_number}
use Rattle.kl_model.specs.Graphs.{graph}
use Rattle.kl_model.specs.Line.{class_line, classes, every_part, gap_size}
use Rattle.kl_model.specs.Slots.{Way, Directly, BySlot, ByStub, Nowhere, is_loaded, slots, way}
use Rattle.kl_model.specs.Sizes.{made_of, page_of}
use Rattle.kl_model.specs.Leads.{address_of, slot_place, target_slot, target_stub}
use Rattle.kl_model.specs.Tables.{dyn_text, made_bytes, no_dyn}
use Rattle.kl_model.specs.Loaded.{loaded}
use Rattle.kl_model.specs.Laid.{Laid, span, place_of, area_at}
use Rattle.kl_model.specs.Memory.{Cell, segments, mem, num_in}
use Rattle.kl_model.specs.Relocations.{width}
use Rattle.kl_model.specs.Reaches.{ReachesBySlot, ReachesByStub, ReachesDirectly}
use Rattle.kl_base.specs.declared.class.Class.{Class}
use Rattle.kl_base.specs.declared.class.Class.TheVariants.{Text, Rodata, Rwdata, Bss}
use Rattle.kl_model.specs.declared.place.Body.TheVariants as body
use Rattle.kl_model.specs.declared.place.LinePart.{LinePart}
use Rattle.kl_model.specs.declared.place.Gaps.{Gaps}
use Rattle.kl_model.specs.declared.place.Placement.{Placement}
use Rattle.kl_model.specs.declared.graph.PieceId.{PieceId}
use Rattle.kl_model.specs.declared.graph.PieceId.TheVariants as id
use Rattle.kl_model.specs.declared.graph.Piece.{Piece}
use Rattle.kl_model.specs.declared.graph.Field.{Field}
use Rattle.kl_model.specs.declared.graph.Graph.{Graph}
use Rattle.kl_model.specs.declared.graph.Target.{Target}
use Rattle.kl_model.specs.declared.graph.Target.TheVariants.{Place, Abs, Edge, Name, Zero, Gone}
use Rattle.kl_model.specs.declared.object.Input.{Input}
use Rattle.kl_model.specs.declared.kit.Kit.{Kit}
use Rattle.kl_model.specs.declared.kit.KitKind.{KitKind}
use Rattle.kl_model.specs.declared.kit.KitKind.TheVariants.{Kernel, Library}
use Rattle.kl_elf.specs.declared.abi.TheConstants.{EM_X86_64, ET_DYN, ET_EXEC, EV_CURRENT, IDENT, PF_R, PF_W, PF_X, PT_DYNAMIC, PT_LOAD}
use Rattle.kl_elf.specs.declared.records.TheConstants.Ehdr as ehdr
use Rattle.kl_elf.specs.declared.records.TheConstants.Phdr as phdr
use Rattle.kl_base.specs.declared.limits.TheConstants.{PAGE, SPAN_LIMIT}
use Rattle.kl_model.specs.declared.area.TheConstants as area

-- the permission of a class
abbrev pub permission : Class → ℕ
permission Text = PF_R + PF_X
permission Rodata = PF_R
permission Rwdata = PF_R + PF_W
permission Bss = PF_R + PF_W

-- the padding byte of a class, outside the areas `init` and `fini`
abbrev pub padding : Class → ℕ
padding Text = area.INT3
padding Rodata = 0
padding Rwdata = 0
padding Bss = 0

abbrev pub is_in_file : Class → Bool
is_in_file Bss = false
is_in_file _ = true

-- 1. the placement names the graph's pieces and the gaps, each once, with its size and in order
abbrev pub gap_names : Option Gaps → List (PieceId × ℕ)
gap_names None = []
gap_names (Some z) = map (λ c. (id.Gap c, gap_size z c)) classes

abbrev pub NamesPieces : Placement → Graph → Option Gaps → Type 0
NamesPieces p g gaps = map (λ x. (x.id, x.size)) p.pieces ≡ map (λ x. (x.id, x.size)) g.pieces ++ gap_names gaps

-- 2. parts are aligned, and no two share a byte
pub record Apart (p : Placement) (g : Graph) (parts : List LinePart) : Type 0 where
  pub aligned : All (λ x. place_of p g x.body % x.align ≡ 0) parts
  pub apart : AllPairs (λ x y. (place_of p g x.body + x.size ≤ place_of p g y.body) ⊎ (place_of p g y.body + y.size ≤ place_of p g x.body)) parts

-- 3. what the bytes of pieces and gaps are
abbrev pub no_piece : Piece
no_piece = record { id = id.Common 0; class = Text; area = 0; size = 0; align = 1; bytes = record { at = 0; len = 0 } }

abbrev pub piece_at : Graph → ℕ → Piece
piece_at g n = slice_index_or g.pieces n no_piece

-- the file that a piece comes from
abbrev pub source : List Input → PieceId → List ℕ
source inputs (id.Section i s) = (input_at inputs i).bytes
source inputs _ = []

-- byte k of a piece, as its input has it, and zero where it has no bytes there
abbrev pub content : List Input → Piece → ℕ → ℕ
content inputs x k = if nat_lt k x.bytes.len then slice_index (source inputs x.id) (x.bytes.at + k) else 0

-- byte k of piece n is in a field
abbrev pub InField : Graph → ℕ → ℕ → Type 0
InField g n k = Any (λ f. (f.piece ≡ n) × Within f.offset (width f.kind) k) g.fields

-- memory holds a byte at an address with the permission of a class
abbrev pub HasByte : List ℕ → ℕ → ℕ → Class → Type 0
HasByte img a byte c = mem img a ≡ Some (record { byte = byte; flags = permission c })

pub record Contents (img : List ℕ) (p : Placement) (inputs : List Input) (g : Graph) (gaps : Option Gaps) : Type 0 where
  pub pieces : (n k : ℕ) → n < length g.pieces → k < (piece_at g n).size → ¬ InField g n k
      → HasByte img (place_of p g (body.Piece n) + k) (content inputs (piece_at g n) k) (piece_at g n).class
  pub gap_bytes : IfSome gaps (λ z. (c : Class) (k : ℕ) → k < gap_size z c → HasByte img (place_of p g (body.Gap c) + k) (padding c) c)
  pub permissions : (c : Class) (a : ℕ) → (area_at p (class_number c)).start ≤ a → a < (area_at p (class_number c)).end
      → IsSomeAnd (mem img a) (λ cell. cell.flags ≡ permission c)

-- 4. each field reaches its target
-- where targets, their slots and their stubs stand in a memory
pub record Places : Type 0 where
  pub target : Target → ℕ
  pub slot : Target → ℕ
  pub stub : Target → ℕ

-- the field at P of a memory leads to a target by a way; one that leads nowhere holds zero
abbrev pub LeadsBy : (ℕ → Option Cell) → Places → ℕ → Field → Target → Way → Type 0
LeadsBy m at p f t Directly = ReachesDirectly m p f.kind f.addend (at.target t)
LeadsBy m at p f t BySlot = ReachesBySlot m p f.addend (at.target t) (at.slot t)
LeadsBy m at p f t ByStub = ReachesByStub m p f.addend (at.target t) (at.slot t) (at.stub t)
LeadsBy m at p f t Nowhere = num_in m p (width f.kind) ≡ 0

-- the field of a kernel, in the image's memory
abbrev pub kernel_places : Placement → Graph → Places
kernel_places p g = record { target = address_of p g; slot = target_slot p g; stub = target_stub p g }

abbrev pub FieldReaches : List ℕ → Placement → Graph → Field → Target → Type 0
FieldReaches img p g f t = LeadsBy (mem img) (kernel_places p g) (place_of p g (body.Piece f.piece) + f.offset) f t (way f.kind t)

-- a library that is loaded at a base, with a number for each dynamic name
abbrev pub address_at : ℕ → (ℕ → ℕ) → Placement → Graph → Target → ℕ
address_at base r p g (Place n k) = (base + place_of p g (body.Piece n) + k) % 2 ^ 64
address_at base r p g (Abs n) = n
address_at base r p g (Edge n false) = (base + (area_at p n).start) % 2 ^ 64
address_at base r p g (Edge n true) = (base + (area_at p n).end) % 2 ^ 64
address_at base r p g (Name n) = r n
address_at base r p g Zero = 0
address_at base r p g Gone = 0

abbrev pub library_places : ℕ → (ℕ → ℕ) → Placement → Graph → Places
library_places base r p g =
    record { target = address_at base r p g; slot = λ t. base + target_slot p g t; stub = λ t. base + target_stub p g t }

-- the field of a library, in loaded memory
abbrev pub FieldLoads : (ℕ → Option Cell) → ℕ → (ℕ → ℕ) → Placement → Graph → Field → Target → Type 0
FieldLoads m base r p g f t = LeadsBy m (library_places base r p g) (base + place_of p g (body.Piece f.piece) + f.offset) f t (way f.kind t)

-- where a library may be loaded: at a multiple of its page from which its span doesn't pass the end of memory
pub record IsLoadBase (page span base : ℕ) : Type 0 where
  pub aligned : base % page ≡ 0
  pub fits : base + span ≤ 2 ^ 64

-- the number that a resolver of names gives for a dynamic name
abbrev pub resolved : (List ℕ → ℕ) → List Input → Graph → ℕ → ℕ
resolved r inputs g n = r (dyn_text inputs (slice_index_or g.names n no_dyn))

-- A field leads to a target: in a kernel in the image's memory, in a library in its memory at every base and for every resolver.
abbrev pub LeadsTo : KitKind → List ℕ → Placement → List Input → Graph → ℕ → ℕ → Field → Target → Type 0
LeadsTo Kernel img p inputs g page span f t = FieldReaches img p g f t
LeadsTo Library img p inputs g page span f t =
    (base : ℕ) (r : List ℕ → ℕ) → IsLoadBase page span base → ((name : List ℕ) → r name < 2 ^ 64)
    → FieldLoads (loaded img base r) base (resolved r inputs g) p g f t

abbrev pub Reached : KitKind → List ℕ → Placement → List Input → Graph → ℕ → ℕ → Type 0
Reached kind img p inputs g page span = All (λ f. LeadsTo kind img p inputs g page span f f.target) g.fields

-- 5. the made areas: in a kernel each slot holds its target's address
abbrev pub SlotsHold : List ℕ → Placement → Graph → Type 0
SlotsHold img p g = (k : ℕ) → k < length (slots g) → num_in (mem img) (slot_place p k) 8 ≡ address_of p g (slice_index_or (slots g) k Zero)

-- in a library each holds its bytes, and a field that the loader writes holds zero
abbrev pub AreaHolds : List ℕ → Placement → ℕ → Class → List ℕ → Type 0
AreaHolds img p n c bytes = (k : ℕ) → k < length bytes → HasByte img ((area_at p n).start + k) (slice_index bytes k) c

pub record LibraryMade (img : List ℕ) (p : Placement) (kit : Kit) (inputs : List Input) (g : Graph) : Type 0 where
  pub stubs : AreaHolds img p area.STUBS Text (made_bytes kit inputs g p area.STUBS)
  pub tables : AreaHolds img p area.TABLES Rodata (made_bytes kit inputs g p area.TABLES)
  pub got : AreaHolds img p area.GOT Rwdata (made_bytes kit inputs g p area.GOT)
  pub dynamic : AreaHolds img p area.DYNAMIC Rwdata (made_bytes kit inputs g p area.DYNAMIC)
  pub blank : All (λ f. is_loaded f.kind f.target ≡ true → num_in (mem img) (place_of p g (body.Piece f.piece) + f.offset) 8 ≡ 0) g.fields

abbrev pub MadeHolds : KitKind → List ℕ → Placement → Kit → List Input → Graph → Type 0
MadeHolds Kernel img p kit inputs g = SlotsHold img p g
MadeHolds Library img p kit inputs g = LibraryMade img p kit inputs g

-- 6. every other byte of a class is padding
abbrev pub InPart : Placement → Graph → List LinePart → ℕ → Type 0
InPart p g parts a = Any (λ x. Within (place_of p g x.body) x.size a) parts

abbrev pub InArea : Placement → ℕ → ℕ → Type 0
InArea p n a = ((area_at p n).start ≤ a) × (a < (area_at p n).end)

-- the areas `init` and `fini` are padded by the instruction nop
pub record Padded (img : List ℕ) (p : Placement) (g : Graph) (parts : Class → List LinePart) : Type 0 where
  pub plain : (c : Class) (a : ℕ) → InArea p (class_number c) a → ¬ InPart p g (parts c) a
      → ¬ InArea p area.INIT a → ¬ InArea p area.FINI a → HasByte img a (padding c) c
  pub nops : (a : ℕ) → InArea p area.INIT a ⊎ InArea p area.FINI a → ¬ InPart p g (parts Text) a → HasByte img a area.NOP Text

-- 7. the headers and the rest of the file
abbrev pub class_size : Placement → Class → ℕ
class_size p c = (area_at p (class_number c)).end - (area_at p (class_number c)).start

-- the program header of a class of a kernel (gABI, `Elf64_Phdr`): its offset in the file is a page past its place behind the base
abbrev pub segment_of : Placement → Class → Phdr
segment_of p c = record {
  kind = PT_LOAD;
  flags = permission c;
  offset = PAGE + ((area_at p (class_number c)).start - p.base);
  vaddr = (area_at p (class_number c)).start;
  paddr = (area_at p (class_number c)).start;
  filesz = if is_in_file c then class_size p c else 0;
  memsz = class_size p c;
  align = PAGE;
}

-- one for each class that has a byte
abbrev pub segments_of : Placement → List Phdr
segments_of p = flat_map (λ c. only_if (not (class_size p c == 0)) (segment_of p c)) classes

-- the header of a kernel (gABI, `Elf64_Ehdr`), which has no section headers
abbrev pub kernel_head : Placement → Graph → Ehdr
kernel_head p g = record {
  ident = IDENT;
  kind = ET_EXEC;
  machine = EM_X86_64;
  version = EV_CURRENT;
  entry = option_map_or (address_of p g) g.entry 0;
  phoff = if length (segments_of p) == 0 then 0 else ehdr.SIZE;
  shoff = 0;
  flags = 0;
  ehsize = ehdr.SIZE;
  phentsize = phdr.SIZE;
  phnum = length (segments_of p);
  shentsize = 0;
  shnum = 0;
  shstrndx = 0;
}

-- the program headers of a library: one for all headers, which stand at address 0, one for each class that has a byte, whose
-- offset is its address, and PT_DYNAMIC over the dynamic section
abbrev pub library_segment : ℕ → Placement → Class → Phdr
library_segment align p c = record (segment_of p c) { offset = (area_at p (class_number c)).start; align = align }

abbrev pub class_segments : ℕ → Placement → List Phdr
class_segments align p = flat_map (λ c. only_if (not (class_size p c == 0)) (library_segment align p c)) classes

abbrev pub headers_segment : ℕ → ℕ → Phdr
headers_segment align size =
    record { kind = PT_LOAD; flags = PF_R; offset = 0; vaddr = 0; paddr = 0; filesz = size; memsz = size; align = align }

abbrev pub dynamic_segment : Placement → Phdr
dynamic_segment p =
    let dynamic = area_at p area.DYNAMIC in
    record {
      kind = PT_DYNAMIC;
      flags = permission Rwdata;
      offset = dynamic.start;
      vaddr = dynamic.start;
      paddr = dynamic.start;
      filesz = dynamic.end - dynamic.start;
      memsz = dynamic.end - dynamic.start;
      align = 8;
    }

abbrev pub library_segments : ℕ → Placement → List Phdr
library_segments align p =
    let between = class_segments align p in
    headers_segment align (ehdr.SIZE + phdr.SIZE * (2 + length between)) ∷ (between ++ dynamic_segment p ∷ [])

abbrev pub segments_for : KitKind → ℕ → Placement → List Phdr
segments_for Kernel align p = segments_of p
segments_for Library align p = library_segments align p

-- where a class stands in the file: in a kernel a page past its place behind the base, in a library at its address
abbrev pub offset_for : KitKind → Placement → Class → ℕ
offset_for Kernel p c = PAGE + ((area_at p (class_number c)).start - p.base)
offset_for Library p c = (area_at p (class_number c)).start

abbrev pub library_head : List Phdr → Placement → Graph → Ehdr
library_head phdrs p g = record (kernel_head p g) { kind = ET_DYN; phoff = ehdr.SIZE; phnum = length phdrs }

abbrev pub head_for : KitKind → List Phdr → Placement → Graph → Ehdr
head_for Kernel phdrs p g = kernel_head p g
head_for Library phdrs p g = library_head phdrs p g

-- where the bytes of a program header end in the file
abbrev pub file_end : Phdr → ℕ
file_end s = if s.filesz == 0 then 0 else s.offset + s.filesz

abbrev pub ends_at : ℕ → List Phdr → ℕ
ends_at n [] = n
ends_at n (s ∷ ss) = ends_at (max n (file_end s)) ss

-- the file ends behind the headers and the last byte of a class, and what is in neither is zero
pub record File (img : List ℕ) (head_is : Ehdr) (phdrs : List Phdr) : Type 0 where
  pub head : ehdr_at img 0 ≡ head_is
  pub segments : segments img ≡ phdrs
  pub len : length img ≡ ends_at (ehdr.SIZE + phdr.SIZE * length phdrs) phdrs
  pub zeros : (k : ℕ) → ehdr.SIZE + phdr.SIZE * length phdrs ≤ k → All (λ s. Outside s.offset s.filesz k) phdrs → slice_index img k ≡ 0

-- an image and a placement carry a graph g of these inputs
pub record CarriesGraph (img : List ℕ) (p : Placement) (kit : Kit) (inputs : List Input) (g : Graph) (gaps : Option Gaps) (order : List ℕ) : Type 0 where
  pub laid : Laid p kit g gaps order (made_of kit g)
  pub small : span kit g gaps order (made_of kit g) ≤ SPAN_LIMIT
  pub names : NamesPieces p g gaps
  pub apart : Apart p g (every_part g gaps (made_of kit g))
  pub contents : Contents img p inputs g gaps
  pub reached : Reached kit.kind img p inputs g (page_of kit g) (span kit g gaps order (made_of kit g))
  pub made : MadeHolds kit.kind img p kit inputs g
  pub padded : Padded img p g (class_line kit g gaps order (made_of kit g))
  pub file : File img (head_for kit.kind (segments_for kit.kind (page_of kit g) p) p g) (segments_for kit.kind (page_of kit g) p)

-- An image and a placement carry a kit: they carry its link graph, whose drawn inputs stand in this order.
abbrev pub Carries : List ℕ → Placement → Kit → List Input → Option Gaps → List ℕ → Type 0
Carries img p kit inputs gaps order = CarriesGraph img p kit inputs (graph kit inputs) gaps order
