-- A graph that can be laid out and written: every piece stands in an area of its class, every number is one of its list, and
-- every field lies in a piece that has bytes in the file, and shares no byte with another.
use Rattle.std.specs.Prelude.{ℕ, ◌+◌, ◌^◌, ◌≡◌, ◌≢◌, ◌<◌, ◌≤◌, ◌⊎◌, true, List, [], ◌∷◌, ◌++◌, length, All, AllPairs, IfSome, FitsSigned}
use Rattle.std.specs.Int.{w64}
use Rattle.kl_base.specs.declared.class.Class.{Class}
use Rattle.kl_base.specs.declared.class.Class.TheVariants.{Bss}
use Rattle.kl_base.specs.declared.class.Range.{Range}
use Rattle.kl_model.specs.Lists.{each, number_in, only_if}
use Rattle.kl_model.specs.Areas.{class_number, named_areas, same_class}
use Rattle.kl_model.specs.Kept.{input_at}
use Rattle.kl_model.specs.Relocations.{width}
use Rattle.kl_model.specs.Carries.{piece_at}
use Rattle.kl_model.specs.declared.object.Input.{Input}
use Rattle.kl_model.specs.declared.graph.PieceId.{PieceId}
use Rattle.kl_model.specs.declared.graph.PieceId.TheVariants as id
use Rattle.kl_model.specs.declared.graph.Piece.{Piece}
use Rattle.kl_model.specs.declared.graph.Field.{Field}
use Rattle.kl_model.specs.declared.graph.DynName.{DynName}
use Rattle.kl_model.specs.declared.graph.Graph.{Graph}
use Rattle.kl_model.specs.declared.graph.Target.{Target}
use Rattle.kl_model.specs.declared.graph.Target.TheVariants.{Place, Abs, Edge, Name, Zero, Gone}
use Rattle.kl_model.specs.declared.kit.Kit.{Kit}
use Rattle.kl_model.specs.declared.kit.KitKind.TheVariants.{Kernel}
use Rattle.kl_model.specs.declared.area.TheConstants as area
use Rattle.kl_base.specs.declared.limits.TheConstants.{ALIGN_POWER_LIMIT, FIELD_COUNT_LIMIT, INPUT_BYTES_LIMIT, INPUT_COUNT_LIMIT, SECTION_COUNT_LIMIT, SIZE_LIMIT, SYMBOL_COUNT_LIMIT}

-- the areas of a class's runs
abbrev pub run_areas : Kit → Class → List ℕ
run_areas kit c = each kit.runs (λ k r. only_if (same_class r.class c) (area.FIRST_RUN + k))

-- all areas in which the pieces of a class stand
abbrev pub class_areas : Kit → Class → List ℕ
class_areas kit c = class_number c ∷ (run_areas kit c ++ named_areas c)

-- a piece is that of a section of one of so many inputs, or a common, which is an ordinary piece of bss; no gap is one
abbrev pub HasOrigin : ℕ → Piece → PieceId → Type 0
HasOrigin inputs x (id.Section i s) = i < inputs
HasOrigin inputs x (id.Common n) = (x.class ≡ Bss) × (x.area ≡ area.BSS)
HasOrigin inputs x (id.Gap c) = ⊥

pub record IsSoundPiece (kit : Kit) (g : Graph) (x : Piece) : Type 0 where
  pub origin : HasOrigin (length g.parts) x x.id
  pub area : number_in (class_areas kit x.class) x.area ≡ true
  pub size : x.size ≤ SIZE_LIMIT
  pub align : (k : ℕ) × (k ≤ ALIGN_POWER_LIMIT) × (x.align ≡ 2 ^ k)
  pub short : x.bytes.len ≤ x.size
  pub blank : x.class ≡ Bss → x.bytes.len ≡ 0

-- the bytes of a piece stand in the file of its input
abbrev pub HasSource : List Input → Range → PieceId → Type 0
HasSource inputs r (id.Section i s) = (i < length inputs) × (r.at + r.len ≤ length (input_at inputs i).bytes)
HasSource inputs r (id.Common n) = r.len ≡ 0
HasSource inputs r (id.Gap c) = r.len ≡ 0

-- a target whose numbers are in their lists
abbrev pub IsSoundTarget : Kit → Graph → Target → Type 0
IsSoundTarget kit g (Place n k) = (n < length g.pieces) × (k ≤ SIZE_LIMIT)
IsSoundTarget kit g (Abs n) = n < 2 ^ 64
IsSoundTarget kit g (Edge n e) = n < area.FIRST_RUN + length kit.runs
IsSoundTarget kit g (Name n) = n < length g.names
IsSoundTarget kit g Zero = Unit {0}
IsSoundTarget kit g Gone = Unit {0}

-- a field lies in a piece whose bytes are in the file, and its type has a width: it is linked, and isn't R_X86_64_NONE
pub record IsSoundField (kit : Kit) (g : Graph) (f : Field) : Type 0 where
  pub piece : f.piece < length g.pieces
  pub wide : 0 < width f.kind
  pub inside : f.offset + width f.kind ≤ (piece_at g f.piece).bytes.len
  pub class : (piece_at g f.piece).class ≢ Bss
  pub addend : FitsSigned w64 f.addend
  pub target : IsSoundTarget kit g f.target

-- two fields of one piece share no byte
abbrev pub StandApart : Field → Field → Type 0
StandApart f h = f.piece ≡ h.piece → (f.offset + width f.kind ≤ h.offset) ⊎ (h.offset + width h.kind ≤ f.offset)

-- a dynamic name: its text and its input are those of a symbol, and its numbers fit an entry of the symbol table (gABI, `Elf64_Sym`)
pub record IsSoundName (kit : Kit) (g : Graph) (d : DynName) : Type 0 where
  pub input : d.input < length g.parts
  pub short : d.name.len ≤ INPUT_BYTES_LIMIT
  pub visibility : d.visibility < 2 ^ 2
  pub kind : d.kind < 2 ^ 4
  pub size : d.size < 2 ^ 64
  pub exported : IfSome d.exported (IsSoundTarget kit g)

-- A SOUND GRAPH
pub record IsSoundGraph (kit : Kit) (g : Graph) : Type 0 where
  pub pieces : All (IsSoundPiece kit g) g.pieces
  pub fields : All (IsSoundField kit g) g.fields
  pub apart : AllPairs StandApart g.fields
  pub entry : IfSome g.entry (IsSoundTarget kit g)
  pub names : All (IsSoundName kit g) g.names
  pub kernel : kit.kind ≡ Kernel → g.names ≡ []
  pub piece_count : length g.pieces ≤ SECTION_COUNT_LIMIT + SYMBOL_COUNT_LIMIT
  pub field_count : length g.fields ≤ FIELD_COUNT_LIMIT
  pub name_count : length g.names ≤ SYMBOL_COUNT_LIMIT
  pub input_count : length g.parts ≤ INPUT_COUNT_LIMIT
