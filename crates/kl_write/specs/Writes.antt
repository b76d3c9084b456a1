-- What is written into an image, one after another: padding, pieces, gaps, made areas, fields and headers. For the contracts inside
-- this crate alone.
use Rattle.std.specs.Prelude.{ℕ, pos, ◌+◌, ◌-◌, ◌==◌, if◌then◌else◌, max, List, [], ◌∷◌, ◌++◌, flat_map, map, slice_index, Option, Some, None}
use Rattle.kl_base.specs.declared.class.Class.{Class}
use Rattle.kl_base.specs.declared.class.Class.TheVariants.{Text, Rodata, Rwdata}
use Rattle.kl_base.specs.declared.limits.TheConstants.{PAGE}
use Rattle.kl_model.specs.Carries.{class_size, content, is_in_file, padding}
use Rattle.kl_model.specs.Image.{head_bytes}
use Rattle.kl_model.specs.Laid.{area_at, class_end, place_of}
use Rattle.kl_model.specs.Leads.{filed_value}
use Rattle.kl_model.specs.Line.{classes, gap_size}
use Rattle.kl_model.specs.Lists.{each, only_if}
use Rattle.kl_model.specs.Relocations.{width}
use Rattle.kl_model.specs.Tables.{made_bytes}
use Rattle.kl_model.specs.declared.area.TheConstants as area
use Rattle.kl_model.specs.declared.graph.Field.{Field}
use Rattle.kl_model.specs.declared.graph.Graph.{Graph}
use Rattle.kl_model.specs.declared.graph.Piece.{Piece}
use Rattle.kl_model.specs.declared.graph.Target.TheVariants.{Zero}
use Rattle.kl_model.specs.declared.kit.Kit.{Kit}
use Rattle.kl_model.specs.declared.kit.KitKind.{KitKind}
use Rattle.kl_model.specs.declared.kit.KitKind.TheVariants.{Kernel, Library}
use Rattle.kl_model.specs.declared.object.Input.{Input}
use Rattle.kl_model.specs.declared.place.Body.TheVariants as body
use Rattle.kl_model.specs.declared.place.Gaps.{Gaps}
use Rattle.kl_model.specs.declared.place.Placement.{Placement}
use Rattle.kl_write.specs.Windows.{Write, number_from, same_from, text_from}

-- where the base stands in the file, a PAGE from its start in a kernel, and where an address does
abbrev pub origin : KitKind → ℕ
origin Kernel = PAGE
origin Library = 0

abbrev pub file_place : KitKind → Placement → ℕ → ℕ
file_place k p a = origin k + (a - p.base)

-- where a class ends in the file, or 0 where it has no byte; and the last of such ends and one more
abbrev pub class_stop : KitKind → Placement → Class → ℕ
class_stop k p c = if class_size p c == 0 then 0 else file_place k p (class_end p c)

abbrev pub classes_stop : KitKind → Placement → ℕ → ℕ
classes_stop k p n = max (max (max n (class_stop k p Text)) (class_stop k p Rodata)) (class_stop k p Rwdata)

-- the padding of text, and that of its areas `init` and `fini`
abbrev pub area_write : KitKind → Placement → ℕ → ℕ → Write
area_write k p n byte = same_from (file_place k p (area_at p n).start) ((area_at p n).end - (area_at p n).start) byte

abbrev pub padding_writes : KitKind → Placement → List Write
padding_writes k p = area_write k p area.TEXT area.INT3 ∷ area_write k p area.INIT area.NOP ∷ area_write k p area.FINI area.NOP ∷ []

-- the bytes of a piece as its input has them
abbrev pub piece_write : KitKind → List Input → Graph → Placement → ℕ → Piece → List Write
piece_write k inputs g p n x =
    only_if (is_in_file x.class) (record { place = file_place k p (place_of p g (body.Piece n)); count = x.size; byte = content inputs x })

abbrev pub piece_writes : KitKind → List Input → Graph → Placement → List Write
piece_writes k inputs g p = each g.pieces (piece_write k inputs g p)

-- the padding of the gaps
abbrev pub gap_write : KitKind → Graph → Placement → Gaps → Class → List Write
gap_write k g p z c = only_if (is_in_file c) (same_from (file_place k p (place_of p g (body.Gap c))) (gap_size z c) (padding c))

abbrev pub gap_writes : KitKind → Graph → Option Gaps → Placement → List Write
gap_writes k g None p = []
gap_writes k g (Some z) p = flat_map (gap_write k g p z) classes

-- the bytes of an area that the linker makes
abbrev pub made_write : KitKind → Placement → ℕ → List ℕ → Write
made_write k p n bytes = text_from (file_place k p (area_at p n).start) bytes

abbrev pub made_writes : Kit → List Input → Graph → Placement → List Write
made_writes kit inputs g p =
    map (λ n. made_write kit.kind p n (made_bytes kit inputs g p n)) (area.STUBS ∷ area.TABLES ∷ area.GOT ∷ area.DYNAMIC ∷ [])

-- a value in a field, that of its number among values, and the values of all fields
abbrev pub value_write : KitKind → Graph → Placement → Field → ℕ → Write
value_write k g p f v = number_from (file_place k p (place_of p g (body.Piece f.piece) + f.offset)) (width f.kind) v

abbrev pub nth_value_write : KitKind → Graph → Placement → List ℕ → ℕ → Field → List Write
nth_value_write kind g p values k f = value_write kind g p f (slice_index values k) ∷ []

abbrev pub field_write : Kit → Graph → Placement → ℕ → Field → List Write
field_write kit g p k f = value_write kit.kind g p f (filed_value kit p g f) ∷ []

abbrev pub field_writes : Kit → Graph → Placement → List Write
field_writes kit g p = each g.fields (field_write kit g p)

-- the headers
abbrev pub head_write : Kit → List Input → Graph → Option Gaps → Placement → Write
head_write kit inputs g gaps p = text_from 0 (head_bytes kit inputs g gaps p)

-- The writes over zeros that make the image.
abbrev pub writes : Kit → List Input → Graph → Option Gaps → Placement → List Write
writes kit inputs g gaps p =
    padding_writes kit.kind p
    ++ (piece_writes kit.kind inputs g p
    ++ (gap_writes kit.kind g gaps p ++ (made_writes kit inputs g p ++ (field_writes kit g p ++ head_write kit inputs g gaps p ∷ []))))

-- what stands past the end of a list
abbrev pub no_field : Field
no_field = record { from = record { input = 0; section = 0; index = 0 }; piece = 0; offset = 0; kind = 0; addend = pos 0; target = Zero }
