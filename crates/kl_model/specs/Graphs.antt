-- The target of a symbol, and the link graph.
use Rattle.std.specs.Prelude.{ℕ, cond, if◌then◌else◌, ◌==◌, List, [], ◌∷◌, ◌++◌, map, max, slice_index_or, codes, Option, Some, None, Result, Ok, Err}
use Rattle.std.specs.Str.{bytes_eq}
use Rattle.std.specs.Option.{option_and_then}
use Rattle.std.specs.Result.{result_unwrap_or}
use Rattle.kl_model.specs.Texts.{text_at}
use Rattle.kl_model.specs.Lists.{each, each_from, only_if}
use Rattle.kl_model.specs.Kept.{is_kept, input_at, name_at, no_symbol, area_of, class_of}
use Rattle.kl_model.specs.Names.{common_align, common_names, common_size, definition, piece_number}
use Rattle.kl_model.specs.Dynamic.{dyn_name, dynamic_names, is_importable, is_kept_field, is_replaceable, name_number}
use Rattle.kl_base.specs.declared.class.Class.TheVariants.{Bss}
use Rattle.kl_model.specs.declared.object.Input.{Input}
use Rattle.kl_model.specs.declared.object.RawField.{RawField}
use Rattle.kl_model.specs.declared.object.Section.{Section}
use Rattle.kl_model.specs.declared.object.Symbol.{Symbol}
use Rattle.kl_model.specs.declared.kit.Kit.{Kit}
use Rattle.kl_model.specs.declared.graph.Target.{Target}
use Rattle.kl_model.specs.declared.graph.Target.TheVariants.{Place, Abs, Name, Zero, Gone}
use Rattle.kl_model.specs.declared.graph.PieceId.TheVariants as id
use Rattle.kl_model.specs.declared.graph.Piece.{Piece}
use Rattle.kl_model.specs.declared.graph.Field.{Field}
use Rattle.kl_model.specs.declared.graph.Graph.{Graph}
use Rattle.kl_elf.specs.declared.abi.TheConstants.{SHN_ABS, SHT_NOBITS, STB_LOCAL, STB_WEAK}
use Rattle.kl_model.specs.declared.area.TheConstants as area

-- why a symbol has no target: its section isn't kept, or its name has no definition
pub data Missing : Type 0 where
  Removed : Missing
  Undefined : Missing

abbrev pub symbol_at : List Input → ℕ → ℕ → Symbol
symbol_at inputs i y = slice_index_or (input_at inputs i).object.symbols y no_symbol

-- the target of a LOCAL symbol, for a field in section s of input i
abbrev pub local_target : Kit → List Input → ℕ → ℕ → Symbol → Result Target Missing
local_target kit inputs i s y =
    if y.section == SHN_ABS then Ok (Abs y.value)
    else if is_kept kit inputs i y.section then Ok (Place (piece_number kit inputs i y.section) y.value)
    else if bytes_eq (name_at inputs i s) (codes ".eh_frame") then Ok Gone else Err Removed

abbrev pub target_or : Option Target → Result Target Missing → Result Target Missing
target_or None r = r
target_or (Some t) r = Ok t

-- The target of a GLOBAL or WEAK symbol: a replaceable name itself; its definition; an imported name itself; of an undefined
-- WEAK name the value 0 (gABI, STB_WEAK).
abbrev pub global_target : Kit → List Input → List ℕ → ℕ → Result Target Missing
global_target kit inputs name binding =
    if is_replaceable kit inputs name then Ok (Name (name_number kit inputs name))
    else target_or (definition kit inputs name)
    (if is_importable kit inputs name then Ok (Name (name_number kit inputs name))
    else if binding == STB_WEAK then Ok Zero else Err Undefined)

-- the target of symbol y of input i, for a field in its section s; symbol 0 has the value 0 (gABI, STN_UNDEF)
abbrev pub target : Kit → List Input → ℕ → ℕ → ℕ → Result Target Missing
target kit inputs i s y =
    let symbol = symbol_at inputs i y in
    if y == 0 then Ok (Abs 0)
    else if symbol.binding == STB_LOCAL then local_target kit inputs i s symbol
    else global_target kit inputs (text_at (input_at inputs i).bytes symbol.name) symbol.binding

-- the piece of a kept section; one of SHT_NOBITS has no bytes in the file
abbrev pub piece_of : Kit → ℕ → Input → ℕ → Section → Piece
piece_of kit i x s y = record {
  id = id.Section i s;
  class = class_of y;
  area = area_of kit (text_at x.bytes y.name) y;
  size = y.size;
  align = max y.align 1;
  bytes = record { at = y.at; len = if y.kind == SHT_NOBITS then 0 else y.size };
}

abbrev pub section_piece : Kit → List Input → ℕ → Input → ℕ → Section → List Piece
section_piece kit inputs i x s y = only_if (is_kept kit inputs i s) (piece_of kit i x s y)

abbrev pub input_pieces : Kit → List Input → ℕ → Input → List Piece
input_pieces kit inputs i x = each_from 1 (section_piece kit inputs i x) x.object.sections

abbrev pub section_pieces : Kit → List Input → List Piece
section_pieces kit inputs = each inputs (input_pieces kit inputs)

-- the commons, each as large and as aligned as its symbols ask
abbrev pub common_pieces : Kit → List Input → List Piece
common_pieces kit inputs = each (common_names kit inputs) (λ k name. record {
  id = id.Common k;
  class = Bss;
  area = area.BSS;
  size = common_size inputs name;
  align = common_align inputs name;
  bytes = record { at = 0; len = 0 };
} ∷ [])

-- the field of a relocation entry, where its section is kept and its type isn't R_X86_64_NONE
abbrev pub kept_field : Kit → List Input → ℕ → RawField → List Field
kept_field kit inputs i f = only_if (is_kept_field kit inputs i f) (record {
  from = record { input = i; section = f.rela; index = f.index };
  piece = piece_number kit inputs i f.section;
  offset = f.offset;
  kind = f.kind;
  addend = f.addend;
  target = result_unwrap_or (target kit inputs i f.section f.symbol) Zero;
})

abbrev pub input_fields : Kit → List Input → ℕ → Input → List Field
input_fields kit inputs i x = each x.object.fields (λ k f. kept_field kit inputs i f)

abbrev pub fields : Kit → List Input → List Field
fields kit inputs = each inputs (input_fields kit inputs)

-- The link graph: the pieces, the fields, the dynamic names, the entry's target and the inputs' parts. Neither an order nor a gap nor an
-- address is among its arguments.
unfoldable pub graph : Kit → List Input → Graph
graph kit inputs = record {
  pieces = section_pieces kit inputs ++ common_pieces kit inputs;
  fields = fields kit inputs;
  names = map (dyn_name kit inputs) (dynamic_names kit inputs);
  entry = option_and_then (definition kit inputs) kit.entry;
  parts = map (λ x. x.place) inputs;
}
