-- Where a field leads, and its faults, by the table of its input and the leads of its symbols. For the contracts inside this crate alone.
use Rattle.std.specs.Prelude.{ℕ, if◌then◌else◌, not, ◌==◌, List, [], ◌++◌, slice_index_or, codes, Option, Some, None, Result, Ok, Err}
use Rattle.std.specs.Result.{result_unwrap_or}
use Rattle.std.specs.Str.{bytes_eq}
use Rattle.kl_elf.specs.declared.abi.TheConstants.{R_X86_64_NONE}
use Rattle.kl_model.specs.Texts.{text_at}
use Rattle.kl_model.specs.Lists.{only_if}
use Rattle.kl_model.specs.Kept.{class_of, no_symbol}
use Rattle.kl_model.specs.Graphs.{Missing, Removed, Undefined}
use Rattle.kl_model.specs.Fit.{section_in}
use Rattle.kl_model.specs.Faults.{from_of, loader_faults, missing_faults}
use Rattle.kl_model.specs.Relocations.{is_kind}
use Rattle.kl_model.specs.declared.object.Input.{Input}
use Rattle.kl_model.specs.declared.object.Symbol.{Symbol}
use Rattle.kl_model.specs.declared.object.RawField.{RawField}
use Rattle.kl_model.specs.declared.kit.KitKind.{KitKind}
use Rattle.kl_model.specs.declared.graph.Field.{Field}
use Rattle.kl_model.specs.declared.graph.Target.{Target}
use Rattle.kl_model.specs.declared.graph.Target.TheVariants.{Abs, Zero, Gone}
use Rattle.kl_model.specs.declared.link.LinkFault.{LinkFault}
use Rattle.kl_model.specs.declared.link.LinkFault.TheVariants as fault
use Rattle.kl_sym.specs.declared.leads.Lead.{Lead}
use Rattle.kl_sym.specs.declared.leads.Lead.TheVariants as lead

abbrev pub symbol_in : Input → ℕ → Symbol
symbol_in x n = slice_index_or x.object.symbols n no_symbol

-- the target of a symbol that leads so, for a field in a section of this name: from `.eh_frame` it may lead nowhere
abbrev pub target_of_lead : Lead → List ℕ → Result Target Missing
target_of_lead (lead.To t) name = Ok t
target_of_lead lead.Removed name = if bytes_eq name (codes ".eh_frame") then Ok Gone else Err Removed
target_of_lead lead.Undefined name = Err Undefined

abbrev pub target_by : List Lead → Input → RawField → Result Target Missing
target_by leads x f =
    if f.symbol == 0 then Ok (Abs 0)
    else target_of_lead (slice_index_or leads f.symbol lead.Undefined) (text_at x.bytes (section_in x.object f.section).name)

-- the faults of a missing target
abbrev pub missing_by : List Lead → Input → ℕ → RawField → List LinkFault
missing_by leads x i f = missing_faults (text_at x.bytes (symbol_in x f.symbol).name) (from_of i f) (target_by leads x f)

-- a field in a piece
abbrev pub field_in : List Lead → Input → ℕ → ℕ → RawField → Field
field_in leads x piece i f = record {
  from = record { input = i; section = f.rela; index = f.index };
  piece = piece;
  offset = f.offset;
  kind = f.kind;
  addend = f.addend;
  target = result_unwrap_or (target_by leads x f) Zero;
}

-- its faults
abbrev pub linked_faults : KitKind → List Lead → Input → ℕ → RawField → List LinkFault
linked_faults kit leads x i f =
    only_if (not (is_kind f.kind)) (fault.Kind (from_of i f) f.kind)
    ++ (missing_by leads x i f ++ loader_faults kit (from_of i f) (class_of (section_in x.object f.section)) f.kind (target_by leads x f))

-- those of a field whose section may have a piece
abbrev pub field_of : List Lead → Input → Option ℕ → ℕ → RawField → List Field
field_of leads x None i f = []
field_of leads x (Some n) i f = only_if (not (f.kind == R_X86_64_NONE)) (field_in leads x n i f)

abbrev pub faults_of : KitKind → List Lead → Input → Option ℕ → ℕ → RawField → List LinkFault
faults_of kit leads x None i f = []
faults_of kit leads x (Some n) i f = if f.kind == R_X86_64_NONE then [] else linked_faults kit leads x i f

abbrev pub field_by : List (Option ℕ) → List Lead → Input → ℕ → RawField → List Field
field_by table leads x i f = field_of leads x (slice_index_or table f.section None) i f

abbrev pub faults_by : KitKind → List (Option ℕ) → List Lead → Input → ℕ → RawField → List LinkFault
faults_by kit table leads x i f = faults_of kit leads x (slice_index_or table f.section None) i f
