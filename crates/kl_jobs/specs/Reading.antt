-- The kit and the inputs of a folder, as its files say, and the first refusal that stands in those files.
use Rattle.std.specs.Prelude.{ℕ, ◌≡◌, Bool, ◌||◌, ◌==◌, if◌then◌else◌, nat_lt, List, [], ◌∷◌, ◌++◌, filter, flat_map, length, map, sum_by, slice_get, codes, nat_eq, Option, Some, None, unwrap_or}
use Rattle.std.specs.Option.{option_map, option_or}
use Rattle.std.specs.List.{starts_with}
use Rattle.std.specs.FinMap.{get}
use Rattle.kl_base.specs.declared.limits.TheConstants.{FIELD_COUNT_LIMIT, INPUT_BYTES_LIMIT, INPUT_COUNT_LIMIT, INPUT_LIMIT, KIT_TEXT_LIMIT, SECTION_COUNT_LIMIT, SYMBOL_COUNT_LIMIT}
use Rattle.kl_store.specs.Names.{Names}
use Rattle.kl_ar.specs.Archives.{faults, members_of}
use Rattle.kl_ar.specs.Fields.{bytes_at}
use Rattle.kl_ar.specs.declared.fault.ArFault.{ArFault}
use Rattle.kl_ar.specs.declared.member.Member.{Member}
use Rattle.kl_model.specs.Kept.{part_number}
use Rattle.kl_model.specs.declared.kit.Kit.{Kit}
use Rattle.kl_model.specs.declared.kit.KitInput.{KitInput}
use Rattle.kl_model.specs.declared.kit.KitKind.{KitKind}
use Rattle.kl_model.specs.declared.kit.KitKind.TheVariants.{Kernel, Library}
use Rattle.kl_model.specs.declared.object.Input.{Input}
use Rattle.kl_model.specs.declared.object.Part.{Part}
use Rattle.kl_model.specs.declared.object.Part.TheVariants.{Head, Drawn, Tail}
use Rattle.kl_kit.specs.KitTexts.{kit_faults, kit_of}
use Rattle.kl_kit.specs.declared.fault.KitFault.{KitFault}
use Rattle.kl_rel.specs.Objects.{flaw, object}
use Rattle.kl_rel.specs.declared.fault.ReadFault.{ReadFault}
use Rattle.kl_jobs.specs.declared.cause.Cause.{Cause}
use Rattle.kl_jobs.specs.declared.cause.Cause.TheVariants as cause
use Rattle.kl_jobs.specs.declared.cause.KitCause.TheVariants.{Absent, Kind, Text, TooLong, Total}
use Rattle.kl_jobs.specs.declared.cause.ObjectCause.TheVariants.{Ar, Elf}
use Rattle.kl_jobs.specs.declared.cause.TotalOf.{TotalOf}
use Rattle.kl_jobs.specs.declared.cause.TotalOf.TheVariants.{Inputs, Bytes, Sections, Symbols, Fields}

-- the names of a kit's text and of a file below its folder
abbrev pub kit_text : List ℕ → List ℕ
kit_text dir = dir ++ codes "/link.conf"

abbrev pub below : List ℕ → List ℕ → List ℕ
below dir file = dir ++ 47 ∷ file

-- the bytes of a name, or none
abbrev pub held : Names → List ℕ → List ℕ
held m name = unwrap_or (get m name) []

-- THE KIT that a folder's text says
abbrev pub kit_in : Names → List ℕ → Kit
kit_in m dir = kit_of (held m (kit_text dir))

-- input lines in kit order: those of the head, the drawn ones, those of the tail
abbrev pub lines_of : Part → List KitInput → List KitInput
lines_of part lines = filter (λ k. part_number k.place == part_number part) lines

abbrev pub kit_order : List KitInput → List KitInput
kit_order lines = lines_of Head lines ++ (lines_of Drawn lines ++ lines_of Tail lines)

-- the input of a part that has these bytes
abbrev pub input_of : Part → List ℕ → Input
input_of place b = record { place = place; bytes = b; object = object b }

-- AN ARCHIVE, by its first eight bytes: one with its members, or a thin one, which only names them
abbrev pub is_archive : List ℕ → Bool
is_archive b = starts_with nat_eq b (codes "!<arch>" ++ 10 ∷ []) || starts_with nat_eq b (codes "!<thin>" ++ 10 ∷ [])

-- the input that a member of an archive is: its own bytes
abbrev pub member_input : Part → List ℕ → Member → Input
member_input place b member = input_of place (bytes_at b member.start member.len)

-- THE INPUTS OF A FILE: the members of an archive in file order, or the one object that any other file is
abbrev pub inputs_of : Part → List ℕ → List Input
inputs_of place b = if is_archive b then map (member_input place b) (members_of b) else input_of place b ∷ []

-- those of some lines, file by file
abbrev pub inputs_in : Names → List ℕ → List KitInput → List Input
inputs_in m dir lines = flat_map (λ k. inputs_of k.place (held m (below dir k.file))) lines

-- WHY A FILE ISN'T READ: the name is absent, or its file is longer than the limit
abbrev pub fault_of : List ℕ → ℕ → Option (List ℕ) → Option Cause
fault_of name limit None = Some (cause.Kit (Absent name))
fault_of name limit (Some bytes) = if nat_lt limit (length bytes) then Some (cause.Kit (TooLong name)) else None

abbrev pub file_fault : Names → List ℕ → ℕ → Option Cause
file_fault m name limit = fault_of name limit (get m name)

-- WHY A KIT OF A KIND ISN'T TAKEN, where a kernel's is wanted, or a library's, or one of either kind: it is of the other
abbrev pub kind_refusal : Option KitKind → KitKind → Option Cause
kind_refusal None kind = None
kind_refusal (Some Kernel) Kernel = None
kind_refusal (Some Kernel) Library = Some (cause.Kit Kind)
kind_refusal (Some Library) Kernel = Some (cause.Kit Kind)
kind_refusal (Some Library) Library = None

-- WHY A KIT TEXT IS REFUSED: its first fault, or its kind
abbrev pub text_cause : KitFault → Cause
text_cause f = cause.Kit (Text f)

abbrev pub contents_refusal : Option KitKind → List ℕ → Option Cause
contents_refusal wanted text = option_or (option_map text_cause (slice_get (kit_faults text) 0)) (kind_refusal wanted (kit_of text).kind)

abbrev pub text_refusal : Option KitKind → Names → List ℕ → Option Cause
text_refusal wanted m dir = option_or (file_fault m (kit_text dir) KIT_TEXT_LIMIT) (contents_refusal wanted (held m (kit_text dir)))

-- what some inputs have too much of for a kit, of so many inputs, bytes, sections, symbols and fields
abbrev pub over_totals : ℕ → ℕ → ℕ → ℕ → ℕ → Option TotalOf
over_totals inputs bytes sections symbols fields =
    if nat_lt INPUT_COUNT_LIMIT inputs then Some Inputs
    else if nat_lt INPUT_BYTES_LIMIT bytes then Some Bytes
    else if nat_lt SECTION_COUNT_LIMIT sections then Some Sections
    else if nat_lt SYMBOL_COUNT_LIMIT symbols then Some Symbols
    else if nat_lt FIELD_COUNT_LIMIT fields then Some Fields else None

unfoldable pub over : List Input → Option TotalOf
over xs =
    over_totals (length xs) (sum_by (λ x. length x.bytes) xs) (sum_by (λ x. length x.object.sections) xs)
    (sum_by (λ x. length x.object.symbols) xs) (sum_by (λ x. length x.object.fields) xs)

-- WHY AN INPUT IS REFUSED, of a kit line and behind other inputs: its first flaw; what it takes the kit past
abbrev pub flaw_cause : ℕ → List Input → ReadFault → Cause
flaw_cause line before f = cause.Object (length before) line (Elf f)

abbrev pub total_cause : ℕ → TotalOf → Cause
total_cause line what = cause.Kit (Total what line)

unfoldable pub input_refusal : ℕ → List Input → Input → Option Cause
input_refusal line before x = option_or (option_map (flaw_cause line before) (flaw x.bytes)) (option_map (total_cause line) (over (before ++ x ∷ [])))

-- that of inputs, one after another
abbrev pub each_refusal : ℕ → List Input → List Input → Option Cause
each_refusal line before [] = None
each_refusal line before (x ∷ xs) = option_or (input_refusal line before x) (each_refusal line (before ++ x ∷ []) xs)

-- WHY A FILE'S BYTES ARE REFUSED: those of an archive for its first fault, told at the number that its first member would have; then input by
-- input
abbrev pub archive_fault : List ℕ → Option ArFault
archive_fault b = if is_archive b then slice_get (faults b) 0 else None

abbrev pub archive_cause : ℕ → List Input → ArFault → Cause
archive_cause line before f = cause.Object (length before) line (Ar f)

abbrev pub bytes_refusal : ℕ → List Input → Part → List ℕ → Option Cause
bytes_refusal line before place b = option_or (option_map (archive_cause line before) (archive_fault b)) (each_refusal line before (inputs_of place b))

-- that of a line: why its file isn't read, and then that of its bytes
abbrev pub line_refusal : Names → List ℕ → List Input → KitInput → Option Cause
line_refusal m dir before k =
    option_or (file_fault m (below dir k.file) INPUT_LIMIT) (bytes_refusal k.line before k.place (held m (below dir k.file)))

-- that of lines, one after another
abbrev pub lines_refusal : Names → List ℕ → List Input → List KitInput → Option Cause
lines_refusal m dir before [] = None
lines_refusal m dir before (k ∷ ks) =
    option_or (line_refusal m dir before k) (lines_refusal m dir (before ++ inputs_of k.place (held m (below dir k.file))) ks)

-- how much some inputs have
pub record Counts (xs : List Input) (inputs bytes sections symbols fields : ℕ) : Type 0 where
  pub inputs_are : inputs ≡ length xs
  pub bytes_are : bytes ≡ sum_by (λ x. length x.bytes) xs
  pub sections_are : sections ≡ sum_by (λ x. length x.object.sections) xs
  pub symbols_are : symbols ≡ sum_by (λ x. length x.object.symbols) xs
  pub fields_are : fields ≡ sum_by (λ x. length x.object.fields) xs
