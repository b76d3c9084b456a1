-- The text of a kit: the faults that stand in it, and the kit that it is.
use Rattle.std.specs.Prelude.{ℕ, Bool, true, false, not, ◌&&◌, ◌==◌, nat_le, if◌then◌else◌, List, [], ◌∷◌, ◌++◌, flat_map, filter_map, length, map, is_some, is_none, unwrap_or, Option, Some, None}
use Rattle.std.specs.Option.{option_map_or}
use Rattle.kl_base.specs.declared.limits.TheConstants.{INPUT_COUNT_LIMIT, KERNEL_BASE}
use Rattle.kl_text.specs.Lines.{lines}
use Rattle.kl_model.specs.Lists.{only_if}
use Rattle.kl_model.specs.Kits.{is_empty, is_kernel}
use Rattle.kl_model.specs.declared.kit.KitKind.{KitKind}
use Rattle.kl_model.specs.declared.kit.KitKind.TheVariants.{Kernel, Library}
use Rattle.kl_model.specs.declared.kit.KitInput.{KitInput}
use Rattle.kl_model.specs.declared.kit.Run.{Run}
use Rattle.kl_model.specs.declared.kit.EdgeLine.{EdgeLine}
use Rattle.kl_model.specs.declared.kit.Kit.{Kit}
use Rattle.kl_kit.specs.Forms.{is_kernel_output, is_reserved}
use Rattle.kl_kit.specs.Keywords.{has_lines, keyword_of, word_count}
use Rattle.kl_kit.specs.KitLines.{KitLine, said, statement_of, statements}
use Rattle.kl_kit.specs.Keys.{comes_again, keys_of, line_keys}
use Rattle.kl_kit.specs.TextFaults.{bytes_faults, text_faults}
use Rattle.kl_kit.specs.declared.keyword.Keyword.{Keyword}
use Rattle.kl_kit.specs.declared.keyword.Keyword.TheVariants as keyword
use Rattle.kl_kit.specs.declared.statement.Statement.{Statement}
use Rattle.kl_kit.specs.declared.statement.Statement.TheVariants as says
use Rattle.kl_kit.specs.declared.fault.KitFault.{KitFault}
use Rattle.kl_kit.specs.declared.fault.KitFault.TheVariants as fault
use Rattle.kl_kit.specs.declared.fault.Needed.{Needed}
use Rattle.kl_kit.specs.declared.fault.Needed.TheVariants as needed

-- What statements say of one part of a kit. A part that only one line may say is what the last one says.
abbrev pub last : {X : Type 0} → List X → Option X
last [] = None
last (x ∷ []) = Some x
last (x ∷ y ∷ xs) = last (y ∷ xs)

abbrev pub kind_said : Statement → Option KitKind
kind_said (says.Kind k) = Some k
kind_said s = None

abbrev pub output_said : Statement → Option (List ℕ)
output_said (says.Output name) = Some name
output_said s = None

abbrev pub base_said : Statement → Option ℕ
base_said (says.Base n) = Some n
base_said s = None

abbrev pub entry_said : Statement → Option (List ℕ)
entry_said (says.Entry symbol) = Some symbol
entry_said s = None

abbrev pub input_said : Statement → Option KitInput
input_said (says.Input input) = Some input
input_said s = None

abbrev pub run_said : Statement → Option Run
run_said (says.Run run) = Some run
run_said s = None

abbrev pub edge_said : Statement → Option EdgeLine
edge_said (says.Edge edge) = Some edge
edge_said s = None

abbrev pub drop_said : Statement → Option (List ℕ)
drop_said (says.Drop section) = Some section
drop_said s = None

abbrev pub soname_said : Statement → Option (List ℕ)
soname_said (says.Soname text) = Some text
soname_said s = None

abbrev pub needed_said : Statement → Option (List ℕ)
needed_said (says.Needed text) = Some text
needed_said s = None

abbrev pub export_said : Statement → Option (List ℕ)
export_said (says.Export symbol) = Some symbol
export_said s = None

abbrev pub symbolic_said : Statement → Option Bool
symbolic_said says.Symbolic = Some true
symbolic_said s = None

abbrev pub refuse_said : Statement → Option Bool
refuse_said (says.Undefined refuse) = Some refuse
refuse_said s = None

-- what one line says, and what each of several says
abbrev pub one : {X : Type 0} → (Statement → Option X) → List Statement → Option X
one part ss = last (filter_map part ss)

abbrev pub many : {X : Type 0} → (Statement → Option X) → List Statement → List X
many part ss = filter_map part ss

-- the base of a kit that names none
abbrev pub default_base : KitKind → ℕ
default_base Kernel = KERNEL_BASE
default_base Library = 0

-- THE KIT that statements say where nothing is missing
abbrev pub kit_of_statements : List Statement → Kit
kit_of_statements ss =
    let kind = unwrap_or (one kind_said ss) Kernel in
    record {
      kind = kind;
      output = unwrap_or (one output_said ss) [];
      base = unwrap_or (one base_said ss) (default_base kind);
      entry = one entry_said ss;
      inputs = many input_said ss;
      runs = many run_said ss;
      edges = many edge_said ss;
      drops = many drop_said ss;
      needed = many needed_said ss;
      exports = many export_said ss;
      soname = one soname_said ss;
      symbolic = unwrap_or (one symbolic_said ss) false;
      refuse = unwrap_or (one refuse_said ss) false;
    }

-- what is missing behind all lines, in the order in which it is told
abbrev pub is_kernel_kit : List Statement → Bool
is_kernel_kit ss = option_map_or is_kernel (one kind_said ss) false

abbrev pub missing : List Statement → List Needed
missing ss =
    only_if (is_none (one kind_said ss)) needed.Kind
    ++ only_if (is_none (one output_said ss)) needed.Output
    ++ only_if (is_kernel_kit ss && is_none (one entry_said ss)) needed.Entry
    ++ only_if (is_empty (many input_said ss)) needed.Input

-- `kind` is the first line that says something and no other, and each line is one of the kit's kind
abbrev pub is_kind : Keyword → Bool
is_kind keyword.Kind = true
is_kind k = false

abbrev pub has_line : Option KitKind → Keyword → Bool
has_line kind k = option_map_or (λ x. has_lines x k) kind false

abbrev pub is_in_place : List KitLine → Keyword → Bool
is_in_place before k =
    if is_empty before then is_kind k else not (is_kind k) && has_line (one kind_said (statements before)) k

-- an output other than that of a kernel, in a kernel's kit; and one that other kits may not have, in such a kit
abbrev pub is_wrong_output : Option KitKind → Statement → Bool
is_wrong_output (Some Kernel) (says.Output name) = not (is_kernel_output name)
is_wrong_output kind s = false

abbrev pub is_reserved_output : Option KitKind → Statement → Bool
is_reserved_output (Some Library) (says.Output name) = is_reserved name
is_reserved_output kind s = false

-- an input line behind as many as a kit may have
abbrev pub is_one_too_many : List Statement → Statement → Bool
is_one_too_many ss s = is_some (input_said s) && nat_le INPUT_COUNT_LIMIT (length (many input_said ss))

-- THE FAULTS OF A LINE that says something, behind others, in the order in which they are told. First those of its place and its
-- number of words ..
abbrev pub place_faults : Bool → KitLine → Keyword → List KitFault
place_faults in_place l k =
    only_if (not in_place) (fault.Misplaced l.number)
    ++ only_if (not (length l.words == word_count k)) (fault.Count l.number)

-- .. then those of the output's name ..
abbrev pub output_faults : Option KitKind → ℕ → Statement → List KitFault
output_faults kind number s =
    only_if (is_wrong_output kind s) (fault.Value number) ++ only_if (is_reserved_output kind s) (fault.Reserved number)

-- .. and of all that is said, where each word is in its form
abbrev pub statement_faults : List KitLine → KitLine → Keyword → Statement → List KitFault
statement_faults before l k s =
    output_faults (one kind_said (statements before)) l.number s
    ++ only_if (comes_again (flat_map line_keys before) (keys_of k l.words)) (fault.Twice l.number)
    ++ only_if (is_one_too_many (statements before) s) (fault.Limit l.number)

abbrev pub said_faults : List KitLine → KitLine → List KitFault
said_faults before l =
    option_map_or (λ k.
    place_faults (is_in_place before k) l k
    ++ option_map_or (statement_faults before l k) (statement_of k l.number l.words) (fault.Value l.number ∷ []))
    (keyword_of l.keyword) (fault.Keyword l.number ∷ [])

-- the faults of the line of a number with these bytes, behind lines that say something
abbrev pub line_faults : List KitLine → ℕ → List ℕ → List KitFault
line_faults before number bytes = bytes_faults said_faults before number bytes

-- what is missing behind lines, as faults
abbrev pub missing_faults : List KitLine → List KitFault
missing_faults ls = map fault.Missing (missing (statements ls))

-- ALL FAULTS THAT STAND IN A KIT TEXT: those of its lines, then what is missing. The first is told.
unfoldable pub kit_faults : List ℕ → List KitFault
kit_faults text = text_faults said_faults missing_faults text

-- THE KIT OF A TEXT in which no fault stands
unfoldable pub kit_of : List ℕ → Kit
kit_of text = kit_of_statements (statements (said (lines text)))
