-- A kernel's kit that is made from a number of objects: each has a text that calls another's, and a word of data that leads to its own.
use Rattle.std.specs.Prelude.{ℕ, zero, suc, ◌+◌, ◌*◌, ◌%◌, ◌≡◌, ◌<◌, false, pos, negsuc, List, [], ◌∷◌, ◌++◌, map, length, codes, decimal, All}
use Rattle.std.specs.List.{range_with_len}
use Rattle.kl_base.specs.declared.limits.TheConstants.{KERNEL_BASE}
use Rattle.kl_elf.specs.declared.abi.TheConstants.{R_X86_64_64, R_X86_64_PLT32, SHF_ALLOC, SHF_EXECINSTR, SHF_WRITE, SHN_UNDEF, SHT_PROGBITS, STB_GLOBAL, STB_LOCAL, STT_FUNC, STT_NOTYPE, STV_DEFAULT}
use Rattle.kl_model.specs.Kept.{input_at}
use Rattle.kl_model.specs.Kits.{kernel_kit}
use Rattle.kl_model.specs.Texts.{has, text_at}
use Rattle.kl_model.specs.declared.object.Part.{Part}
use Rattle.kl_model.specs.declared.object.Part.TheVariants.{Head, Drawn}
use Rattle.kl_model.specs.declared.object.Section.{Section}
use Rattle.kl_model.specs.declared.object.Symbol.{Symbol}
use Rattle.kl_model.specs.declared.object.RawField.{RawField}
use Rattle.kl_model.specs.declared.object.Input.{Input}
use Rattle.kl_model.specs.declared.kit.Kit.{Kit}
use Rattle.kl_model.specs.declared.kit.KitInput.{KitInput}

-- the name of the function of object k: `f` and k in decimal
abbrev pub made_name : ℕ → List ℕ
made_name k = codes "f" ++ decimal k

-- how many bytes its text has
abbrev pub text_size : ℕ → ℕ
text_size k = 16 + 16 * (k % 4)

-- the number of the object whose function it calls, among n
abbrev pub callee : ℕ → ℕ → ℕ
callee n k = (7 * k + 1) % n

-- object 0 is the head, and the others are drawn
abbrev pub made_place : ℕ → Part
made_place zero = Head
made_place (suc k) = Drawn

-- the input line of object k: its file is named after its function; it stands behind the lines `kind`, `output` and `entry`
abbrev pub made_line : ℕ → KitInput
made_line k = record { place = made_place k; file = made_name k ++ codes ".o"; line = 4 + k }

-- THE KIT OF n OBJECTS
abbrev pub made_kit : ℕ → Kit
made_kit n = kernel_kit (codes "/bsd") KERNEL_BASE (made_name 0) (map made_line (range_with_len 0 n))

-- a section of SHT_PROGBITS by its name, its flags, its size and its alignment (gABI, `Elf64_Shdr`)
pub record IsMadeSection (b name : List ℕ) (flags size align : ℕ) (s : Section) : Type 0 where
  pub named : text_at b s.name ≡ name
  pub kind : s.kind ≡ SHT_PROGBITS
  pub flagged : s.flags ≡ flags
  pub sized : s.size ≡ size
  pub aligned : s.align ≡ align

-- a GLOBAL symbol of STV_DEFAULT with value 0, by its name, its type and its section (gABI, `Elf64_Sym`)
pub record IsMadeSymbol (b name : List ℕ) (kind section : ℕ) (y : Symbol) : Type 0 where
  pub named : text_at b y.name ≡ name
  pub binding : y.binding ≡ STB_GLOBAL
  pub typed : y.kind ≡ kind
  pub visibility : y.visibility ≡ STV_DEFAULT
  pub stands : y.section ≡ section
  pub value : y.value ≡ 0

-- the call in the text, by symbol 2; the word of data, by symbol 1
abbrev pub made_call : RawField
made_call = record { rela = 3; index = 0; section = 1; offset = 1; kind = R_X86_64_PLT32; symbol = 2; addend = negsuc 3 }

abbrev pub made_word : RawField
made_word = record { rela = 4; index = 0; section = 2; offset = 0; kind = R_X86_64_64; symbol = 1; addend = pos 0 }

-- INPUT k OF n: section 1 is `.text` and section 2 `.data`, and no other has SHF_ALLOC: `.rela.text`, `.rela.data`, `.symtab`, `.strtab`
-- and `.shstrtab`; symbol 1 is its own function and symbol 2 the one that it calls
pub record IsMadeInput (n k : ℕ) (x : Input) : Type 0 where
  pub place : x.place ≡ made_place k
  pub text : Section
  pub words : Section
  pub others : List Section
  pub sections : x.object.sections ≡ text ∷ words ∷ others
  pub is_text : IsMadeSection x.bytes (codes ".text") (SHF_ALLOC + SHF_EXECINSTR) (text_size k) 16 text
  pub is_data : IsMadeSection x.bytes (codes ".data") (SHF_ALLOC + SHF_WRITE) 8 8 words
  pub other_count : length others ≡ 5
  pub unallocated : All (λ s. has s.flags SHF_ALLOC ≡ false) others
  pub null : Symbol
  pub own : Symbol
  pub called : Symbol
  pub symbols : x.object.symbols ≡ null ∷ own ∷ called ∷ []
  pub is_null : (null.binding ≡ STB_LOCAL) × (null.section ≡ SHN_UNDEF)
  pub is_own : IsMadeSymbol x.bytes (made_name k) STT_FUNC 1 own
  pub is_called : IsMadeSymbol x.bytes (made_name (callee n k)) STT_NOTYPE SHN_UNDEF called
  pub fields : x.object.fields ≡ made_call ∷ made_word ∷ []
  pub groups : x.object.groups ≡ []

-- n inputs, each of them made
pub record AreMade (n : ℕ) (inputs : List Input) : Type 0 where
  pub count : length inputs ≡ n
  pub each_input : (k : ℕ) → k < n → IsMadeInput n k (input_at inputs k)
