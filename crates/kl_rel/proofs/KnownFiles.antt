-- What is read of a file whose header and section headers are known.
use Rattle.std.proofs.Common.{ℕ, zero, suc, ◌≡◌, ◌+◌, ◌-◌, ◌*◌, ◌<◌, ◌≤◌, ◌∙◌, Bool, true, false, cond, not, ◌&&◌, List, [], ◌∷◌, ◌++◌, length, get_or, drop, refl, ap, sym, arith, append_assoc, inl, inr}
use Rattle.std.specs.Prelude.{◌==◌, if◌then◌else◌, nat_le, nat_lt, map, filter, flat_map, Option, Some, None}
use Rattle.std.specs.Option.{option_or}
use Rattle.std.specs.List.{range_with_len}
use Rattle.std.proofs.lemmas.Bool.{cases_lt, le-ltb}
use Rattle.std.proofs.lemmas.List.{get_or_past}
use Rattle.std.proofs.lemmas.Bool.Decides.{nat_tests}
use Rattle.kl_base.specs.declared.class.Range.{Range}
use Rattle.kl_elf.specs.Records.{shdr_at}
use Rattle.kl_elf.specs.declared.records.Ehdr.{Ehdr}
use Rattle.kl_elf.specs.declared.records.Shdr.{Shdr}
use Rattle.kl_elf.specs.declared.abi.TheConstants.{EM_X86_64, ET_REL, EV_CURRENT, IDENT, SHF_COMPRESSED, SHF_EXECINSTR, SHF_TLS, SHF_WRITE, SHN_XINDEX}
use Rattle.kl_elf.specs.declared.records.TheConstants.Ehdr as ehdr
use Rattle.kl_elf.specs.declared.records.TheConstants.Shdr as shdr
use Rattle.kl_model.specs.Written.{ehdr_bytes, shdr_bytes}
use Rattle.kl_model.specs.declared.object.Section.{Section}
use Rattle.kl_model.specs.declared.object.Symbol.{Symbol}
use Rattle.kl_model.specs.declared.object.RawField.{RawField}
use Rattle.kl_model.specs.declared.object.Group.{Group}
use Rattle.kl_base.specs.declared.limits.TheConstants.{SIZE_LIMIT}
use Rattle.kl_model.specs.Texts.{has, text_at}
use Rattle.kl_rel.specs.Flaws.{first_of, flaw_if}
use Rattle.kl_rel.specs.Headers.{head, head_flaw, header_place, section, null_header, numbers, table_checks, ranges_flaw, range_flaw, has_bytes, is_string_table, is_symbol_table}
use Rattle.kl_rel.specs.Sections.{section_checks, flags_checks, form_checks, section_name, has_priority, is_alignment, is_allocated, is_linked_type, listed_section, names, sections_in, sections_flaw}
use Rattle.kl_rel.specs.SymbolTables.{symbol_tables, symbol_table, symbol_table_checks, table_form_checks, symbols_flaw, symbols_in}
use Rattle.kl_rel.specs.Relocations.{is_rela, is_rel, rela_checks, rela_flaw_of, relocations_flaw, fields_in, fields_of}
use Rattle.kl_rel.specs.SectionGroups.{is_group, group_flaw_of, groups_flaw, groups_at, groups_in}
use Rattle.kl_rel.specs.Objects.{flaw, object}
use Rattle.kl_rel.specs.declared.fault.ReadFault.{ReadFault}
use Rattle.kl_rel.specs.declared.fault.ReadKind.TheVariants.{Align}
use Rattle.kl_rel.proofs.Tables.{section_zero}
use Rattle.kl_rel.proofs.KnownRecords.{IsSmallEhdr, IsSmallShdr, behind, read_ehdr, read_shdr}

-- what is made of each item and its number
abbrev pub mapped : {X Y : Type 0} → (ℕ → X → Y) → ℕ → List X → List Y
mapped F n [] = []
mapped F n (x ∷ xs) = F n x ∷ mapped F (n + 1) xs

abbrev pub joined : {X Y : Type 0} → (ℕ → X → List Y) → ℕ → List X → List Y
joined F n [] = []
joined F n (x ∷ xs) = F n x ++ joined F (n + 1) xs

-- what holds of each item and its number
abbrev pub EachFrom : {X : Type 0} → (ℕ → X → Type 0) → ℕ → List X → Type 0
EachFrom P n [] = Unit {0}
EachFrom P n (x ∷ xs) = P n x × EachFrom P (n + 1) xs

-- none of several checks finds a flaw
pub none_of : {X : Type 0} (F : ℕ → X → Option ReadFault) (n : ℕ) (xs : List X) → EachFrom (λ n x. F n x ≡ None) n xs → first_of (mapped F n xs) ≡ None
none_of F n [] none = refl
none_of F n (x ∷ xs) none = rw none.0 (none_of F (n + 1) xs none.1)

pub nothing_of : {X Y : Type 0} (F : ℕ → X → List Y) (n : ℕ) (xs : List X) → EachFrom (λ n x. F n x ≡ []) n xs → joined F n xs ≡ []
nothing_of F n [] none = refl
nothing_of F n (x ∷ xs) none = rw none.0 (nothing_of F (n + 1) xs none.1)

-- A file header, and the section headers from number 1 on; any other number has the null header.
pub record IsFile (b : List ℕ) (h : Ehdr) (ss : List Shdr) : Type 0 where
  pub head : head b ≡ h
  pub count : h.shnum ≡ suc (length ss)
  pub sections : (n : ℕ) → section b n ≡ get_or (null_header ∷ ss) n null_header

-- section headers in a row
headers_there : (b : List ℕ) (at : ℕ) (ss : List Shdr) (ys : List ℕ) → EachFrom (λ n s. IsSmallShdr s) 1 ss → drop at b ≡ flat_map shdr_bytes ss ++ ys
    → (k : ℕ) → k < length ss → shdr_at b (at + shdr.SIZE * k) ≡ get_or ss k null_header
headers_there b at ss ys small h k l = go 1 at ss small h k l
  where
    go : (n at : ℕ) (ss : List Shdr) → EachFrom (λ n s. IsSmallShdr s) n ss → drop at b ≡ flat_map shdr_bytes ss ++ ys → (k : ℕ) → k < length ss
        → shdr_at b (at + shdr.SIZE * k) ≡ get_or ss k null_header
    go n at [] small h k l = absurd (omega (arith, l))
    go n at (s ∷ ss) small h zero l =
        let here : at + shdr.SIZE * 0 ≡ at = omega arith in
        rw here (read_shdr b at s (flat_map shdr_bytes ss ++ ys) small.0 (h ∙ append_assoc (shdr_bytes s) (flat_map shdr_bytes ss) ys))
    go n at (s ∷ ss) small h (suc k) l =
        let there : at + shdr.SIZE * suc k ≡ (at + 64) + shdr.SIZE * k = omega arith in
        rw there (go (n + 1) (at + 64) ss small.1 (behind b at (at + 64) (shdr_bytes s) (flat_map shdr_bytes ss ++ ys) refl
        (h ∙ append_assoc (shdr_bytes s) (flat_map shdr_bytes ss) ys)) k (omega (arith, l)))

pub known_file : (b : List ℕ) (h : Ehdr) (ss : List Shdr) (xs ys : List ℕ) → IsSmallEhdr h → EachFrom (λ n s. IsSmallShdr s) 1 ss
    → h.shnum ≡ suc (length ss) → b ≡ ehdr_bytes h ++ xs → drop (h.shoff + shdr.SIZE) b ≡ flat_map shdr_bytes ss ++ ys → IsFile b h ss
unfolding section
known_file b h ss xs ys f small count first table =
    let is : head b ≡ h = read_ehdr b h xs f first in
    record { head = is; count = count; sections = λ n. each is n }
  where
    each : head b ≡ h → (n : ℕ) → section b n ≡ get_or (null_header ∷ ss) n null_header
    each is zero = refl
    each is (suc k) =
        let place_is : (head b).shoff ≡ h.shoff = ap (λ (x : Ehdr). x.shoff) is in
        let count_is : (head b).shnum ≡ suc (length ss) = ap (λ (x : Ehdr). x.shnum) is ∙ count in
        elim (cases_lt k (length ss)) [
          | inl l ↦
              let some : (suc k == 0) ≡ false = grind (arith, nat_tests) in
              let below : nat_le (suc (length ss)) (suc k) ≡ false = grind (arith, nat_tests) in
              let place : h.shoff + shdr.SIZE * suc k ≡ h.shoff + shdr.SIZE + shdr.SIZE * k = omega arith in
              rw (count_is, place_is, some, below, place) (headers_there b (h.shoff + shdr.SIZE) ss ys small table k l)
          | inr l ↦
              let some : (suc k == 0) ≡ false = grind (arith, nat_tests) in
              let past : nat_le (suc (length ss)) (suc k) ≡ true = grind (arith, nat_tests) in
              rw (count_is, some, past) (sym (get_or_past ss k null_header l))
        ]

module _ (b : List ℕ) (h : Ehdr) (ss : List Shdr) (file : IsFile b h ss) where
  -- fields of the header
  pub shoff_is : (head b).shoff ≡ h.shoff
  shoff_is = ap (λ (x : Ehdr). x.shoff) file.head

  pub shnum_is : (head b).shnum ≡ suc (length ss)
  shnum_is = ap (λ (x : Ehdr). x.shnum) file.head ∙ file.count

  pub shstrndx_is : (head b).shstrndx ≡ h.shstrndx
  shstrndx_is = ap (λ (x : Ehdr). x.shstrndx) file.head

  numbers_are : numbers b ≡ range_with_len 1 (length ss)
  numbers_are = let e : suc (length ss) - 1 ≡ length ss = omega arith in rw (shnum_is, e) refl

  -- the sections from number 1 on
  abbrev AreFrom : ℕ → List Shdr → Type 0
  AreFrom a ts = (k : ℕ) → k < length ts → section b (a + k) ≡ get_or ts k null_header

  from_one : AreFrom 1 ss
  from_one k l = let e : 1 + k ≡ suc k = omega arith in rw e (file.sections (suc k))

  first_is : (a : ℕ) (s : Shdr) (ts : List Shdr) → AreFrom a (s ∷ ts) → section b a ≡ s
  first_is a s ts at = let z : a + 0 ≡ a = omega arith in rw z at (at 0 (omega arith))

  rest_are : (a : ℕ) (s : Shdr) (ts : List Shdr) → AreFrom a (s ∷ ts) → AreFrom (a + 1) ts
  rest_are a s ts at k l = let e : a + 1 + k ≡ a + suc k = omega arith in rw e (at (suc k) (omega (arith, l)))

  -- what is made of each section
  pub maps : {X : Type 0} (F : ℕ → Shdr → X) → map (λ n. F n (section b n)) (numbers b) ≡ mapped F 1 ss
  maps F = rw numbers_are (go 1 ss from_one)
    where
      go : (a : ℕ) (ts : List Shdr) → AreFrom a ts → map (λ n. F n (section b n)) (range_with_len a (length ts)) ≡ mapped F a ts
      go a [] at = refl
      go a (s ∷ ts) at = rw (first_is a s ts at, go (a + 1) ts (rest_are a s ts at)) refl

  pub joins : {X : Type 0} (F : ℕ → Shdr → List X) → flat_map (λ n. F n (section b n)) (numbers b) ≡ joined F 1 ss
  joins F = rw numbers_are (go 1 ss from_one)
    where
      go : (a : ℕ) (ts : List Shdr) → AreFrom a ts → flat_map (λ n. F n (section b n)) (range_with_len a (length ts)) ≡ joined F a ts
      go a [] at = refl
      go a (s ∷ ts) at = rw (first_is a s ts at, go (a + 1) ts (rest_are a s ts at)) refl

  -- the numbers of the symbol tables
  pub tables_are : symbol_tables b ≡ joined (λ n s. if is_symbol_table s then n ∷ [] else []) 1 ss
  unfolding symbol_tables
  tables_are = rw numbers_are (go 1 ss from_one)
    where
      one : (x : Bool) (a : ℕ) (ns : List ℕ) → cond x (a ∷ ns) ns ≡ cond x (a ∷ []) [] ++ ns
      one true a ns = refl
      one false a ns = refl

      go : (a : ℕ) (ts : List Shdr) → AreFrom a ts
          → filter (λ n. is_symbol_table (section b n)) (range_with_len a (length ts)) ≡ joined (λ n s. if is_symbol_table s then n ∷ [] else []) a ts
      go a [] at = refl
      go a (s ∷ ts) at = rw (first_is a s ts at, go (a + 1) ts (rest_are a s ts at)) (one (is_symbol_table s) a _)

  -- the file header is that of a relocatable object for x86-64
  pub head_passes : h.ident ≡ IDENT → h.kind ≡ ET_REL → h.machine ≡ EM_X86_64 → h.version ≡ EV_CURRENT → h.ehsize ≡ ehdr.SIZE → h.shentsize ≡ shdr.SIZE
      → ehdr.SIZE ≤ length b → head_flaw b ≡ None
  head_passes ident kind machine version ehsize shentsize long =
      let whole : nat_lt (length b) 64 ≡ false = le-ltb (length b) 64 long in
      let ident_is : (head b).ident ≡ IDENT = ap (λ (x : Ehdr). x.ident) file.head ∙ ident in
      let kind_is : (head b).kind ≡ ET_REL = ap (λ (x : Ehdr). x.kind) file.head ∙ kind in
      let machine_is : (head b).machine ≡ EM_X86_64 = ap (λ (x : Ehdr). x.machine) file.head ∙ machine in
      let version_is : (head b).version ≡ EV_CURRENT = ap (λ (x : Ehdr). x.version) file.head ∙ version in
      let ehsize_is : (head b).ehsize ≡ ehdr.SIZE = ap (λ (x : Ehdr). x.ehsize) file.head ∙ ehsize in
      let shentsize_is : (head b).shentsize ≡ shdr.SIZE = ap (λ (x : Ehdr). x.shentsize) file.head ∙ shentsize in
      rw (ident_is, kind_is, machine_is, version_is, ehsize_is, shentsize_is, whole) refl

  -- the section header table lies in the file, and its string table is one
  pub table_passes : (h.shstrndx == SHN_XINDEX) ≡ false → h.shoff + shdr.SIZE * h.shnum ≤ length b
      → is_string_table (get_or (null_header ∷ ss) h.shstrndx null_header) ≡ true → first_of (table_checks b) ≡ None
  unfolding table_checks
  table_passes known lies strings =
      let some : (suc (length ss) == 0) ≡ false = grind (arith, nat_tests) in
      let inside : nat_lt (length b) (h.shoff + shdr.SIZE * suc (length ss)) ≡ false =
      le-ltb (length b) (h.shoff + shdr.SIZE * suc (length ss)) (rw file.count at lies) in
      rw (shstrndx_is, shoff_is, shnum_is, file.sections h.shstrndx, known, strings, inside, some) refl

  -- the bytes of each section lie in the file
  pub ranges_pass : EachFrom (λ n s. has_bytes s ≡ true → s.offset + s.size ≤ length b) 1 ss → ranges_flaw b ≡ None
  unfolding ranges_flaw range_flaw
  ranges_pass lie = rw (maps (λ n s. range_flaw b (header_place b n) s)) (none_of (λ n s. range_flaw b (header_place b n) s) 1 ss (each 1 ss lie))
    where
      one : (place : ℕ) (s : Shdr) (x : Bool) → has_bytes s ≡ x → (has_bytes s ≡ true → s.offset + s.size ≤ length b) → range_flaw b place s ≡ None
      one place s true e lie = let inside : nat_lt (length b) (s.offset + s.size) ≡ false = le-ltb (length b) (s.offset + s.size) (lie e) in rw (e, inside) refl
      one place s false e lie = rw e refl

      each : (n : ℕ) (ts : List Shdr) → EachFrom (λ n s. has_bytes s ≡ true → s.offset + s.size ≤ length b) n ts
          → EachFrom (λ n s. range_flaw b (header_place b n) s ≡ None) n ts
      each n [] lie = tt
      each n (s ∷ ts) lie = (one (header_place b n) s (has_bytes s) refl lie.0, each (n + 1) ts lie.1)

  -- the names and types of the sections, and how the sections are listed
  pub sections_pass : EachFrom (λ n s. (place : ℕ) → first_of (section_checks b (names b) place s) ≡ None) 1 ss → sections_flaw b ≡ None
  unfolding sections_flaw
  sections_pass none =
      rw (maps (λ n s. first_of (section_checks b (names b) (header_place b n) s)))
      (none_of (λ n s. first_of (section_checks b (names b) (header_place b n) s)) 1 ss (each 1 ss none))
    where
      each : (n : ℕ) (ts : List Shdr) → EachFrom (λ n s. (place : ℕ) → first_of (section_checks b (names b) place s) ≡ None) n ts
          → EachFrom (λ n s. first_of (section_checks b (names b) (header_place b n) s) ≡ None) n ts
      each n [] none = tt
      each n (s ∷ ts) none = (none.0 (header_place b n), each (n + 1) ts none.1)

  pub sections_listed : sections_in b ≡ mapped (λ n s. listed_section b (names b) s) 1 ss
  unfolding sections_in
  sections_listed = maps (λ n s. listed_section b (names b) s)

  -- the relocation sections
  pub relocations_pass : EachFrom (λ n s. rela_flaw_of b n ≡ None) 1 ss → relocations_flaw b ≡ None
  unfolding relocations_flaw
  relocations_pass none = rw numbers_are (go 1 ss none)
    where
      go : (a : ℕ) (ts : List Shdr) → EachFrom (λ n s. rela_flaw_of b n ≡ None) a ts → first_of (map (λ n. rela_flaw_of b n) (range_with_len a (length ts))) ≡ None
      go a [] none = refl
      go a (s ∷ ts) none = rw none.0 (go (a + 1) ts none.1)

  pub fields_listed : fields_in b ≡ joined (λ n s. fields_of b n) 1 ss
  unfolding fields_in
  fields_listed = rw numbers_are (go 1 ss)
    where
      go : (a : ℕ) (ts : List Shdr) → flat_map (fields_of b) (range_with_len a (length ts)) ≡ joined (λ n s. fields_of b n) a ts
      go a [] = refl
      go a (s ∷ ts) = ap (λ xs. fields_of b a ++ xs) (go (a + 1) ts)

  -- no section is a group
  pub no_groups : EachFrom (λ n s. is_group s ≡ false) 1 ss → (groups_flaw b ≡ None) × (groups_in b ≡ [])
  unfolding groups_flaw groups_in groups_at
  no_groups none = (rw numbers_are (flaws 1 ss from_one none), rw numbers_are (lists 1 ss from_one none))
    where
      flaws : (a : ℕ) (ts : List Shdr) → AreFrom a ts → EachFrom (λ n s. is_group s ≡ false) a ts → first_of (map (λ n. group_flaw_of b n) (range_with_len a (length ts))) ≡ None
      flaws a [] at none = refl
      flaws a (s ∷ ts) at none = rw (first_is a s ts at, none.0) (flaws (a + 1) ts (rest_are a s ts at) none.1)

      lists : (a : ℕ) (ts : List Shdr) → AreFrom a ts → EachFrom (λ n s. is_group s ≡ false) a ts → flat_map (λ n. groups_at b n) (range_with_len a (length ts)) ≡ []
      lists a [] at none = refl
      lists a (s ∷ ts) at none = rw (first_is a s ts at, none.0) (lists (a + 1) ts (rest_are a s ts at) none.1)

-- a section that isn't in memory has its name checked alone
pub other_passes : (b : List ℕ) (t s : Shdr) (r : Range) → section_name b t s ≡ Some r → is_allocated s ≡ false
    → (place : ℕ) → first_of (section_checks b t place s) ≡ None
unfolding section_checks
other_passes b t s r name other place = rw (name, other) refl

pub flags_pass : (s : Shdr) → has s.flags SHF_TLS ≡ false → has s.flags SHF_COMPRESSED ≡ false
    → (has s.flags SHF_WRITE && has s.flags SHF_EXECINSTR) ≡ false → (place : ℕ) → first_of (flags_checks place s) ≡ None
unfolding flags_checks
flags_pass s tls compressed both place = rw (tls, compressed, both) refl

pub form_passes : (b : List ℕ) (s : Shdr) (r : Range) (text : List ℕ) → is_linked_type s.kind ≡ true → text_at b r ≡ text → has_priority text ≡ false
    → is_alignment s.addralign ≡ true → s.size ≤ SIZE_LIMIT → (place : ℕ) → first_of (form_checks b place r s) ≡ None
unfolding form_checks
form_passes b s r text kind is plain align size place =
    let small : nat_lt SIZE_LIMIT s.size ≡ false = le-ltb SIZE_LIMIT s.size size in
    rw (kind, is, plain, align, small) (go (s.addralign == 0))
  where
    go : (x : Bool) → option_or (flaw_if (not x && false) Align (place + shdr.SH_ADDRALIGN)) None ≡ None
    go true = refl
    go false = refl

pub allocated_passes : (b : List ℕ) (t s : Shdr) (r : Range) → section_name b t s ≡ Some r → ((place : ℕ) → first_of (flags_checks place s) ≡ None)
    → ((place : ℕ) → first_of (form_checks b place r s) ≡ None) → (place : ℕ) → first_of (section_checks b t place s) ≡ None
unfolding section_checks
allocated_passes b t s r name flags form place = rw name (go (is_allocated s))
  where
    go : (x : Bool) → option_or (if x then first_of (flags_checks place s) else None) (option_or (if x then first_of (form_checks b place r s) else None) None) ≡ None
    go true = rw (flags place, form place) refl
    go false = refl

pub section_listed : (b : List ℕ) (t s : Shdr) (r : Range) → section_name b t s ≡ Some r
    → listed_section b t s ≡ record { name = r; kind = s.kind; flags = s.flags; at = s.offset; size = s.size; align = s.addralign }
unfolding listed_section
section_listed b t s r name = rw name refl

-- an object without a symbol table has no symbols
pub record HasNoSymbols (b : List ℕ) : Type 0 where
  pub table : first_of (symbol_table_checks b) ≡ None
  pub flaw : symbols_flaw b ≡ None
  pub list : symbols_in b ≡ []

pub no_symbols : (b : List ℕ) → symbol_tables b ≡ [] → HasNoSymbols b
unfolding symbol_table_checks symbol_table symbols_flaw symbols_in
no_symbols b none = record {
  table = rw none refl;
  flaw = rw (none, section_zero b) refl;
  list = rw (none, section_zero b) refl;
}

-- an object with one symbol table
pub record HasTable (b : List ℕ) (s : Shdr) : Type 0 where
  pub checks : first_of (symbol_table_checks b) ≡ None
  pub table : symbol_table b ≡ s

pub one_table : (b : List ℕ) (n : ℕ) (s : Shdr) → symbol_tables b ≡ n ∷ [] → (n == 0) ≡ false → section b n ≡ s
    → ((place : ℕ) → first_of (table_form_checks b place s) ≡ None) → HasTable b s
unfolding symbol_table_checks symbol_table
one_table b n s one number is form = record {
  checks = rw (one, number, is, form (header_place b n)) refl;
  table = rw (one, is) refl;
}

-- the parts of an object, of which none has a flaw
pub no_flaw : (b : List ℕ) → head_flaw b ≡ None → first_of (table_checks b) ≡ None → ranges_flaw b ≡ None → sections_flaw b ≡ None
    → first_of (symbol_table_checks b) ≡ None → symbols_flaw b ≡ None → relocations_flaw b ≡ None → groups_flaw b ≡ None → flaw b ≡ None
unfolding flaw
no_flaw b head table ranges sections symbol_table symbols relocations groups = rw (head, table, ranges, sections, symbol_table, symbols, relocations, groups) refl

pub object_is : (b : List ℕ) (sections : List Section) (symbols : List Symbol) (fields : List RawField) (groups : List Group) → sections_in b ≡ sections
    → symbols_in b ≡ symbols → fields_in b ≡ fields → groups_in b ≡ groups
    → object b ≡ record { sections = sections; symbols = symbols; fields = fields; groups = groups }
unfolding object
object_is b sections symbols fields groups es ey ef eg = rw (es, ey, ef, eg) refl

-- a section that is no relocation section
pub no_relocation : (b : List ℕ) (n : ℕ) (s : Shdr) → section b n ≡ s → is_rela s ≡ false → is_rel s ≡ false
    → (rela_flaw_of b n ≡ None) × (fields_of b n ≡ [])
unfolding rela_checks fields_of
no_relocation b n s is rela rel = (rw (is, rela, rel) refl, rw (is, rela) refl)
