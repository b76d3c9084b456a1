-- A TEXT THAT SAYS AN INDEX HAS NO FAULT, and reads as that index.
use Rattle.std.proofs.Common.{◌≡◌, ℕ, suc, ◌+◌, ◌<◌, false, List, [], ◌∷◌, ◌++◌, length, get_or, refl, sym, ap, subst, ◌∙◌, arith, append_assoc, Option}
use Rattle.std.specs.Prelude.{Result, Ok, Err, IfOk, IfErr, Some, None, ◌≢◌, codes, map, slice_get, All}
use Rattle.std.specs.Option.{option_map_or}
use Rattle.std.proofs.lemmas.Bool.{le-leb, lt-leb, le-ltb}
use Rattle.std.proofs.lemmas.List.{length-append, map-append, get_or_append_left, get_or-append-add}
use Rattle.std.proofs.lemmas.List.Folds.{list_any_none}
use Rattle.kl_base.specs.Names.{name_fault}
use Rattle.kl_base.specs.declared.limits.TheConstants.{FILE_LIMIT, OUTPUT_LIMIT}
use Rattle.kl_base.proofs.Bools.{other_bytes}
use Rattle.kl_model.specs.Kits.{is_empty}
use Rattle.kl_model.specs.Lists.{only_if}
use Rattle.kl_kit.specs.Forms.{dir_of, is_reserved, name_of}
use Rattle.kl_kit.specs.IndexTexts.{index_faults, index_line_faults, index_of, libraries, library_faults, library_line_faults, library_of, no_library, share_name}
use Rattle.kl_kit.specs.Indexes.{IsFreeOutput, IsIndex, IsIndexText, IsKitFolder, IsLibraryLine, library_line}
use Rattle.kl_kit.specs.KitLines.{KitLine}
use Rattle.kl_kit.specs.Readers.{IsFirst}
use Rattle.kl_kit.specs.declared.fault.KitError.{KitError}
use Rattle.kl_kit.specs.declared.fault.KitError.TheVariants as error
use Rattle.kl_kit.specs.declared.fault.KitFault.{KitFault}
use Rattle.kl_kit.specs.declared.fault.KitFault.TheVariants as fault
use Rattle.kl_kit.specs.declared.fault.Needed.TheVariants as needed
use Rattle.kl_kit.specs.declared.index.Library.{Library}
use Rattle.kl_kit.specs.declared.index.TheConstants.{LIBRARY_LIMIT}
use Rattle.kl_kit.proofs.SoundLines.{AreSoundBy, none_of_lines}

-- a word in its form
name_read : (w : List ℕ) → name_fault w ≡ None → name_of w ≡ Some w
name_read w e = rw e refl

dir_read : (w : List ℕ) → IsKitFolder w → dir_of w ≡ Some w
dir_read w is = rw (le-leb (length w) FILE_LIMIT is.short, is.below) (name_read w is.name)

-- an output that isn't reserved
not_reserved : (w : List ℕ) → IsFreeOutput w → is_reserved w ≡ false
not_reserved w is =
    rw (
      le-ltb OUTPUT_LIMIT (length w) is.short,
      other_bytes w (codes "/bsd") is.kernel,
      other_bytes w (codes "/obsd") is.old_kernel,
      is.no_kit,
      is.no_record,
      is.no_scratch,
      is.no_map,
      is.not_linked,
    ) refl

line_says : (library : Library) → IsLibraryLine library → library_of library.line (library.dir ∷ library.output ∷ []) ≡ Some library
line_says library is = rw (dir_read library.dir is.dir, name_read library.output is.output.name) refl

all_say : (index : List Library) → All IsLibraryLine index → libraries (map library_line index) ≡ index
all_say [] are = refl
all_say (x ∷ index) are =
    let here = line_says x (are 0 x (omega arith)) in
    let rest = all_say index (λ k d l. are (suc k) d (omega (arith, l))) in
    rw (here, rest) refl

-- a library behind others that are not it
module _ (before : List Library) (x : Library) (later : List Library) (is : IsIndex (before ++ x ∷ later)) where
  abbrev all : List Library
  all = before ++ x ∷ later

  long : length all ≡ length before + suc (length later)
  long = length-append before (x ∷ later)

  it : (d : Library) → get_or all (length before) d ≡ x
  it d = let place : length before + 0 ≡ length before = omega arith in rw place at (get_or-append-add before (x ∷ later) 0 d)

  form : IsLibraryLine x
  form = rw (it x) at (is.lines (length before) x (let h = long in omega (arith, h)))

  differs : All (λ a. share_name x a ≡ false) before
  differs k d l =
      let high : length before < length all = (let h = long in omega (arith, h)) in
      let there : get_or all k d ≡ get_or before k d = get_or_append_left before (x ∷ later) d k l in
      let dir : (get_or before k d).dir ≢ x.dir = rw (there, it d) at (is.dirs k (length before) d l high) in
      let output : (get_or before k d).output ≢ x.output = rw (there, it d) at (is.outputs k (length before) d l high) in
      rw (other_bytes x.dir (get_or before k d).dir (λ same. dir (sym same)), other_bytes x.output (get_or before k d).output (λ same. output (sym same))) refl

  room : length before < LIBRARY_LIMIT
  room = let h = long in let most = is.count in omega (arith, h, most)

  no_fault : library_line_faults before (library_line x) ≡ []
  no_fault =
      ap (λ (o : Option Library). option_map_or (library_faults before) o (fault.Value x.line ∷ [])) (line_says x form)
      ∙ rw (not_reserved x.output form.output, list_any_none (share_name x) before differs, lt-leb LIBRARY_LIMIT (length before) room) refl

all_sound : (before later : List Library) → IsIndex (before ++ later) → All IsLibraryLine before → AreSoundBy index_line_faults (map library_line before) (map library_line later)
all_sound before [] is are = tt
all_sound before (x ∷ later) is are =
    let whole : (before ++ x ∷ []) ++ later ≡ before ++ x ∷ later = append_assoc before (x ∷ []) later in
    let said_all : libraries (map library_line before) ≡ before = all_say before are in
    let here : index_line_faults (map library_line before) (library_line x) ≡ [] = ap (λ (b : List Library). library_line_faults b (library_line x)) said_all ∙ no_fault before x later is in
    let more = all_sound (before ++ x ∷ []) later (subst IsIndex (sym whole) is) (λ k d l. (let split = length-append before (x ∷ []) in let h = length-append before (x ∷ later) in let c = length-append (before ++ x ∷ []) later in
    rw (get_or_append_left (before ++ x ∷ []) later d k l) at (subst (All IsLibraryLine) (sym whole) is.lines k d (omega (arith, l, c))))) in
    (here, subst (λ (b : List KitLine). AreSoundBy index_line_faults b (map library_line later)) (map-append library_line before (x ∷ [])) more)

-- NO FAULT stands in a text that says an index
pub none_stands : (text : List ℕ) (index : List Library) → IsIndex index → IsIndexText text index → index_faults text ≡ []
unfolding index_faults
none_stands text index is says =
    none_of_lines index_line_faults no_library text says.bytes
    (subst (λ (ls : List KitLine). AreSoundBy index_line_faults [] ls) (sym says.lines) (all_sound [] index is (λ k d l. absurd (omega (arith, l)))))
    (ap no_library says.lines ∙ (ap (λ (x : List Library). only_if (is_empty x) (fault.Missing needed.Library)) (all_say index is.lines) ∙ some index is.some))
  where
    some : (xs : List Library) → 0 < length xs → only_if (is_empty xs) (fault.Missing needed.Library) ≡ []
    some [] h = absurd (omega (arith, h))
    some (x ∷ xs) h = refl

-- and it reads as that index
pub same_read : (text : List ℕ) (index : List Library) (result : Result (List Library) KitError) → IsIndex index → IsIndexText text index → IfOk result (λ read. read ≡ index_of text) → IfOk result (λ read. read ≡ index)
unfolding index_of
same_read text index (Ok read) is says same = same ∙ (ap libraries says.lines ∙ all_say index is.lines)
same_read text index (Err e) is says same = tt

-- the first of no faults is want of memory
pub memory_alone : {T : Type 0} (faults : List KitFault) (result : Result T KitError) → IfErr result (IsFirst faults) → faults ≡ [] → IfErr result (λ e. e ≡ error.NoMemory)
memory_alone faults (Ok x) first none = tt
memory_alone faults (Err error.NoMemory) first none = refl
memory_alone faults (Err (error.Fault f)) first none = let no : slice_get [] 0 ≡ Some f = ap (λ (x : List KitFault). slice_get x 0) (sym none) ∙ first in cc
