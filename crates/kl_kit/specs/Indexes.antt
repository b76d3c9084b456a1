-- The indexes that a text can say, and which lines a text has that says one.
use Rattle.std.specs.Prelude.{ℕ, ◌≡◌, ◌≢◌, ◌<◌, ◌≤◌, true, false, nat_eq, List, [], ◌∷◌, codes, map, length, All, AllPairs, None}
use Rattle.std.specs.List.{list_all, ends_with, starts_with}
use Rattle.kl_base.specs.Names.{name_fault}
use Rattle.kl_base.specs.declared.limits.TheConstants.{FILE_LIMIT, OUTPUT_LIMIT, SCRATCH_SUFFIX}
use Rattle.kl_text.specs.Lines.{lines}
use Rattle.kl_kit.specs.KitLines.{KitLine, is_text_byte, said}
use Rattle.kl_kit.specs.declared.index.Library.{Library}
use Rattle.kl_kit.specs.declared.index.TheConstants.{LIBRARY_LIMIT}

-- a folder of a library's kit: a name below the folder of all kits
pub record IsKitFolder (dir : List ℕ) : Type 0 where
  pub name : name_fault dir ≡ None
  pub short : length dir ≤ FILE_LIMIT
  pub below : starts_with nat_eq dir (codes "/usr/share/relink/") ≡ true

-- an output of a library: a name that is neither a kernel's nor in the folders of kits and records, and has no ending that other files have
pub record IsFreeOutput (output : List ℕ) : Type 0 where
  pub name : name_fault output ≡ None
  pub short : length output ≤ OUTPUT_LIMIT
  pub kernel : output ≢ codes "/bsd"
  pub old_kernel : output ≢ codes "/obsd"
  pub no_kit : starts_with nat_eq output (codes "/usr/share/relink/") ≡ false
  pub no_record : starts_with nat_eq output (codes "/var/db/") ≡ false
  pub no_scratch : ends_with nat_eq output SCRATCH_SUFFIX ≡ false
  pub no_map : ends_with nat_eq output (codes ".map") ≡ false
  pub not_linked : ends_with nat_eq output (codes "/linked") ≡ false

-- what a line of an index says of a library
pub record IsLibraryLine (library : Library) : Type 0 where
  pub dir : IsKitFolder library.dir
  pub output : IsFreeOutput library.output

-- AN INDEX THAT A TEXT CAN SAY: at least one library, up to the limit, each in a folder of its own and with an output of its own
pub record IsIndex (index : List Library) : Type 0 where
  pub lines : All IsLibraryLine index
  pub dirs : AllPairs (λ a b. a.dir ≢ b.dir) index
  pub outputs : AllPairs (λ a b. a.output ≢ b.output) index
  pub some : 0 < length index
  pub count : length index ≤ LIBRARY_LIMIT

-- the line of a library: `library`, its folder and its output
abbrev pub library_line : Library → KitLine
library_line library = record { number = library.line; keyword = codes "library"; words = library.dir ∷ library.output ∷ [] }

-- A TEXT SAYS AN INDEX: its lines have none but text bytes, and those that say something are, in order, the lines of the libraries.
pub record IsIndexText (text : List ℕ) (index : List Library) : Type 0 where
  pub bytes : list_all (λ line. list_all is_text_byte line) (lines text) ≡ true
  pub lines : said (lines text) ≡ map library_line index
