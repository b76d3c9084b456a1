-- What is kept of the `drop` and `run` lines of a kit. For the contracts inside this crate alone.
use Rattle.std.specs.Prelude.{ℕ, ◌≡◌, ◌&&◌, List, length, slice_get, Option}
use Rattle.std.specs.Option.{option_and_then}
use Rattle.std.specs.List.{position_from}
use Rattle.std.specs.Str.{bytes_eq}
use Rattle.kl_base.specs.declared.class.Class.{Class}
use Rattle.kl_base.specs.declared.class.Class.TheVariants.{Text, Rodata, Rwdata, Bss}
use Rattle.kl_model.specs.Areas.{same_class}
use Rattle.kl_model.specs.Lists.{among}
use Rattle.kl_model.specs.declared.area.TheConstants as area
use Rattle.kl_model.specs.declared.kit.Run.{Run}
use Rattle.kl_model.specs.declared.kit.Kit.{Kit}
use Rattle.kl_names.specs.Numbers.{place_in}
use Rattle.kl_sym.specs.declared.lines.FirstRuns.{FirstRuns}
use Rattle.kl_sym.specs.declared.lines.SectionLines.{SectionLines}

-- the area of the first run of a class
abbrev pub run_in : FirstRuns → Class → Option ℕ
run_in r Text = r.text
run_in r Rodata = r.rodata
run_in r Rwdata = r.rwdata
run_in r Bss = r.bss

-- that of a class and a name
abbrev pub run_found : List (List ℕ) → List FirstRuns → Class → List ℕ → Option ℕ
run_found names runs c q = option_and_then (λ n. option_and_then (λ r. run_in r c) (slice_get runs n)) (place_in names q)

-- the first of some runs that has a class and a name
abbrev pub run_among : List Run → Class → List ℕ → Option ℕ
run_among rs c q = position_from (λ r. bytes_eq q r.section && same_class c r.class) area.FIRST_RUN rs

-- of each class and name the first of these runs is found
pub record HasRuns (rs : List Run) (names : List (List ℕ)) (runs : List FirstRuns) : Type 0 where
  pub len : length runs ≡ length names
  pub found : (c : Class) (q : List ℕ) → run_found names runs c q ≡ run_among rs c q

-- the lines of a kit
pub record AreLines (kit : Kit) (lines : SectionLines) : Type 0 where
  pub drops : (q : List ℕ) → among lines.drops q ≡ among kit.drops q
  pub runs : HasRuns kit.runs lines.sections lines.runs.items
