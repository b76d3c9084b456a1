-- The first line of a text that no map's text goes on with.
use Rattle.std.specs.Prelude.{ℕ, ◌≡◌, ◌≢◌, ◌+◌, List, ◌++◌, length}
use Rattle.std.specs.List.{flat_map, AllByRecursion}
use Rattle.kl_text.specs.Lines.{line, IsLine}
use Rattle.kl_map.specs.MapForm.{IsMapForm}
use Rattle.kl_map.specs.MapText.{map_text}
use Rattle.kl_map.specs.declared.map.Map.{Map}
use Rattle.kl_map.specs.declared.fault.MapError.{MapError}
use Rattle.kl_map.specs.declared.fault.MapError.TheVariants.{Line, NoMemory}

-- the text of some map in the form begins so
pub record Begins (start : List ℕ) : Type 0 where
  pub map : Map
  pub rest : List ℕ
  pub form : IsMapForm map
  pub text : map_text map ≡ start ++ rest

-- The line of this number, counted from 1, is the first one outside the form: the lines before it begin the text of some map in
-- the form, and no such text begins with them and the line that follows them. So it is too where what follows is no whole line,
-- or nothing.
pub record IsFirstOutside (bytes : List ℕ) (number : ℕ) : Type 0 where
  pub lines : List (List ℕ)
  pub rest : List ℕ
  pub each : AllByRecursion IsLine lines
  pub count : number ≡ length lines + 1
  pub text : bytes ≡ flat_map line lines ++ rest
  pub begins : Begins (flat_map line lines)
  pub stops : (next more : List ℕ) → IsLine next → rest ≡ line next ++ more → ¬ Begins (flat_map line lines ++ line next)

-- a line that is told is the first outside the form
abbrev pub TellsLine : List ℕ → MapError → Type 0
TellsLine text (Line number) = IsFirstOutside text number
TellsLine text NoMemory = Unit {0}

-- and the text is then that of no map in the form
abbrev pub IsNoMap : List ℕ → MapError → Type 0
IsNoMap text (Line number) = (map : Map) → IsMapForm map → text ≢ map_text map
IsNoMap text NoMemory = Unit {0}
