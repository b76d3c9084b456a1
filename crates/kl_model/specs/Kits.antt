-- What the kind of a kit decides of its names.
use Rattle.std.specs.Prelude.{Bool, true, false, not, ◌||◌, ℕ, List, [], ◌∷◌, Some, None}
use Rattle.kl_model.specs.Lists.{among}
use Rattle.kl_model.specs.declared.kit.Kit.{Kit}
use Rattle.kl_model.specs.declared.kit.KitInput.{KitInput}
use Rattle.kl_model.specs.declared.kit.KitKind.{KitKind}
use Rattle.kl_model.specs.declared.kit.KitKind.TheVariants.{Kernel, Library}

abbrev pub is_empty : {X : Type 0} → List X → Bool
is_empty [] = true
is_empty (x ∷ xs) = false

abbrev pub is_kernel : KitKind → Bool
is_kernel Kernel = true
is_kernel Library = false

-- A library exports each name, or where it has `export` lines those that they name; a kernel none.
abbrev pub may_export : KitKind → List (List ℕ) → List ℕ → Bool
may_export Kernel exports name = false
may_export Library exports name = is_empty exports || among exports name

-- Another image may define an exported name of a library in its place, but for a `symbolic` line.
abbrev pub may_replace : KitKind → Bool → Bool
may_replace Kernel symbolic = false
may_replace Library symbolic = not symbolic

-- An undefined name of a library is looked for when it is loaded, but for a line `undefined refuse`.
abbrev pub may_import : KitKind → Bool → Bool
may_import Kernel refuse = false
may_import Library refuse = not refuse

-- a kernel's kit with no line but those that each has: its output, its base, its entry and its inputs
abbrev pub kernel_kit : List ℕ → ℕ → List ℕ → List KitInput → Kit
kernel_kit output base entry inputs = record {
  kind = Kernel;
  output = output;
  base = base;
  entry = Some entry;
  inputs = inputs;
  runs = [];
  edges = [];
  drops = [];
  needed = [];
  exports = [];
  soname = None;
  symbolic = false;
  refuse = false;
}
