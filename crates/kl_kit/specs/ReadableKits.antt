-- The kits that a text can say, and kits that differ in nothing but the numbers of their lines.
use Rattle.std.specs.Prelude.{ℕ, ◌≡◌, ◌<◌, ◌≤◌, true, false, List, [], ◌++◌, flat_map, map, length, codes, is_none, option_to_list, None}
use Rattle.std.specs.List.{AllByRecursion}
use Rattle.kl_base.specs.Names.{name_fault}
use Rattle.kl_base.specs.declared.limits.TheConstants.{INPUT_COUNT_LIMIT}
use Rattle.kl_model.specs.Areas.{may_have_edge}
use Rattle.kl_model.specs.Fit.{IsKernelKit}
use Rattle.kl_model.specs.declared.kit.EdgeLine.{EdgeLine}
use Rattle.kl_model.specs.declared.kit.Kit.{Kit}
use Rattle.kl_model.specs.declared.kit.KitInput.{KitInput}
use Rattle.kl_model.specs.declared.kit.KitKind.{KitKind}
use Rattle.kl_model.specs.declared.kit.KitKind.TheVariants.{Kernel, Library}
use Rattle.kl_model.specs.declared.kit.Run.{Run}
use Rattle.kl_kit.specs.Forms.{HasFile, is_kernel_output, is_reserved, is_word}
use Rattle.kl_kit.specs.Keys.{Key, comes_again, edge_key, input_key, run_keys}
use Rattle.kl_kit.specs.KitPrints.{class_word}

-- a SYMBOL, SECTION or TEXT
abbrev pub IsWord : List ℕ → Type 0
IsWord w = is_word w ≡ true

pub record HasRunWords (run : Run) : Type 0 where
  pub section : IsWord run.section
  pub start : IsWord run.start
  pub end : IsWord run.end

pub record HasEdgeWords (edge : EdgeLine) : Type 0 where
  pub symbol : IsWord edge.symbol
  pub area : may_have_edge edge.area ≡ true

-- what a kit has that may come once: the files of its inputs, its runs, the names of its edges, and the words of `drop`, `needed` and
-- `export` lines
abbrev pub kit_keys : Kit → List Key
kit_keys kit =
    map (λ i. input_key i.file) kit.inputs
    ++ flat_map (λ r. run_keys r.section (class_word r.class) r.start r.end) kit.runs
    ++ map (λ e. edge_key e.symbol) kit.edges
    ++ map (λ w. (codes "drop", w, [])) kit.drops
    ++ map (λ w. (codes "needed", w, [])) kit.needed
    ++ map (λ w. (codes "export", w, [])) kit.exports

-- a kernel's kit as its text can say it: its output is the kernel, and it has nothing that a library alone has
pub record IsKernelText (kit : Kit) : Type 0 where
  pub kernel : IsKernelKit kit
  pub output : is_kernel_output kit.output ≡ true
  pub soname : kit.soname ≡ None
  pub needed : kit.needed ≡ []
  pub exports : kit.exports ≡ []
  pub symbolic : kit.symbolic ≡ false
  pub refuse : kit.refuse ≡ false

-- a library's: its output is none that is kept for others, and it names no base
pub record IsLibraryText (kit : Kit) : Type 0 where
  pub output : is_reserved kit.output ≡ false
  pub base : kit.base ≡ 0

abbrev pub IsOfKind : KitKind → Kit → Type 0
IsOfKind Kernel kit = IsKernelText kit
IsOfKind Library kit = IsLibraryText kit

-- A KIT THAT A TEXT CAN SAY: each word is in its form, nothing comes twice that may not, and there are inputs, up to the limit.
pub record IsReadable (kit : Kit) : Type 0 where
  pub kind : IsOfKind kit.kind kit
  pub output : is_none (name_fault kit.output) ≡ true
  pub entry : AllByRecursion IsWord (option_to_list kit.entry)
  pub some_input : 0 < length kit.inputs
  pub inputs : AllByRecursion HasFile kit.inputs
  pub count : length kit.inputs ≤ INPUT_COUNT_LIMIT
  pub runs : AllByRecursion HasRunWords kit.runs
  pub edges : AllByRecursion HasEdgeWords kit.edges
  pub drops : AllByRecursion IsWord kit.drops
  pub soname : AllByRecursion IsWord (option_to_list kit.soname)
  pub needed : AllByRecursion IsWord kit.needed
  pub exports : AllByRecursion IsWord kit.exports
  pub once : comes_again [] (kit_keys kit) ≡ false

-- lines without their numbers
abbrev pub unnumbered_input : KitInput → KitInput
unnumbered_input input = record input { line = 0 }

abbrev pub unnumbered_run : Run → Run
unnumbered_run run = record run { line = 0 }

abbrev pub unnumbered_edge : EdgeLine → EdgeLine
unnumbered_edge edge = record edge { line = 0 }

abbrev pub unnumbered : Kit → Kit
unnumbered kit = record kit {
  inputs = map unnumbered_input kit.inputs;
  runs = map unnumbered_run kit.runs;
  edges = map unnumbered_edge kit.edges;
}

-- TWO KITS ARE ONE, the numbers of their lines aside
abbrev pub SameKit : Kit → Kit → Type 0
SameKit a b = unnumbered a ≡ unnumbered b
