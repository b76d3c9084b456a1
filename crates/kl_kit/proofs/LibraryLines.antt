-- A line of an index without a fault, and the library that it says.
use Rattle.std.proofs.Common.{◌≡◌, ℕ, true, not, List, [], ◌∷◌, ◌++◌, sym, ap, ◌∙◌, Option}
use Rattle.std.specs.Prelude.{Some, None, slice_get, option_to_list}
use Rattle.std.specs.Option.{option_map_or}
use Rattle.std.specs.List.{cons_option, list_all}
use Rattle.std.proofs.lemmas.List.Elements.{filter_map-append}
use Rattle.kl_text.specs.Lines.{words}
use Rattle.kl_model.specs.Lists.{only_if}
use Rattle.kl_kit.specs.IndexTexts.{index_line_faults, libraries, library_line_faults, line_library}
use Rattle.kl_kit.specs.KitLines.{KitLine, is_text_byte, line_of}
use Rattle.kl_kit.specs.TextFaults.{bytes_faults}
use Rattle.kl_kit.specs.declared.fault.KitFault.TheVariants as fault
use Rattle.kl_kit.specs.declared.index.Library.{Library}
use Rattle.kl_kit.proofs.LineFaults.{none_first}

-- the line of a number with these bytes, behind others
pub record IsLineOf (before : List KitLine) (index : List Library) (number : ℕ) (bytes : List ℕ) (l : KitLine) : Type 0 where
  pub read : index ≡ libraries before
  pub text : list_all is_text_byte bytes ≡ true
  pub line : Some l ≡ line_of number (words bytes)

pub none_here : (before : List KitLine) (index : List Library) (number : ℕ) (bytes : List ℕ) (l : KitLine) → IsLineOf before index number bytes l
    → None ≡ slice_get (library_line_faults index l) 0 → bytes_faults index_line_faults before number bytes ≡ []
none_here before index number bytes l is none =
    ap (λ t. only_if (not t) (fault.Byte number) ++ option_map_or (index_line_faults before) (line_of number (words bytes)) []) is.text
    ∙ ap (λ (o : Option KitLine). option_map_or (index_line_faults before) o []) (sym is.line)
    ∙ ap (λ (x : List Library). library_line_faults x l) (sym is.read)
    ∙ none_first (library_line_faults index l) none

pub one_said : (before : List KitLine) (index : List Library) (number : ℕ) (bytes : List ℕ) (l : KitLine) (library : Library) → IsLineOf before index number bytes l
    → line_library l ≡ Some library → index ++ library ∷ [] ≡ libraries (before ++ option_to_list (line_of number (words bytes)))
one_said before index number bytes l library is says =
    ap (λ (x : List Library). x ++ library ∷ []) is.read
    ∙ ap (λ (o : Option Library). libraries before ++ cons_option o []) (sym says)
    ∙ sym (filter_map-append line_library before (l ∷ []))
    ∙ ap (λ (o : Option KitLine). libraries (before ++ option_to_list o)) is.line
