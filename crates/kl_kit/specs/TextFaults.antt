-- The faults of a text of lines, by what is wrong with a line that says something and by what is missing behind them.
use Rattle.std.specs.Prelude.{ℕ, ◌-◌, not, List, [], ◌++◌, take}
use Rattle.std.specs.Option.{option_map_or}
use Rattle.std.specs.List.{list_all}
use Rattle.kl_text.specs.Lines.{lines, words}
use Rattle.kl_model.specs.Lists.{each_from, only_if}
use Rattle.kl_kit.specs.KitLines.{KitLine, is_text_byte, line_of, said}
use Rattle.kl_kit.specs.declared.fault.KitFault.{KitFault}
use Rattle.kl_kit.specs.declared.fault.KitFault.TheVariants as fault

-- the faults of a line that says something, behind others
abbrev pub SaidFaults : Type 0
SaidFaults = List KitLine → KitLine → List KitFault

-- the faults of the line of a number with these bytes, behind lines that say something
abbrev pub bytes_faults : SaidFaults → List KitLine → ℕ → List ℕ → List KitFault
bytes_faults said_faults before number bytes =
    only_if (not (list_all is_text_byte bytes)) (fault.Byte number)
    ++ option_map_or (said_faults before) (line_of number (words bytes)) []

-- the faults of each line of a text, behind those before it, and then those behind all lines
abbrev pub text_faults : SaidFaults → (List KitLine → List KitFault) → List ℕ → List KitFault
text_faults said_faults last_faults text =
    let ls = lines text in
    each_from 1 (λ n l. bytes_faults said_faults (said (take (n - 1) ls)) n l) ls ++ last_faults (said ls)
