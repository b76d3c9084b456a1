use Rattle.std.proofs.Common.{◌≡◌, ◌++◌, drop}
use Rattle.std.specs.List.{flat_map}
use Rattle.kl_kit.specs.KitPrints.{word_line}
use Rattle.kl_kit.proofs.print.push_words.Given as goal

-- the lines so far and those that are left are the text
abbrev pub invariant-loop-word : goal.invariant-loop-word
invariant-loop-word l = l.text.items ++ flat_map (word_line l.keyword) (drop l.word-index l.words) ≡ l.fn.text.items ++ flat_map (word_line l.keyword) l.words
