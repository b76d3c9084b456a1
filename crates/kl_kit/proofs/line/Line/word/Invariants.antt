use Rattle.std.proofs.Common.{◌≡◌, ◌-◌}
use Rattle.kl_text.specs.Lines.{words}
use Rattle.kl_kit.specs.KitLines.{word_at}
use Rattle.kl_kit.proofs.line.Line.word.Given as goal

abbrev pub invariant-loop : goal.invariant-loop
invariant-loop l = word_at (words l.self.rest.now) l.place ≡ word_at (words l.rest) (l.place - l.counter)
