use Rattle.std.proofs.Common.{◌≡◌, ◌+◌, length}
use Rattle.kl_text.specs.Lines.{words}
use Rattle.kl_kit.proofs.line.Line.has_words.Given as goal

abbrev pub invariant-loop : goal.invariant-loop
invariant-loop l = length (words l.self.rest.now) ≡ l.counter + length (words l.rest)
