use Rattle.std.proofs.Common.{ℕ, ◌≡◌, ◌<◌, false, get_or, length, take}
use Rattle.kl_model.specs.Lists.{number_in}
use Rattle.kl_dyn.proofs.entries.stubbed_names.Given as goal

abbrev pub invariant-loop-name : goal.invariant-loop-name
invariant-loop-name l = record {
  count : length l.stubbed.items ≡ length l.graph.names;
  marks : (n : ℕ) → n < length l.stubbed.items → get_or l.stubbed.items n false ≡ number_in (take l.name-index l.names) n;
}
