use Rattle.std.proofs.Common.{◌≡◌, ◌≤◌, ◌*◌, take}
use Rattle.std.specs.Prelude.{sum_by}
use Rattle.kl_model.specs.Sizes.{ended_size}
use Rattle.kl_dyn.proofs.size.words_size.Given as goal

abbrev pub invariant-loop-word : goal.invariant-loop-word
invariant-loop-word l = record {
  size : l.size ≡ sum_by ended_size (take l.word-index l.words);
  small : l.size ≤ 256 * l.word-index;
}
