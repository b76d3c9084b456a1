use Rattle.std.proofs.Common.{◌≡◌, ◌≤◌, List, ℕ, length, take}
use Rattle.kl_model.specs.Lists.{among}
use Rattle.kl_sym.proofs.lines.drops.Given as goal

abbrev pub invariant-loop-word : goal.invariant-loop-word
invariant-loop-word l = record {
  few : length l.drops ≤ l.word-index;
  same : (q : List ℕ) → among l.drops q ≡ among (take l.word-index l.word-items) q;
}
