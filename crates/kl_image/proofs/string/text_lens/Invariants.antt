use Rattle.std.proofs.Common.{ℕ, ◌≡◌, ◌<◌, ◌-◌, ◌*◌, length, get_or}
use Rattle.kl_image.specs.Texts.{text_len}
use Rattle.kl_image.proofs.string.text_lens.Given as goal

abbrev pub invariant-loop-done : goal.invariant-loop-done
invariant-loop-done l = record {
  len : l.len ≡ text_len l.bytes (64 * (l.blocks - l.done));
  count : length l.lens.items ≡ l.done;
  each : (j : ℕ) → j < l.done → get_or l.lens.items j 0 ≡ text_len l.bytes (64 * (l.blocks - 1 - j));
}
