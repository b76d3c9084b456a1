-- What is drawn from a seed: the order of a kit's drawn inputs, and a kernel's gaps.
use Rattle.std.specs.Prelude.{ℕ, ◌+◌, ◌*◌, ◌%◌, ◌^◌, List, ◌∷◌, ◌++◌}
use Rattle.std.specs.List.{range_with_len}
use Rattle.sha2.specs.Sha256.{sha256}
use Rattle.rand_core.specs.Stream.{Stream}
use Rattle.rand_core.specs.Steps.{stream_of, steps_u32}
use Rattle.rand_chacha.specs.ChaCha.{word_at, next_word, key_of, of_seed}
use Rattle.rand.specs.Shuffle.{shuffled}
use Rattle.kl_model.specs.declared.place.Gaps.{Gaps}

-- the seed of one purpose under a label: the SHA-256 digest (FIPS 180-4) of the seed, a zero byte, the label, a zero byte and the purpose
abbrev pub sub_seed : List ℕ → List ℕ → List ℕ → List ℕ
sub_seed seed label purpose = sha256 (seed ++ 0 ∷ label ++ 0 ∷ purpose)

-- the stream of ChaCha20, ten double rounds, under a seed (RFC 8439)
abbrev pub stream_from : List ℕ → Stream
stream_from sub = stream_of (steps_u32 (next_word 10)) (of_seed sub)

-- word k of that stream
abbrev pub word : List ℕ → ℕ → ℕ
word sub k = word_at 10 (key_of sub) 0 k

-- numbers, shuffled by the stream
abbrev pub shuffled_by : List ℕ → List ℕ → List ℕ
shuffled_by sub numbers = (shuffled numbers 0 (stream_from sub)).0

-- THE DRAWN ORDER of n inputs: the shuffle of the numbers below n
unfoldable pub order_from : List ℕ → ℕ → List ℕ
order_from sub n = shuffled_by sub (range_with_len 0 n)

-- the size of a gap that a word gives, in bytes
abbrev pub gap_of : ℕ → ℕ
gap_of w = 16 * (1 + w % 2 ^ 14)

-- THE DRAWN GAPS of text, rodata, data and bss: one by each of the first four words
unfoldable pub gaps_from : List ℕ → Gaps
gaps_from sub = record { text = gap_of (word sub 0); rodata = gap_of (word sub 1); rwdata = gap_of (word sub 2); bss = gap_of (word sub 3) }
