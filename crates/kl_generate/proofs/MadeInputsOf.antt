-- The inputs of a made kit, as they are read.
use Rattle.std.proofs.Common.{ℕ, zero, suc, ◌≡◌, ◌+◌, ◌<◌, ◌≤◌, ◌∙◌, length, get_or, map, refl, ap, arith}
use Rattle.std.specs.Prelude.{All}
use Rattle.std.specs.List.{range_with_len}
use Rattle.std.proofs.lemmas.List.{length-map}
use Rattle.std.proofs.lemmas.List.FromFn.{length-range_with_len}
use Rattle.kl_model.specs.Kept.{no_input}
use Rattle.kl_model.specs.declared.object.Input.{Input}
use Rattle.kl_generate.specs.Made.{AreMade}
use Rattle.kl_generate.specs.MadeRead.{made_input, made_inputs}
use Rattle.kl_generate.specs.declared.limits.TheConstants.{MADE_BYTES_LIMIT, MADE_LIMIT}
use Rattle.kl_generate.proofs.MadeRead.{made_are_read}

at-number : {X : Type 0} (f : ℕ → X) (a n k : ℕ) (d : X) → k < n → get_or (map f (range_with_len a n)) k d ≡ f (a + k)
at-number f a zero k d h = absurd (omega arith)
at-number f a (suc n) zero d h = let z : a + 0 ≡ a = omega arith in rw z refl
at-number f a (suc n) (suc k) d h = let next : a + 1 + k ≡ a + suc k = omega arith in at-number f (a + 1) n k d (omega arith) ∙ ap f next

count-is : (n : ℕ) → length (made_inputs n) ≡ n
count-is n = length-map (range_with_len 0 n) (made_input n) ∙ length-range_with_len 0 n

is-at : (n k : ℕ) (d : Input) → k < n → get_or (made_inputs n) k d ≡ made_input n k
is-at n k d h = let z : 0 + k ≡ k = omega arith in at-number (made_input n) 0 n k d h ∙ ap (made_input n) z

pub are-made : (n : ℕ) → 1 ≤ n → n ≤ MADE_LIMIT → AreMade n (made_inputs n)
are-made n some few = record {
  count = count-is n;
  each_input = λ k h. rw (is-at n k no_input h) ((made_are_read n k some few h).made);
}

pub all-short : (n : ℕ) → 1 ≤ n → n ≤ MADE_LIMIT → All (λ x. length x.bytes ≤ MADE_BYTES_LIMIT) (made_inputs n)
all-short n some few k d h =
    let less : k < n = let long = count-is n in omega arith in
    rw (is-at n k d less) ((made_are_read n k some few less).short)
