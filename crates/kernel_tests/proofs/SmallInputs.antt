-- Small inputs in a list.
use Rattle.std.proofs.Common.{ℕ, zero, suc, ◌≡◌, ◌∙◌, ◌+◌, ◌≤◌, List, [], ◌∷◌, ◌++◌, length, get_or, refl, ap, arith}
use Rattle.std.specs.Prelude.{All, AllPairs}
use Rattle.std.specs.List.{range_with_len}
use Rattle.std.proofs.lemmas.List.Elements.{All-append}
use Rattle.std.proofs.lemmas.List.Sums.{sum_by-le}
use Rattle.kl_base.proofs.Bools.{alone}
use Rattle.kl_model.specs.Fit.{AreFit, IsFit}
use Rattle.kl_model.specs.Kept.{part_number}
use Rattle.kl_model.specs.declared.object.Input.{Input}
use Rattle.kl_model.proofs.Each.{pairs-append}
use Rattle.kernel_tests.specs.Small.{IsSmall}

pub all_push : {X : Type 0} (P : X → Type 0) (xs : List X) (x : X) → All P xs → P x → All P (xs ++ x ∷ [])
all_push P xs x h hx = All-append P xs (x ∷ []) h (alone P x hx)

abbrev Follows : Input → Input → Type 0
Follows x y = part_number x.place ≤ part_number y.place

-- an input of the last part
pub places_push : (xs : List Input) (x : Input) → AllPairs Follows xs → All (λ y. part_number y.place ≤ part_number x.place) xs → AllPairs Follows (xs ++ x ∷ [])
places_push xs x h before = pairs-append Follows xs (x ∷ []) h (λ i j d low high. absurd (omega (arith, low, high))) (λ k d l. alone (Follows (get_or xs k d)) x (before k d l))

pub are_fit : (xs : List Input) → All IsFit xs → All IsSmall xs → AllPairs Follows xs → length xs ≤ 301 → AreFit xs
are_fit xs fit small places few =
    let bytes = sum_by-le (λ x. length x.bytes) 4096 xs (λ k d h. (small k d h).bytes) in
    let sections = sum_by-le (λ x. length x.object.sections) 64 xs (λ k d h. (small k d h).sections) in
    let symbols = sum_by-le (λ x. length x.object.symbols) 64 xs (λ k d h. (small k d h).symbols) in
    let fields = sum_by-le (λ x. length x.object.fields) 64 xs (λ k d h. (small k d h).fields) in
    record {
      each_input = fit;
      places = places;
      count = omega arith;
      bytes = omega (arith, bytes, few);
      sections = omega (arith, sections, few);
      symbols = omega (arith, symbols, few);
      fields = omega (arith, fields, few);
    }

-- a number more
pub range_more : (a n : ℕ) → range_with_len a (n + 1) ≡ range_with_len a n ++ (a + n) ∷ []
range_more a zero = let z : a + 0 ≡ a = omega arith in rw z refl
range_more a (suc n) =
    let long : suc n + 1 ≡ suc (n + 1) = omega arith in
    let next : a + 1 + n ≡ a + suc n = omega arith in
    ap (range_with_len a) long ∙ ap (λ l. a ∷ l) (range_more (a + 1) n ∙ ap (λ j. range_with_len (a + 1) n ++ j ∷ []) next)
