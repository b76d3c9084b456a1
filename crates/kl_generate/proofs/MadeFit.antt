-- Made inputs that are fit, one by one, and whose files are short, are within the limits of a kit.
use Rattle.std.proofs.Common.{ℕ, zero, suc, ◌≡◌, ◌<◌, ◌≤◌, List, length, get_or, arith}
use Rattle.std.specs.Prelude.{All, AllPairs}
use Rattle.std.proofs.lemmas.List.{get_or_default}
use Rattle.kl_model.specs.Fit.{AreFit, IsFit}
use Rattle.kl_model.specs.Kept.{input_at, no_input, part_number}
use Rattle.kl_model.specs.declared.object.Input.{Input}
use Rattle.kl_generate.specs.Made.{AreMade, IsMadeInput, made_place}
use Rattle.kl_generate.specs.declared.limits.TheConstants.{MADE_BYTES_LIMIT, MADE_LIMIT}
use Rattle.kl_generate.proofs.ListsMade.{sum-le}

module _ (n : ℕ) (inputs : List Input) (few : n ≤ MADE_LIMIT) (made : AreMade n inputs) where
  made_in : (i : ℕ) (d : Input) → i < length inputs → IsMadeInput n i (get_or inputs i d)
  made_in i d h =
      let count = made.count in
      let same : get_or inputs i d ≡ input_at inputs i = get_or_default inputs i d no_input h in
      rw same (made.each_input i (omega arith))

  in_turn : (i j : ℕ) → i < j → part_number (made_place i) ≤ part_number (made_place j)
  in_turn i zero h = absurd (omega arith)
  in_turn zero (suc j) h = omega arith
  in_turn (suc i) (suc j) h = omega arith

  pub places : AllPairs (λ x y. part_number x.place ≤ part_number y.place) inputs
  places i j d less h = rw ((made_in i d (omega arith)).place, (made_in j d h).place) (in_turn i j less)

  pub made_fit : All IsFit inputs → All (λ x. length x.bytes ≤ MADE_BYTES_LIMIT) inputs → AreFit inputs
  made_fit fit short =
      let count = made.count in
      let bytes = sum-le (λ (x : Input). length x.bytes) MADE_BYTES_LIMIT inputs short in
      let sections = sum-le (λ (x : Input). length x.object.sections) 7 inputs (λ i d h. let m = made_in i d h in let others = m.other_count in rw m.sections (omega arith)) in
      let symbols = sum-le (λ (x : Input). length x.object.symbols) 3 inputs (λ i d h. let m = made_in i d h in rw m.symbols (omega arith)) in
      let fields = sum-le (λ (x : Input). length x.object.fields) 2 inputs (λ i d h. let m = made_in i d h in rw m.fields (omega arith)) in
      record {
        each_input = fit;
        places = places;
        count = omega arith;
        bytes = omega arith;
        sections = omega arith;
        symbols = omega arith;
        fields = omega arith;
      }
