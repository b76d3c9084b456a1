-- What is read of a made object.
use Rattle.std.specs.Prelude.{ℕ, ◌≡◌, ◌<◌, ◌≤◌, List, length, map, None}
use Rattle.std.specs.List.{range_with_len}
use Rattle.kl_model.specs.declared.object.Input.{Input}
use Rattle.kl_rel.specs.Objects.{flaw, object}
use Rattle.kl_generate.specs.Made.{IsMadeInput, made_place}
use Rattle.kl_generate.specs.MadeFile.{made_file}
use Rattle.kl_generate.specs.declared.limits.TheConstants.{MADE_BYTES_LIMIT, MADE_LIMIT}

-- the input that is object k of n, as it is read of its file
abbrev pub made_input : ℕ → ℕ → Input
made_input n k = record { place = made_place k; bytes = made_file n k; object = object (made_file n k) }

-- all of them
abbrev pub made_inputs : ℕ → List Input
made_inputs n = map (made_input n) (range_with_len 0 n)

-- it is read without a flaw, as input k of a made kit of n
pub record IsMadeRead (n k : ℕ) : Type 0 where
  pub sound : flaw (made_file n k) ≡ None
  pub made : IsMadeInput n k (made_input n k)
  pub short : length (made_file n k) ≤ MADE_BYTES_LIMIT

-- each object of each made kit
abbrev pub MadeObjects : Type 0
MadeObjects = (n k : ℕ) → 1 ≤ n → n ≤ MADE_LIMIT → k < n → IsMadeRead n k
