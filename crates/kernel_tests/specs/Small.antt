-- Inputs that a test links.
use Rattle.std.specs.Prelude.{◌≤◌, ◌^◌, length}
use Rattle.kl_model.specs.declared.object.Input.{Input}

-- an input whose counts are small, so that 300 of them are within all limits
pub record IsSmall (x : Input) : Type 0 where
  pub bytes : length x.bytes ≤ 2 ^ 12
  pub sections : length x.object.sections ≤ 64
  pub symbols : length x.object.symbols ≤ 64
  pub fields : length x.object.fields ≤ 64
