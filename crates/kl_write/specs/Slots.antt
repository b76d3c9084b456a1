-- Numbers as bytes, one behind another. For the contracts inside this crate alone.
use Rattle.std.specs.Prelude.{ℕ, List, flat_map}
use Rattle.kl_model.specs.Written.{bytes_of}
use Rattle.kl_model.specs.declared.graph.Target.{Target}

-- eight bytes for each target
abbrev pub values_bytes : (Target → ℕ) → List Target → List ℕ
values_bytes value ts = flat_map (λ t. bytes_of 8 (value t)) ts
