-- Which names the fields of some inputs use. For the contracts inside this crate alone.
use Rattle.std.specs.Prelude.{ℕ, Bool, ◌&&◌, List, [], ◌∷◌, take}
use Rattle.std.specs.List.{list_any}
use Rattle.kl_model.specs.Lists.{each}
use Rattle.kl_model.specs.Dynamic.{is_kept_field, is_of_name}
use Rattle.kl_model.specs.declared.object.Input.{Input}
use Rattle.kl_model.specs.declared.object.RawField.{RawField}
use Rattle.kl_model.specs.declared.kit.Kit.{Kit}

-- an entry of input i is linked and has a name; so for each entry of an input
abbrev pub field_uses : Kit → List Input → List ℕ → ℕ → Input → RawField → Bool
field_uses kit inputs name i x f = is_of_name x name f && is_kept_field kit inputs i f

abbrev pub input_uses : Kit → List Input → List ℕ → ℕ → Input → List Bool
input_uses kit inputs name i x = each x.object.fields (λ k f. field_uses kit inputs name i x f ∷ [])

-- some entry of the inputs before number i is linked and has a name
abbrev pub used_before : Kit → List Input → ℕ → List ℕ → Bool
used_before kit inputs i name = list_any (λ b. b) (each (take i inputs) (input_uses kit inputs name))
