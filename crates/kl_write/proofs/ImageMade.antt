-- An image whose bytes are those of each place.
use Rattle.std.proofs.Common.{ℕ, ◌≡◌, ◌+◌, ◌<◌, ◌∙◌, List, length, refl, sym, arith}
use Rattle.std.specs.Prelude.{Option, slice_index}
use Rattle.std.proofs.lemmas.Grind.{same_number_lists}
use Rattle.std.proofs.lemmas.List.FromFn.{get_or-map-range_with_len, length-map-range_with_len}
use Rattle.kl_model.specs.Image.{image_byte, image_bytes, image_size}
use Rattle.kl_model.specs.declared.graph.Graph.{Graph}
use Rattle.kl_model.specs.declared.kit.Kit.{Kit}
use Rattle.kl_model.specs.declared.object.Input.{Input}
use Rattle.kl_model.specs.declared.place.Gaps.{Gaps}
use Rattle.kl_model.specs.declared.place.Placement.{Placement}

pub image_is : (kit : Kit) (inputs : List Input) (g : Graph) (gaps : Option Gaps) (p : Placement) (out : List ℕ) → length out ≡ image_size kit inputs g gaps p
    → ((k : ℕ) → k < length out → slice_index out k ≡ image_byte kit inputs g gaps p (0 + k)) → out ≡ image_bytes kit inputs g gaps p
image_is kit inputs g gaps p out count bytes =
    let size = image_size kit inputs g gaps p in
    let byte = image_byte kit inputs g gaps p in
    same_number_lists out (image_bytes kit inputs g gaps p) (count ∙ sym (length-map-range_with_len byte 0 size))
    (λ k l. bytes k l ∙ sym (get_or-map-range_with_len byte 0 size k (0 + k) 0 (omega (arith, count, l)) refl))
