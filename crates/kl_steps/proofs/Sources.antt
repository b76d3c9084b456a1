-- The bytes of the pieces of a kit stand in the files of its inputs.
use Rattle.std.proofs.Common.{ℕ, suc, ◌≡◌, ◌<◌, List, [], length, get_or, refl, arith, Bool, true, false, ◌&&◌, inl, inr}
use Rattle.std.specs.Prelude.{All, ◌==◌}
use Rattle.std.proofs.lemmas.Bool.{cases_Bool}
use Rattle.std.proofs.lemmas.List.Elements.{All-append, All-cons}
use Rattle.kl_model.specs.Fit.{AreFit, IsFitAllocated}
use Rattle.kl_model.specs.Graphs.{common_pieces, graph, section_pieces}
use Rattle.kl_model.specs.Kept.{input_at, is_kept, no_input, no_section}
use Rattle.kl_model.specs.Names.{common_names}
use Rattle.kl_model.specs.Sound.{HasSource}
use Rattle.kl_model.specs.Texts.{has}
use Rattle.kl_model.specs.declared.graph.Piece.{Piece}
use Rattle.kl_model.specs.declared.object.Input.{Input}
use Rattle.kl_model.specs.declared.object.Section.{Section}
use Rattle.kl_model.specs.declared.kit.Kit.{Kit}
use Rattle.kl_model.proofs.Each.{each-all}
use Rattle.kl_sym.proofs.KeptPieces.{all_pieces, own}
use Rattle.kl_write.specs.LaidKits.{HaveSources}

abbrev HasOwn : List Input → Piece → Type 0
HasOwn inputs x = 0 < x.bytes.len → HasSource inputs x.bytes x.id

left_of : (a b : Bool) → (a && b) ≡ true → a ≡ true
left_of true b e = refl
left_of false b e = e

never : (b : Bool) → b ≡ true → b ≡ false → ⊥
never true e f = cc
never false e f = cc

module _ (kit : Kit) (inputs : List Input) (fit : AreFit inputs) where
  module _ (i k : ℕ) (h : i < length inputs) (l : k < length (input_at inputs i).object.sections) (kept : is_kept kit inputs i (suc k) ≡ true) where
    abbrev y : Section
    y = get_or (input_at inputs i).object.sections k no_section

    fit_section : IsFitAllocated (input_at inputs i).bytes y
    fit_section = ((fit.each_input i no_input h).sections k no_section l).allocated (left_of (has y.flags 2) _ kept)

    section_source : HasOwn inputs (own kit inputs i k h l kept)
    section_source = elim (cases_Bool (y.kind == 8)) [
      | inl none ↦ rw none (λ few. absurd (omega (arith, few)))
      | inr some ↦ rw some (λ few. (h, fit_section.bytes (λ e. (let is : (y.kind == 8) ≡ true = rw e refl in never _ is some))))
    ]

  common_sources : All (HasOwn inputs) (common_pieces kit inputs)
  common_sources = each-all (HasOwn inputs) 0 _ (common_names kit inputs) (λ k d h. All-cons (HasOwn inputs) _ [] (λ few. refl) (λ j e m. absurd (omega arith)))

  pub have_sources : HaveSources inputs (graph kit inputs)
  unfolding graph
  have_sources = All-append (HasOwn inputs) (section_pieces kit inputs) (common_pieces kit inputs) (all_pieces kit inputs (HasOwn inputs) section_source) common_sources
