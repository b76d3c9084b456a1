-- The areas that the linker makes in a kernel are small, and the image carries the kit.
use Rattle.std.proofs.Common.{◌≡◌, ℕ, List, [], subst, sym, arith}
use Rattle.std.specs.Prelude.{Option}
use Rattle.kl_layout.specs.Spans.{AreSmall}
use Rattle.kl_model.specs.Carries.{Carries, CarriesGraph}
use Rattle.kl_model.specs.Faults.{range_faults}
use Rattle.kl_model.specs.Graphs.{graph}
use Rattle.kl_model.specs.Image.{image_bytes}
use Rattle.kl_model.specs.Sizes.{made_of}
use Rattle.kl_model.specs.Sound.{IsSoundGraph}
use Rattle.kl_model.specs.declared.graph.Graph.{Graph}
use Rattle.kl_model.specs.declared.kit.Kit.{Kit}
use Rattle.kl_model.specs.declared.kit.KitKind.TheVariants.{Kernel}
use Rattle.kl_model.specs.declared.object.Input.{Input}
use Rattle.kl_model.specs.declared.place.Gaps.{Gaps}
use Rattle.kl_model.specs.declared.place.Made.{Made}
use Rattle.kl_model.specs.declared.place.Placement.{Placement}
use Rattle.kl_write.specs.LaidKits.{HasAreaAddresses, IsLaidKit}
use Rattle.kl_write.proofs.FewSlots.{few_slots}
use Rattle.kl_write.proofs.LawFields.{carries_graph, no_range_faults}
use Rattle.kl_write.proofs.WholeOrder.{whole_order}

module _ (kit : Kit) (g : Graph) (kernel : kit.kind ≡ Kernel) (sound : IsSoundGraph kit g) where
  pub made_small : (made : Made) → made ≡ made_of kit g → AreSmall made
  made_small made made_is =
      let few = few_slots kit g sound in
      rw (made_is, kernel) (record { stubs = omega arith; tables = omega arith; got = omega (arith, few); dynamic = omega arith })

module _ (kit : Kit) (inputs : List Input) (gaps : Option Gaps) (order : List ℕ) (kernel : kit.kind ≡ Kernel) (g : Graph) (is : g ≡ graph kit inputs)
    (p : Placement) (l : IsLaidKit kit g gaps order p) (addresses : HasAreaAddresses p) (fits : range_faults p g ≡ []) where
  pub carries_kit : (img : List ℕ) → img ≡ image_bytes kit inputs g gaps p → Carries img p kit inputs gaps order
  carries_kit img made_so =
      let carried = carries_graph kit inputs g gaps order p l.origin l.laid l.small l.base l.sound (whole_order g order l.whole) addresses kernel (no_range_faults p g fits) l.names in
      subst (λ h. CarriesGraph img p kit inputs h gaps order) is (subst (λ i. CarriesGraph i p kit inputs g gaps order) (sym made_so) carried)
