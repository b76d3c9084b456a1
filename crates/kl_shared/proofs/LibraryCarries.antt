-- The image of a library that is linked carries its kit.
use Rattle.std.proofs.Common.{ℕ, ◌≡◌, List, [], map, subst, sym}
use Rattle.std.specs.Prelude.{None}
use Rattle.kl_model.specs.Carries.{Carries}
use Rattle.kl_model.specs.Faults.{range_faults, resolve_fault, resolve_faults}
use Rattle.kl_model.specs.Fit.{AreFit, IsKit}
use Rattle.kl_model.specs.Graphs.{graph}
use Rattle.kl_model.specs.Image.{image_bytes}
use Rattle.kl_model.specs.Orders.{IsOrder, drawn_count}
use Rattle.kl_model.specs.declared.graph.Graph.{Graph}
use Rattle.kl_model.specs.declared.kit.Kit.{Kit}
use Rattle.kl_model.specs.declared.kit.KitKind.TheVariants.{Library}
use Rattle.kl_model.specs.declared.object.Input.{Input}
use Rattle.kl_model.specs.declared.place.Placement.{Placement}
use Rattle.kl_write.specs.LaidKits.{HasAreaAddresses, IsLaidKit}
use Rattle.kl_steps.proofs.LinkFaults.{none_first}
use Rattle.kl_loading.specs.TablesReadBack.{HasTexts}
use Rattle.kl_shared.proofs.GraphTexts.{has_texts}
use Rattle.kl_shared.proofs.Linked.{library_links}
use Rattle.kl_shared.specs.LibraryLinks.{IsLaidLibrary}

module _ (kit : Kit) (inputs : List Input) (order : List ℕ) (is_kit : IsKit kit) (library : kit.kind ≡ Library) (fit : AreFit inputs)
    (o : IsOrder (drawn_count (map (λ x. x.place) inputs)) order) (g : Graph) (is : g ≡ graph kit inputs) where
  pub texts : HasTexts inputs g
  texts = rw is (has_texts kit inputs fit)

  module _ (p : Placement) (l : IsLaidKit kit g None order p) (addresses : HasAreaAddresses p) where
    moved : IsLaidKit kit (graph kit inputs) None order p
    moved = subst (λ h. IsLaidKit kit h None order p) is l

    laid_library : IsLaidLibrary kit inputs order p
    laid_library = record {
      library = library;
      is_kit = is_kit;
      fit = fit;
      whole = o;
      laid = moved.laid;
      names = moved.names;
      small = moved.small;
      addresses = addresses;
    }

    pub carries_kit : resolve_fault kit inputs ≡ None → range_faults p g ≡ [] → (img : List ℕ) → img ≡ image_bytes kit inputs g None p
        → Carries img p kit inputs None order
    carries_kit none fits img made_so =
        let range = subst (λ h. range_faults p h ≡ []) is fits in
        let image = subst (λ h. img ≡ image_bytes kit inputs h None p) is made_so in
        subst (λ i. Carries i p kit inputs None order) (sym image)
        (library_links kit inputs order p laid_library (none_first (resolve_faults kit inputs) none) range)
