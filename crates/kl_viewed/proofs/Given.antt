-- The image that a linker gives has no flaw.
use Rattle.std.proofs.Common.{ℕ, ◌≡◌, ◌*◌, ◌∙◌, List, [], ◌++◌, map, refl, subst, sym, arith}
use Rattle.std.specs.Prelude.{Option, None}
use Rattle.kl_model.specs.Carries.{File, MadeHolds, head_for, segments_for}
use Rattle.kl_model.specs.Faults.{all_field_faults, clashes, doubled, graph_faults, link_fault, no_entry, resolve_faults}
use Rattle.kl_model.specs.Graphs.{graph}
use Rattle.kl_model.specs.Orders.{IsOrder, drawn_count}
use Rattle.kl_model.specs.Sizes.{made_of, page_of}
use Rattle.kl_model.specs.declared.graph.Graph.{Graph}
use Rattle.kl_model.specs.declared.kit.Kit.{Kit}
use Rattle.kl_model.specs.declared.kit.KitKind.{KitKind}
use Rattle.kl_model.specs.declared.kit.KitKind.TheVariants.{Kernel, Library}
use Rattle.kl_model.specs.declared.object.Input.{Input}
use Rattle.kl_model.specs.declared.place.Gaps.{Gaps}
use Rattle.kl_model.specs.declared.place.Placement.{Placement}
use Rattle.kl_model.proofs.Each.{none_left, none_right}
use Rattle.kl_sym.proofs.KitEdges.{edges_known}
use Rattle.kl_sym.proofs.SoundFields.{graph_sound}
use Rattle.kl_write.specs.LaidKits.{IsLaidKit}
use Rattle.kl_write.proofs.SoundLaid.{ordered}
use Rattle.kl_write.proofs.WholeOrder.{whole_order}
use Rattle.kl_steps.proofs.LinkFaults.{none_first}
use Rattle.kl_steps.proofs.LinkSteps.{base_small}
use Rattle.kl_loading.specs.TablesReadBack.{HasTexts}
use Rattle.kl_image.specs.Flaws.{image_flaws}
use Rattle.kl_viewed.specs.NoFlaw.{IsLinked}
use Rattle.kl_viewed.proofs.Addresses.{area_addresses}
use Rattle.kl_viewed.proofs.Kernels.{kernel_right}
use Rattle.kl_viewed.proofs.Libraries.{library_right}

-- where no fault stands no field has one
no_name_faults : (kit : Kit) (inputs : List Input) (gaps : Option Gaps) (order : List ℕ) → link_fault kit inputs gaps order ≡ None → resolve_faults kit inputs ≡ []
unfolding link_fault
no_name_faults kit inputs gaps order e =
    none_left (resolve_faults kit inputs) (graph_faults kit (graph kit inputs) gaps order) (none_first (resolve_faults kit inputs ++ graph_faults kit (graph kit inputs) gaps order) e)

no_field_faults : (kit : Kit) (inputs : List Input) → resolve_faults kit inputs ≡ [] → all_field_faults kit inputs ≡ []
unfolding resolve_faults
no_field_faults kit inputs e = none_right (no_entry kit inputs) (all_field_faults kit inputs) (none_right (clashes kit inputs) _ (none_right (doubled kit inputs) _ e))

graph_order : (kit : Kit) (inputs : List Input) (order : List ℕ) → IsOrder (drawn_count (map (λ x. x.place) inputs)) order → IsOrder (drawn_count (graph kit inputs).parts) order
unfolding graph
graph_order kit inputs order o = o

module _ (kit : Kit) (inputs : List Input) (gaps : Option Gaps) (order img : List ℕ) (p : Placement) (l : IsLinked kit inputs gaps order img p) (texts : HasTexts inputs (graph kit inputs)) where
  abbrev g : Graph
  g = graph kit inputs

  laid : IsLaidKit kit g gaps order p
  laid = record {
    base = base_small kit l.is_kit;
    origin = l.is_kit.library;
    sound = graph_sound kit inputs l.fit (edges_known kit l.is_kit) (no_field_faults kit inputs (no_name_faults kit inputs gaps order l.sound));
    whole = graph_order kit inputs order l.whole;
    laid = l.carries.laid;
    names = l.carries.names;
    small = l.carries.small;
  }

  of_kernel : kit.kind ≡ Kernel → image_flaws img ≡ []
  of_kernel kernel =
      let page = (l.is_kit.kernel kernel).base_page in
      let base : p.base ≡ 4096 * page.0 = laid.laid.base ∙ sym page.1 in
      let o = ordered kit g gaps order (made_of kit g) p laid.laid laid.small laid.base laid.sound (whole_order g order laid.whole) in
      kernel_right p page.0 base o img g (subst (λ k. File img (head_for k (segments_for k (page_of kit g) p) p g) (segments_for k (page_of kit g) p)) kernel l.carries.file)

  of_library : kit.kind ≡ Library → image_flaws img ≡ []
  of_library library =
      library_right img p kit inputs g gaps order library laid (area_addresses kit g gaps order (made_of kit g) p laid.laid) l.carries.file
      (subst (λ k. MadeHolds k img p kit inputs g) library l.carries.made) texts

  -- THE LAW
  pub right : image_flaws img ≡ []
  right = by_kind kit.kind refl
    where
      by_kind : (k : KitKind) → kit.kind ≡ k → image_flaws img ≡ []
      by_kind Kernel e = of_kernel e
      by_kind Library e = of_library e
