-- A roomy kit is refused neither for its span nor for a range.
use Rattle.std.proofs.Common.{ℕ, ◌≡◌, ◌⊎◌, ◌∙◌, List, [], ◌∷◌, ◌++◌, refl, ap, map, sym, subst, inl, inr}
use Rattle.std.specs.Prelude.{Option, Some, None, Result, IfErr, Ok, Err, IfSome, slice_get}
use Rattle.std.specs.List.{AllByRecursion}
use Rattle.kl_model.specs.Faults.{all_field_faults, clashes, doubled, graph_faults, link_fault, no_entry, range_faults, resolve_faults}
use Rattle.kl_model.specs.Fit.{AreFit, AreGaps, IsKit}
use Rattle.kl_model.specs.Graphs.{graph}
use Rattle.kl_model.specs.Laid.{span}
use Rattle.kl_model.specs.Orders.{IsOrder, drawn_count}
use Rattle.kl_model.specs.Placed.{placed}
use Rattle.kl_model.specs.Roomy.{IsRoomy}
use Rattle.kl_model.specs.Sizes.{made_of}
use Rattle.kl_model.specs.Sound.{IsSoundGraph}
use Rattle.kl_model.specs.declared.graph.Graph.{Graph}
use Rattle.kl_model.specs.declared.kit.Kit.{Kit}
use Rattle.kl_model.specs.declared.link.LinkFault.{LinkFault}
use Rattle.kl_model.specs.declared.link.LinkFault.TheVariants as fault
use Rattle.kl_model.specs.declared.object.Input.{Input}
use Rattle.kl_model.specs.declared.place.Gaps.{Gaps}
use Rattle.kl_model.proofs.Each.{none_right}
use Rattle.kl_sym.proofs.KitEdges.{edges_known}
use Rattle.kl_sym.proofs.SoundFields.{graph_sound}
use Rattle.kl_steps.specs.RoomyLinks.{IsNoSpanOrRange, RoomyLinks}
use Rattle.kl_steps.proofs.LinkFaults.{span_within}
use Rattle.kl_steps.proofs.LinkSteps.{base_small, graph_order}
use Rattle.kl_steps.proofs.NameFaults.{of_names}
use Rattle.kl_steps.proofs.RoomyFields.{none_out_of_range, small}

-- any sound graph
pub roomy_graph : (kit : Kit) (g : Graph) (gaps : Option Gaps) (order : List ℕ) → IsKit kit → IsSoundGraph kit g
    → IsOrder (drawn_count g.parts) order → IfSome gaps AreGaps → IsRoomy kit g → graph_faults kit g gaps order ≡ []
roomy_graph kit g gaps order is_kit sound o small_gaps roomy =
    let limit = base_small kit is_kit in
    let within = small kit g gaps order is_kit.library limit sound o small_gaps roomy in
    span_within (span kit g gaps order (made_of kit g)) (range_faults (placed kit g gaps order (made_of kit g)) g) within
    ∙ none_out_of_range kit g gaps order is_kit.library limit sound o small_gaps roomy

-- where no fault of names stands no field has one
no_field_faults : (kit : Kit) (inputs : List Input) → resolve_faults kit inputs ≡ [] → all_field_faults kit inputs ≡ []
unfolding resolve_faults
no_field_faults kit inputs e =
    let a = none_right (doubled kit inputs) (clashes kit inputs ++ (no_entry kit inputs ++ all_field_faults kit inputs)) e in
    let b = none_right (clashes kit inputs) (no_entry kit inputs ++ all_field_faults kit inputs) a in
    none_right (no_entry kit inputs) (all_field_faults kit inputs) b

-- THE LAW
pub roomy_links : RoomyLinks
roomy_links kit inputs gaps order is_kit fit small_gaps o none roomy =
    let sound = graph_sound kit inputs fit (edges_known kit is_kit) (no_field_faults kit inputs none) in
    let whole = graph_order kit inputs gaps order is_kit fit o (graph kit inputs) refl sound in
    roomy_graph kit (graph kit inputs) gaps order is_kit sound whole small_gaps roomy

-- what a link answers
module _ (kit : Kit) (inputs : List Input) (gaps : Option Gaps) (order : List ℕ) (is_kit : IsKit kit)
    (fit : AreFit inputs) (small_gaps : IfSome gaps AreGaps) (o : IsOrder (drawn_count (map (λ x. x.place) inputs)) order) where
  first_is : IsRoomy kit (graph kit inputs) → (e : LinkFault) (fs : List LinkFault) → resolve_faults kit inputs ≡ fs
      → AllByRecursion IsNoSpanOrRange fs → slice_get (fs ++ graph_faults kit (graph kit inputs) gaps order) 0 ≡ Some e → IsNoSpanOrRange e
  first_is roomy e [] none all is =
      let after = roomy_links kit inputs gaps order is_kit fit small_gaps o none roomy in
      let bad : None ≡ Some e = ap (λ (fs : List LinkFault). slice_get fs 0) (sym after) ∙ is in
      cc
  first_is roomy e (x ∷ xs) some all is =
      let same : Some x ≡ Some e = is in
      let here : x ≡ e = cc in
      subst IsNoSpanOrRange here all.0

  answer_is : IsRoomy kit (graph kit inputs) → (e : LinkFault) → (e ≡ fault.NoMemory) ⊎ (link_fault kit inputs gaps order ≡ Some e)
      → IsNoSpanOrRange e
  unfolding link_fault
  answer_is roomy e (inl none) = subst IsNoSpanOrRange (sym none) tt
  answer_is roomy e (inr is) = first_is roomy e (resolve_faults kit inputs) refl (of_names kit inputs) is

  pub roomy_err : {X : Type 0} (r : Result X LinkFault) → IfErr r (λ e. (e ≡ fault.NoMemory) ⊎ (link_fault kit inputs gaps order ≡ Some e))
      → IfErr r (λ e. IsRoomy kit (graph kit inputs) → IsNoSpanOrRange e)
  roomy_err (Ok x) h = tt
  roomy_err (Err e) h = λ roomy. answer_is roomy e h
