-- The first fault of a link: of names first, then the span, then the range of fields.
use Rattle.std.proofs.Common.{◌≡◌, ℕ, ◌≤◌, ◌∙◌, List, [], ◌∷◌, ◌++◌, refl, ap, sym, Bool, true, false, nat_lt}
use Rattle.std.specs.Prelude.{Option, Some, None, slice_get}
use Rattle.std.specs.Option.{option_map}
use Rattle.std.proofs.lemmas.Bool.{le-ltb}
use Rattle.kl_model.specs.Graphs.{graph}
use Rattle.kl_model.specs.Laid.{span}
use Rattle.kl_base.specs.declared.limits.TheConstants.{SPAN_LIMIT}
use Rattle.kl_model.specs.Faults.{graph_faults, link_fault, range_faults, resolve_fault, resolve_faults, span_faults}
use Rattle.kl_model.specs.Placed.{placed}
use Rattle.kl_model.specs.Sizes.{made_of}
use Rattle.kl_model.specs.declared.object.Input.{Input}
use Rattle.kl_model.specs.declared.kit.Kit.{Kit}
use Rattle.kl_model.specs.declared.place.Gaps.{Gaps}
use Rattle.kl_model.specs.declared.place.Placement.{Placement}
use Rattle.kl_model.specs.declared.graph.Graph.{Graph}
use Rattle.kl_model.specs.declared.link.LinkFault.{LinkFault}
use Rattle.kl_model.proofs.Each.{head_left}
use Rattle.kl_layout.specs.declared.fault.LayoutFault.{LayoutFault}
use Rattle.kl_layout.specs.declared.fault.LayoutFault.TheVariants as layout
use Rattle.kl_layout.specs.Spans.{as_link_fault, layout_fault}

pub none_first : {X : Type 0} (xs : List X) → slice_get xs 0 ≡ None → xs ≡ []
none_first [] e = refl
none_first (x ∷ xs) e = cc

-- a span past the limit is the first fault, and one within it none
span_first : (n : ℕ) (rest : List LinkFault) (e : LayoutFault) → layout_fault n ≡ Some e → slice_get (span_faults n ++ rest) 0 ≡ Some (as_link_fault e)
span_first n rest e h = go (nat_lt SPAN_LIMIT n) refl
  where
    go : (t : Bool) → nat_lt SPAN_LIMIT n ≡ t → slice_get (span_faults n ++ rest) 0 ≡ Some (as_link_fault e)
    go true t =
        let some : Some (layout.Span n SPAN_LIMIT) ≡ Some e = rw t at h in
        rw t (ap (option_map as_link_fault) some)
    go false t = let none : None ≡ Some e = rw t at h in cc

pub span_within : (n : ℕ) (rest : List LinkFault) → n ≤ SPAN_LIMIT → span_faults n ++ rest ≡ rest
span_within n rest h = rw (le-ltb SPAN_LIMIT n h) refl

module _ (kit : Kit) (inputs : List Input) (gaps : Option Gaps) (order : List ℕ) where
  pub first_of_names : (e : LinkFault) → resolve_fault kit inputs ≡ Some e → link_fault kit inputs gaps order ≡ Some e
  unfolding link_fault
  first_of_names e h = head_left (resolve_faults kit inputs) (graph_faults kit (graph kit inputs) gaps order) e h

  -- where names have no fault
  module _ (g : Graph) (is : g ≡ graph kit inputs) (sound : resolve_fault kit inputs ≡ None) where
    after_names : link_fault kit inputs gaps order ≡ slice_get (graph_faults kit g gaps order) 0
    unfolding link_fault
    after_names = ap (λ fs. slice_get (fs ++ graph_faults kit (graph kit inputs) gaps order) 0) (none_first (resolve_faults kit inputs) sound)
        ∙ ap (λ h. slice_get (graph_faults kit h gaps order) 0) (sym is)

    pub of_span : (e : LayoutFault) → layout_fault (span kit g gaps order (made_of kit g)) ≡ Some e → link_fault kit inputs gaps order ≡ Some (as_link_fault e)
    of_span e h = after_names ∙ span_first (span kit g gaps order (made_of kit g)) (range_faults (placed kit g gaps order (made_of kit g)) g) e h

    pub of_range : (p : Placement) → p ≡ placed kit g gaps order (made_of kit g) → span kit g gaps order (made_of kit g) ≤ SPAN_LIMIT
        → link_fault kit inputs gaps order ≡ slice_get (range_faults p g) 0
    of_range p placed_is small =
        after_names
        ∙ ap (λ fs. slice_get fs 0) (span_within (span kit g gaps order (made_of kit g)) (range_faults (placed kit g gaps order (made_of kit g)) g) small
        ∙ ap (λ q. range_faults q g) (sym placed_is))
