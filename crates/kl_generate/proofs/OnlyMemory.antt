-- Only want of memory keeps a made kit from being linked, whatever the order and the gaps.
use Rattle.std.proofs.Common.{ℕ, ◌≡◌, ◌≤◌, ◌⊎◌, List, [], ◌∷◌, subst, arith, inl, inr}
use Rattle.std.specs.Prelude.{Option, Some, All, slice_get, nat_lt, not}
use Rattle.std.proofs.lemmas.List.Elements.{All-append}
use Rattle.kl_base.specs.declared.limits.TheConstants.{SPAN_LIMIT}
use Rattle.kl_model.specs.Faults.{does_fit, graph_faults, link_fault, range_faults, span_faults}
use Rattle.kl_model.specs.Graphs.{graph}
use Rattle.kl_model.specs.Laid.{span}
use Rattle.kl_model.specs.Leads.{field_address, value_target}
use Rattle.kl_model.specs.Lists.{only_if}
use Rattle.kl_model.specs.Placed.{placed}
use Rattle.kl_model.specs.Roomy.{IsRoomy}
use Rattle.kl_model.specs.Sizes.{made_of}
use Rattle.kl_model.specs.declared.graph.Field.{Field}
use Rattle.kl_model.specs.declared.graph.Graph.{Graph}
use Rattle.kl_model.specs.declared.kit.Kit.{Kit}
use Rattle.kl_model.specs.declared.link.LinkFault.{LinkFault}
use Rattle.kl_model.specs.declared.link.LinkFault.TheVariants as fault
use Rattle.kl_model.specs.declared.object.Input.{Input}
use Rattle.kl_model.specs.declared.place.Gaps.{Gaps}
use Rattle.kl_model.specs.declared.place.Placement.{Placement}
use Rattle.kl_model.proofs.Each.{all-only_if, each-all}
use Rattle.kl_steps.specs.RoomyLinks.{IsNoSpanOrRange}
use Rattle.kl_generate.specs.Made.{AreMade, made_kit}
use Rattle.kl_generate.proofs.MadeFaults.{none_stands}
use Rattle.kl_generate.proofs.MadeGraphs.{roomy}

-- what an order and gaps decide
abbrev IsDecided : LinkFault → Type 0
IsDecided e = IsNoSpanOrRange e → ⊥

ranges : (p : Placement) (g : Graph) → All IsDecided (range_faults p g)
ranges p g =
    let f = λ (k : ℕ) (x : Field). only_if (not (does_fit p g x)) (fault.Range x.from (value_target p g x) x.addend (field_address p g x)) in
    each-all IsDecided 0 f g.fields (λ k d h. all-only_if IsDecided _ _ (λ out is. is))

all_decided : (kit : Kit) (g : Graph) (gaps : Option Gaps) (order : List ℕ) → All IsDecided (graph_faults kit g gaps order)
all_decided kit g gaps order =
    let s = span kit g gaps order (made_of kit g) in
    let p = placed kit g gaps order (made_of kit g) in
    All-append IsDecided (span_faults s) (range_faults p g) (all-only_if IsDecided (nat_lt SPAN_LIMIT s) (fault.Span s SPAN_LIMIT) (λ over is. is)) (ranges p g)

of_first : {X : Type 0} (P : X → Type 0) (xs : List X) (e : X) → All P xs → slice_get xs 0 ≡ Some e → P e
of_first P [] e all is = cc
of_first P (x ∷ xs) e all is = let same : Some x ≡ Some e = is in let here : x ≡ e = cc in subst P here (all 0 x (omega arith))

pub no_fault : (n : ℕ) (inputs : List Input) (gaps : Option Gaps) (order : List ℕ) (e : LinkFault) → 1 ≤ n → n ≤ 4096 → AreMade n inputs
    → IsNoSpanOrRange e → link_fault (made_kit n) inputs gaps order ≡ Some e → ⊥
unfolding link_fault
no_fault n inputs gaps order e some few made free is =
    let fs = graph_faults (made_kit n) (graph (made_kit n) inputs) gaps order in
    let first : slice_get fs 0 ≡ Some e = rw (none_stands n inputs made some few) at is in
    of_first IsDecided fs e (all_decided (made_kit n) (graph (made_kit n) inputs) gaps order) first free

-- what a link of a made kit answers
pub only_memory : (n : ℕ) (inputs : List Input) (gaps : Option Gaps) (order : List ℕ) (e : LinkFault) → 1 ≤ n → n ≤ 4096 → AreMade n inputs
    → (e ≡ fault.NoMemory) ⊎ (link_fault (made_kit n) inputs gaps order ≡ Some e)
    → (IsRoomy (made_kit n) (graph (made_kit n) inputs) → IsNoSpanOrRange e) → e ≡ fault.NoMemory
only_memory n inputs gaps order e some few made (inl memory) free = memory
only_memory n inputs gaps order e some few made (inr is) free = absurd (no_fault n inputs gaps order e some few made (free (roomy n inputs made few)) is)
