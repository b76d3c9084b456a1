-- The image of a library's kit carries it.
use Rattle.std.proofs.Common.{ℕ, ◌≡◌, List, [], map, arith}
use Rattle.std.specs.Prelude.{None}
use Rattle.kl_model.proofs.Each.{none_right}
use Rattle.kl_model.specs.Faults.{all_field_faults, clashes, doubled, no_entry, resolve_faults}
use Rattle.kl_model.specs.Graphs.{graph}
use Rattle.kl_model.specs.Orders.{IsOrder, drawn_count}
use Rattle.kl_model.specs.declared.kit.Kit.{Kit}
use Rattle.kl_model.specs.declared.object.Input.{Input}
use Rattle.kl_sym.proofs.KitEdges.{edges_known}
use Rattle.kl_sym.proofs.SoundFields.{graph_sound}
use Rattle.kl_write.specs.LaidKits.{IsLaidKit}
use Rattle.kl_loading.proofs.LibraryFields.{library_carries}
use Rattle.kl_shared.proofs.GraphTexts.{has_texts}
use Rattle.kl_shared.proofs.LoaderFaults.{only_loaded}
use Rattle.kl_shared.specs.LibraryLinks.{LibraryLinks}

field_faults_none : (kit : Kit) (inputs : List Input) → resolve_faults kit inputs ≡ [] → all_field_faults kit inputs ≡ []
unfolding resolve_faults
field_faults_none kit inputs e = none_right (no_entry kit inputs) (all_field_faults kit inputs) (none_right (clashes kit inputs) _ (none_right (doubled kit inputs) _ e))

graph_order : (kit : Kit) (inputs : List Input) (order : List ℕ) → IsOrder (drawn_count (map (λ x. x.place) inputs)) order → IsOrder (drawn_count (graph kit inputs).parts) order
unfolding graph
graph_order kit inputs order o = o

-- THE LAW
pub library_links : LibraryLinks
library_links kit inputs order p l none fits =
    let faults = field_faults_none kit inputs none in
    let base = l.is_kit.library l.library in
    let laid : IsLaidKit kit (graph kit inputs) None order p = record {
      base = omega (arith, base);
      origin = λ e. base;
      sound = graph_sound kit inputs l.fit (edges_known kit l.is_kit) faults;
      whole = graph_order kit inputs order l.whole;
      laid = l.laid;
      names = l.names;
      small = l.small;
    } in
    library_carries kit inputs (graph kit inputs) None order p l.library laid l.addresses (has_texts kit inputs l.fit) fits (only_loaded kit inputs l.fit l.library faults)
