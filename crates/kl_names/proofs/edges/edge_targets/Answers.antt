use Rattle.std.proofs.Common.{ℕ, ◌≡◌, ◌<◌, ◌∙◌, List, length, get_or, take, ap, sym, rules, refl, inr}
use Rattle.std.specs.Prelude.{None, Some, map, replicate, slice_get}
use Rattle.std.specs.Option.{option_or}
use Rattle.std.specs.List.{list_any}
use Rattle.std.proofs.lemmas.List.{length-map, take_more}
use Rattle.kl_model.specs.Names.{edge_names, occurrences}
use Rattle.kl_model.specs.declared.graph.Target.{Target}
use Rattle.kl_model.specs.declared.link.LinkFault.TheVariants as fault
use Rattle.kl_names.specs.Facts.{facts_of}
use Rattle.kl_names.specs.Numbers.{place_in}
use Rattle.kl_names.proofs.EdgeLaws.{clash-first, clash-more, edge-all, edge-is, edge_among, edges-more, edges-none, edges-other, is-taken, no_edge, no_pair, not-taken, takes}
use Rattle.kl_names.proofs.NameLists.{number_leads}
use Rattle.kl_names.proofs.NotedSteps.{AreOnce, are-once, get-inside, get-map}
use Rattle.kl_names.proofs.edges.edge_targets.Goals as goal
use Rattle.kl_names.proofs.edges.edge_targets.Goals.{in-Some+else-is_taken, in_default}

pub loop-edge-init : goal.loop-edge-init
loop-edge-init c = record {
  targets =
      let many = sym (length-map c.names.result.now (λ k. k.now)) ∙ ap length c.names.ensures in
      let items : c.in_ok-targets.targets.items ≡ replicate (length c.names.result.now) None = search rules in
      items ∙ (ap (λ n. replicate n None) many ∙ edges-none c.args.numbering.now.index);
  sound = refl;
}

pub index-requires : goal.index-requires
index-requires c =
    let kit = c.args.kit.now in let inputs = c.args.inputs.now in let index = c.args.numbering.now.index in
    let at = number_leads index _ c.in-Some.number (sym c.in-Some.ensures) in
    let inside : c.in-Some.number < length c.args.notes.now.facts.items = rw c.requires.notes.facts (get-inside (facts_of kit inputs) index c.in-Some.number _ at) in
    search (rules, inside)

pub returns-then-is_taken-clause-err : goal.returns-then-is_taken-clause-err
returns-then-is_taken-clause-err c =
    let kit = c.args.kit.now in let inputs = c.args.inputs.now in let index = c.args.numbering.now.index in let j = c.loop-edge.edge-index in
    let names = edge_names kit in
    let name = (get_or c.args.edges.now j no_edge).name.now in
    let edge = edge-is c.args.edges.now names j c.requires.edges c.loop-edge-test.true in
    let same : name ≡ (get_or names j no_pair).0 = ap (λ (e : List ℕ × Target). e.0) edge.1 in
    let at = number_leads index name c.in-Some.number (sym c.in-Some.ensures) in
    let fact : c.index.result.now ≡ facts_of kit inputs name = rw c.requires.notes.facts at c.index.ensures ∙ get-map (facts_of kit inputs) index c.in-Some.number name c.index.result.now at in
    let taken = ap (λ n. list_any (takes kit inputs n) (occurrences inputs)) (sym same) ∙ (sym (is-taken kit inputs name c.index.result.now fact) ∙ (sym c.is_taken.ensures ∙ c.if-is_taken.true)) in
    let first = clash-first kit inputs names j no_pair edge.0 taken c.loop-edge.invariant.sound in
    inr (first ∙ ap (λ n. Some (fault.EdgeClash n)) (sym (c.in_ok-name_text.ensures ∙ same)))

pub index-requires-in-Some : goal.index-requires-in-Some
index-requires-in-Some c =
    let kit = c.args.kit.now in let index = c.args.numbering.now.index in
    let at = number_leads index _ c.in-Some.number (sym c.in-Some.ensures) in
    let inside : c.in-Some.number < length c.loop-edge.targets.items =
    rw c.loop-edge.invariant.targets (get-inside (edge_among (take c.loop-edge.edge-index (edge_names kit))) index c.in-Some.number _ at) in
    search (rules, inside)

pub index_mut-requires : goal.index_mut-requires
index_mut-requires c =
    let kit = c.args.kit.now in let index = c.args.numbering.now.index in
    let at = number_leads index _ c.in-Some.number (sym c.in-Some.ensures) in
    let inside : c.in-Some.number < length c.loop-edge.targets.items =
    rw c.loop-edge.invariant.targets (get-inside (edge_among (take c.loop-edge.edge-index (edge_names kit))) index c.in-Some.number _ at) in
    search (rules, inside)

pub loop-edge-preserved : goal.loop-edge-preserved
loop-edge-preserved c =
    let kit = c.args.kit.now in let inputs = c.args.inputs.now in let index = c.args.numbering.now.index in let j = c.loop-edge.edge-index in
    let names = edge_names kit in
    let name = (get_or c.args.edges.now j no_edge).name.now in
    let edge = edge-is c.args.edges.now names j c.requires.edges c.loop-edge-test.true in
    let e = get_or names j no_pair in
    let same : name ≡ e.0 = ap (λ (e : List ℕ × Target). e.0) edge.1 in
    let leads : (get_or c.args.edges.now j no_edge).target ≡ e.1 = ap (λ (e : List ℕ × Target). e.1) edge.1 in
    let more = take_more names j no_pair edge.0 in
    let once : AreOnce index = rw c.requires.numbered.once (are-once (map (λ o. o.name) (occurrences inputs))) in
    elim c.match-find.branch [
      | in-Some+else-is_taken w ↦
          let number = w.in-Some.number in
          let at = number_leads index name number (sym w.in-Some.ensures) in
          let there : slice_get index number ≡ Some e.0 = at ∙ ap Some same in
          let fact : w.index.result.now ≡ facts_of kit inputs name = rw c.requires.notes.facts at w.index.ensures ∙ get-map (facts_of kit inputs) index number name w.index.result.now at in
          let free = ap (λ n. list_any (takes kit inputs n) (occurrences inputs)) (sym same) ∙ (sym (is-taken kit inputs name w.index.result.now fact) ∙ (sym w.is_taken.ensures ∙ w.if-is_taken.false)) in
          let d = w.index-in-Some.result.now in
          let old : w.index-in-Some.result.now ≡ edge_among (take j names) e.0 =
          w.index-in-Some.ensures ∙ (ap (λ t. get_or t number d) c.loop-edge.invariant.targets ∙ get-map (edge_among (take j names)) index number e.0 d there) in
          let put : w.or.result ≡ option_or (edge_among (take j names) e.0) (Some e.1) =
          w.or.ensures ∙ (ap (λ o. option_or o (Some (get_or c.args.edges.now j no_edge).target)) old ∙ ap (λ t. option_or (edge_among (take j names) e.0) (Some t)) leads) in
          record {
            targets = rw (w.targets-is, put, c.loop-edge.invariant.targets, more) (edges-more (take j names) e index number once there);
            sound = clash-more kit inputs names j no_pair edge.0 free c.loop-edge.invariant.sound;
          }
      | in_default w ↦
          let none = ap (place_in index) (sym same) ∙ sym w.in_default.ensures in
          record {
            targets = rw (w.targets-is, c.loop-edge.invariant.targets, more) (edges-other (take j names) e index none);
            sound = clash-more kit inputs names j no_pair edge.0 (not-taken kit inputs index e.0 c.requires.numbered.once none) c.loop-edge.invariant.sound;
          }
    ]

pub returns-clause-ok : goal.returns-clause-ok
returns-clause-ok c =
    let all = edge-all c.args.edges.now (edge_names c.args.kit.now) c.loop-edge.edge-index c.requires.edges c.loop-edge-test.false in
    rw all at c.loop-edge.invariant.targets

pub returns-clause-sound : goal.returns-clause-sound
returns-clause-sound c =
    let all = edge-all c.args.edges.now (edge_names c.args.kit.now) c.loop-edge.edge-index c.requires.edges c.loop-edge-test.false in
    rw all at c.loop-edge.invariant.sound
