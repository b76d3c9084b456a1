use Rattle.std.proofs.Common.{◌∙◌, ap, sym}
use Rattle.std.specs.Prelude.{None}
use Rattle.kl_model.specs.Names.{definition}
use Rattle.kl_names.proofs.EdgeLaws.{edge_among, only-edge}
use Rattle.kl_names.proofs.NameLists.{number_leads}
use Rattle.kl_names.proofs.NotedSteps.{get-inside, get-map}
use Rattle.kl_names.proofs.edges.lookup.Goals as goal

pub bounds-definitions-number : goal.bounds-definitions-number
bounds-definitions-number c =
    let at = number_leads c.args.numbering.now.index c.args.name.now c.in-Some.number (sym c.in-Some.ensures) in
    rw c.requires.definitions (get-inside (definition c.args.kit.now c.args.inputs.now) c.args.numbering.now.index c.in-Some.number c.args.name.now at)

pub returns-in-Some : goal.returns-in-Some
returns-in-Some c =
    let at = number_leads c.args.numbering.now.index c.args.name.now c.in-Some.number (sym c.in-Some.ensures) in
    rw c.requires.definitions (get-map (definition c.args.kit.now c.args.inputs.now) c.args.numbering.now.index c.in-Some.number c.args.name.now None at)

pub returns-in-None : goal.returns-in-None
returns-in-None c =
    let kit = c.args.kit.now in let inputs = c.args.inputs.now in let name = c.args.name.now in
    c.first_edge.ensures ∙ (ap (λ l. edge_among l name) c.requires.edges ∙ only-edge kit inputs c.args.numbering.now.index name c.requires.numbered.once (sym c.in-None.ensures))
