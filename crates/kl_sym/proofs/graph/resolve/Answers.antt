use Rattle.std.proofs.Common.{◌∙◌, refl, inl, inr}
use Rattle.std.proofs.lemmas.Result.{err_from_is_err_and}
use Rattle.kl_model.specs.Graphs.{graph}
use Rattle.kl_sym.proofs.KitEdges.{edges_known}
use Rattle.kl_sym.proofs.ResolveFaults.{first-field, first-name, no-fault}
use Rattle.kl_sym.proofs.SoundFields.{graph_sound}
use Rattle.kl_sym.proofs.graph.resolve.Goals as goal

pub returns-in_err-names-clause-err : goal.returns-in_err-names-clause-err
returns-in_err-names-clause-err c =
    let r = err_from_is_err_and c.from_residual-in_err-names.result c.from_residual-in_err-names.ensures.1 in
    rw (r.1, r.2) (elim c.in_err-names.ensures.err [ inl a ↦ inl a | inr e ↦ inr (first-name c.args.kit.now c.args.inputs.now _ e) ])

pub fields-requires-clause-targets : goal.fields-requires-clause-targets
fields-requires-clause-targets c = c.deref-4.ensures.value ∙ c.in_ok-names.ensures.targets

pub returns-in_err-fields-clause-err : goal.returns-in_err-fields-clause-err
returns-in_err-fields-clause-err c =
    let r = err_from_is_err_and c.from_residual-in_err-fields.result c.from_residual-in_err-fields.ensures.1 in
    rw (r.1, r.2) (elim c.in_err-fields.ensures.err [
      | inl a ↦ inl a
      | inr e ↦ inr (first-field c.args.kit.now c.args.inputs.now _ c.in_ok-names.ensures.sound e)
    ])

pub returns-clause-ok : goal.returns-clause-ok
unfolding graph
returns-clause-ok c =
    rw (
      c.from_vec.ensures,
      c.from_vec-2.ensures,
      c.from_vec-3.ensures,
      c.from_vec-4.ensures,
      c.in_ok-extend_from_slice.ensures.items,
      c.deref-5.ensures.value,
      c.in_ok-pieced.ensures.pieces,
      c.in_ok-names.ensures.commons,
      c.in_ok-names.ensures.dynamic,
      c.in_ok-fields.ensures.ok,
      c.in_ok-names.ensures.entry,
      c.in_ok-parts_of.ensures,
    )
    refl

pub returns-clause-graph : goal.returns-clause-graph
returns-clause-graph c =
    let kit = c.args.kit.now in let inputs = c.args.inputs.now in
    rw (returns-clause-ok c) (graph_sound kit inputs c.requires.inputs (edges_known kit c.requires.kit) c.in_ok-fields.ensures.sound)

pub returns-clause-sound : goal.returns-clause-sound
returns-clause-sound c = no-fault c.args.kit.now c.args.inputs.now c.in_ok-names.ensures.sound c.in_ok-fields.ensures.sound
