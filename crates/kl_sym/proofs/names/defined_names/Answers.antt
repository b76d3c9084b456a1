use Rattle.std.proofs.Common.{◌≡◌, ◌∙◌, length, ap, inl, inr, arith}
use Rattle.std.proofs.lemmas.Result.{err_from_is_err_and}
use Rattle.kl_model.specs.Names.{kept_numbers}
use Rattle.kl_names.proofs.OwnLaws.{kept-le}
use Rattle.kl_sym.proofs.ResolveFaults.{first-clash, first-doubled, first-entry, no-name}
use Rattle.kl_sym.proofs.SoundTargets.{pieces_numbered}
use Rattle.kl_sym.proofs.names.defined_names.Goals as goal

pub returns-in_err-notes-clause-err : goal.returns-in_err-notes-clause-err
returns-in_err-notes-clause-err c =
    let r = err_from_is_err_and c.from_residual-in_err-notes.result c.from_residual-in_err-notes.ensures.1 in
    rw (r.1, r.2) (elim c.in_err-notes.ensures.err [ inl a ↦ inl a | inr e ↦ inr (first-doubled c.args.kit.now c.args.inputs.now _ e) ])

pub returns-in_err-targets-clause-err : goal.returns-in_err-targets-clause-err
returns-in_err-targets-clause-err c =
    let r = err_from_is_err_and c.from_residual-in_err-targets.result c.from_residual-in_err-targets.ensures.1 in
    rw (r.1, r.2) (elim c.in_err-targets.ensures.err [
      | inl a ↦ inl a
      | inr e ↦ inr (first-clash c.args.kit.now c.args.inputs.now _ c.in_ok-notes.ensures.single e)
    ])

pub overflow_cast-kept : goal.overflow_cast-kept
overflow_cast-kept c =
    let kit = c.args.kit.now in let inputs = c.args.inputs.now in
    let many : length c.args.pieces.now ≡ length (kept_numbers kit inputs) = ap length c.requires.pieces ∙ pieces_numbered kit inputs c.requires.inputs in
    let few = kept-le kit inputs in
    let limit = c.requires.inputs.sections in
    omega (arith, many, few, limit)

pub own_definitions-requires-clause-kept : goal.own_definitions-requires-clause-kept
own_definitions-requires-clause-kept c =
    let kit = c.args.kit.now in let inputs = c.args.inputs.now in
    ap length c.requires.pieces ∙ pieces_numbered kit inputs c.requires.inputs

pub returns-in_err-entry-clause-err : goal.returns-in_err-entry-clause-err
returns-in_err-entry-clause-err c =
    let r = err_from_is_err_and c.from_residual-in_err-entry.result c.from_residual-in_err-entry.ensures.1 in
    rw (r.1, r.2) (elim c.in_err-entry.ensures.err [
      | inl a ↦ inl a
      | inr e ↦ inr (first-entry c.args.kit.now c.args.inputs.now _ c.in_ok-notes.ensures.single c.in_ok-targets.ensures.sound e)
    ])

pub returns-clause-sound : goal.returns-clause-sound
returns-clause-sound c = no-name c.args.kit.now c.args.inputs.now c.in_ok-notes.ensures.single c.in_ok-targets.ensures.sound c.in_ok-entry.ensures.sound
