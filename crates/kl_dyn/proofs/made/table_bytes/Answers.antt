use Rattle.std.proofs.Common.{◌∙◌, ◌++◌, ap}
use Rattle.std.specs.Prelude.{flat_map}
use Rattle.kl_model.specs.Tables.{hash_words}
use Rattle.kl_model.specs.Written.{bytes_of}
use Rattle.kl_dyn.proofs.TableBytes.{tables_are}
use Rattle.kl_dyn.proofs.made.table_bytes.Goals as goal

pub returns : goal.returns
returns c =
    let q = c.requires in
    tables_are c.args.kit.now c.args.inputs.now c.args.graph.now c.args.placement.now _ _ _ _ _ _ _ _ _ _ _ q.parts.symbols q.parts.relas (c.deref.ensures.value ∙ q.relas) (c.deref-2.ensures.value ∙ q.jumps)
    (c.in_ok-push_hash.ensures ∙ ap (λ b. b ++ flat_map (bytes_of 4) (hash_words c.args.inputs.now c.args.graph.now)) c.in_ok-bytes.ensures.items) c.in_ok-pad_to.ensures c.in_ok-push_symbols.ensures c.in_ok-push_strings.ensures c.in_ok-pad_to-2.ensures
    c.in_ok-push_relas.ensures c.in_ok-push_relas-2.ensures
