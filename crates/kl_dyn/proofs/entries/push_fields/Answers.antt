use Rattle.std.proofs.Common.{◌≡◌, ◌++◌, ◌∙◌, ◌∷◌, List, [], append_assoc, ap, false, get_or, refl, sym, take, true}
use Rattle.std.proofs.lemmas.List.{append-nil}
use Rattle.kl_model.specs.Slots.{field_entry, is_loaded}
use Rattle.kl_model.specs.Tables.{rela_of}
use Rattle.kl_model.specs.declared.graph.Field.{Field}
use Rattle.kl_dyn.proofs.EntryRows.{field_more, zero_field}
use Rattle.kl_dyn.specs.Entries.{field_relas}
use Rattle.kl_dyn.proofs.entries.push_fields.Goals as goal
use Rattle.kl_dyn.proofs.entries.push_fields.Goals.{then-is_loaded+in_ok-push, else-is_loaded}

pub loop-field-preserved : goal.loop-field-preserved
loop-field-preserved c =
    let p = c.args.placement.now in let g = c.args.graph.now in let fs = g.fields in let i = c.loop-field.field-index in
    let items = c.items-field-items.ensures in
    let h = rw items at c.loop-field-test.true in
    let f = get_or fs i zero_field in
    elim c.if-is_loaded.branch [
      | then-is_loaded+in_ok-push w ↦
          let loaded : is_loaded f.kind f.target ≡ true = rw items at (sym c.is_loaded.ensures ∙ w.if-is_loaded.true) in
          let rela : w.field_rela.result ≡ rela_of p g (field_entry f f.target) =
          w.field_rela.ensures ∙ ap (λ (fs : List Field). rela_of p g (field_entry (get_or fs i zero_field) (get_or fs i zero_field).target)) items in
          rw w.relas-is
          (w.in_ok-push.ensures.items
          ∙ (ap (λ l. l ++ w.field_rela.result ∷ []) c.loop-field.invariant
          ∙ (append_assoc c.args.relas.now.items (field_relas p g (take i fs)) (w.field_rela.result ∷ [])
          ∙ ap (λ l. c.args.relas.now.items ++ l)
          (ap (λ r. field_relas p g (take i fs) ++ r ∷ []) rela ∙ sym (field_more p g fs i zero_field h true loaded)))))
      | else-is_loaded w ↦
          let not_loaded : is_loaded f.kind f.target ≡ false = rw items at (sym c.is_loaded.ensures ∙ w.if-is_loaded.false) in
          rw (w.relas-is, c.loop-field.invariant, field_more p g fs i zero_field h false not_loaded, append-nil (field_relas p g (take i fs))) refl
    ]
