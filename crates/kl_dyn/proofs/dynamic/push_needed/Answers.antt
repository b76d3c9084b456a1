use Rattle.std.proofs.Common.{◌+◌, ◌++◌, ◌∙◌, ◌∷◌, [], append_assoc, ap, arith, length, sym, take}
use Rattle.std.specs.Prelude.{sum_by}
use Rattle.std.proofs.lemmas.List.Sums.{sum_by_more}
use Rattle.kl_elf.specs.declared.abi.TheConstants.{DT_NEEDED}
use Rattle.kl_elf.specs.declared.records.Dyn.{Dyn}
use Rattle.kl_model.specs.Sizes.{ended_size}
use Rattle.kl_model.specs.Tables.{needed_from}
use Rattle.kl_dyn.proofs.DynamicRows.{needed_more, row_is}
use Rattle.kl_dyn.proofs.dynamic.push_needed.Goals as goal

pub loop-name-preserved : goal.loop-name-preserved
loop-name-preserved c =
    let old = c.args.entries.now.items in let at = c.args.at in let ts = c.args.needed.now in let i = c.loop-name.name-index in
    let h = c.loop-name-test.true in
    let before = needed_from at (take i ts) in
    let row = row_is c.row.result DT_NEEDED (at + sum_by ended_size (take i ts)) c.row.ensures.tag (c.row.ensures.value ∙ c.loop-name.invariant.at) in
    let more = sum_by_more ended_size ts i c.name-item.result h in
    record {
      entries =
          c.in_ok-push.ensures.items
          ∙ (ap (λ l. l ++ c.row.result ∷ []) c.loop-name.invariant.entries
          ∙ (append_assoc old before (c.row.result ∷ [])
          ∙ ap (λ l. old ++ l) (ap (λ (r : Dyn). before ++ r ∷ []) row ∙ sym (needed_more at ts i h))));
      at = omega (arith, more, c.loop-name.invariant.at, ap length (c.items.ensures.items ∙ c.name-item.is));
    }
