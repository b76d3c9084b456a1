use Rattle.std.proofs.Common.{◌++◌, ◌∙◌, ◌∷◌, [], ap, sym}
use Rattle.std.specs.Prelude.{if◌then◌else◌}
use Rattle.std.proofs.lemmas.Result.{on_ok_weaker}
use Rattle.kl_elf.specs.declared.abi.TheConstants.{DT_FINI, DT_FINI_ARRAY, DT_FINI_ARRAYSZ, DT_INIT, DT_INIT_ARRAY, DT_INIT_ARRAYSZ}
use Rattle.kl_model.specs.Lists.{only_if}
use Rattle.kl_model.specs.Sizes.{has_bytes}
use Rattle.kl_model.specs.declared.area.TheConstants as area
use Rattle.kl_dyn.specs.Rows.{rows}
use Rattle.kl_dyn.proofs.DynamicRows.{functions, one_row, pushed_four, two_rows, wanted}
use Rattle.kl_dyn.proofs.dynamic.push_functions.Goals as goal

pub returns : goal.returns
returns c =
    let g = c.args.graph.now in let p = c.args.placement.now in let old = c.args.entries.now.items in
    on_ok_weaker c.push_if-4.result
    (λ four kit.
    let init = wanted kit g p c.has_bytes.result (has_bytes g area.INIT) c.has_bytes.ensures (c.row.result ∷ []) (DT_INIT ∷ [])
    (one_row kit g p c.row.result DT_INIT c.row.ensures.tag (c.row.ensures.value ∙ c.area_start.ensures)) in
    let fini = wanted kit g p c.has_bytes-2.result (has_bytes g area.FINI) c.has_bytes-2.ensures (c.row-2.result ∷ []) (DT_FINI ∷ [])
    (one_row kit g p c.row-2.result DT_FINI c.row-2.ensures.tag (c.row-2.ensures.value ∙ c.area_start-2.ensures)) in
    let init_array = wanted kit g p c.has_bytes-3.result (has_bytes g area.INIT_ARRAY) c.has_bytes-3.ensures (c.row-3.result ∷ c.row-4.result ∷ []) (DT_INIT_ARRAY ∷ DT_INIT_ARRAYSZ ∷ [])
    (two_rows kit g p c.row-3.result c.row-4.result DT_INIT_ARRAY DT_INIT_ARRAYSZ c.row-3.ensures.tag (c.row-3.ensures.value ∙ c.area_start-3.ensures) c.row-4.ensures.tag (c.row-4.ensures.value ∙ c.area_size.ensures)) in
    let fini_array = wanted kit g p c.has_bytes-4.result (has_bytes g area.FINI_ARRAY) c.has_bytes-4.ensures (c.row-5.result ∷ c.row-6.result ∷ []) (DT_FINI_ARRAY ∷ DT_FINI_ARRAYSZ ∷ [])
    (two_rows kit g p c.row-5.result c.row-6.result DT_FINI_ARRAY DT_FINI_ARRAYSZ c.row-5.ensures.tag (c.row-5.ensures.value ∙ c.area_start-4.ensures) c.row-6.ensures.tag (c.row-6.ensures.value ∙ c.area_size-2.ensures)) in
    pushed_four old (rows kit g p (only_if (has_bytes g area.INIT) DT_INIT)) (rows kit g p (only_if (has_bytes g area.FINI) DT_FINI))
    (rows kit g p (if has_bytes g area.INIT_ARRAY then DT_INIT_ARRAY ∷ DT_INIT_ARRAYSZ ∷ [] else []))
    (rows kit g p (if has_bytes g area.FINI_ARRAY then DT_FINI_ARRAY ∷ DT_FINI_ARRAYSZ ∷ [] else []))
    c.push_if.new.entries.items c.push_if-2.new.entries.items c.push_if-3.new.entries.items c.push_if-4.new.entries.items
    (c.in_ok-push_if.ensures ∙ ap (λ l. old ++ l) init)
    (c.in_ok-push_if-2.ensures ∙ ap (λ l. c.push_if.new.entries.items ++ l) fini)
    (c.in_ok-push_if-3.ensures ∙ ap (λ l. c.push_if-2.new.entries.items ++ l) init_array)
    (four ∙ ap (λ l. c.push_if-3.new.entries.items ++ l) fini_array)
    ∙ ap (λ l. old ++ l)
    (sym
    (functions kit g p (only_if (has_bytes g area.INIT) DT_INIT) (only_if (has_bytes g area.FINI) DT_FINI)
    (if has_bytes g area.INIT_ARRAY then DT_INIT_ARRAY ∷ DT_INIT_ARRAYSZ ∷ [] else [])
    (if has_bytes g area.FINI_ARRAY then DT_FINI_ARRAY ∷ DT_FINI_ARRAYSZ ∷ [] else []))))
    c.push_if-4.ensures
