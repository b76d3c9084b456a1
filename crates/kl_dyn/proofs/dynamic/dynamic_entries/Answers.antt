use Rattle.std.proofs.Common.{◌≡◌, ◌+◌, ◌++◌, ◌∙◌, ◌∷◌, List, [], ap, sym}
use Rattle.std.specs.Prelude.{is_some}
use Rattle.kl_elf.specs.declared.abi.TheConstants.{DT_FLAGS, DT_NULL, DT_SONAME}
use Rattle.kl_elf.specs.declared.records.Dyn.{Dyn}
use Rattle.kl_model.specs.Lists.{only_if}
use Rattle.kl_model.specs.Sizes.{names_size, soname_size}
use Rattle.kl_model.specs.Tables.{needed_from}
use Rattle.kl_dyn.specs.Rows.{function_tags, rows, table_tags}
use Rattle.kl_dyn.proofs.DynamicRows.{one_row, pushed_five, rows_of_tags, two_rows, wanted}
use Rattle.kl_dyn.proofs.dynamic.dynamic_entries.Goals as goal

pub returns : goal.returns
returns c =
    let kit = c.args.kit.now in let g = c.args.graph.now in let p = c.args.placement.now in
    let soname = wanted kit g p c.is_some.result (is_some kit.soname) c.is_some.ensures (c.row.result ∷ []) (DT_SONAME ∷ [])
    (one_row kit g p c.row.result DT_SONAME c.row.ensures.tag (c.row.ensures.value ∙ c.names_size-names.ensures.size)) in
    let last = two_rows kit g p c.row-2.result c.row-3.result DT_FLAGS DT_NULL c.row-2.ensures.tag c.row-2.ensures.value c.row-3.ensures.tag c.row-3.ensures.value in
    let needed : c.push_needed.new.entries.items ≡ needed_from (names_size g + soname_size kit) kit.needed =
    rw (c.in_ok-entries.ensures.items, c.names_size-names.ensures.size, c.soname_size.ensures.size, c.items-needed.ensures) at c.in_ok-push_needed.ensures in
    pushed_five (needed_from (names_size g + soname_size kit) kit.needed) (rows kit g p (only_if (is_some kit.soname) DT_SONAME)) (rows kit g p (function_tags g)) (rows kit g p (table_tags g))
    (rows kit g p (DT_FLAGS ∷ DT_NULL ∷ []))
    c.push_needed.new.entries.items c.push_if.new.entries.items c.push_functions.new.entries.items c.push_tables.new.entries.items c.extend_from_slice.new.self.items
    needed
    (c.in_ok-push_if.ensures ∙ ap (λ (l : List Dyn). c.push_needed.new.entries.items ++ l) soname)
    (c.in_ok-push_functions.ensures kit)
    c.in_ok-push_tables.ensures
    (c.in_ok-extend_from_slice.ensures.items ∙ ap (λ (l : List Dyn). c.push_tables.new.entries.items ++ l) last)
    ∙ ap (λ (l : List Dyn). needed_from (names_size g + soname_size kit) kit.needed ++ l) (sym (rows_of_tags kit g p))
