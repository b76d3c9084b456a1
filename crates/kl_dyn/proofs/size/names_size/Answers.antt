use Rattle.std.proofs.Common.{ℕ, ◌≤◌, ◌+◌, ◌^◌, suc, arith}
use Rattle.std.specs.Prelude.{sum_by}
use Rattle.std.proofs.lemmas.List.Sums.{sum_by_more_le, sum_by-take-le}
use Rattle.kl_base.specs.declared.limits.TheConstants.{INPUT_BYTES_LIMIT}
use Rattle.kl_model.specs.Sound.{IsSoundGraph}
use Rattle.kl_model.specs.Tables.{no_dyn}
use Rattle.kl_model.specs.declared.graph.DynName.{DynName}
use Rattle.kl_model.specs.declared.graph.Graph.{Graph}
use Rattle.kl_model.specs.declared.kit.Kit.{Kit}
use Rattle.kl_dyn.proofs.Counts.{sum_by-most}
use Rattle.kl_dyn.proofs.size.names_size.Goals as goal

abbrev size_of : DynName → ℕ
size_of d = suc d.name.len

whole : (kit : Kit) (g : Graph) → IsSoundGraph kit g → sum_by size_of g.names + 1 ≤ 2 ^ 52
whole kit g sound =
    omega (arith, sum_by-most size_of (INPUT_BYTES_LIMIT + 1) g.names (λ k d h. let short = (sound.names k d h).short in omega arith), sound.name_count)

pub overflow_add-size-in-loop-name : goal.overflow_add-size-in-loop-name
overflow_add-size-in-loop-name c =
    let g = c.args.graph.now in
    let items = c.items-name-items.ensures in
    let h = rw items at c.loop-name-test.true in
    let more = sum_by_more_le size_of g.names c.loop-name.name-index no_dyn h in
    rw items (omega (arith, whole c.args.kit.now g c.requires, c.loop-name.invariant, more))

pub returns-clause-small : goal.returns-clause-small
returns-clause-small c =
    let g = c.args.graph.now in
    omega (arith, whole c.args.kit.now g c.requires, c.loop-name.invariant, sum_by-take-le size_of g.names c.loop-name.name-index)
