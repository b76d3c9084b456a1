-- The edges that `edge` lines name are of areas of the table.
use Rattle.std.proofs.Common.{ℕ, zero, suc, ◌≡◌, ◌<◌, List, [], ◌∷◌, length, arith, true, false}
use Rattle.std.specs.Prelude.{slice_get}
use Rattle.std.specs.Option.{option_map_or}
use Rattle.kl_model.specs.Areas.{Area, areas}
use Rattle.kl_model.specs.Fit.{IsKit}
use Rattle.kl_model.specs.declared.kit.Kit.{Kit}
use Rattle.kl_sym.proofs.SoundTargets.{EdgesKnown}

row_there : (rows : List Area) (n : ℕ) → option_map_or (λ (row : Area). row.edge) (slice_get rows n) false ≡ true → n < length rows
row_there [] n e = cc
row_there (row ∷ rows) zero e = omega arith
row_there (row ∷ rows) (suc n) e = let r = row_there rows n e in omega (arith, r)

pub edges_known : (kit : Kit) → IsKit kit → EdgesKnown kit
edges_known kit is = λ k d l. row_there areas _ (is.areas k d l)
