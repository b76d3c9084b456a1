use Rattle.std.proofs.Common.{ℕ, take}
use Rattle.std.specs.Prelude.{Option, fold}
use Rattle.kl_model.specs.Memory.{Cell}
use Rattle.kl_model.specs.Loaded.{with_rela}
use Rattle.kl_image.specs.Placed.{IsOver}
use Rattle.kl_image.specs.Resolvers.{number_of}
use Rattle.kl_image.proofs.dynamic.carry_out_entries.Given as goal

abbrev pub invariant-loop-entry : goal.invariant-loop-entry
invariant-loop-entry g l = (m : ℕ → Option Cell) → IsOver l.initial.written m m → IsOver l.written m
    (fold (with_rela l.image.bytes.now l.image.base (number_of (g.R.Resolver.numbers l.names))) m (take l.entry-index l.entry-items))
