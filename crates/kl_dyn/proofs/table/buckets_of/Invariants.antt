use Rattle.std.proofs.Common.{◌≡◌, ◌<◌, ◌%◌, map, take}
use Rattle.std.specs.Prelude.{All}
use Rattle.kl_model.specs.Tables.{dyn_text, symbol_hash}
use Rattle.kl_dyn.proofs.table.buckets_of.Given as goal

abbrev pub invariant-loop-name : goal.invariant-loop-name
invariant-loop-name l = record {
  buckets : l.buckets.items ≡ map (λ d. symbol_hash (dyn_text l.inputs d) % l.count) (take l.name-index l.graph.names);
  within : All (λ b. b < l.count) l.buckets.items;
}
