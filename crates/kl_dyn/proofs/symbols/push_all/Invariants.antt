use Rattle.std.proofs.Common.{◌≡◌, ◌++◌, ◌∷◌, suc, take}
use Rattle.std.specs.Prelude.{flat_map, sum_by}
use Rattle.kl_model.specs.Tables.{no_sym, syms_from}
use Rattle.kl_model.specs.Written.{sym_bytes}
use Rattle.kl_dyn.proofs.symbols.push_all.Given as goal

abbrev pub invariant-loop-name : goal.invariant-loop-name
invariant-loop-name l = record {
  at : l.at ≡ suc (sum_by (λ d. suc d.name.len) (take l.name-index l.graph.names));
  bytes : l.bytes.items ≡ l.fn.bytes.items ++ flat_map sym_bytes (no_sym ∷ syms_from l.placement l.graph 1 (take l.name-index l.graph.names));
}
