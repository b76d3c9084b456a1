use Rattle.std.proofs.Common.{◌≡◌, ◌<◌, ◌^◌, ◌+◌, ◌-◌}
use Rattle.kl_le.specs.Bytes.{num}
use Rattle.kl_model.specs.Found.{found_at, walk}
use Rattle.kl_dyn.proofs.found.find.Given as goal

abbrev pub invariant-loop : goal.invariant-loop
invariant-loop l = record {
  small : l.symbol < 2 ^ 32;
  rest : found_at l.tables l.at.hash l.at.symbols l.at.strings l.name
      ≡ walk l.tables l.at.hash l.at.symbols l.at.strings l.name (num l.tables (l.at.hash + 4) 4 - l.counter) l.symbol;
}
