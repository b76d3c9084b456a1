-- Where the parts of the tables stand. For the contracts inside this crate alone.
use Rattle.std.specs.Prelude.{◌≡◌}
use Rattle.kl_model.specs.Sizes.{TableParts}
use Rattle.kl_dyn.specs.declared.size.Parts.{Parts}

-- the parts are those of a table
pub record AreParts (t : TableParts) (p : Parts) : Type 0 where
  pub symbols : p.symbols ≡ t.symbols
  pub strings : p.strings ≡ t.strings
  pub relas : p.relas ≡ t.relas
  pub jumps : p.jumps ≡ t.jumps
  pub stop : p.stop ≡ t.stop
