-- The entries that a reader holds. For the contracts inside this crate alone.
use Rattle.std.specs.Prelude.{ℕ, ◌≡◌, true, List}
use Rattle.kl_rel.specs.Headers.{section}
use Rattle.kl_rel.specs.SymbolTables.{symbol_count}
use Rattle.kl_rel.specs.Relocations.{is_read}
use Rattle.kl_rel.specs.declared.entry.Entries.{Entries}

pub record AreEntries (b : List ℕ) (e : Entries) : Type 0 where
  pub header : e.header ≡ section b e.number
  pub symbols : e.symbols ≡ symbol_count b
  pub size : e.size ≡ (section b e.header.info).size
  pub reads : is_read b (section b e.number) ≡ true
