-- The symbols of an image as the loader holds them. For the contracts inside this crate alone.
use Rattle.std.specs.Prelude.{◌≡◌, ◌<◌, ◌≤◌, ◌+◌, ◌*◌, ◌^◌, length, IfSome}
use Rattle.kl_elf.specs.declared.abi.TheConstants.{DT_SYMTAB}
use Rattle.kl_elf.specs.declared.records.TheConstants.Sym as sym
use Rattle.kl_model.specs.Loaded.{chain_count, strings_in, table_at}
use Rattle.kl_image.specs.Texts.{IsIndexed}
use Rattle.kl_image.specs.declared.symbol.Symbols.{Symbols}

-- they are those of its bytes
pub record IsSymbols (y : Symbols) : Type 0 where
  pub short : length y.bytes.now < 2 ^ 63
  pub count_is : y.count ≡ chain_count y.bytes.now
  pub table_is : y.table ≡ table_at y.bytes.now DT_SYMTAB (sym.SIZE * y.count)
  pub lies : 0 < sym.SIZE * y.count → IfSome y.table (λ at. at + sym.SIZE * y.count ≤ length y.bytes.now)
  pub strings_are : y.strings.bytes.now ≡ strings_in y.bytes.now
  pub index : IsIndexed y.strings
