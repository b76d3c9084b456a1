-- All fields of a loaded library, and the library's graph.
use Rattle.std.proofs.Common.{◌≡◌, ◌<◌, get_or, refl, sym, subst, arith, true}
use Rattle.std.specs.Prelude.{Option, Some, None, is_some}
use Rattle.std.specs.Option.{option_map_or}
use Rattle.kl_model.specs.Carries.{MadeHolds, Reached}
use Rattle.kl_model.specs.Image.{image_bytes}
use Rattle.kl_model.specs.Laid.{span}
use Rattle.kl_model.specs.Relocations.{relocation_type}
use Rattle.kl_model.specs.Sizes.{made_of, page_of}
use Rattle.kl_model.specs.declared.relocation.RelocationType.{RelocationType}
use Rattle.kl_write.proofs.LawFields.{library_holds, no_range_faults}
use Rattle.kl_write.proofs.WholeOrder.{whole_order}
use Rattle.kl_loading.proofs.FieldReaches.{reaches}
use Rattle.kl_loading.proofs.MadeSizes.{made_sizes}
use Rattle.kl_loading.proofs.TablesRead as tables
use Rattle.kl_loading.specs.Reaching.{LibraryCarries, LibraryReaches}

-- a type whose field has a width is linked
wide_kind : (o : Option RelocationType) → 0 < option_map_or (λ (row : RelocationType). row.width) o 0 → is_some o ≡ true
wide_kind None h = absurd (omega (arith, h))
wide_kind (Some row) h = refl

-- THE LAW of a file
pub library_reaches : LibraryReaches
library_reaches img p kit inputs g gaps order library l numbers holds texts fits only = λ i d h base r loads words.
    let back = tables.tables_are img p kit inputs g gaps order library l numbers holds.file holds.made texts in
    reaches kit inputs g gaps order p library l numbers only.writable img holds back.relas back.names base r loads words (no_range_faults p g fits) only.fixed
    (λ k c q. wide_kind (relocation_type (get_or g.fields k c).kind) (l.sound.fields k c q).wide) i d h

-- THE LAW of the bytes
pub library_carries : LibraryCarries
library_carries kit inputs g gaps order p library l numbers texts fits only =
    let sizes = made_sizes kit inputs g p library texts in
    let img = image_bytes kit inputs g gaps p in
    let holds = library_holds kit inputs g gaps order p l.origin l.laid l.small l.base l.sound (whole_order g order l.whole) numbers library sizes in
    record {
      laid = l.laid;
      small = l.small;
      names = l.names;
      apart = holds.apart;
      contents = holds.contents;
      reached = subst (λ k. Reached k img p inputs g (page_of kit g) (span kit g gaps order (made_of kit g))) (sym library)
          (library_reaches img p kit inputs g gaps order library l numbers holds texts fits only);
      made = subst (λ k. MadeHolds k img p kit inputs g) (sym library) holds.made;
      padded = holds.padded;
      file = holds.file;
    }
