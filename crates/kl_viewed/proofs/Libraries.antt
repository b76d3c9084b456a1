-- The image of a library has no flaw.
use Rattle.std.proofs.Common.{ℕ, ◌≡◌, ◌+◌, ◌-◌, ◌*◌, ◌%◌, ◌<◌, ◌≤◌, ◌∙◌, List, [], ◌∷◌, ◌++◌, length, refl, ap, subst, sym, arith, Bool, true, false, not}
use Rattle.std.specs.Prelude.{◌==◌, Option}
use Rattle.std.specs.Int.{is_power_of_two}
use Rattle.kl_base.specs.declared.class.Class.{Class}
use Rattle.kl_base.specs.declared.class.Class.TheVariants.{Text, Rodata, Rwdata, Bss}
use Rattle.kl_elf.specs.Records.{ehdr_at}
use Rattle.kl_model.specs.Carries.{File, LibraryMade, class_segments, class_size, dynamic_segment, head_for, headers_segment, library_head, library_segment, library_segments, segments_for}
use Rattle.kl_model.specs.Laid.{area_at}
use Rattle.kl_model.specs.Sizes.{page_of}
use Rattle.kl_model.specs.declared.graph.Graph.{Graph}
use Rattle.kl_model.specs.declared.kit.Kit.{Kit}
use Rattle.kl_model.specs.declared.kit.KitKind.TheVariants.{Library}
use Rattle.kl_model.specs.declared.object.Input.{Input}
use Rattle.kl_model.specs.declared.place.Gaps.{Gaps}
use Rattle.kl_model.specs.declared.place.Placement.{Placement}
use Rattle.kl_model.proofs.ClassMemory.{InOrder}
use Rattle.kl_write.specs.LaidKits.{HasAreaAddresses, IsLaidKit}
use Rattle.kl_write.proofs.FileBytes.{le-ends}
use Rattle.kl_write.proofs.FileSegments.{headers_size, length-library}
use Rattle.kl_loading.specs.TablesReadBack.{HasTexts}
use Rattle.kl_loading.proofs.Library.{front}
use Rattle.kl_loading.proofs.TablesRead.{headers, len, ordered}
use Rattle.kl_image.specs.Flaws.{image_flaws}
use Rattle.kl_image.proofs.Whole.{shared_right}
use Rattle.kl_viewed.proofs.Heads.{head_right, library_fields}
use Rattle.kl_viewed.proofs.Page.{one_bit, page_power}
use Rattle.kl_viewed.proofs.Segments.{Ascend, IsShaped, class_next, segments_right}
use Rattle.kl_viewed.proofs.Tables.{no_table_flaw}

-- where the headers stand before text and the page is a power of two
module _ (page : ℕ) (p : Placement) (power : is_power_of_two page ≡ true) (front : headers_size (library_segments page p) ≤ (area_at p 0).start) (o : InOrder p) where
  shaped : (c : Class) → IsShaped (library_segment page p c)
  shaped c = record { in_memory = small c; power = power; congruent = refl }
    where
      small : (c : Class) → (library_segment page p c).filesz ≤ (library_segment page p c).memsz
      small Text = omega arith
      small Rodata = omega arith
      small Rwdata = omega arith
      small Bss = omega arith

  first : IsShaped (headers_segment page (64 + 56 * (2 + length (class_segments page p))))
  first = record { in_memory = omega arith; power = power; congruent = refl }

  last : IsShaped (dynamic_segment p)
  last = record { in_memory = omega arith; power = one_bit 3; congruent = refl }

  pub library_ascends : Ascend 0 (library_segments page p)
  library_ascends =
      let text = o.text in let rodata_from = o.rodata_from in let rodata = o.rodata in let rwdata_from = o.rwdata_from in let rwdata = o.rwdata in let bss_from = o.bss_from in
      let size = length-library page p in
      let behind = dynamic_segment p ∷ [] in (
        first,
        (λ e. omega arith),
        class_next _ (not (class_size p Text == 0)) (library_segment page p Text) _ behind refl (shaped Text) (omega (arith, front, size))
            (class_next _ (not (class_size p Rodata == 0)) (library_segment page p Rodata) _ behind refl (shaped Rodata) (omega (arith, text, rodata_from))
            (class_next _ (not (class_size p Rwdata == 0)) (library_segment page p Rwdata) _ behind refl (shaped Rwdata) (omega (arith, rodata, rwdata_from))
            (class_next _ (not (class_size p Bss == 0)) (library_segment page p Bss) [] behind refl (shaped Bss) (omega (arith, rwdata, bss_from)) (last, (λ e. cc), tt)))),
      )

-- THE IMAGE
pub library_right : (img : List ℕ) (p : Placement) (kit : Kit) (inputs : List Input) (g : Graph) (gaps : Option Gaps) (order : List ℕ) → kit.kind ≡ Library → IsLaidKit kit g gaps order p
    → HasAreaAddresses p → File img (head_for kit.kind (segments_for kit.kind (page_of kit g) p) p g) (segments_for kit.kind (page_of kit g) p) → LibraryMade img p kit inputs g → HasTexts inputs g
    → image_flaws img ≡ []
library_right img p kit inputs g gaps order library laid numbers file made texts =
    let page = page_of kit g in
    let ss = library_segments page p in
    let n = length ss in
    let read = headers img p kit inputs g gaps order library laid numbers file made texts in
    let size = len img p kit inputs g gaps order library laid numbers file made texts in
    let head : ehdr_at img 0 ≡ library_head ss p g = file.head ∙ ap (λ k. head_for k (segments_for k page p) p g) library in
    let long : 64 + 56 * n ≤ length img = let e = le-ends (64 + 56 * n) ss in omega (arith, size, e) in
    let kind : ((ehdr_at img 0).kind == 3) ≡ true = ap (λ h. h.kind == 3) head in
    let ascends = library_ascends page p (page_power kit g library laid.sound) (front kit inputs g gaps order p library laid numbers) (ordered img p kit inputs g gaps order library laid numbers file made texts) in
    shared_right img (head_right img (library_head ss p g) head (omega (arith, long)) (library_fields img ss p g long)) (segments_right img ss (64 + 56 * n) read size ascends) kind
    (no_table_flaw img p kit inputs g gaps order library laid numbers file made texts)
