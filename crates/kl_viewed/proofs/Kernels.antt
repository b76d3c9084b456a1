-- The image of a kernel has no flaw.
use Rattle.std.proofs.Common.{ℕ, ◌≡◌, ◌+◌, ◌-◌, ◌*◌, ◌%◌, ◌<◌, ◌≤◌, ◌∙◌, List, [], ◌++◌, length, refl, ap, subst, arith, Bool, true, false, not, cond}
use Rattle.std.specs.Prelude.{◌==◌, Option, if◌then◌else◌}
use Rattle.std.proofs.lemmas.List.{append-nil}
use Rattle.kl_base.specs.declared.class.Class.{Class}
use Rattle.kl_base.specs.declared.class.Class.TheVariants.{Text, Rodata, Rwdata, Bss}
use Rattle.kl_elf.specs.Records.{ehdr_at}
use Rattle.kl_model.specs.Areas.{class_number}
use Rattle.kl_model.specs.Carries.{File, class_size, kernel_head, segment_of, segments_of}
use Rattle.kl_model.specs.Laid.{area_at}
use Rattle.kl_model.specs.declared.graph.Graph.{Graph}
use Rattle.kl_model.specs.declared.place.Placement.{Placement}
use Rattle.kl_model.proofs.ClassMemory.{InOrder, start_past_base}
use Rattle.kl_write.proofs.FileBytes.{le-ends}
use Rattle.kl_image.specs.Flaws.{image_flaws}
use Rattle.kl_image.proofs.Whole.{fixed_right}
use Rattle.kl_viewed.proofs.Heads.{head_right, kernel_fields}
use Rattle.kl_viewed.proofs.Page.{one_bit}
use Rattle.kl_viewed.proofs.Segments.{Ascend, IsShaped, class_next, segments_right}

-- the base is a page's, so an address and its place in the file are the same in a page
module _ (p : Placement) (m : ℕ) (base : p.base ≡ 4096 * m) (o : InOrder p) where
  in_page : (a : ℕ) → p.base ≤ a → a % 4096 ≡ (4096 + (a - p.base)) % 4096
  in_page a l = omega (arith, l, base)

  shaped : (c : Class) → IsShaped (segment_of p c)
  shaped c = record { in_memory = small c; power = one_bit 12; congruent = in_page (area_at p (class_number c)).start (start_past_base p c o) }
    where
      small : (c : Class) → (segment_of p c).filesz ≤ (segment_of p c).memsz
      small Text = omega arith
      small Rodata = omega arith
      small Rwdata = omega arith
      small Bss = omega arith

  pub kernel_ascends : Ascend 0 (segments_of p)
  kernel_ascends =
      let text = o.text in let rodata_from = o.rodata_from in let rodata = o.rodata in let rwdata_from = o.rwdata_from in let rwdata = o.rwdata in let bss_from = o.bss_from in
      subst (Ascend 0) (append-nil (segments_of p))
      (class_next 0 (not (class_size p Text == 0)) (segment_of p Text) _ [] refl (shaped Text) (omega arith)
      (class_next _ (not (class_size p Rodata == 0)) (segment_of p Rodata) _ [] refl (shaped Rodata) (omega (arith, text, rodata_from))
      (class_next _ (not (class_size p Rwdata == 0)) (segment_of p Rwdata) _ [] refl (shaped Rwdata) (omega (arith, rodata, rwdata_from))
      (class_next _ (not (class_size p Bss == 0)) (segment_of p Bss) [] [] refl (shaped Bss) (omega (arith, rwdata, bss_from)) tt))))

  -- THE IMAGE
  pub kernel_right : (img : List ℕ) (g : Graph) → File img (kernel_head p g) (segments_of p) → image_flaws img ≡ []
  kernel_right img g file =
      let n = length (segments_of p) in
      let len : 64 + 56 * n ≤ length img = let l = file.len in let e = le-ends (64 + 56 * n) (segments_of p) in omega (arith, l, e) in
      let table : (kernel_head p g).phoff + 56 * n ≤ length img = go (n == 0) len in
      let kind : ((ehdr_at img 0).kind == 3) ≡ false = ap (λ h. h.kind == 3) file.head in
      fixed_right img (head_right img (kernel_head p g) file.head (omega (arith, len)) (kernel_fields img p g table))
      (segments_right img (segments_of p) (64 + 56 * n) file.segments file.len kernel_ascends) kind
    where
      go : (t : Bool) → 64 + 56 * length (segments_of p) ≤ length img → cond t 0 64 + 56 * length (segments_of p) ≤ length img
      go true l = omega (arith, l)
      go false l = l
