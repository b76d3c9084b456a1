-- The program header of a class from its fields.
use Rattle.std.proofs.Common.{ℕ, ◌≡◌, ◌-◌, refl, arith}
use Rattle.kl_base.specs.declared.class.Class.{Class}
use Rattle.kl_base.specs.declared.class.Class.TheVariants.{Rwdata}
use Rattle.std.specs.Prelude.{if◌then◌else◌}
use Rattle.kl_model.specs.Areas.{class_number}
use Rattle.kl_model.specs.Carries.{class_size, dynamic_segment, is_in_file, permission}
use Rattle.kl_model.specs.Laid.{area_at}
use Rattle.kl_model.specs.declared.kit.KitKind.{KitKind}
use Rattle.kl_model.specs.declared.kit.KitKind.TheVariants.{Kernel, Library}
use Rattle.kl_model.specs.declared.place.Placement.{Placement}
use Rattle.kl_write.specs.Segments.{IsPageOf, segment_by}
use Rattle.kl_write.specs.Writes.{file_place}

pub segment_is : (k : KitKind) (page : ℕ) (p : Placement) (c : Class) (flags offset start filesz size : ℕ) → IsPageOf k page → (k ≡ Library → p.base ≡ 0)
    → flags ≡ permission c → start ≡ (area_at p (class_number c)).start → offset ≡ file_place k p (area_at p (class_number c)).start
    → filesz ≡ (if is_in_file c then class_size p c else 0) → size ≡ class_size p c
    → record { kind = 1; flags = flags; offset = offset; vaddr = start; paddr = start; filesz = filesz; memsz = size; align = page } ≡ segment_by k page p c
segment_is Kernel page p c flags offset start filesz size is_page zero f s o z m = let is = is_page refl in rw (f, s, o, z, m, is) refl
segment_is Library page p c flags offset start filesz size is_page zero f s o z m =
    let base = zero refl in
    let at : offset ≡ (area_at p (class_number c)).start = omega (arith, o, base) in
    rw (f, s, at, z, m) refl

pub dynamic_is : (p : Placement) (flags start size : ℕ) → flags ≡ permission Rwdata → start ≡ (area_at p 14).start → size ≡ (area_at p 14).end - (area_at p 14).start
    → record { kind = 2; flags = flags; offset = start; vaddr = start; paddr = start; filesz = size; memsz = size; align = 8 } ≡ dynamic_segment p
dynamic_is p flags start size f s z = rw (f, s, z) refl
