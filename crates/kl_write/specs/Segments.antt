-- The program headers of the classes of an image, of a kernel or a library. For the contracts inside this crate alone.
use Rattle.std.specs.Prelude.{ℕ, ◌≡◌, ◌==◌, List, flat_map, not}
use Rattle.kl_base.specs.declared.class.Class.{Class}
use Rattle.kl_base.specs.declared.limits.TheConstants.{PAGE}
use Rattle.kl_elf.specs.declared.records.Phdr.{Phdr}
use Rattle.kl_model.specs.Carries.{class_size, library_segment, segment_of}
use Rattle.kl_model.specs.Line.{classes}
use Rattle.kl_model.specs.Lists.{only_if}
use Rattle.kl_model.specs.declared.kit.KitKind.{KitKind}
use Rattle.kl_model.specs.declared.kit.KitKind.TheVariants.{Kernel, Library}
use Rattle.kl_model.specs.declared.place.Placement.{Placement}

-- a kernel's page is PAGE
abbrev pub IsPageOf : KitKind → ℕ → Type 0
IsPageOf kind page = kind ≡ Kernel → page ≡ PAGE

-- the program header of a class
abbrev pub segment_by : KitKind → ℕ → Placement → Class → Phdr
segment_by Kernel n p c = segment_of p c
segment_by Library n p c = library_segment n p c

-- those of all classes that have a byte
abbrev pub segments_by : KitKind → ℕ → Placement → List Phdr
segments_by k n p = flat_map (λ c. only_if (not (class_size p c == 0)) (segment_by k n p c)) classes
