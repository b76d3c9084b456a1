-- All flaws of an image, in the order in which they are told.
use Rattle.std.specs.Prelude.{ℕ, ◌≡◌, ◌==◌, if◌then◌else◌, List, [], ◌++◌, slice_get, Some}
use Rattle.kl_elf.specs.Records.{ehdr_at}
use Rattle.kl_elf.specs.declared.abi.TheConstants.{ET_DYN}
use Rattle.kl_image.specs.Headers.{head_flaws, segment_flaws}
use Rattle.kl_image.specs.Dynamic.{table_flaws}
use Rattle.kl_image.specs.declared.fault.ImageFault.{ImageFault}
use Rattle.kl_image.specs.declared.fault.ImageFault.TheVariants as fault

-- those of the file header, of the program headers, and of the tables of a shared object
unfoldable pub image_flaws : List ℕ → List ImageFault
image_flaws b = head_flaws b ++ segment_flaws b ++ (if (ehdr_at b 0).kind == ET_DYN then table_flaws b else [])

-- a refusal is the first of these flaws, or want of memory
abbrev pub IsFirst : List ImageFault → ImageFault → Type 0
IsFirst flaws fault.NoMemory = Unit {0}
IsFirst flaws (fault.Head at) = slice_get flaws 0 ≡ Some (fault.Head at)
IsFirst flaws (fault.Segment index) = slice_get flaws 0 ≡ Some (fault.Segment index)
IsFirst flaws (fault.Tables at) = slice_get flaws 0 ≡ Some (fault.Tables at)
