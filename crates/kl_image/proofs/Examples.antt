-- The flaws of images, by computation: of a kernel of three bytes, cut short and with one field changed, and of a small library.
use Rattle.std.specs.Prelude.{ℕ, ◌≡◌, ◌++◌, ◌+◌, List, [], ◌∷◌, refl, length, slice_get, Option, Some, take, drop, replicate}
use lib.Count.{ones}
use Rattle.kl_le.specs.Bytes.{num}
use Rattle.kl_model.specs.Graphs.{graph}
use Rattle.kl_model.proofs.Libraries.{exit_image}
use Rattle.kl_image.specs.Flaws.{image_flaws}
use Rattle.kl_image.specs.Headers.{field_flaws, segment_flaws}
use Rattle.kl_image.specs.Dynamic.{table_flaws, entry_flaws, table_size}
use Rattle.kl_image.specs.declared.fault.ImageFault.{ImageFault}
use Rattle.kl_image.specs.declared.fault.ImageFault.TheVariants.{Head, Segment, Tables}

-- the file header, one program header, and the bytes f4 eb fd
kernel : List ℕ
kernel =
    127 ∷ 69 ∷ 76 ∷ 70 ∷ 2 ∷ 1 ∷ 1 ∷ 0 ∷ 0 ∷ 0 ∷ 0 ∷ 0 ∷ 0 ∷ 0 ∷ 0 ∷ 0 ∷ 2 ∷ 0 ∷ 62 ∷ 0 ∷ 1 ∷ 0 ∷ 0 ∷ 0 ∷ 0 ∷ 0 ∷ 0 ∷ 129 ∷ 255 ∷ 255 ∷ 255 ∷ 255 ∷ 64 ∷ 0 ∷ 0 ∷ 0 ∷ 0 ∷ 0 ∷ 0 ∷ 0 ∷ 0 ∷ 0 ∷ 0 ∷ 0 ∷ 0 ∷ 0 ∷ 0 ∷ 0 ∷ 0 ∷ 0 ∷ 0 ∷ 0 ∷ 64 ∷ 0 ∷ 56 ∷ 0 ∷ 1 ∷ 0 ∷ 0 ∷ 0 ∷ 0 ∷ 0 ∷ 0 ∷ 0 ∷ []
    ++ 1 ∷ 0 ∷ 0 ∷ 0 ∷ 5 ∷ 0 ∷ 0 ∷ 0 ∷ 0 ∷ 16 ∷ 0 ∷ 0 ∷ 0 ∷ 0 ∷ 0 ∷ 0 ∷ 0 ∷ 0 ∷ 0 ∷ 129 ∷ 255 ∷ 255 ∷ 255 ∷ 255 ∷ 0 ∷ 0 ∷ 0 ∷ 129 ∷ 255 ∷ 255 ∷ 255 ∷ 255 ∷ 3 ∷ 0 ∷ 0 ∷ 0 ∷ 0 ∷ 0 ∷ 0 ∷ 0 ∷ 3 ∷ 0 ∷ 0 ∷ 0 ∷ 0 ∷ 0 ∷ 0 ∷ 0 ∷ 0 ∷ 16 ∷ 0 ∷ 0 ∷ 0 ∷ 0 ∷ 0 ∷ 0 ∷ []
    ++ replicate 3976 0 ++ 0xf4 ∷ 0xeb ∷ 0xfd ∷ []

no_flaw : image_flaws kernel ≡ []
unfolding image_flaws field_flaws segment_flaws table_flaws num kernel ones
no_flaw = refl

-- with the bytes from a place on changed
changed : ℕ → List ℕ → List ℕ
changed at bs = take at kernel ++ bs ++ drop (at + length bs) kernel

unfoldable first : List ℕ → Option ImageFault
first b = slice_get (image_flaws b) 0

cut : first (take 63 kernel) ≡ Some (Head 63)
unfolding first image_flaws field_flaws segment_flaws table_flaws num kernel ones
cut = refl

class : first (changed 4 (1 ∷ [])) ≡ Some (Head 0)
unfolding first image_flaws field_flaws segment_flaws table_flaws num kernel changed ones
class = refl

padding : image_flaws (changed 7 (9 ∷ [])) ≡ []
unfolding image_flaws field_flaws segment_flaws table_flaws num kernel changed ones
padding = refl

program_headers : first (changed 32 (0 ∷ 16 ∷ [])) ≡ Some (Head 32)
unfolding first image_flaws field_flaws segment_flaws table_flaws num kernel changed ones
program_headers = refl

alignment : image_flaws (changed 112 (3 ∷ 0 ∷ [])) ≡ Segment 0 ∷ []
unfolding image_flaws field_flaws segment_flaws table_flaws num kernel changed ones
alignment = refl

-- a shared object without a dynamic section
no_section : image_flaws (changed 16 (3 ∷ [])) ≡ Tables 32 ∷ []
unfolding image_flaws field_flaws segment_flaws table_flaws num kernel changed ones
no_section = refl

library : image_flaws exit_image ≡ []
unfolding image_flaws field_flaws segment_flaws table_flaws entry_flaws table_size graph num ones
library = refl
