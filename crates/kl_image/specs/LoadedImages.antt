-- The bytes of a loaded image.
use Rattle.std.specs.Prelude.{ℕ, ◌≡◌, List, Option, option_map}
use Rattle.kl_model.specs.Loaded.{loaded, moved}
use Rattle.kl_image.specs.Placed.{over}
use Rattle.kl_image.specs.declared.image.Loaded.{Loaded}

-- the byte at an address, if it is mapped: one that an entry wrote, or the file's
abbrev pub byte_of_loaded : Loaded → ℕ → Option ℕ
byte_of_loaded l a = option_map (λ c. c.byte) (over l.written (moved l.image.bytes.now l.image.base) a)

-- at each address it has the byte of the image that is loaded at a base, where names have these numbers
abbrev pub IsLoaded : List ℕ → ℕ → (List ℕ → ℕ) → Loaded → Type 0
IsLoaded b base numbers l = (a : ℕ) → byte_of_loaded l a ≡ option_map (λ c. c.byte) (loaded b base numbers a)
