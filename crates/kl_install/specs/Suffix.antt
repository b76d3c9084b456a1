-- What may stand behind a name.
use Rattle.std.specs.Prelude.{ℕ, Bool, false, not, ◌&&◌, ◌==◌, List, [], ◌∷◌}
use Rattle.std.specs.List.{list_all}
use Rattle.kl_base.specs.Names.{is_path_byte}

-- a byte of a name that parts no folder from its files
abbrev pub is_file_byte : ℕ → Bool
is_file_byte b = is_path_byte b && not (b == 47)

-- a dot, and such bytes, of which the first is no dot
abbrev pub is_suffix : List ℕ → Bool
is_suffix [] = false
is_suffix (dot ∷ []) = false
is_suffix (dot ∷ first ∷ rest) = (dot == 46) && (not (first == 46) && list_all is_file_byte (first ∷ rest))
