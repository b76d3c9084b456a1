-- Where the file of a name lies on the host.
use Rattle.std.specs.Prelude.{ℕ, ◌≡◌, ◌==◌, ◌-◌, Bool, false, if◌then◌else◌, List, [], ◌∷◌, ◌++◌, codes, drop, take, length}
use Rattle.std.specs.List.{list_any}
use Rattle.kl_base.specs.declared.limits.TheConstants.{SCRATCH_SUFFIX}

-- the path below the starting folder: the name without its first slash
abbrev pub path_of : List ℕ → List ℕ
path_of name = drop 1 name

-- a slash is among the bytes
abbrev pub has_slash : List ℕ → Bool
has_slash bytes = list_any (λ b. b == 47) bytes

-- The folder's name and a slash stand before the last part of the name, in which there is no slash. The starting folder's name is empty.
pub record IsFolder (folder name : List ℕ) : Type 0 where
  pub last : List ℕ
  pub parts : name ≡ folder ++ 47 ∷ last
  pub whole : has_slash last ≡ false

-- the name of the folder that the file of the name lies in: the bytes that a slash comes after
abbrev pub folder_of : List ℕ → List ℕ
folder_of [] = []
folder_of (b ∷ bytes) = if has_slash bytes then b ∷ folder_of bytes else []

-- the path of a folder of that name
abbrev pub folder_at : List ℕ → List ℕ
folder_at [] = codes "."
folder_at (b ∷ bytes) = bytes

-- the path of the folder that the file of the name lies in
abbrev pub folder_path : List ℕ → List ℕ
folder_path name = folder_at (folder_of name)

-- the target of a scratch name, which is without the suffix `.relink`
abbrev pub target_of : List ℕ → List ℕ
target_of name = take (length name - length SCRATCH_SUFFIX) name
