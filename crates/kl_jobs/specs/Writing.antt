-- Files that a link writes.
use Rattle.std.specs.Prelude.{ℕ, ◌≡◌, ◌≢◌, List, ◌++◌, codes, Some}
use Rattle.std.specs.FinMap.{get}
use Rattle.kl_store.specs.Names.{Names}

-- the names that a link writes
abbrev pub image_name : List ℕ → List ℕ
image_name dir = dir ++ codes "/linked.relink"

abbrev pub map_name : List ℕ → List ℕ
map_name dir = dir ++ codes "/linked.map.relink"

-- the image and the map of a folder are written, and all other names hold what they held
pub record IsPutPair (dir image map : List ℕ) (m n : Names) : Type 0 where
  pub image_held : get n (image_name dir) ≡ Some image
  pub map_held : get n (map_name dir) ≡ Some map
  pub others : (q : List ℕ) → q ≢ image_name dir → q ≢ map_name dir → get n q ≡ get m q
