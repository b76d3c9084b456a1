-- A map of files in memory, as names and their bytes. For the contracts inside this crate alone.
use Rattle.std.specs.Prelude.{ℕ, List, [], ◌∷◌, Vec}
use Rattle.std.specs.declared.alloc.Global.{Global}
use Rattle.std.specs.FinMap.{empty, insert}
use Rattle.kl_store.specs.Names.{Names}

-- the bytes of a file
abbrev pub items_of : Vec ℕ Global → List ℕ
items_of v = v.items

-- the names of the map's entries
abbrev pub names_in : List (List ℕ × Vec ℕ Global) → Names
names_in [] = empty
names_in (e ∷ es) = insert (names_in es) e.0 e.1.items
