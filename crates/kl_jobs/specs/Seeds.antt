-- The seed of a command.
use Rattle.std.specs.Prelude.{ℕ, ◌≡◌, ◌⊎◌, List, Option, Some, None}
use Rattle.kl_store.specs.Outside.{Blocks, Gives, GivesNone}

-- THE SEED of a command: the given one, or else the block that the source of random bytes gave in this call
abbrev pub IsSeed : Option (List ℕ) → Blocks → Blocks → List ℕ → Type 0
IsSeed (Some given) before now seed = (seed ≡ given) × GivesNone before now
IsSeed None before now seed = Gives before now seed

-- a command takes at most one block, and none with a given seed
abbrev pub Draws : Option (List ℕ) → Blocks → Blocks → Type 0
Draws (Some given) before now = GivesNone before now
Draws None before now = GivesNone before now ⊎ ((block : List ℕ) × Gives before now block)

-- no seed was given, and no block was taken
pub record NoneDrawn (given : Option (List ℕ)) (before now : Blocks) : Type 0 where
  pub ungiven : given ≡ None
  pub untaken : GivesNone before now
