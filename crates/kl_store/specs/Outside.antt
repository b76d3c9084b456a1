-- What a source of random bytes and a sink mean, and what their calls do.
use Rattle.std.specs.Prelude.{◌≡◌, ℕ, List, ◌∷◌, ◌++◌, take, Option, option_map, Result, OnOk, OnErr}

-- what a source of random bytes tells of itself
pub record Blocks : Type 0 where
  -- the blocks of 32 bytes that it will still give, the next one first, where it tells them
  pub left : Option (List (List ℕ))

-- what a sink tells of itself
pub record Taken : Type 0 where
  -- the bytes that it has taken so far, where it tells them
  pub bytes : Option (List ℕ)

-- the first block that was left is given, and the others are left
pub record Gives (before now : Blocks) (block : List ℕ) : Type 0 where
  pub left : before.left ≡ option_map (λ rest. block ∷ rest) now.left

-- no block is given
pub record GivesNone (before now : Blocks) : Type 0 where
  pub left : now.left ≡ before.left

-- a call that gives the next block, or fails and gives none
pub record Fills {T E : Type 0} (before now : Blocks) (block : List ℕ) (result : Result T E) : Type 0 where
  pub given : OnOk result (Gives before now block)
  pub failed : OnErr result (GivesNone before now)

-- these bytes follow those that were taken
pub record Takes (more : List ℕ) (before now : Taken) : Type 0 where
  pub bytes : now.bytes ≡ option_map (λ taken. taken ++ more) before.bytes

-- a call that takes all of the bytes, or fails and has taken some first ones of them
pub record Writes {T E : Type 0} (more : List ℕ) (before now : Taken) (result : Result T E) : Type 0 where
  pub taken : OnOk result (Takes more before now)
  pub failed : OnErr result ((k : ℕ) × Takes (take k more) before now)
