-- What a store means: its names, its disk, and what a crash may have left of it.
use Rattle.std.specs.Prelude.{◌≡◌, ◌≤◌, refl, ℕ, Option, Some, None, option_map}
use Rattle.kl_store.specs.Names.{Names}
use Rattle.kl_store.specs.Disk.{Disk, IsImage, names_now}

-- what a store tells of itself
pub record Meaning : Type 1 where
  -- the names now, where the store tells them
  pub names : Option Names
  -- the disk, where the store tells it
  pub disk : Option Disk
  -- a clock that never goes back
  pub clock : ℕ
  -- the names that a crash at some moment since that time might have left: its images since then
  pub image_since : ℕ → Names → Type 0
  -- the names now are those of the disk, and told where it is
  pub names_are : names ≡ option_map names_now disk
  -- an image of the disk now is one since now and since each earlier time
  pub counts_now : (d : Disk) (t : ℕ) (x : Names) → disk ≡ Some d → t ≤ clock → IsImage d x → image_since t x
  -- an image since a time is one since each earlier time
  pub counts_before : (t u : ℕ) (x : Names) → u ≤ t → image_since t x → image_since u x
  -- an image since now is an image of the disk now
  pub only_now : (d : Disk) (x : Names) → disk ≡ Some d → image_since clock x → IsImage d x

pub not_told : {P : Type 0} (d : Disk) → ◌≡◌ {A = Option Disk} None (Some d) → P
not_told d is = cc

-- the meaning of a store that tells nothing
abbrev pub untold : Meaning
untold = record {
  names = None;
  disk = None;
  clock = 0;
  image_since = λ t x. ⊥;
  names_are = refl;
  counts_now = λ d t x told le image. not_told d told;
  counts_before = λ t u x le was. was;
  only_now = λ d x told was. not_told d told;
}
