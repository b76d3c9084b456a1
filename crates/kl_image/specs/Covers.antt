-- The program headers as the loader searches them. For the contracts inside this crate alone.
use Rattle.std.specs.Prelude.{ℕ, ◌≡◌, ◌==◌, ◌&&◌, Bool, true, not, All, AllPairs, List, Some, find}
use Rattle.std.specs.Ordering.{nat_cmp}
use Rattle.std.specs.BTreeMap.{BTreeMap, get}
use Rattle.kl_elf.specs.declared.records.Phdr.{Phdr}
use Rattle.kl_model.specs.Memory.{covers}
use Rattle.kl_image.specs.Headers.{is_load}
use Rattle.kl_image.specs.Loadable.{CoverNoByte}

-- a PT_LOAD header takes up memory
abbrev pub takes_memory : Phdr → Bool
takes_memory s = is_load s && not (s.memsz == 0)

-- a PT_LOAD header that takes up memory is kept by its address
abbrev pub IsHeld : BTreeMap ℕ Phdr → Phdr → Type 0
IsHeld starts s = takes_memory s ≡ true → get nat_cmp starts s.vaddr ≡ Some s

-- what is kept at an address is the header that begins there, the first that covers it
abbrev pub IsFirstThere : BTreeMap ℕ Phdr → List Phdr → Type 0
IsFirstThere starts ss = (a : ℕ) (s : Phdr) → get nat_cmp starts a ≡ Some s → (s.vaddr ≡ a) × (find (covers a) ss ≡ Some s)

-- the headers by their addresses are those of these that take up memory, and no two cover one byte
pub record IsCoverOf (starts : BTreeMap ℕ Phdr) (ss : List Phdr) : Type 0 where
  pub apart : AllPairs CoverNoByte ss
  pub held : All (IsHeld starts) ss
  pub first : IsFirstThere starts ss
