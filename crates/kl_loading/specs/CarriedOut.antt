-- What a loader's entries make of memory (gABI, "Dynamic Linking"; psABI, "Relocation").
use Rattle.std.specs.Prelude.{ℕ, ◌+◌, ◌%◌, ◌^◌, ◌≡◌, ◌≤◌, ◌⊎◌, true, List, All, AllPairs, unwrap_or, is_some}
use Rattle.kl_elf.specs.declared.records.Rela.{Rela}
use Rattle.kl_model.specs.Loaded.{is_covered, loaded, rela_value, relas}
use Rattle.kl_model.specs.Memory.{mem, num_in}

-- two stretches of addresses share none
abbrev pub AreApart : ℕ → ℕ → ℕ → ℕ → Type 0
AreApart a n b m = (a + n ≤ b) ⊎ (b + m ≤ a)

-- the eight bytes of two entries
abbrev pub EntriesApart : Rela → Rela → Type 0
EntriesApart e f = AreApart e.offset 8 f.offset 8

-- each entry of an image has a value and its eight bytes in memory, and shares none with another
pub record AreEntries (img : List ℕ) (base : ℕ) (r : List ℕ → ℕ) (es : List Rela) : Type 0 where
  pub covered : All (λ e. is_covered img e.offset ≡ true) es
  pub known : All (λ e. is_some (rela_value img base r e) ≡ true) es
  pub apart : AllPairs EntriesApart es

-- what memory has behind them: of each entry its value, and elsewhere what the image has
pub record HasValues (img : List ℕ) (base : ℕ) (r : List ℕ → ℕ) (es : List Rela) : Type 0 where
  pub entries : All (λ e. num_in (loaded img base r) (base + e.offset) 8 ≡ unwrap_or (rela_value img base r e) 0 % 2 ^ 64) es
  pub others : (a w : ℕ) → All (λ (e : Rela). AreApart a w e.offset 8) es → num_in (loaded img base r) (base + a) w ≡ num_in (mem img) a w

abbrev pub EntriesCarriedOut : Type 0
EntriesCarriedOut = (img : List ℕ) (base : ℕ) (r : List ℕ → ℕ) → AreEntries img base r (relas img) → HasValues img base r (relas img)
