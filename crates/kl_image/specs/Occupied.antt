-- The memory that program headers take up, as the reader keeps it. For the contracts inside this crate alone.
use Rattle.std.specs.Prelude.{ℕ, ◌+◌, ◌<◌, ◌≤◌, ◌≡◌, not, ◌&&◌, ◌==◌, if◌then◌else◌, List, Option, Some, None, All, Any}
use Rattle.std.specs.Ordering.{nat_cmp}
use Rattle.std.specs.BTreeMap.{BTreeMap, get}
use Rattle.kl_elf.specs.declared.records.Phdr.{Phdr}
use Rattle.kl_image.specs.Headers.{is_load}

-- the addresses that a PT_LOAD header takes up, from the first to that behind the last, if it takes up some
abbrev pub memory_of : Phdr → Option (ℕ × ℕ)
memory_of s = if is_load s && not (s.memsz == 0) then Some (s.vaddr, s.vaddr + s.memsz) else None

-- the memory of a program header is kept
abbrev pub IsKept : BTreeMap ℕ ℕ → Phdr → Type 0
IsKept ends s = (start end : ℕ) → memory_of s ≡ Some (start, end) → get nat_cmp ends start ≡ Some end

-- the ends by the starts are those of the memory of these headers, which lie apart
pub record IsMemoryOf (ends : BTreeMap ℕ ℕ) (ss : List Phdr) : Type 0 where
  pub known : (start end : ℕ) → get nat_cmp ends start ≡ Some end → Any (λ s. memory_of s ≡ Some (start, end)) ss
  pub kept : All (IsKept ends) ss
  pub apart : (p q e f : ℕ) → get nat_cmp ends p ≡ Some e → get nat_cmp ends q ≡ Some f → p < q → e ≤ q
