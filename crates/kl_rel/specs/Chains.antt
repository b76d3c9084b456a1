-- What is known while the first flaw of relocation sections is looked for, target by target. For the contracts inside this crate alone.
use Rattle.std.specs.Prelude.{ℕ, ◌+◌, ◌≤◌, ◌<◌, ◌≡◌, ◌≢◌, ◌⊎◌, Bool, true, false, ◌&&◌, ◌==◌, List, length, slice_index, Some, None}
use Rattle.kl_rel.specs.Flaws.{first_of}
use Rattle.kl_rel.specs.Headers.{head, header_place, section}
use Rattle.kl_rel.specs.Relocations.{is_read, is_taken, rela_checks, rela_flaw_of, fields_before}
use Rattle.kl_rel.specs.declared.fault.ReadFault.{ReadFault}
use Rattle.kl_rel.specs.declared.first_flaw.Chains.{Chains}
use Rattle.kl_rel.specs.declared.first_flaw.Known.{Known}

-- section n is one whose entries are read, and they change section t
abbrev pub changes : List ℕ → ℕ → ℕ → Bool
changes b t n = is_read b (section b n) && ((section b n).info == t)

-- a flaw of a relocation section, and its number; or none, and the number of sections
pub record IsKnown (b : List ℕ) (known : Known) : Type 0 where
  pub high : known.number ≤ (head b).shnum
  pub flaw : ((known.number < (head b).shnum) × (1 ≤ known.number) × (f : ReadFault) × (known.fault ≡ Some f)
      × (rela_flaw_of b known.number ≡ Some f))
      ⊎ ((known.number ≡ (head b).shnum) × (known.fault ≡ None))

-- the form of each section before this one has no flaw
abbrev pub PassForms : List ℕ → ℕ → Type 0
PassForms b high = (n : ℕ) → 1 ≤ n → n < high → None ≡ first_of (rela_checks b (header_place b n) (section b n))

-- those of them that change section t have no flaw at all
abbrev pub ArePassed : List ℕ → ℕ → ℕ → Type 0
ArePassed b t high = (n : ℕ) → 1 ≤ n → n < high → changes b t n ≡ true → rela_flaw_of b n ≡ None

-- m is the first section from n on that changes section t, or 0
pub record IsNext (b : List ℕ) (t n m : ℕ) : Type 0 where
  pub found : m ≢ 0 → (n ≤ m) × (m < (head b).shnum) × (changes b t m ≡ true)
  pub others : (k : ℕ) → n ≤ k → k < (head b).shnum → (m ≢ 0 → k < m) → changes b t k ≡ false

-- the chains of the sections from n on
pub record IsChained (b : List ℕ) (n : ℕ) (chains : Chains) : Type 0 where
  pub firsts : length chains.first.items ≡ (head b).shnum
  pub nexts : length chains.next.items ≡ (head b).shnum
  pub first : (t : ℕ) → t < (head b).shnum → IsNext b t n (slice_index chains.first.items t)
  pub next : (k : ℕ) → n ≤ k → k < (head b).shnum → is_read b (section b k) ≡ true
      → IsNext b (section b k).info (k + 1) (slice_index chains.next.items k)

-- the bytes with the stamp of the section that section n changes are those of the fields before entry k of it
abbrev pub AreStamped : List ℕ → ℕ → ℕ → List ℕ → Type 0
AreStamped b n k stamps =
    (x : ℕ) → x < length stamps → (slice_index stamps x == (section b n).info) ≡ is_taken (fields_before b n k) (section b n).info x

-- each stamp is as before, or this one
abbrev pub AreOf : ℕ → List ℕ → List ℕ → Type 0
AreOf stamp old new = (x : ℕ) → (slice_index new x ≡ slice_index old x) ⊎ (slice_index new x ≡ stamp)
