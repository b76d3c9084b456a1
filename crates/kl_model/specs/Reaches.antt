-- A relocated field leads to its target (psABI, "Relocation Types").
use Rattle.std.specs.Prelude.{ℕ, ◌+◌, ◌-◌, ◌*◌, ◌%◌, ◌^◌, ◌≡◌, ℤ, Bool, true, cond, if◌then◌else◌, ◌||◌, ◌==◌, nat_lt, nat_le, IsTrue, Option}
use Rattle.std.specs.Int.{cast_unsigned, w64}
use Rattle.kl_model.specs.Memory.{Cell, num_in}
use Rattle.kl_model.specs.Relocations.{in_range, is_relative, width}
use Rattle.kl_elf.specs.declared.abi.TheConstants.{R_X86_64_NONE}
use Rattle.kl_model.specs.declared.area.TheConstants as area

-- a + b and a - b modulo 2^64, of numbers below it
abbrev pub plus : ℕ → ℕ → ℕ
plus a b = (a + b) % 2 ^ 64

abbrev pub less : ℕ → ℕ → ℕ
less a b = (a + (2 ^ 64 - b)) % 2 ^ 64

-- S + A, or S + A - P, modulo 2^64; R_X86_64_NONE has no value
abbrev pub value : ℕ → ℕ → ℤ → ℕ → ℕ
value kind s a p = let sum = plus s (cast_unsigned w64 a) in if kind == R_X86_64_NONE then 0 else if is_relative kind then less sum p else sum

-- four bytes with a sign, modulo 2^64
abbrev pub signed_4 : ℕ → ℕ
signed_4 n = if nat_lt n (2 ^ 31) then n else n + (2 ^ 64 - 2 ^ 32)

-- the field at P of a memory leads to S: its bytes are the value, which is in range
pub record ReachesDirectly (m : ℕ → Option Cell) (p kind : ℕ) (a : ℤ) (s : ℕ) : Type 0 where
  pub range : IsTrue (in_range kind (value kind s a p))
  pub bytes : num_in m p (width kind) ≡ value kind s a p % 256 ^ width kind

-- the field at P leads to a slot, which holds S
pub record ReachesBySlot (m : ℕ → Option Cell) (p : ℕ) (a : ℤ) (s slot : ℕ) : Type 0 where
  pub leads : less (plus p (signed_4 (num_in m p 4))) (cast_unsigned w64 a) ≡ slot
  pub holds : num_in m slot 8 ≡ s

-- the field at P leads to a stub, which jumps through a slot, which holds S (psABI, "Procedure Linkage Table")
pub record ReachesByStub (m : ℕ → Option Cell) (p : ℕ) (a : ℤ) (s slot stub : ℕ) : Type 0 where
  pub leads : less (plus p (signed_4 (num_in m p 4))) (cast_unsigned w64 a) ≡ stub
  pub jumps : num_in m stub 2 ≡ area.JUMP
  pub through : plus (plus stub 6) (signed_4 (num_in m (stub + 2) 4)) ≡ slot
  pub holds : num_in m slot 8 ≡ s
