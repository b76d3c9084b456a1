-- A number fixes the bytes that it is read from, in a file and in a memory.
use Rattle.std.proofs.Common.{ℕ, zero, suc, ◌≡◌, ◌+◌, ◌*◌, ◌^◌, ◌<◌, List, length, arith, Bool, true, false, cond, inl, inr}
use Rattle.std.specs.Prelude.{All, Option, Some, None, find, nat_lt, slice_index}
use Rattle.std.specs.Option.{option_map, option_map_or}
use Rattle.std.proofs.lemmas.Bool.{cases_lt}
use Rattle.std.proofs.lemmas.List.{get_or_past}
use Rattle.std.proofs.Math.Nat.{pow-succ'}
use Rattle.kl_le.specs.Bytes.{num}
use Rattle.kl_elf.specs.declared.records.Phdr.{Phdr}
use Rattle.kl_model.specs.Memory.{Cell, byte_in, cell_in, covers, mem, num_in, segments}

-- a file whose bytes have 8 bits
abbrev pub AreBytes : List ℕ → Type 0
AreBytes b = All (λ x. x < 2 ^ 8) b

-- and a memory
abbrev pub HasBytes : (ℕ → Option Cell) → Type 0
HasBytes m = (a : ℕ) → byte_in m a < 256

pub byte_small : (b : List ℕ) → AreBytes b → (k : ℕ) → slice_index b k < 256
byte_small b bytes k = elim (cases_lt k (length b)) [ inl l ↦ omega (arith, bytes k 0 l) | inr l ↦ omega (arith, get_or_past b k 0 l) ]

-- the first byte and the rest
first_same : (x y u v : ℕ) → x < 256 → y < 256 → x + 256 * u ≡ y + 256 * v → x ≡ y
first_same x y u v h l e = omega (arith, h, l, e)

rest_same : (x y u v : ℕ) → x < 256 → y < 256 → x + 256 * u ≡ y + 256 * v → u ≡ v
rest_same x y u v h l e = omega (arith, h, l, e)

-- two files with one number at a place
pub same_num : (b c : List ℕ) (at w : ℕ) → AreBytes b → AreBytes c → num b at w ≡ num c at w → (j : ℕ) → j < w → slice_index b (at + j) ≡ slice_index c (at + j)
unfolding num
same_num b c at zero x y e j l = absurd (omega (arith, l))
same_num b c at (suc w) x y e zero l =
    let z : at + zero ≡ at = omega arith in
    rw z (first_same (slice_index b at) (slice_index c at) (num b (suc at) w) (num c (suc at) w) (byte_small b x at) (byte_small c y at) e)
same_num b c at (suc w) x y e (suc j) l =
    let z : at + suc j ≡ suc at + j = omega arith in
    let rest = rest_same (slice_index b at) (slice_index c at) (num b (suc at) w) (num c (suc at) w) (byte_small b x at) (byte_small c y at) e in
    rw z (same_num b c (suc at) w x y rest j (omega (arith, l)))

-- two memories with one number at an address
pub same_num_in : (m n : ℕ → Option Cell) (a w : ℕ) → HasBytes m → HasBytes n → num_in m a w ≡ num_in n a w → (j : ℕ) → j < w → byte_in m (a + j) ≡ byte_in n (a + j)
unfolding num_in
same_num_in m n a zero x y e j l = absurd (omega (arith, l))
same_num_in m n a (suc w) x y e zero l =
    let z : a + zero ≡ a = omega arith in
    rw z (first_same (byte_in m a) (byte_in n a) (num_in m (suc a) w) (num_in n (suc a) w) (x a) (y a) e)
same_num_in m n a (suc w) x y e (suc j) l =
    let z : a + suc j ≡ suc a + j = omega arith in
    let rest = rest_same (byte_in m a) (byte_in n a) (num_in m (suc a) w) (num_in n (suc a) w) (x a) (y a) e in
    rw z (same_num_in m n (suc a) w x y rest j (omega (arith, l)))

-- a number of so many bytes
pub num_in_small : (m : ℕ → Option Cell) (a w : ℕ) → HasBytes m → num_in m a w < 256 ^ w
unfolding num_in
num_in_small m a zero x = omega arith
num_in_small m a (suc w) x = rw (pow-succ' 256 w) (omega (arith, x a, num_in_small m (suc a) w x))

-- the memory of an image of bytes
cond_small : (b : Bool) (n : ℕ) → n < 256 → cond b n 0 < 256
cond_small true n h = h
cond_small false n h = omega arith

pub mem_bytes : (img : List ℕ) → AreBytes img → HasBytes (mem img)
mem_bytes img bytes a = go (find (covers a) (segments img))
  where
    go : (o : Option Phdr) → option_map_or (λ (c : Cell). c.byte) (option_map (cell_in img a) o) 0 < 256
    go None = omega arith
    go (Some s) = cond_small (nat_lt a (s.vaddr + s.filesz)) _ (byte_small img bytes _)
