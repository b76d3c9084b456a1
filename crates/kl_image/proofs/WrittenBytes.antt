-- Bytes that entries write over a memory.
use Rattle.std.proofs.Common.{ℕ, zero, suc, ◌≡◌, ◌≢◌, ◌+◌, ◌-◌, ◌*◌, ◌/◌, ◌^◌, ◌<◌, ◌≤◌, ◌∙◌, ◌&&◌, ◌||◌, ◌%◌, not, inl, inr, Bool, true, false, List, [], ◌∷◌, ◌++◌, length, get_or, take, refl, ap, sym, arith, lt-ltb, append_assoc}
use Rattle.std.specs.Prelude.{◌==◌, nat_le, nat_lt, Option, Some, None, option_map, unwrap_or, fold}
use Rattle.std.specs.List.{list_all}
use Rattle.std.specs.Int.{bytes_low_first}
use Rattle.std.specs.Ordering.{nat_cmp}
use Rattle.std.specs.BTreeMap.{BTreeMap, get}
use Rattle.std.proofs.lemmas.Bool.{and_parts, cases_lt, cases_order, le-leb, leb-true, le-ltb, lt-leb}
use Rattle.std.proofs.lemmas.List.{take_all}
use Rattle.std.proofs.lemmas.List.Folds.{Any-from_list_any}
use Rattle.std.proofs.lemmas.List.Sums.{AllPass-from_list_all, fold_more}
use Rattle.kl_elf.specs.Records.{ehdr_at, rela_at}
use Rattle.kl_elf.specs.declared.records.Rela.{Rela}
use Rattle.kl_elf.specs.declared.abi.TheConstants.{ET_DYN, PT_LOAD}
use Rattle.kl_model.specs.Memory.{Cell, segments}
use Rattle.kl_model.specs.Loaded.{is_covered, loaded, moved, rela_value, relas_from, with_number, with_rela}
use Rattle.kl_model.specs.Written.{byte_of}
use Rattle.kl_image.specs.Headers.{is_load}
use Rattle.kl_image.specs.Bases.{can_move}
use Rattle.kl_image.specs.Placed.{HasWritten, IsOver, over, table_entries}

-- the bytes of a number
pub byte_low_first : (i k n j : ℕ) → j < k → get_or (bytes_low_first i k n) j 0 ≡ byte_of n (i + j)
byte_low_first i zero n j h = absurd (omega arith)
byte_low_first zero (suc k) n zero h = let one : n / 256 ^ 0 ≡ n = omega arith in rw one refl
byte_low_first (suc i) (suc k) n zero h = let z : suc i + 0 ≡ suc i = omega arith in rw z refl
byte_low_first i (suc k) n (suc j) h = let z : i + suc j ≡ suc i + j = omega arith in rw z (byte_low_first (suc i) k n j (omega arith))

pub length-bytes_low_first : (i k n : ℕ) → length (bytes_low_first i k n) ≡ k
length-bytes_low_first i zero n = refl
length-bytes_low_first i (suc k) n = ap suc (length-bytes_low_first (suc i) k n)

-- an address is among n from one on, or not
within : (at n a : ℕ) → at ≤ a → a < at + n → (nat_le at a && nat_lt a (at + n)) ≡ true
within at n a low high = rw (le-leb at a low, lt-ltb a (at + n) high) refl

before : (at n a : ℕ) → a < at → (nat_le at a && nat_lt a (at + n)) ≡ false
before at n a low = rw (lt-leb at a low) refl

past : (at n a : ℕ) → at + n ≤ a → (nat_le at a && nat_lt a (at + n)) ≡ false
past at n a high = rw (le-leb at a (omega (arith, high)), le-ltb a (at + n) high) refl

-- nothing written
pub none_written : (m : BTreeMap ℕ ℕ) (at number : ℕ) → HasWritten m m at number 0
none_written m at number a = elim (cases_lt a at) [
  | inl low ↦ rw (before at 0 a low) refl
  | inr high ↦ rw (past at 0 a (omega (arith, high))) refl
]

-- one byte more
pub one_written : (old mid new : BTreeMap ℕ ℕ) (at number n : ℕ) → HasWritten old mid at number n → get nat_cmp new (at + n) ≡ Some (byte_of number n)
    → ((q : ℕ) → q ≢ at + n → get nat_cmp new q ≡ get nat_cmp mid q) → HasWritten old new at number (n + 1)
one_written old mid new at number n was here others a = elim (cases_order a (at + n)) [
  | inl same ↦
      let k : a - at ≡ n = omega (arith, same) in
      rw (within at (n + 1) a (omega (arith, same)) (omega (arith, same)), k) (same_get new (at + n) a _ (sym same) here)
  | inr (inl less) ↦ others a (λ z. omega (arith, z, less)) ∙ was a ∙ (elim (cases_lt a at) [
    | inl low ↦ rw (before at n a low, before at (n + 1) a low) refl
    | inr high ↦ rw (within at n a high less, within at (n + 1) a high (omega (arith, less))) refl
  ])
  | inr (inr more) ↦ others a (λ z. omega (arith, z, more)) ∙ was a ∙ (rw (past at n a (omega (arith, more)), past at (n + 1) a (omega (arith, more))) refl)
]
  where
    same_get : (m : BTreeMap ℕ ℕ) (p q : ℕ) (o : Option ℕ) → p ≡ q → get nat_cmp m p ≡ o → get nat_cmp m q ≡ o
    same_get m p q o same e = rw (← same) e

-- a cell with another byte
abbrev with_byte : (ℕ → ℕ) → Cell → Cell
with_byte f c = record { byte = f c.byte; flags = c.flags }

-- a number that is written, over a memory
pub number_over : (old new : BTreeMap ℕ ℕ) (at number : ℕ) (m n : ℕ → Option Cell) → HasWritten old new at number 8 → IsOver old m n → IsOver new m (with_number n at number)
number_over old new at number m n wrote was a = go (nat_le at a && nat_lt a (at + 8)) refl
  where
    put : (o p : Option Cell) → option_map (with_byte (unwrap_or (get nat_cmp old a))) o ≡ p
        → option_map (with_byte (λ x. byte_of number (a - at))) o ≡ option_map (with_byte (λ x. byte_of number (a - at))) p
    put None p e = rw (← e) refl
    put (Some c) p e = rw (← e) refl

    go : (x : Bool) → (nat_le at a && nat_lt a (at + 8)) ≡ x → over new m a ≡ with_number n at number a
    go true is =
        let here : get nat_cmp new a ≡ Some (byte_of number (a - at)) = rw is at (wrote a) in
        rw (here, is) (put (m a) (n a) (was a))
    go false is =
        let here : get nat_cmp new a ≡ get nat_cmp old a = rw is at (wrote a) in
        rw (here, is) (was a)

-- an entry that is carried out
pub entry_over : (b : List ℕ) (base : ℕ) (r : List ℕ → ℕ) (old new : BTreeMap ℕ ℕ) (m n : ℕ → Option Cell) (e : Rela) (v : ℕ) → is_covered b e.offset ≡ true
    → rela_value b base r e ≡ Some v → HasWritten old new (base + e.offset) v 8 → IsOver old m n → IsOver new m (with_rela b base r n e)
entry_over b base r old new m n e v covered value wrote was a = rw (covered, value) (number_over old new (base + e.offset) v m n wrote was a)

-- one that is passed over
pub entry_outside : (b : List ℕ) (base : ℕ) (r : List ℕ → ℕ) (old : BTreeMap ℕ ℕ) (m n : ℕ → Option Cell) (e : Rela) → is_covered b e.offset ≡ false
    → IsOver old m n → IsOver old m (with_rela b base r n e)
entry_outside b base r old m n e outside was a = rw outside (was a)

pub entry_without : (b : List ℕ) (base : ℕ) (r : List ℕ → ℕ) (old : BTreeMap ℕ ℕ) (m n : ℕ → Option Cell) (e : Rela) → is_covered b e.offset ≡ true
    → rela_value b base r e ≡ None → IsOver old m n → IsOver old m (with_rela b base r n e)
entry_without b base r old m n e covered none was a = rw (covered, none) (was a)

-- nothing written over a memory
pub none_over : (w : BTreeMap ℕ ℕ) (m : ℕ → Option Cell) → ((a : ℕ) → get nat_cmp w a ≡ None) → IsOver w m m
none_over w m none a = rw none (go (m a))
  where
    go : (o : Option Cell) → option_map (with_byte (λ x. x)) o ≡ o
    go None = refl
    go (Some c) = refl

-- one entry of a table more
pub relas_more : (b : List ℕ) (at i : ℕ) → relas_from b at (i + 1) ≡ relas_from b at i ++ rela_at b (at + 24 * i) ∷ []
relas_more b at zero = let e : at + 24 * zero ≡ at = omega arith in rw e refl
relas_more b at (suc i) =
    let e : at + 24 * suc i ≡ at + 24 + 24 * i = omega arith in
    let longer : suc i + 1 ≡ suc (i + 1) = omega arith in
    rw (longer, e) (ap (λ rs. rela_at b at ∷ rs) (relas_more b (at + 24) i))

pub relas_push : (b : List ℕ) (at i : ℕ) (first old new : List Rela) → old ≡ first ++ relas_from b at i → new ≡ old ++ rela_at b (at + 24 * i) ∷ []
    → new ≡ first ++ relas_from b at (i + 1)
relas_push b at i first old new was is =
    is ∙ rw (was, relas_more b at i) (append_assoc first (relas_from b at i) (rela_at b (at + 24 * i) ∷ []))

-- what an entry writes ends where addresses end, or before
pub room_covered : (b : List ℕ) (base a : ℕ) → list_all (can_move base) (segments b) ≡ true → is_covered b a ≡ true → base + a + 8 ≤ 2 ^ 64
room_covered b base a room covered =
    let any = Any-from_list_any (λ s. (s.kind == PT_LOAD) && (nat_le s.vaddr a && nat_le (a + 8) (s.vaddr + s.memsz))) (segments b) covered in
    let s = get_or (segments b) any.0 any.1 in
    let is = rw (← any.3) at any.4 in
    let x = and_parts (is_load s) (nat_le s.vaddr a && nat_le (a + 8) (s.vaddr + s.memsz)) is in
    let y = and_parts (nat_le s.vaddr a) (nat_le (a + 8) (s.vaddr + s.memsz)) x.1 in
    let high = leb-true (a + 8) (s.vaddr + s.memsz) y.1 in
    let moves : (not (is_load s) || ((base % s.align == 0) && nat_le (base + (s.vaddr + s.memsz)) (2 ^ 64))) ≡ true =
    AllPass-from_list_all (can_move base) (segments b) room any.0 any.1 any.2 in
    let fits = rw x.0 at moves in
    let end = leb-true (base + (s.vaddr + s.memsz)) (2 ^ 64) (and_parts (base % s.align == 0) _ fits).1 in
    omega (arith, high, end)

-- all entries are carried out
pub entries_more : (b : List ℕ) (base : ℕ) (r : List ℕ → ℕ) (w : BTreeMap ℕ ℕ) (m : ℕ → Option Cell) (es : List Rela) (i : ℕ) (d : Rela) → i < length es
    → IsOver w m (with_rela b base r (fold (with_rela b base r) m (take i es)) (get_or es i d)) → IsOver w m (fold (with_rela b base r) m (take (i + 1) es))
entries_more b base r w m es i d h is a = rw (fold_more (with_rela b base r) m es i d h) (is a)

pub entries_all : (b : List ℕ) (base : ℕ) (r : List ℕ → ℕ) (w : BTreeMap ℕ ℕ) (m : ℕ → Option Cell) (es : List Rela) (i : ℕ) → length es ≤ i → es ≡ table_entries b
    → IsOver w m (fold (with_rela b base r) m (take i es)) → IsOver w m (fold (with_rela b base r) m (table_entries b))
entries_all b base r w m es i end same is =
    let all : take i es ≡ table_entries b = take_all i es end ∙ same in
    rw all at is

-- the bytes of an image that is loaded
pub nothing_written : (w : BTreeMap ℕ ℕ) → w.entries ≡ [] → (m : ℕ → Option Cell) → IsOver w m m
nothing_written w none m = none_over w m (λ a. rw none refl)

pub shared_loaded : (b : List ℕ) (base : ℕ) (r : List ℕ → ℕ) (w : BTreeMap ℕ ℕ) → ((ehdr_at b 0).kind == ET_DYN) ≡ true
    → IsOver w (moved b base) (fold (with_rela b base r) (moved b base) (table_entries b)) → (a : ℕ)
    → option_map (λ c. c.byte) (over w (moved b base) a) ≡ option_map (λ c. c.byte) (loaded b base r a)
shared_loaded b base r w shared is a = rw shared (ap (option_map (λ (c : Cell). c.byte)) (is a))

pub fixed_loaded : (b : List ℕ) (base : ℕ) (r : List ℕ → ℕ) (w : BTreeMap ℕ ℕ) → ((ehdr_at b 0).kind == ET_DYN) ≡ false → w.entries ≡ [] → (a : ℕ)
    → option_map (λ c. c.byte) (over w (moved b base) a) ≡ option_map (λ c. c.byte) (loaded b base r a)
fixed_loaded b base r w fixed none a = rw fixed (ap (option_map (λ (c : Cell). c.byte)) (nothing_written w none (moved b base) a))
