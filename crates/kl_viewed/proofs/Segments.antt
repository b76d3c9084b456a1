-- Program headers that have their bytes in the file, and of which each PT_LOAD header stands past those before it, have no flaw.
use Rattle.std.proofs.Common.{ℕ, zero, suc, ◌≡◌, ◌+◌, ◌%◌, ◌<◌, ◌≤◌, ◌∙◌, ◌||◌, ◌&&◌, Bool, true, false, not, List, [], ◌∷◌, ◌++◌, length, length-append, get_or, take, refl, ap, sym, subst, arith, max}
use Rattle.std.specs.Prelude.{All, ◌==◌, nat_lt, cond, if◌then◌else◌, min}
use Rattle.std.specs.Int.{is_power_of_two}
use Rattle.std.specs.List.{list_any}
use Rattle.std.proofs.Math.Nat.{le-max_left, min-le_right}
use Rattle.std.proofs.Math.Seq.{take-append_seam}
use Rattle.std.proofs.lemmas.Bool.{eq-eqb, le-ltb}
use Rattle.std.proofs.lemmas.List.{append-nil, append_assoc}
use Rattle.std.proofs.lemmas.List.Elements.{All-append}
use Rattle.std.proofs.lemmas.List.Folds.{list_any_none}
use Rattle.kl_base.proofs.Bools.{alone}
use Rattle.kl_elf.specs.declared.records.Phdr.{Phdr}
use Rattle.kl_model.specs.Carries.{ends_at}
use Rattle.kl_model.specs.Lists.{each, each_from, only_if}
use Rattle.kl_model.specs.Memory.{segments}
use Rattle.kl_model.proofs.Covered.{In, here, in_right}
use Rattle.kl_write.proofs.FileBytes.{ends-in, file_end_some}
use Rattle.kl_image.specs.Headers.{has_bytes_outside, is_damaged, is_load, segment_flaws, segment_flaws_of, share_memory}

-- a program header is right by itself, but for where its bytes end in the file
pub record IsShaped (s : Phdr) : Type 0 where
  pub in_memory : s.filesz ≤ s.memsz
  pub power : is_power_of_two s.align ≡ true
  pub congruent : s.vaddr % s.align ≡ s.offset % s.align

-- where the memory ends that is taken up to an address, and by a header past it
abbrev pub past : ℕ → Phdr → ℕ
past from s = if is_load s then s.vaddr + s.memsz else from

-- each is right by itself, and each PT_LOAD header stands past those before it
abbrev pub Ascend : ℕ → List Phdr → Type 0
Ascend from [] = Unit {0}
Ascend from (s ∷ ss) = IsShaped s × (is_load s ≡ true → from ≤ s.vaddr) × Ascend (past from s) ss

-- the memory of a PT_LOAD header ends at or before an address
abbrev EndsBy : ℕ → Phdr → Type 0
EndsBy n t = is_load t ≡ true → t.vaddr + t.memsz ≤ n

le-past : (n : ℕ) (s : Phdr) → (is_load s ≡ true → n ≤ s.vaddr) → n ≤ past n s
le-past n s h = go (is_load s) refl
  where
    go : (t : Bool) → is_load s ≡ t → n ≤ past n s
    go true e = let l = h e in rw e (omega (arith, l))
    go false e = rw e (omega arith)

own-past : (n : ℕ) (s : Phdr) → EndsBy (past n s) s
own-past n s e = rw e (omega arith)

-- no two of them share memory
apart : (s t : Phdr) (n : ℕ) → EndsBy n t → (is_load s ≡ true → n ≤ s.vaddr) → share_memory s t ≡ false
apart s t n h l = go (is_load s) (is_load t) refl refl
  where
    go : (a b : Bool) → is_load s ≡ a → is_load t ≡ b → share_memory s t ≡ false
    go false b e f = rw e refl
    go true false e f = rw (e, f) refl
    go true true e f =
        let none : nat_lt (max s.vaddr t.vaddr) (min (s.vaddr + s.memsz) (t.vaddr + t.memsz)) ≡ false = le-ltb (max s.vaddr t.vaddr) (min (s.vaddr + s.memsz) (t.vaddr + t.memsz))
        (omega (arith, h f, l e, le-max_left s.vaddr t.vaddr, min-le_right (s.vaddr + s.memsz) (t.vaddr + t.memsz))) in
        rw (e, f, none) refl

-- one is right by itself
not_zero : (n : ℕ) → (n == 0) ≡ false → 0 < n
not_zero zero e = cc
not_zero (suc n) e = omega arith

right_one : (b : List ℕ) (s : Phdr) → (0 < s.filesz → s.offset + s.filesz ≤ length b) → IsShaped s → is_damaged b s ≡ false
right_one b s inside shape =
    let small : nat_lt s.memsz s.filesz ≡ false = le-ltb s.memsz s.filesz shape.in_memory in
    let same : (s.vaddr % s.align == s.offset % s.align) ≡ true = eq-eqb (s.vaddr % s.align) (s.offset % s.align) shape.congruent in
    rw (in_file (s.filesz == 0) refl, small, shape.power, same) refl
  where
    in_file : (t : Bool) → (s.filesz == 0) ≡ t → has_bytes_outside b s ≡ false
    in_file true e = rw e refl
    in_file false e = let none : nat_lt (length b) (s.offset + s.filesz) ≡ false = le-ltb (length b) (s.offset + s.filesz) (inside (not_zero s.filesz e)) in rw (e, none) refl

-- none of them is told
none_told : (b : List ℕ) (whole : List Phdr) → ((s : Phdr) → In s whole → 0 < s.filesz → s.offset + s.filesz ≤ length b) → (n : ℕ) (before ss : List Phdr) (k : ℕ)
    → whole ≡ before ++ ss → k ≡ length before → All (EndsBy n) before → Ascend n ss → each_from k (λ k s. segment_flaws_of b (take k whole) k s) ss ≡ []
none_told b whole inside n before [] k e f h a = refl
none_told b whole inside n before (s ∷ ss) k e f h a =
    let cut : take k whole ≡ before = ap (take k) e ∙ (ap (λ j. take j (before ++ s ∷ ss)) f ∙ take-append_seam before (s ∷ ss)) in
    let there_is : In s whole = subst (In s) (sym e) (in_right before here) in
    let right = right_one b s (inside s there_is) a.0 in
    let free : list_any (share_memory s) before ≡ false = list_any_none (share_memory s) before (λ j d l. apart s (get_or before j d) n (h j d l) a.1) in
    let first : segment_flaws_of b (take k whole) k s ≡ [] = rw (cut, right, free) refl in
    let grown = le-past n s a.1 in
    let ends : All (EndsBy (past n s)) (before ++ s ∷ []) =
    All-append (EndsBy (past n s)) before (s ∷ []) (λ j d l x. let z = h j d l x in omega (arith, z, grown)) (alone (EndsBy (past n s)) s (own-past n s)) in
    let rest = none_told b whole inside (past n s) (before ++ s ∷ []) ss (suc k) (e ∙ sym (append_assoc before (s ∷ []) ss)) (omega (arith, f, length-append before (s ∷ []))) ends a.2 in
    ap (λ l. l ++ each_from (suc k) (λ k s. segment_flaws_of b (take k whole) k s) ss) first ∙ rest

-- THE HEADERS OF A FILE
pub segments_right : (b : List ℕ) (ss : List Phdr) (n : ℕ) → segments b ≡ ss → length b ≡ ends_at n ss → Ascend 0 ss → segment_flaws b ≡ []
unfolding segment_flaws
segments_right b ss n is len a =
    ap (λ ts. each ts (λ k s. segment_flaws_of b (take k ts) k s)) is
    ∙ none_told b ss (λ s i some. let last = ends-in n ss s i in let own = file_end_some s some in omega (arith, len, last, own)) 0 [] ss 0 refl refl (λ k d l. absurd (omega (arith, l))) a

-- from a lower address on
lower : (n m : ℕ) (ss : List Phdr) → n ≤ m → Ascend m ss → Ascend n ss
lower n m [] l a = tt
lower n m (s ∷ ss) l a = (a.0, (λ e. let h = a.1 e in omega (arith, l, h)), lower (past n s) (past m s) ss (go (is_load s) refl) a.2)
  where
    go : (t : Bool) → is_load s ≡ t → past n s ≤ past m s
    go true e = rw e (omega arith)
    go false e = rw e (omega (arith, l))

-- the header of a class, if it has a byte, before others
pub class_next : (n : ℕ) (t : Bool) (s : Phdr) (rest last : List Phdr) → is_load s ≡ true → IsShaped s → n ≤ s.vaddr → Ascend (s.vaddr + s.memsz) (rest ++ last)
    → Ascend n ((only_if t s ++ rest) ++ last)
class_next n true s rest last load shape l a = (shape, (λ e. l), rw load a)
class_next n false s rest last load shape l a = lower n (s.vaddr + s.memsz) (rest ++ last) (omega (arith, l)) a
