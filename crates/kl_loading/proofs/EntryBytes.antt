-- Entries carried out one after another: what they leave of memory.
use Rattle.std.proofs.Common.{ℕ, zero, suc, ◌≡◌, ◌+◌, ◌-◌, ◌<◌, ◌≤◌, ◌∙◌, ◌⊎◌, List, [], ◌∷◌, length, get_or, refl, ap, arith, Bool, true, false, ◌&&◌, inl, inr, nat_lt}
use Rattle.std.specs.Prelude.{All, AllPairs, Option, Some, None, fold, find, is_some, nat_le, unwrap_or, ◌==◌, if◌then◌else◌}
use Rattle.std.specs.Option.{option_map, option_map_or}
use Rattle.std.specs.List.{list_any}
use Rattle.std.proofs.lemmas.Bool.{cases_Bool, le-leb, le-ltb, leb-true, lt-leb, lt-ltb}
use Rattle.kl_elf.specs.declared.abi.TheConstants.{PT_LOAD}
use Rattle.kl_elf.specs.declared.records.Phdr.{Phdr}
use Rattle.kl_elf.specs.declared.records.Rela.{Rela}
use Rattle.kl_model.specs.Loaded.{is_covered, loaded, moved, rela_value, relas, with_number, with_rela}
use Rattle.kl_model.specs.Memory.{Cell, byte_in, covers, mem, num_in, segments}
use Rattle.kl_model.specs.Written.{byte_of}
use Rattle.kl_model.proofs.Covered.{In, here, there}
use Rattle.kl_write.proofs.SlotWords.{any_in, num_in_bytes}
use Rattle.kl_loading.specs.CarriedOut.{AreApart, EntriesApart, EntriesCarriedOut}

-- numbers of the same bytes
pub num_in_same : (m n : ℕ → Option Cell) (a b w : ℕ) → ((j : ℕ) → j < w → byte_in m (a + j) ≡ byte_in n (b + j)) → num_in m a w ≡ num_in n b w
unfolding num_in
num_in_same m n a b zero same = refl
num_in_same m n a b (suc w) same =
    let za : a + 0 ≡ a = omega arith in
    let zb : b + 0 ≡ b = omega arith in
    let first : byte_in m a ≡ byte_in n b = rw (za, zb) at (same 0 (omega arith)) in
    let rest = num_in_same m n (suc a) (suc b) w (λ j l.
    let ea : suc a + j ≡ a + suc j = omega arith in
    let eb : suc b + j ≡ b + suc j = omega arith in rw (ea, eb) (same (suc j) (omega (arith, l)))) in
    rw (first, rest) refl

-- a number in memory: its bytes there, and no other
number_there : (m : ℕ → Option Cell) (at v j : ℕ) → j < 8 → is_some (m (at + j)) ≡ true → option_map (λ (c : Cell). c.byte) (with_number m at v (at + j)) ≡ Some (byte_of v j)
number_there m at v j h some =
    let low : nat_le at (at + j) ≡ true = le-leb at (at + j) (omega arith) in
    let high : nat_lt (at + j) (at + 8) ≡ true = lt-ltb (at + j) (at + 8) (omega (arith, h)) in
    let back : at + j - at ≡ j = omega arith in
    rw (low, high, back) (go (m (at + j)) some)
  where
    go : (o : Option Cell) → is_some o ≡ true → option_map (λ (c : Cell). c.byte) (option_map (λ (c : Cell). record { byte = byte_of v j; flags = c.flags }) o) ≡ Some (byte_of v j)
    go None e = cc
    go (Some c) e = refl

number_elsewhere : (m : ℕ → Option Cell) (at v a : ℕ) → (a < at) ⊎ (at + 8 ≤ a) → with_number m at v a ≡ m a
number_elsewhere m at v a (inl h) = let low : nat_le at a ≡ false = lt-leb at a h in rw low refl
number_elsewhere m at v a (inr h) =
    let low : nat_le at a ≡ true = le-leb at a (omega (arith, h)) in
    let high : nat_lt a (at + 8) ≡ false = le-ltb a (at + 8) h in rw (low, high) refl

module _ (img : List ℕ) (base : ℕ) (r : List ℕ → ℕ) where
  abbrev step : (ℕ → Option Cell) → Rela → ℕ → Option Cell
  step = with_rela img base r

  -- an entry leaves what is outside its eight bytes
  step_elsewhere : (m : ℕ → Option Cell) (e : Rela) (a : ℕ) → (a < base + e.offset) ⊎ (base + e.offset + 8 ≤ a) → step m e a ≡ m a
  step_elsewhere m e a o = go (is_covered img e.offset) (rela_value img base r e)
    where
      go : (b : Bool) (v : Option ℕ) → (if b then option_map_or (λ v. with_number m (base + e.offset) v) v m else m) a ≡ m a
      go false v = refl
      go true None = refl
      go true (Some v) = number_elsewhere m (base + e.offset) v a o

  all_elsewhere : (m : ℕ → Option Cell) (es : List Rela) (a : ℕ) → All (λ (e : Rela). (a < base + e.offset) ⊎ (base + e.offset + 8 ≤ a)) es → fold step m es a ≡ m a
  all_elsewhere m [] a o = refl
  all_elsewhere m (e ∷ es) a o = all_elsewhere (step m e) es a (λ k d l. o (suc k) d (omega (arith, l))) ∙ step_elsewhere m e a (o 0 e (omega arith))

  -- an entry that has a value and its bytes in memory writes them
  step_there : (m : ℕ → Option Cell) (e : Rela) (j : ℕ) → is_covered img e.offset ≡ true → is_some (rela_value img base r e) ≡ true → j < 8 → is_some (m (base + e.offset + j)) ≡ true
      → option_map (λ (c : Cell). c.byte) (step m e (base + e.offset + j)) ≡ Some (byte_of (unwrap_or (rela_value img base r e) 0) j)
  step_there m e j covered known h some = rw covered (go (rela_value img base r e) known)
    where
      go : (v : Option ℕ) → is_some v ≡ true → option_map (λ (c : Cell). c.byte) (option_map_or (λ v. with_number m (base + e.offset) v) v m (base + e.offset + j)) ≡ Some (byte_of (unwrap_or v 0) j)
      go None k = cc
      go (Some v) k = number_there m (base + e.offset) v j h some

  away : (x e : Rela) (j : ℕ) → EntriesApart x e → j < 8 → (base + e.offset + j < base + x.offset) ⊎ (base + x.offset + 8 ≤ base + e.offset + j)
  away x e j (inl h) l = inr (omega (arith, h))
  away x e j (inr h) l = inl (omega (arith, h, l))

  away_back : (x e : Rela) (j : ℕ) → EntriesApart e x → j < 8 → (base + e.offset + j < base + x.offset) ⊎ (base + x.offset + 8 ≤ base + e.offset + j)
  away_back x e j (inl h) l = inl (omega (arith, h, l))
  away_back x e j (inr h) l = inr (omega (arith, h))

  -- the bytes of each entry behind all of them
  entry_there : (m : ℕ → Option Cell) (es : List Rela) → All (λ e. is_covered img e.offset ≡ true) es → All (λ e. is_some (rela_value img base r e) ≡ true) es → AllPairs EntriesApart es
      → (i : ℕ) (d : Rela) → i < length es → (j : ℕ) → j < 8 → is_some (m (base + (get_or es i d).offset + j)) ≡ true
      → option_map (λ (c : Cell). c.byte) (fold step m es (base + (get_or es i d).offset + j)) ≡ Some (byte_of (unwrap_or (rela_value img base r (get_or es i d)) 0) j)
  entry_there m [] covered known apart i d h j l some = absurd (omega (arith, h))
  entry_there m (e ∷ es) covered known apart zero d h j l some =
      ap (option_map (λ (c : Cell). c.byte)) (all_elsewhere (step m e) es (base + e.offset + j) (λ k f q. away_back (get_or es k f) e j (apart 0 (suc k) f (omega arith) (omega (arith, q))) l))
      ∙ step_there m e j (covered 0 e (omega arith)) (known 0 e (omega arith)) l some
  entry_there m (e ∷ es) covered known apart (suc i) d h j l some =
      let x = get_or es i d in
      let kept = step_elsewhere m e (base + x.offset + j) (away e x j (apart 0 (suc i) d (omega arith) (omega (arith, h))) l) in
      entry_there (step m e) es (λ k f q. covered (suc k) f (omega (arith, q))) (λ k f q. known (suc k) f (omega (arith, q))) (λ k q f p s. apart (suc k) (suc q) f (omega (arith, p)) (omega (arith, s)))
      i d (omega (arith, h)) j l (ap is_some kept ∙ some)

  -- the file's bytes, moved
  moved_is : (a : ℕ) → moved img base (base + a) ≡ mem img a
  moved_is a =
      let past : nat_lt (base + a) base ≡ false = le-ltb (base + a) base (omega arith) in
      let back : base + a - base ≡ a = omega arith in rw (past, back) refl

  byte_of_cell : (o : Option Cell) (b : ℕ) → option_map (λ (c : Cell). c.byte) o ≡ Some b → option_map_or (λ (c : Cell). c.byte) o 0 ≡ b
  byte_of_cell None b e = cc
  byte_of_cell (Some c) b e = cc

-- what is covered is in memory
found_some : {X : Type 0} (t : X → Bool) (xs : List X) (x : X) → In x xs → t x ≡ true → is_some (find t xs) ≡ true
found_some t [] x i e = elim i [ ]
found_some t (y ∷ ys) x here e = rw e refl
found_some t (y ∷ ys) x (there i) e = elim (cases_Bool (t y)) [ inl f ↦ rw f refl | inr f ↦ rw f (found_some t ys x i e) ]

both : (b c d : Bool) → (b && (c && d)) ≡ true → (b ≡ true) × (c ≡ true) × (d ≡ true)
both true true d e = (refl, refl, e)
both true false d e = cc
both false c d e = cc

-- a header that covers eight bytes covers each of them
abbrev covers_eight : ℕ → Phdr → Bool
covers_eight a s = (s.kind == PT_LOAD) && (nat_le s.vaddr a && nat_le (a + 8) (s.vaddr + s.memsz))

covers_each : (a j : ℕ) → j < 8 → (s : Phdr) → covers_eight a s ≡ true → covers (a + j) s ≡ true
covers_each a j h s f =
    let w = both (s.kind == PT_LOAD) (nat_le s.vaddr a) (nat_le (a + 8) (s.vaddr + s.memsz)) f in
    let low : s.vaddr ≤ a = leb-true s.vaddr a w.1 in
    let high : a + 8 ≤ s.vaddr + s.memsz = leb-true (a + 8) (s.vaddr + s.memsz) w.2 in
    let from : nat_le s.vaddr (a + j) ≡ true = le-leb s.vaddr (a + j) (omega (arith, low)) in
    let to : nat_lt (a + j) (s.vaddr + s.memsz) ≡ true = lt-ltb (a + j) (s.vaddr + s.memsz) (omega (arith, high, h)) in
    rw (w.0, from, to) refl

covered_one : (a j : ℕ) → j < 8 → (ss : List Phdr) → list_any (covers_eight a) ss ≡ true → is_some (find (covers (a + j)) ss) ≡ true
covered_one a j h ss e = let r = any_in (covers_eight a) ss e in found_some (covers (a + j)) ss r.0 r.1 (covers_each a j h r.0 r.2)

covered_some : (img : List ℕ) (a j : ℕ) → j < 8 → is_covered img a ≡ true → is_some (mem img (a + j)) ≡ true
covered_some img a j h e = go (find (covers (a + j)) (segments img)) (covered_one a j h (segments img) e)
  where
    go : (o : Option Phdr) → is_some o ≡ true → is_some (option_map (Rattle.kl_model.specs.Memory.cell_in img (a + j)) o) ≡ true
    go None f = cc
    go (Some s) f = refl

-- THE LAW
pub carried_out : EntriesCarriedOut
carried_out img base r es = record {
  entries = λ i d h.
      let e = get_or (relas img) i d in
      num_in_bytes (loaded img base r) (base + e.offset) 8 (unwrap_or (rela_value img base r e) 0) (λ j l.
      let place : base + e.offset + j ≡ base + (e.offset + j) = omega arith in
      let some : is_some (moved img base (base + e.offset + j)) ≡ true = rw place (ap is_some (moved_is img base r (e.offset + j)) ∙ covered_some img e.offset j l (es.covered i d h)) in
      byte_of_cell img base r (loaded img base r (base + e.offset + j)) (byte_of (unwrap_or (rela_value img base r e) 0) j)
      (entry_there img base r (moved img base) (relas img) es.covered es.known es.apart i d h j l some));
  others = λ a w out.
      num_in_same (loaded img base r) (mem img) (base + a) a w (λ j l.
      let place : base + a + j ≡ base + (a + j) = omega arith in
      ap (λ (o : Option Cell). option_map_or (λ (c : Cell). c.byte) o 0)
      (all_elsewhere img base r (moved img base) (relas img) (base + a + j) (λ k e q. outside (get_or (relas img) k e) a w j (out k e q) l)
      ∙ (ap (moved img base) place ∙ moved_is img base r (a + j))));
}
  where
    outside : (e : Rela) (a w j : ℕ) → AreApart a w e.offset 8 → j < w → (base + a + j < base + e.offset) ⊎ (base + e.offset + 8 ≤ base + a + j)
    outside e a w j (inl h) l = inl (omega (arith, h, l))
    outside e a w j (inr h) l = inr (omega (arith, h))
