-- What is found in the file of a library at the addresses of a class.
use Rattle.std.proofs.Common.{ℕ, ◌≡◌, ◌+◌, ◌-◌, ◌*◌, ◌<◌, ◌≤◌, ◌∙◌, List, [], ◌∷◌, ◌++◌, length, refl, ap, sym, arith, Bool, true, false, not, nat_eq, ◌&&◌, inl, inr, ◌⊎◌}
use Rattle.std.specs.Prelude.{Option, Some, find, slice_index, max, ◌==◌, nat_le}
use Rattle.std.specs.Option.{option_map}
use Rattle.std.proofs.lemmas.Bool.{le-leb, lt-leb, ne_eqb}
use Rattle.std.proofs.Math.Nat.{le-max_left, le-max_right}
use Rattle.kl_base.specs.declared.class.Class.{Class}
use Rattle.kl_base.specs.declared.class.Class.TheVariants.{Text, Rodata, Rwdata, Bss}
use Rattle.kl_elf.specs.declared.records.Phdr.{Phdr}
use Rattle.kl_model.specs.Areas.{class_number}
use Rattle.kl_model.specs.Carries.{AreaHolds, HasByte, InArea, class_segments, class_size, dynamic_segment, ends_at, file_end, headers_segment, is_in_file, library_segment, library_segments, permission, segments_for}
use Rattle.kl_model.specs.Laid.{area_at}
use Rattle.kl_model.specs.Lists.{only_if}
use Rattle.kl_model.specs.Loaded.{file_at, has_in_file}
use Rattle.kl_model.specs.Memory.{Cell, mem, segments}
use Rattle.kl_model.specs.declared.kit.KitKind.TheVariants.{Library}
use Rattle.kl_model.specs.declared.place.Placement.{Placement}
use Rattle.kl_model.proofs.ClassMemory.{InOrder}
use Rattle.kl_model.proofs.Covered.{In, here, there}
use Rattle.kl_write.proofs.FileBytes.{file_end_some}
use Rattle.kl_write.proofs.FileSegments.{headers_size, in_segments, length-library, mem_file}
use Rattle.kl_write.proofs.ReadHeaders.{HasAt}

-- a header that fails a test is passed over
find_skip : (t : Phdr → Bool) (b : Bool) (x : Phdr) (ys : List Phdr) → t x ≡ false → find t (only_if b x ++ ys) ≡ find t ys
find_skip t true x ys e = rw e refl
find_skip t false x ys e = refl

find_hit : (t : Phdr → Bool) (b : Bool) (x : Phdr) (ys : List Phdr) → b ≡ true → t x ≡ true → find t (only_if b x ++ ys) ≡ Some x
find_hit t true x ys h e = rw e refl
find_hit t false x ys h e = cc

-- n bytes from an address on stand before or past what a header has in the file
not_there : (a n from size : ℕ) → 0 < n → (a + n ≤ from) ⊎ (from + size ≤ a) → (nat_le from a && nat_le (a + n) (from + size)) ≡ false
not_there a n from size some (inl h) = let none : nat_le from a ≡ false = lt-leb from a (omega (arith, some, h)) in rw none refl
not_there a n from size some (inr h) = let none : nat_le (a + n) (from + size) ≡ false = lt-leb (a + n) (from + size) (omega (arith, some, h)) in both (nat_le from a) (nat_le (a + n) (from + size)) none
  where
    both : (x y : Bool) → y ≡ false → (x && y) ≡ false
    both true y e = e
    both false y e = refl

-- the end of a header's bytes is at most that of the file
past_end : (n : ℕ) (ss : List Phdr) → n ≤ ends_at n ss
past_end n [] = omega arith
past_end n (s ∷ ss) = omega (arith, le-max_left n (file_end s), past_end (max n (file_end s)) ss)

le_ends : (n : ℕ) (ss : List Phdr) (s : Phdr) → In s ss → file_end s ≤ ends_at n ss
le_ends n [] s i = elim i [ ]
le_ends n (t ∷ ts) s here = omega (arith, le-max_right n (file_end s), past_end (max n (file_end s)) ts)
le_ends n (t ∷ ts) s (there i) = le_ends (max n (file_end t)) ts s i

abbrev cell : ℕ → ℕ → Cell
cell x f = record { byte = x; flags = f }

same_cell : (u v : Cell) → Some u ≡ Some v → u.byte ≡ v.byte
same_cell u v e = cc

cell_byte : (m : Option Cell) (x y f h : ℕ) → m ≡ Some (cell x f) → m ≡ Some (cell y h) → x ≡ y
cell_byte m x y f h e i = same_cell (cell x f) (cell y h) (sym e ∙ i)

-- a library's file with its headers
module _ (img : List ℕ) (p : Placement) (n : ℕ) (base : p.base ≡ 0) (o : InOrder p) (front : headers_size (library_segments n p) ≤ (area_at p 0).start)
    (headers : segments img ≡ library_segments n p) (len : length img ≡ ends_at (64 + 56 * length (library_segments n p)) (library_segments n p)) where
  placed_front : headers_size (segments_for Library n p) ≤ 0 + ((area_at p 0).start - p.base)
  placed_front = omega (arith, front, base)

  -- the byte of the file at an address of a class is that of memory
  pub file_byte : (c : Class) (a b : ℕ) → is_in_file c ≡ true → InArea p (class_number c) a → HasByte img a b c → slice_index img a ≡ b
  file_byte c a b f w h =
      let place : 0 + (a - p.base) ≡ a = omega (arith, base) in
      let held = mem_file img Library n p (λ e. base) placed_front o headers c a f w in
      let here_is : mem img a ≡ Some (record { byte = slice_index img a; flags = permission c }) = rw place at held in
      cell_byte (mem img a) (slice_index img a) b (permission c) (permission c) here_is h

  -- those of an area that holds bytes
  pub area_bytes : (c : Class) (k : ℕ) (bytes : List ℕ) → is_in_file c ≡ true → AreaHolds img p k c bytes
      → ((j : ℕ) → j < length bytes → InArea p (class_number c) ((area_at p k).start + j)) → HasAt img (area_at p k).start bytes
  area_bytes c k bytes f h w j l = file_byte c ((area_at p k).start + j) (slice_index bytes j) f (w j l) (h j l)

  -- where bytes of rodata stand
  pub rodata_at : (a k : ℕ) → 0 < k → (area_at p 1).start ≤ a → a + k ≤ (area_at p 1).end → file_at img a k ≡ Some a
  rodata_at a k some from to =
      let s = library_segment n p in
      let t = has_in_file a k in
      let size = length-library n p in
      let text = o.text in let after = o.rodata_from in
      let head_not : t (headers_segment n (64 + 56 * (2 + length (class_segments n p)))) ≡ false = not_there a k 0 (64 + 56 * (2 + length (class_segments n p))) some (inr (omega (arith, front, size, text, after, from))) in
      let text_not : t (s Text) ≡ false = not_there a k (area_at p 0).start (class_size p Text) some (inr (omega (arith, text, after, from))) in
      let some_size : nat_eq (class_size p Rodata) 0 ≡ false = ne_eqb (class_size p Rodata) 0 (λ e. omega (arith, e, some, from, to)) in
      let some_is : not (class_size p Rodata == 0) ≡ true = rw some_size refl in
      let is_from : nat_le (area_at p 1).start a ≡ true = le-leb (area_at p 1).start a from in
      let is_to : nat_le (a + k) ((area_at p 1).start + class_size p Rodata) ≡ true = le-leb (a + k) ((area_at p 1).start + class_size p Rodata) (omega (arith, from, to)) in
      let rodata_is : t (s Rodata) ≡ true = rw (is_from, is_to) refl in
      let after_rodata : List Phdr = only_if (not (class_size p Rwdata == 0)) (s Rwdata) ++ (only_if (not (class_size p Bss == 0)) (s Bss) ++ []) in
      let found_class : find t ((only_if (not (class_size p Text == 0)) (s Text) ++ (only_if (not (class_size p Rodata == 0)) (s Rodata) ++ after_rodata)) ++ dynamic_segment p ∷ []) ≡ Some (s Rodata) =
      find_text t (s Text) (s Rodata) after_rodata text_not some_is rodata_is in
      let whole : find t (library_segments n p) ≡ Some (s Rodata) = rw head_not found_class in
      let back : (area_at p 1).start + (a - (area_at p 1).start) ≡ a = omega (arith, from) in
      ap (λ ss. option_map (λ s. s.offset + (a - s.vaddr)) (find t ss)) headers ∙ (ap (option_map (λ s. s.offset + (a - s.vaddr))) whole ∙ ap Some back)
    where
      find_text : (t : Phdr → Bool) (x y : Phdr) (zs : List Phdr) → t x ≡ false → not (class_size p Rodata == 0) ≡ true → t y ≡ true
          → find t ((only_if (not (class_size p Text == 0)) x ++ (only_if (not (class_size p Rodata == 0)) y ++ zs)) ++ dynamic_segment p ∷ []) ≡ Some y
      find_text t x y zs e b h = go (not (class_size p Text == 0)) (not (class_size p Rodata == 0)) b
        where
          go : (c d : Bool) → d ≡ true → find t ((only_if c x ++ (only_if d y ++ zs)) ++ dynamic_segment p ∷ []) ≡ Some y
          go true true d = rw (e, h) refl
          go false true d = rw h refl
          go c false d = cc

  -- the header of the dynamic section
  pub dynamic_found : find (λ s. s.kind == 2) (segments img) ≡ Some (dynamic_segment p)
  dynamic_found = ap (find (λ s. s.kind == 2)) headers ∙ go (not (class_size p Text == 0)) (not (class_size p Rodata == 0)) (not (class_size p Rwdata == 0)) (not (class_size p Bss == 0))
    where
      go : (a b c d : Bool)
          → find (λ s. s.kind == 2) ((only_if a (library_segment n p Text) ++ (only_if b (library_segment n p Rodata) ++ (only_if c (library_segment n p Rwdata) ++ (only_if d (library_segment n p Bss) ++ []))))
          ++ dynamic_segment p ∷ []) ≡ Some (dynamic_segment p)
      go true true true true = refl
      go true true true false = refl
      go true true false true = refl
      go true true false false = refl
      go true false true true = refl
      go true false true false = refl
      go true false false true = refl
      go true false false false = refl
      go false true true true = refl
      go false true true false = refl
      go false true false true = refl
      go false true false false = refl
      go false false true true = refl
      go false false true false = refl
      go false false false true = refl
      go false false false false = refl

  -- the file has all of rodata
  pub rodata_inside : (a : ℕ) → InArea p 1 a → (area_at p 1).end ≤ length img
  rodata_inside a w =
      let i = in_segments Library n p Rodata a w in
      let ends = le_ends (64 + 56 * length (library_segments n p)) (library_segments n p) (library_segment n p Rodata) i in
      let is = file_end_some (library_segment n p Rodata) (omega (arith, w.0, w.1)) in
      omega (arith, len, ends, is, w.0, w.1)
