-- What the file of an image made place by place has at the addresses of a class, and what memory has there.
use Rattle.std.proofs.Common.{ℕ, ◌≡◌, ◌+◌, ◌-◌, ◌<◌, ◌≤◌, ◌∙◌, List, [], ◌∷◌, length, refl, ap, arith, Bool, true, false, ◌&&◌, inl, inr, ◌⊎◌, nat_eq}
use Rattle.std.specs.Prelude.{Some, Option, IsSomeAnd, find, slice_index, max, nat_lt}
use Rattle.std.proofs.lemmas.Bool.{le-ltb, le-leb, lt-leb, ne_eqb}
use Rattle.std.proofs.Math.Nat.{le-max_left, le-max_right}
use Rattle.kl_base.specs.declared.class.Class.{Class}
use Rattle.kl_base.specs.declared.class.Class.TheVariants.{Text, Rodata, Rwdata, Bss}
use Rattle.kl_elf.specs.declared.records.Phdr.{Phdr}
use Rattle.kl_model.specs.Areas.{class_number}
use Rattle.kl_model.specs.Memory.{mem, segments}
use Rattle.kl_model.specs.Carries.{HasByte, InArea, class_size, ends_at, file_end, is_in_file, offset_for, permission}
use Rattle.kl_model.specs.Image.{byte_at, class_on, head_bytes, image_byte, image_bytes, image_size, is_within, phdrs}
use Rattle.kl_model.specs.Laid.{area_at}
use Rattle.kl_model.specs.Line.{classes}
use Rattle.kl_model.specs.Sizes.{page_of}
use Rattle.kl_model.proofs.ImageBytes.{image_at, within_is}
use Rattle.kl_model.proofs.ClassMemory.{InOrder, start_past_base}
use Rattle.kl_model.proofs.Covered.{In, here, there}
use Rattle.kl_model.specs.declared.kit.KitKind.{KitKind}
use Rattle.kl_model.specs.declared.kit.KitKind.TheVariants.{Library}
use Rattle.kl_write.specs.Segments.{segment_by}
use Rattle.kl_write.proofs.FileSegments.{headers_size, in_segments, mem_bss, mem_file, mem_flags, offset_is, past_text, segment_filesz, segment_offset}
use Rattle.kl_write.specs.Writes.{file_place}
use Rattle.kl_model.specs.declared.place.Gaps.{Gaps}
use Rattle.kl_model.specs.declared.place.Placement.{Placement}
use Rattle.kl_model.specs.declared.graph.Graph.{Graph}
use Rattle.kl_model.specs.declared.object.Input.{Input}
use Rattle.kl_model.specs.declared.kit.Kit.{Kit}

pub within_not : (at n x : ℕ) → (x < at) ⊎ (at + n ≤ x) → is_within at n x ≡ false
within_not at n x (inl h) = rw (lt-leb at x h) refl
within_not at n x (inr h) = let past : at ≤ x = omega arith in rw (le-leb at x past, le-ltb x (at + n) h) refl

-- a class ends before a later one starts
pub ends_before : (p : Placement) (d c : Class) → InOrder p → class_number d < class_number c → (area_at p (class_number d)).end ≤ (area_at p (class_number c)).start
ends_before p Text Text o h = absurd (omega arith)
ends_before p Text Rodata o h = omega (arith, o.rodata_from)
ends_before p Text Rwdata o h = omega (arith, o.rodata_from, o.rodata, o.rwdata_from)
ends_before p Text Bss o h = omega (arith, o.rodata_from, o.rodata, o.rwdata_from, o.rwdata, o.bss_from)
ends_before p Rodata Text o h = absurd (omega arith)
ends_before p Rodata Rodata o h = absurd (omega arith)
ends_before p Rodata Rwdata o h = omega (arith, o.rwdata_from)
ends_before p Rodata Bss o h = omega (arith, o.rwdata_from, o.rwdata, o.bss_from)
ends_before p Rwdata Text o h = absurd (omega arith)
ends_before p Rwdata Rodata o h = absurd (omega arith)
ends_before p Rwdata Rwdata o h = absurd (omega arith)
ends_before p Rwdata Bss o h = omega (arith, o.bss_from)
ends_before p Bss Text o h = absurd (omega arith)
ends_before p Bss Rodata o h = absurd (omega arith)
ends_before p Bss Rwdata o h = absurd (omega arith)
ends_before p Bss Bss o h = absurd (omega arith)

pub has_order : (p : Placement) (c : Class) → InOrder p → (area_at p (class_number c)).start ≤ (area_at p (class_number c)).end
has_order p Text o = o.text
has_order p Rodata o = o.rodata
has_order p Rwdata o = o.rwdata
has_order p Bss o = o.bss

-- the class of a test that no earlier class passes
pub find_class_by : (t : Class → Bool) (c : Class) → t c ≡ true → ((d : Class) → class_number d < class_number c → t d ≡ false) → find t classes ≡ Some c
find_class_by t Text h n = rw h refl
find_class_by t Rodata h n = rw (n Text (omega arith), h) refl
find_class_by t Rwdata h n = rw (n Text (omega arith), n Rodata (omega arith), h) refl
find_class_by t Bss h n = rw (n Text (omega arith), n Rodata (omega arith), n Rwdata (omega arith), h) refl

pub and_false : (a b : Bool) → b ≡ false → (a && b) ≡ false
and_false true b e = e
and_false false b e = refl

pub and_true : (a b : Bool) → a ≡ true → b ≡ true → (a && b) ≡ true
and_true true b e f = f
and_true false b e f = cc

-- the class in the file that has the place of an address
pub find_file_class : (k : KitKind) (p : Placement) (c : Class) (a : ℕ) → (k ≡ Library → p.base ≡ 0) → InOrder p → is_in_file c ≡ true → InArea p (class_number c) a
    → find (λ c. is_in_file c && is_within (offset_for k p c) (class_size p c) (file_place k p a)) classes ≡ Some c
find_file_class k p c a zero o f w =
    let past = start_past_base p c o in
    let q = file_place k p a in
    let here = offset_is k p c zero in
    find_class_by (λ c. is_in_file c && is_within (offset_for k p c) (class_size p c) q) c
    (and_true (is_in_file c) (is_within (offset_for k p c) (class_size p c) q) f (within_is (offset_for k p c) (class_size p c) q (omega (arith, here, past, w.0), omega (arith, here, past, w.0, w.1))))
    (λ d l. and_false (is_in_file d) (is_within (offset_for k p d) (class_size p d) q) (within_not (offset_for k p d) (class_size p d) q (inr (
    let there = offset_is k p d zero in let base = start_past_base p d o in let ordered = has_order p d o in let before = ends_before p d c o l in
    omega (arith, there, past, w.0, base, ordered, before)))))

-- every header ends within the file
pub le-ends : (n : ℕ) (ss : List Phdr) → n ≤ ends_at n ss
le-ends n [] = omega arith
le-ends n (s ∷ ss) = omega (arith, le-max_left n (file_end s), le-ends (max n (file_end s)) ss)

pub ends-in : (n : ℕ) (ss : List Phdr) (s : Phdr) → In s ss → file_end s ≤ ends_at n ss
ends-in n [] s i = elim i [ ]
ends-in n (t ∷ ss) s here = omega (arith, le-max_right n (file_end s), le-ends (max n (file_end s)) ss)
ends-in n (t ∷ ss) s (there i) = ends-in (max n (file_end t)) ss s i

pub file_end_some : (s : Phdr) → 0 < s.filesz → file_end s ≡ s.offset + s.filesz
file_end_some s h = let some : nat_eq s.filesz 0 ≡ false = ne_eqb s.filesz 0 (λ e. omega (arith, e, h)) in rw some refl

-- the headers of an image stand before text, and are read again
pub record HeadersRead (kit : Kit) (inputs : List Input) (g : Graph) (gaps : Option Gaps) (p : Placement) : Type 0 where
  pub front : length (head_bytes kit inputs g gaps p) ≤ file_place kit.kind p (area_at p 0).start
  pub size : length (head_bytes kit inputs g gaps p) ≡ headers_size (phdrs kit inputs g gaps p)
  pub headers : segments (image_bytes kit inputs g gaps p) ≡ phdrs kit inputs g gaps p

module _ (kit : Kit) (inputs : List Input) (g : Graph) (gaps : Option Gaps) (p : Placement) (zero : kit.kind ≡ Library → p.base ≡ 0) (o : InOrder p) where
  abbrev k : KitKind
  k = kit.kind

  abbrev ss : List Phdr
  ss = phdrs kit inputs g gaps p

  pub in_size : (c : Class) (a : ℕ) → is_in_file c ≡ true → InArea p (class_number c) a → file_place kit.kind p a < image_size kit inputs g gaps p
  in_size c a f w =
      let past = start_past_base p c o in
      let n = length (head_bytes kit inputs g gaps p) in
      let s = segment_by k (page_of kit g) p c in
      let size = segment_filesz k (page_of kit g) p c f in
      let some : 0 < s.filesz = rw size (omega (arith, w.0, w.1)) in
      omega (
        arith,
        size,
        past,
        w.0,
        w.1,
        segment_offset k (page_of kit g) p c,
        offset_is k p c zero,
        file_end_some s some,
        ends-in n ss s (in_segments k (page_of kit g) p c a w),
      )

  pub class_on_is : (c : Class) (a : ℕ) → is_in_file c ≡ true → InArea p (class_number c) a → class_on kit inputs g gaps p (file_place kit.kind p a) ≡ Some c
  class_on_is c a f w = find_file_class k p c a zero o f w

  -- the byte of the file at the place of an address of a class
  module _ (front : length (head_bytes kit inputs g gaps p) ≤ file_place kit.kind p (area_at p 0).start) where
    pub behind_heads : (c : Class) (a : ℕ) → InArea p (class_number c) a → length (head_bytes kit inputs g gaps p) ≤ file_place kit.kind p a
    behind_heads c a w = let past = past_text p c o in let base = start_past_base p Text o in omega (arith, front, past, base, w.0)

    pub image_there : (c : Class) (a : ℕ) → is_in_file c ≡ true → InArea p (class_number c) a → image_byte kit inputs g gaps p (file_place kit.kind p a) ≡ byte_at kit inputs g gaps p c a
    image_there c a f w =
        let past = start_past_base p c o in
        let q = file_place k p a in
        let behind : nat_lt q (length (head_bytes kit inputs g gaps p)) ≡ false = le-ltb q (length (head_bytes kit inputs g gaps p)) (behind_heads c a w) in
        let offset = offset_is k p c zero in
        let back : (area_at p (class_number c)).start + (q - offset_for kit.kind p c) ≡ a = omega (arith, offset, past, w.0) in
        rw (behind, class_on_is c a f w, back) refl

    pub byte_there : (c : Class) (a : ℕ) → is_in_file c ≡ true → InArea p (class_number c) a
        → slice_index (image_bytes kit inputs g gaps p) (file_place kit.kind p a) ≡ byte_at kit inputs g gaps p c a
    byte_there c a f w = image_at kit inputs g gaps p (file_place kit.kind p a) (in_size c a f w) ∙ image_there c a f w

  -- where the headers are read
  module _ (read : HeadersRead kit inputs g gaps p) where
    sized : headers_size ss ≤ file_place k p (area_at p 0).start
    sized = let size = read.size in let front = read.front in omega (arith, size, front)

    -- memory holds the byte of the class
    pub holds_byte : (c : Class) (a : ℕ) → is_in_file c ≡ true → InArea p (class_number c) a → HasByte (image_bytes kit inputs g gaps p) a (byte_at kit inputs g gaps p c a) c
    holds_byte c a f w =
        mem_file (image_bytes kit inputs g gaps p) k (page_of kit g) p zero sized o read.headers c a f w ∙ ap (λ x. Some (record { byte = x; flags = permission c })) (byte_there read.front c a f w)

    -- and zero in bss
    pub holds_bss : (a : ℕ) → InArea p 3 a → HasByte (image_bytes kit inputs g gaps p) a 0 Bss
    holds_bss a w = mem_bss (image_bytes kit inputs g gaps p) k (page_of kit g) p zero sized o read.headers a w

    pub holds_flags : (c : Class) (a : ℕ) → InArea p (class_number c) a → IsSomeAnd (mem (image_bytes kit inputs g gaps p) a) (λ cell. cell.flags ≡ permission c)
    holds_flags c a w = mem_flags (image_bytes kit inputs g gaps p) k (page_of kit g) p zero sized o read.headers c a w
