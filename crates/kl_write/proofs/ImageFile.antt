-- The headers and the rest of the file of an image that is made place by place.
use Rattle.std.proofs.Common.{ℕ, zero, suc, ◌≡◌, ◌+◌, ◌*◌, ◌^◌, ◌<◌, ◌≤◌, ◌∙◌, List, [], ◌∷◌, ◌++◌, length, map, refl, ap, sym, subst, arith, Bool, true, false, not, nat_eq, inl, inr, ◌&&◌, length-append}
use Rattle.std.specs.Prelude.{Some, None, Option, IfSome, slice_index, flat_map, find, cond, nat_lt, ◌==◌, All}
use Rattle.std.specs.Option.{option_map_or}
use Rattle.std.proofs.lemmas.Bool.{lt-ltb, le-ltb, cases_lt, cases_Bool, ne_eqb}
use Rattle.std.proofs.lemmas.List.{get_or_past, length-map}
use Rattle.std.proofs.lemmas.List.Elements.{All-append, All-cons}
use Rattle.std.proofs.lemmas.List.FromFn.{length-map-range_with_len}
use Rattle.kl_base.specs.declared.class.Class.{Class}
use Rattle.kl_base.specs.declared.class.Class.TheVariants.{Text, Rodata, Rwdata, Bss}
use Rattle.kl_le.specs.Bytes.{Outside}
use Rattle.kl_elf.specs.Records.{ehdr_at, phdrs_from}
use Rattle.kl_elf.specs.declared.records.Ehdr.{Ehdr}
use Rattle.kl_elf.specs.declared.records.Phdr.{Phdr}
use Rattle.kl_model.specs.Areas.{class_number}
use Rattle.kl_model.specs.Memory.{segments}
use Rattle.kl_model.specs.Carries.{File, class_segments, class_size, dynamic_segment, ends_at, head_for, headers_segment, is_in_file, library_segments, offset_for, permission, segment_of, segments_for, segments_of}
use Rattle.kl_model.specs.Image.{class_on, head_bytes, image_byte, image_bytes, image_size, is_within, phdrs}
use Rattle.kl_model.specs.Laid.{area_at}
use Rattle.kl_model.specs.Leads.{address_of}
use Rattle.kl_model.specs.Line.{classes}
use Rattle.kl_model.specs.Lists.{only_if}
use Rattle.kl_model.specs.Sizes.{page_of}
use Rattle.kl_model.specs.Written.{ehdr_bytes, phdr_bytes}
use Rattle.kl_base.specs.declared.limits.TheConstants.{BASE_LIMIT, SPAN_LIMIT}
use Rattle.kl_model.proofs.ImageBytes.{image_at}
use Rattle.kl_model.proofs.ClassMemory.{InOrder, start_past_base}
use Rattle.kl_model.proofs.Covered.{In, here, there}
use Rattle.kl_model.proofs.Each.{all-only_if}
use Rattle.kl_write.proofs.FileBytes.{le-ends, ends_before, within_not, and_false}
use Rattle.kl_write.specs.Segments.{segment_by}
use Rattle.kl_write.proofs.FileSegments.{headers_size, in_segments, length-library, move_all, moved_to, segment_filesz, segment_offset}
use Rattle.kl_write.proofs.ReadHeaders.{HasAt, has_left, has_right, IsSmallPhdr, IsSmallEhdr, length-phdrs, read_ehdr, read_phdrs}
use Rattle.kl_model.specs.declared.kit.KitKind.{KitKind}
use Rattle.kl_model.specs.declared.kit.KitKind.TheVariants.{Kernel, Library}
use Rattle.kl_model.specs.declared.place.Gaps.{Gaps}
use Rattle.kl_model.specs.declared.place.Placement.{Placement}
use Rattle.kl_model.specs.declared.graph.Graph.{Graph}
use Rattle.kl_model.specs.declared.graph.Target.{Target}
use Rattle.kl_model.specs.declared.object.Input.{Input}
use Rattle.kl_model.specs.declared.kit.Kit.{Kit}

pub all_in : {X : Type 0} (P : X → Type 0) (xs : List X) (x : X) → All P xs → In x xs → P x
all_in P [] x h i = elim i [ ]
all_in P (y ∷ ys) x h here = h 0 x (omega arith)
all_in P (y ∷ ys) x h (there i) = all_in P ys x (λ k d l. h (suc k) d (omega (arith, l))) i

-- no class passes a test
pub find_no_class : (t : Class → Bool) → ((d : Class) → t d ≡ false) → find t classes ≡ None
find_no_class t n = rw (n Text, n Rodata, n Rwdata, n Bss) refl

pub le_top : (p : Placement) (c : Class) → InOrder p → (area_at p (class_number c)).end ≤ (area_at p 3).end
le_top p Text o = omega (arith, ends_before p Text Bss o (omega arith), o.bss)
le_top p Rodata o = omega (arith, ends_before p Rodata Bss o (omega arith), o.bss)
le_top p Rwdata o = omega (arith, ends_before p Rwdata Bss o (omega arith), o.bss)
le_top p Bss o = omega arith

size_pos : (n : ℕ) → not (n == 0) ≡ true → 0 < n
size_pos zero e = cc
size_pos (suc n) e = omega arith

le-cond : (b : Bool) (n : ℕ) → cond b n 0 ≤ n
le-cond true n = omega arith
le-cond false n = omega arith

small_flags : (c : Class) → permission c < 256 ^ 4
small_flags Text = omega arith
small_flags Rodata = omega arith
small_flags Rwdata = omega arith
small_flags Bss = omega arith

length-only_if : {X : Type 0} (b : Bool) (x : X) → length (only_if b x) ≤ 1
length-only_if true x = omega arith
length-only_if false x = omega arith

some_of : Placement → Class → List Phdr
some_of p c = only_if (not (class_size p c == 0)) (segment_of p c)

four : (p : Placement) → segments_of p ≡ some_of p Text ++ (some_of p Rodata ++ (some_of p Rwdata ++ (some_of p Bss ++ [])))
unfolding some_of
four p = refl

read_some : (b : List ℕ) (ss : List Phdr) → All IsSmallPhdr ss → HasAt b 64 (flat_map phdr_bytes ss) → phdrs_from b (cond (length ss == 0) 0 64) (length ss) ≡ ss
read_some b [] f h = refl
read_some b (s ∷ ss) f h = let some : nat_eq (suc (length ss)) 0 ≡ false = ne_eqb (suc (length ss)) 0 (λ e. omega (arith, e)) in rw some (read_phdrs b 64 (s ∷ ss) f h)

small_off : (n : ℕ) → cond (n == 0) 0 64 < 256 ^ 8
small_off zero = omega arith
small_off (suc n) = let some : nat_eq (suc n) 0 ≡ false = ne_eqb (suc n) 0 (λ e. omega (arith, e)) in rw some (omega arith)

module _ (p : Placement) (o : InOrder p) (limit : p.base ≤ BASE_LIMIT) (top : (area_at p 3).end ≤ p.base + SPAN_LIMIT) where
  small_one : (c : Class) → 0 < class_size p c → IsSmallPhdr (segment_of p c)
  small_one c h =
      let past = start_past_base p c o in
      let end = le_top p c o in
      let size : class_size p c ≤ SPAN_LIMIT = omega (arith, past, end, top) in
      record {
        kind = omega arith;
        flags = small_flags c;
        offset = omega (arith, past, end, top, h);
        vaddr = omega (arith, end, top, h, limit);
        paddr = omega (arith, end, top, h, limit);
        filesz = omega (arith, le-cond (is_in_file c) (class_size p c), size);
        memsz = omega (arith, size);
        align = omega arith;
      }

  small_some : (c : Class) → All IsSmallPhdr (some_of p c)
  unfolding some_of
  small_some c = all-only_if IsSmallPhdr (not (class_size p c == 0)) (segment_of p c) (λ e. small_one c (size_pos (class_size p c) e))

  no_phdr : All IsSmallPhdr []
  no_phdr k d l = absurd (omega arith)

  pub small_segments : All IsSmallPhdr (segments_of p)
  small_segments =
      rw (four p) (All-append IsSmallPhdr (some_of p Text) _ (small_some Text) (All-append IsSmallPhdr (some_of p Rodata) _ (small_some Rodata)
      (All-append IsSmallPhdr (some_of p Rwdata) _ (small_some Rwdata) (All-append IsSmallPhdr (some_of p Bss) [] (small_some Bss) no_phdr))))

  len_some : (c : Class) → length (some_of p c) ≤ 1
  unfolding some_of
  len_some c = length-only_if (not (class_size p c == 0)) (segment_of p c)

  pub few_segments : length (segments_of p) ≤ 4
  few_segments =
      let e : length (segments_of p) ≡ length (some_of p Text ++ (some_of p Rodata ++ (some_of p Rwdata ++ (some_of p Bss ++ [])))) = ap length (four p) in
      omega (
        arith,
        e,
        length-append (some_of p Text) (some_of p Rodata ++ (some_of p Rwdata ++ (some_of p Bss ++ []))),
        length-append (some_of p Rodata) (some_of p Rwdata ++ (some_of p Bss ++ [])),
        length-append (some_of p Rwdata) (some_of p Bss ++ []),
        length-append (some_of p Bss) [],
        len_some Text,
        len_some Rodata,
        len_some Rwdata,
        len_some Bss,
      )

  -- those of a library
  small_moved_one : (n : ℕ) → n < 256 ^ 8 → (s : Phdr) → IsSmallPhdr s → IsSmallPhdr (moved_to n s)
  small_moved_one n h s f =
      record { kind = f.kind; flags = f.flags; offset = f.vaddr; vaddr = f.vaddr; paddr = f.paddr; filesz = f.filesz; memsz = f.memsz; align = h }

  small_moved : (n : ℕ) → n < 256 ^ 8 → (ss : List Phdr) → All IsSmallPhdr ss → All IsSmallPhdr (map (moved_to n) ss)
  small_moved n h [] a = no_phdr
  small_moved n h (s ∷ ss) a =
      All-cons IsSmallPhdr (moved_to n s) (map (moved_to n) ss) (small_moved_one n h s (a 0 s (omega arith))) (small_moved n h ss (λ j e m. a (suc j) e (omega (arith, m))))

  -- the dynamic section stands at numbers of 64 bits
  abbrev pub HasDynamic : Type 0
  HasDynamic = ((area_at p 14).start < 2 ^ 64) × ((area_at p 14).end < 2 ^ 64)

  module _ (n : ℕ) (page : n < 256 ^ 8) where
    length-between : length (class_segments n p) ≤ 4
    length-between = omega (arith, ap length (move_all n p classes), length-map (segments_of p) (moved_to n), few_segments)

    small_front : IsSmallPhdr (headers_segment n (64 + 56 * (2 + length (class_segments n p))))
    small_front = record {
      kind = omega arith;
      flags = omega arith;
      offset = omega arith;
      vaddr = omega arith;
      paddr = omega arith;
      filesz = omega (arith, length-between);
      memsz = omega (arith, length-between);
      align = page;
    }

    small_dynamic : HasDynamic → IsSmallPhdr (dynamic_segment p)
    small_dynamic dynamic = record {
      kind = omega arith;
      flags = omega arith;
      offset = omega (arith, dynamic.0);
      vaddr = omega (arith, dynamic.0);
      paddr = omega (arith, dynamic.0);
      filesz = omega (arith, dynamic.1);
      memsz = omega (arith, dynamic.1);
      align = omega arith;
    }

    pub small_all : (k : KitKind) → (k ≡ Library → HasDynamic) → All IsSmallPhdr (segments_for k n p)
    small_all Kernel dynamic = small_segments
    small_all Library dynamic =
        All-cons IsSmallPhdr _ _ small_front
        (All-append IsSmallPhdr (class_segments n p) (dynamic_segment p ∷ []) (subst (All IsSmallPhdr) (sym (move_all n p classes)) (small_moved n page (segments_of p) small_segments))
        (All-cons IsSmallPhdr (dynamic_segment p) [] (small_dynamic (dynamic refl)) no_phdr))

    pub few_all : (k : KitKind) → length (segments_for k n p) ≤ 6
    few_all Kernel = omega (arith, few_segments)
    few_all Library = omega (arith, length-library n p, length-between)

  small_entry : (g : Graph) (e : Option Target) → IfSome e (λ t. address_of p g t < 2 ^ 64) → option_map_or (address_of p g) e 0 < 256 ^ 8
  small_entry g None h = omega arith
  small_entry g (Some t) h = omega (arith, h)

  small_head : (k : KitKind) (ss : List Phdr) (g : Graph) → length ss ≤ 6 → IfSome g.entry (λ t. address_of p g t < 2 ^ 64) → IsSmallEhdr (head_for k ss p g)
  small_head Kernel ss g few h = record {
    ident = refl;
    kind = omega arith;
    machine = omega arith;
    version = omega arith;
    entry = small_entry g g.entry h;
    phoff = small_off (length (segments_of p));
    shoff = omega arith;
    flags = omega arith;
    ehsize = omega arith;
    phentsize = omega arith;
    phnum = omega (arith, few_segments);
    shentsize = omega arith;
    shnum = omega arith;
    shstrndx = omega arith;
  }
  small_head Library ss g few h = record {
    ident = refl;
    kind = omega arith;
    machine = omega arith;
    version = omega arith;
    entry = small_entry g g.entry h;
    phoff = omega arith;
    shoff = omega arith;
    flags = omega arith;
    ehsize = omega arith;
    phentsize = omega arith;
    phnum = omega (arith, few);
    shentsize = omega arith;
    shnum = omega arith;
    shstrndx = omega arith;
  }

  length-head : (k : KitKind) (ss : List Phdr) (g : Graph) → length (ehdr_bytes (head_for k ss p g)) ≡ 64
  length-head Kernel ss g = refl
  length-head Library ss g = refl

  -- what a header names is read again
  read_all : (b : List ℕ) (k : KitKind) (n : ℕ) (g : Graph) → All IsSmallPhdr (segments_for k n p) → HasAt b 64 (flat_map phdr_bytes (segments_for k n p))
      → phdrs_from b (head_for k (segments_for k n p) p g).phoff (head_for k (segments_for k n p) p g).phnum ≡ segments_for k n p
  read_all b Kernel n g f h = read_some b (segments_of p) f h
  read_all b Library n g f h = read_phdrs b 64 (library_segments n p) f h

  module _ (kit : Kit) (inputs : List Input) (g : Graph) (gaps : Option Gaps) (page : page_of kit g < 256 ^ 8)
      (dynamic : kit.kind ≡ Library → HasDynamic) (entry : IfSome g.entry (λ t. address_of p g t < 2 ^ 64)) where
    abbrev img : List ℕ
    img = image_bytes kit inputs g gaps p

    abbrev ss : List Phdr
    ss = phdrs kit inputs g gaps p

    abbrev first : Ehdr
    first = head_for kit.kind ss p g

    pub few_phdrs : length (phdrs kit inputs g gaps p) ≤ 6
    few_phdrs = few_all (page_of kit g) page kit.kind

    pub length-headers : length (head_bytes kit inputs g gaps p) ≡ headers_size (phdrs kit inputs g gaps p)
    length-headers = omega (arith, length-append (ehdr_bytes first) (flat_map phdr_bytes ss), length-head kit.kind ss g, length-phdrs ss)

    pub short_headers : length (head_bytes kit inputs g gaps p) ≤ 4096
    short_headers = omega (arith, length-headers, few_phdrs)

    has_all : HasAt img 0 (head_bytes kit inputs g gaps p)
    has_all j l =
        let z : 0 + j ≡ j = omega arith in
        let inside : j < image_size kit inputs g gaps p = omega (arith, l, le-ends (length (head_bytes kit inputs g gaps p)) (phdrs kit inputs g gaps p)) in
        rw z (image_at kit inputs g gaps p j inside ∙ rw (lt-ltb j (length (head_bytes kit inputs g gaps p)) l) refl)

    length-img : length img ≡ image_size kit inputs g gaps p
    length-img = length-map-range_with_len (image_byte kit inputs g gaps p) 0 (image_size kit inputs g gaps p)

    pub head : ehdr_at img 0 ≡ head_for kit.kind (phdrs kit inputs g gaps p) p g
    head =
        read_ehdr img first (omega (arith, length-img, length-headers, le-ends (length (head_bytes kit inputs g gaps p)) (phdrs kit inputs g gaps p)))
        (small_head kit.kind ss g few_phdrs entry) (has_left img 0 (ehdr_bytes first) (flat_map phdr_bytes ss) has_all)

    pub headers : segments img ≡ phdrs kit inputs g gaps p
    headers =
        ap (λ (h : Ehdr). phdrs_from img h.phoff h.phnum) head
        ∙ read_all img kit.kind (page_of kit g) g (small_all (page_of kit g) page kit.kind dynamic)
        (has_right img 0 64 (ehdr_bytes first) (flat_map phdr_bytes ss) (omega (arith, length-head kit.kind ss g)) has_all)

    pub len : length img ≡ ends_at (headers_size ss) ss
    len = length-img ∙ ap (λ n. ends_at n ss) length-headers

    -- what is in no class
    no_class : (k : ℕ) → All (λ s. Outside s.offset s.filesz k) ss → (d : Class) → (is_in_file d && is_within (offset_for kit.kind p d) (class_size p d) k) ≡ false
    no_class k out d =
        let at = offset_for kit.kind p d in
        let s = segment_by kit.kind (page_of kit g) p d in
        elim (cases_Bool (is_in_file d)) [
          | inr e ↦ rw e refl
          | inl e ↦ and_false (is_in_file d) (is_within at (class_size p d) k) (within_not at (class_size p d) k (elim (cases_lt 0 (class_size p d)) [
            | inl some ↦
                rw (segment_filesz kit.kind (page_of kit g) p d e, segment_offset kit.kind (page_of kit g) p d) at
                (all_in (λ s. Outside s.offset s.filesz k) ss s out (in_segments kit.kind (page_of kit g) p d (area_at p (class_number d)).start (omega arith, omega (arith, some))))
            | inr none ↦ elim (cases_lt k at) [ inl x ↦ inl x | inr x ↦ inr (omega (arith, x, none)) ]
          ]))
        ]

    pub zeros : (k : ℕ) → headers_size ss ≤ k → All (λ s. Outside s.offset s.filesz k) ss → slice_index img k ≡ 0
    zeros k h out =
        elim (cases_lt k (image_size kit inputs g gaps p)) [
          | inr past ↦ get_or_past img k 0 (omega (arith, length-img, past))
          | inl inside ↦
              let behind : nat_lt k (length (head_bytes kit inputs g gaps p)) ≡ false = le-ltb k (length (head_bytes kit inputs g gaps p)) (omega (arith, length-headers, h)) in
              let none : class_on kit inputs g gaps p k ≡ None =
              find_no_class (λ d. is_in_file d && is_within (offset_for kit.kind p d) (class_size p d) k) (no_class k out) in
              image_at kit inputs g gaps p k inside ∙ rw (behind, none) refl
        ]

    -- the headers and the rest of the file
    pub file : File img (head_for kit.kind (segments_for kit.kind (page_of kit g) p) p g) (segments_for kit.kind (page_of kit g) p)
    file = record { head = head; segments = headers; len = len; zeros = zeros }
