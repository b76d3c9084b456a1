-- The program headers of an image, and what memory has at the addresses of a class, in a kernel and in a library.
use Rattle.std.proofs.lemmas.List.{map-append}
use Rattle.std.proofs.Common.{ℕ, ◌≡◌, ◌+◌, ◌-◌, ◌*◌, ◌<◌, ◌≤◌, ◌∙◌, List, [], ◌∷◌, length, length-append, map, refl, ap, sym, arith, Bool, true, false, inl, inr, not, nat_eq}
use Rattle.std.specs.Prelude.{Some, IsSomeAnd, find, slice_index, flat_map, ◌==◌, nat_le, nat_lt}
use Rattle.std.specs.Option.{option_map}
use Rattle.std.proofs.lemmas.Bool.{le-leb, le-ltb, lt-ltb, ne_eqb, cases_Bool}
use Rattle.std.proofs.lemmas.List.Folds.{find-append}
use Rattle.kl_base.specs.declared.class.Class.{Class}
use Rattle.kl_base.specs.declared.class.Class.TheVariants.{Text, Rodata, Rwdata, Bss}
use Rattle.kl_elf.specs.declared.records.Phdr.{Phdr}
use Rattle.kl_model.specs.Areas.{class_number}
use Rattle.kl_model.specs.Carries.{InArea, class_segments, class_size, dynamic_segment, is_in_file, library_segment, library_segments, offset_for, permission, segment_of, segments_for, segments_of}
use Rattle.kl_model.specs.Laid.{area_at}
use Rattle.kl_model.specs.Line.{classes}
use Rattle.kl_model.specs.Lists.{only_if}
use Rattle.kl_model.specs.Memory.{covers, mem, segments, cell_in}
use Rattle.kl_model.proofs.ClassMemory.{InOrder, find_class, start_past_base}
use Rattle.kl_model.proofs.Covered.{In, here, there, in_flat_map, in_left}
use Rattle.kl_model.specs.declared.kit.KitKind.{KitKind}
use Rattle.kl_model.specs.declared.kit.KitKind.TheVariants.{Kernel, Library}
use Rattle.kl_model.specs.declared.place.Placement.{Placement}
use Rattle.kl_write.specs.Segments.{segment_by}
use Rattle.kl_write.specs.Writes.{file_place}

-- the headers of a library's classes are those of a kernel's, with other offsets
abbrev pub moved_to : ℕ → Phdr → Phdr
moved_to n s = record s { offset = s.vaddr; align = n }

move_only : (n : ℕ) (p : Placement) (b : Bool) (c : Class) → only_if b (library_segment n p c) ≡ map (moved_to n) (only_if b (segment_of p c))
move_only n p true c = refl
move_only n p false c = refl

pub move_all : (n : ℕ) (p : Placement) (cs : List Class)
    → flat_map (λ c. only_if (not (class_size p c == 0)) (library_segment n p c)) cs ≡ map (moved_to n) (flat_map (λ c. only_if (not (class_size p c == 0)) (segment_of p c)) cs)
move_all n p [] = refl
move_all n p (c ∷ cs) =
    rw (move_only n p (not (class_size p c == 0)) c, move_all n p cs)
    (sym (map-append (moved_to n) (only_if (not (class_size p c == 0)) (segment_of p c)) (flat_map (λ c. only_if (not (class_size p c == 0)) (segment_of p c)) cs)))

find_moved : (n a : ℕ) (ss : List Phdr) → find (covers a) (map (moved_to n) ss) ≡ option_map (moved_to n) (find (covers a) ss)
find_moved n a [] = refl
find_moved n a (s ∷ ss) = elim (cases_Bool (covers a s)) [ inl e ↦ rw e refl | inr e ↦ rw e (find_moved n a ss) ]

find_between : (n : ℕ) (p : Placement) (c : Class) (a : ℕ) → InOrder p → InArea p (class_number c) a → find (covers a) (class_segments n p) ≡ Some (library_segment n p c)
find_between n p c a o w = ap (find (covers a)) (move_all n p classes) ∙ (find_moved n a (segments_of p) ∙ ap (option_map (moved_to n)) (find_class p c a o w))

-- text starts first
pub past_text : (p : Placement) (c : Class) → InOrder p → (area_at p 0).start ≤ (area_at p (class_number c)).start
past_text p Text o = omega arith
past_text p Rodata o = omega (arith, o.text, o.rodata_from)
past_text p Rwdata o = omega (arith, o.text, o.rodata_from, o.rodata, o.rwdata_from)
past_text p Bss o = omega (arith, o.text, o.rodata_from, o.rodata, o.rwdata_from, o.rwdata, o.bss_from)

-- how many bytes the headers take
abbrev pub headers_size : List Phdr → ℕ
headers_size ss = 64 + 56 * length ss

pub length-library : (n : ℕ) (p : Placement) → length (library_segments n p) ≡ 2 + length (class_segments n p)
length-library n p = omega (arith, length-append (class_segments n p) (dynamic_segment p ∷ []))

-- the header of a class covers its addresses, where those of text stand behind the headers
pub find_covering : (k : KitKind) (n : ℕ) (p : Placement) (c : Class) (a : ℕ) → (k ≡ Library → p.base ≡ 0) → headers_size (segments_for k n p) ≤ file_place k p (area_at p 0).start
    → InOrder p → InArea p (class_number c) a → find (covers a) (segments_for k n p) ≡ Some (segment_by k n p c)
find_covering Kernel n p c a zero front o w = find_class p c a o w
find_covering Library n p c a zero front o w =
    let base = zero refl in
    let past = past_text p c o in
    let size : 64 + 56 * (2 + length (class_segments n p)) ≤ a = omega (arith, front, base, past, w.0, length-library n p) in
    let not_head : nat_lt a (0 + (64 + 56 * (2 + length (class_segments n p)))) ≡ false = le-ltb a (0 + (64 + 56 * (2 + length (class_segments n p)))) (omega (arith, size)) in
    let from : nat_le 0 a ≡ true = le-leb 0 a (omega arith) in
    rw (from, not_head) (find-append (covers a) (class_segments n p) (dynamic_segment p ∷ []) ∙ rw (find_between n p c a o w) refl)

-- what a class's header has
pub offset_is : (k : KitKind) (p : Placement) (c : Class) → (k ≡ Library → p.base ≡ 0) → offset_for k p c ≡ file_place k p (area_at p (class_number c)).start
offset_is Kernel p c zero = refl
offset_is Library p c zero = let base = zero refl in omega (arith, base)

cell_kernel : (img : List ℕ) (n : ℕ) (p : Placement) (c : Class) (a : ℕ) → InOrder p → is_in_file c ≡ true → InArea p (class_number c) a
    → cell_in img a (segment_of p c) ≡ record { byte = slice_index img (file_place Kernel p a); flags = permission c }
cell_kernel img n p c a o f w =
    let b = start_past_base p c o in
    let within : a < (area_at p (class_number c)).start + class_size p c = omega (arith, w.0, w.1) in
    let place : 4096 + ((area_at p (class_number c)).start - p.base) + (a - (area_at p (class_number c)).start) ≡ 4096 + (a - p.base) = omega (arith, w.0, b) in
    rw (f, lt-ltb a ((area_at p (class_number c)).start + class_size p c) within, place) refl

cell_library : (img : List ℕ) (n : ℕ) (p : Placement) (c : Class) (a : ℕ) → p.base ≡ 0 → is_in_file c ≡ true → InArea p (class_number c) a
    → cell_in img a (library_segment n p c) ≡ record { byte = slice_index img (file_place Library p a); flags = permission c }
cell_library img n p c a b f w =
    let within : a < (area_at p (class_number c)).start + class_size p c = omega (arith, w.0, w.1) in
    let place : (area_at p (class_number c)).start + (a - (area_at p (class_number c)).start) ≡ 0 + (a - p.base) = omega (arith, w.0, b) in
    rw (f, lt-ltb a ((area_at p (class_number c)).start + class_size p c) within, place) refl

cell_file : (img : List ℕ) (k : KitKind) (n : ℕ) (p : Placement) (c : Class) (a : ℕ) → (k ≡ Library → p.base ≡ 0) → InOrder p → is_in_file c ≡ true → InArea p (class_number c) a
    → cell_in img a (segment_by k n p c) ≡ record { byte = slice_index img (file_place k p a); flags = permission c }
cell_file img Kernel n p c a zero o f w = cell_kernel img n p c a o f w
cell_file img Library n p c a zero o f w = cell_library img n p c a (zero refl) f w

cell_bss : (img : List ℕ) (k : KitKind) (n : ℕ) (p : Placement) (a : ℕ) → InArea p 3 a → cell_in img a (segment_by k n p Bss) ≡ record { byte = 0; flags = permission Bss }
cell_bss img Kernel n p a w = let past : nat_lt a ((area_at p 3).start + 0) ≡ false = le-ltb a ((area_at p 3).start + 0) (omega (arith, w.0)) in rw past refl
cell_bss img Library n p a w = let past : nat_lt a ((area_at p 3).start + 0) ≡ false = le-ltb a ((area_at p 3).start + 0) (omega (arith, w.0)) in rw past refl

cell_flags : (img : List ℕ) (k : KitKind) (n : ℕ) (p : Placement) (c : Class) (a : ℕ) → (cell_in img a (segment_by k n p c)).flags ≡ permission c
cell_flags img Kernel n p c a = refl
cell_flags img Library n p c a = refl

-- an image with these headers
module _ (img : List ℕ) (k : KitKind) (n : ℕ) (p : Placement) (zero : k ≡ Library → p.base ≡ 0) (front : headers_size (segments_for k n p) ≤ file_place k p (area_at p 0).start) (o : InOrder p)
    (headers : segments img ≡ segments_for k n p) where
  mem_class : (c : Class) (a : ℕ) → InArea p (class_number c) a → mem img a ≡ Some (cell_in img a (segment_by k n p c))
  mem_class c a w = ap (λ ss. option_map (cell_in img a) (find (covers a) ss)) headers ∙ ap (option_map (cell_in img a)) (find_covering k n p c a zero front o w)

  -- the byte and the permission at an address of a class
  pub mem_file : (c : Class) (a : ℕ) → is_in_file c ≡ true → InArea p (class_number c) a → mem img a ≡ Some (record { byte = slice_index img (file_place k p a); flags = permission c })
  mem_file c a f w = mem_class c a w ∙ ap Some (cell_file img k n p c a zero o f w)

  pub mem_bss : (a : ℕ) → InArea p 3 a → mem img a ≡ Some (record { byte = 0; flags = permission Bss })
  mem_bss a w = mem_class Bss a w ∙ ap Some (cell_bss img k n p a w)

  pub mem_flags : (c : Class) (a : ℕ) → InArea p (class_number c) a → IsSomeAnd (mem img a) (λ x. x.flags ≡ permission c)
  mem_flags c a w = rw (mem_class c a w) (cell_flags img k n p c a)

-- the header of a class that has an address is among the program headers
in_only : {X : Type 0} (b : Bool) (x : X) → b ≡ true → In x (only_if b x)
in_only true x e = here
in_only false x e = cc

pub in_classes : (c : Class) → In c classes
in_classes Text = here
in_classes Rodata = there here
in_classes Rwdata = there (there here)
in_classes Bss = there (there (there here))

some_size : (p : Placement) (c : Class) (a : ℕ) → InArea p (class_number c) a → not (class_size p c == 0) ≡ true
some_size p c a w = let some : nat_eq (class_size p c) 0 ≡ false = ne_eqb (class_size p c) 0 (λ e. omega (arith, e, w.0, w.1)) in rw some refl

pub in_segments : (k : KitKind) (n : ℕ) (p : Placement) (c : Class) (a : ℕ) → InArea p (class_number c) a → In (segment_by k n p c) (segments_for k n p)
in_segments Kernel n p c a w = in_flat_map (λ c. only_if (not (class_size p c == 0)) (segment_of p c)) (in_classes c) (in_only (not (class_size p c == 0)) (segment_of p c) (some_size p c a w))
in_segments Library n p c a w =
    there (in_left (dynamic_segment p ∷ [])
    (in_flat_map (λ c. only_if (not (class_size p c == 0)) (library_segment n p c)) (in_classes c) (in_only (not (class_size p c == 0)) (library_segment n p c) (some_size p c a w))))

-- where the bytes of a class's header stand in the file
pub segment_offset : (k : KitKind) (n : ℕ) (p : Placement) (c : Class) → (segment_by k n p c).offset ≡ offset_for k p c
segment_offset Kernel n p c = refl
segment_offset Library n p c = refl

pub segment_filesz : (k : KitKind) (n : ℕ) (p : Placement) (c : Class) → is_in_file c ≡ true → (segment_by k n p c).filesz ≡ class_size p c
segment_filesz Kernel n p c f = rw f refl
segment_filesz Library n p c f = rw f refl
