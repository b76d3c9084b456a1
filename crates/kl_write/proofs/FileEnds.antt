-- Where the file of an image ends: behind its headers and the last byte of a class that is in it.
use Rattle.std.proofs.Common.{ℕ, ◌≡◌, ◌+◌, ◌-◌, ◌*◌, ◌<◌, ◌≤◌, ◌∙◌, List, [], ◌∷◌, ◌++◌, length, refl, ap, sym, arith, false, true, not, max, inl, inr, nat_eq}
use Rattle.std.specs.Prelude.{◌==◌}
use Rattle.std.proofs.lemmas.Bool.{cases_Bool, cases_lt, ne_eqb}
use Rattle.std.proofs.lemmas.List.{append-nil, append_assoc}
use Rattle.std.proofs.Math.Nat.{le-max_right, max-eq_left}
use Rattle.kl_base.specs.declared.class.Class.{Class}
use Rattle.kl_base.specs.declared.class.Class.TheVariants.{Text, Rodata, Rwdata, Bss}
use Rattle.kl_elf.specs.declared.records.Phdr.{Phdr}
use Rattle.kl_model.specs.Areas.{class_number}
use Rattle.kl_model.specs.Carries.{class_segments, class_size, dynamic_segment, ends_at, file_end, headers_segment, is_in_file, segments_for, segments_of}
use Rattle.kl_model.specs.Laid.{area_at, class_end}
use Rattle.kl_model.specs.Lists.{only_if}
use Rattle.kl_model.specs.declared.kit.KitKind.{KitKind}
use Rattle.kl_model.specs.declared.kit.KitKind.TheVariants.{Kernel, Library}
use Rattle.kl_model.specs.declared.place.Placement.{Placement}
use Rattle.kl_write.proofs.FileBytes.{file_end_some}
use Rattle.kl_write.proofs.FileSegments.{headers_size, length-library, offset_is, segment_filesz, segment_offset}
use Rattle.kl_write.specs.InSpan.{IsAreaInSpan}
use Rattle.kl_write.specs.Segments.{segment_by, segments_by}
use Rattle.kl_write.specs.Writes.{class_stop, classes_stop, file_place}

max_none : (n : ℕ) → max n 0 ≡ n
max_none n = max-eq_left (omega arith)

-- a class more
class_more : (k : KitKind) (page : ℕ) (p : Placement) (c : Class) (n : ℕ) (rest : List Phdr) → (k ≡ Library → p.base ≡ 0) → is_in_file c ≡ true → IsAreaInSpan p (class_number c)
    → ends_at n (only_if (not (class_size p c == 0)) (segment_by k page p c) ++ rest) ≡ ends_at (max n (class_stop k p c)) rest
class_more k page p c n rest zero file area = elim (cases_Bool (class_size p c == 0)) [
  | inl none ↦ rw (none, max_none n) refl
  | inr some ↦
      let starts = area.starts in let ordered = area.ordered in
      let size = segment_filesz k page p c file in
      let offset = segment_offset k page p c ∙ offset_is k p c zero in
      let same : file_place k p (area_at p (class_number c)).start + class_size p c ≡ file_place k p (class_end p c) = omega (arith, starts, ordered) in
      rw (some, size, some, offset, same) refl
]

bss_none : (k : KitKind) (page : ℕ) (p : Placement) → (segment_by k page p Bss).filesz ≡ 0
bss_none Kernel page p = refl
bss_none Library page p = refl

class_last : (k : KitKind) (page : ℕ) (p : Placement) (n : ℕ) (rest : List Phdr) → ends_at n (only_if (not (class_size p Bss == 0)) (segment_by k page p Bss) ++ rest) ≡ ends_at n rest
class_last k page p n rest = elim (cases_Bool (class_size p Bss == 0)) [
  | inl none ↦ rw none refl
  | inr some ↦ rw (some, bss_none k page p) (ap (λ m. ends_at m rest) (max_none n))
]

append_four : (a b c d rest : List Phdr) → (a ++ (b ++ (c ++ (d ++ [])))) ++ rest ≡ a ++ (b ++ (c ++ (d ++ rest)))
append_four a b c d rest =
    append_assoc a (b ++ (c ++ (d ++ []))) rest
    ∙ ap (λ l. a ++ l) (append_assoc b (c ++ (d ++ [])) rest ∙ ap (λ l. b ++ l) (append_assoc c (d ++ []) rest ∙ ap (λ l. c ++ l) (append_assoc d [] rest)))

-- the headers of the classes, with others behind them
pub classes_end : (k : KitKind) (page : ℕ) (p : Placement) (n : ℕ) (rest : List Phdr) → (k ≡ Library → p.base ≡ 0) → ((c : Class) → IsAreaInSpan p (class_number c))
    → ends_at n (segments_by k page p ++ rest) ≡ ends_at (classes_stop k p n) rest
classes_end k page p n rest zero areas =
    let some : Class → List Phdr = λ c. only_if (not (class_size p c == 0)) (segment_by k page p c) in
    let last : List Phdr = some Bss ++ rest in
    let third : List Phdr = some Rwdata ++ last in
    let second : List Phdr = some Rodata ++ third in
    let whole : segments_by k page p ++ rest ≡ some Text ++ second = append_four (some Text) (some Rodata) (some Rwdata) (some Bss) rest in
    ap (ends_at n) whole
    ∙ (class_more k page p Text n second zero refl (areas Text)
    ∙ (class_more k page p Rodata (max n (class_stop k p Text)) third zero refl (areas Rodata)
    ∙ (class_more k page p Rwdata (max (max n (class_stop k p Text)) (class_stop k p Rodata)) last zero refl (areas Rwdata)
    ∙ class_last k page p (classes_stop k p n) rest)))

-- the last class in the file ends at or before the last end
last_stop : (p : Placement) (n : ℕ) → p.base ≡ 0 → (area_at p 2).start < (area_at p 2).end → (area_at p 2).end ≤ classes_stop Library p n
last_stop p n base h =
    let some : nat_eq (class_size p Rwdata) 0 ≡ false = ne_eqb (class_size p Rwdata) 0 (λ e. omega (arith, e, h)) in
    let is : class_stop Library p Rwdata ≡ file_place Library p (class_end p Rwdata) = rw some refl in
    omega (arith, is, base, le-max_right (max (max n (class_stop Library p Text)) (class_stop Library p Rodata)) (class_stop Library p Rwdata))

-- the dynamic section lies in data
pub record IsInData (p : Placement) : Type 0 where
  pub ordered : (area_at p 14).start ≤ (area_at p 14).end
  pub inside : (area_at p 14).start < (area_at p 14).end → ((area_at p 2).start ≤ (area_at p 14).start) × ((area_at p 14).end ≤ (area_at p 2).end)

dynamic_end : (p : Placement) (n : ℕ) → p.base ≡ 0 → IsInData p → max (classes_stop Library p n) (file_end (dynamic_segment p)) ≡ classes_stop Library p n
dynamic_end p n base d = elim (cases_lt (area_at p 14).start (area_at p 14).end) [
  | inl some ↦
      let w = d.inside some in
      let is = file_end_some (dynamic_segment p) (omega (arith, some)) in
      max-eq_left (omega (arith, is, w.1, last_stop p n base (omega (arith, w.0, w.1, some)), some))
  | inr none ↦
      let size : (area_at p 14).end - (area_at p 14).start ≡ 0 = omega (arith, none) in
      let is : file_end (dynamic_segment p) ≡ 0 = rw size refl in
      max-eq_left (omega (arith, is))
]

-- Where an image ends: behind its headers and the classes in the file.
pub image_end : (k : KitKind) (page : ℕ) (p : Placement) (n : ℕ) → (k ≡ Library → p.base ≡ 0) → ((c : Class) → IsAreaInSpan p (class_number c))
    → n ≡ headers_size (segments_for k page p) → IsInData p → classes_stop k p n ≡ ends_at n (segments_for k page p)
image_end Kernel page p n zero areas size d =
    let nil : segments_of p ++ [] ≡ segments_of p = append-nil (segments_of p) in
    sym (ap (ends_at n) (sym nil) ∙ classes_end Kernel page p n [] zero areas)
image_end Library page p n zero areas size d =
    let front = headers_segment page (64 + 56 * (2 + length (class_segments page p))) in
    let first = file_end_some front (omega arith) in
    let one : max n (file_end front) ≡ n = max-eq_left (omega (arith, first, size, length-library page p)) in
    let between = classes_end Library page p n (dynamic_segment p ∷ []) zero areas in
    sym (ap (λ m. ends_at m (class_segments page p ++ dynamic_segment p ∷ [])) one ∙ (between ∙ dynamic_end p n (zero refl) d))
