-- Two images that carry a graph under one placement are the same file.
use Rattle.std.proofs.Common.{ℕ, ◌≡◌, ◌+◌, ◌-◌, ◌*◌, ◌≤◌, ◌∙◌, List, [], ◌∷◌, length, get_or, refl, sym, subst, arith, Bool, true, false, not, inl, inr}
use Rattle.std.specs.Prelude.{All, Option, ◌==◌, flat_map, slice_index}
use Rattle.std.specs.List.{list_any}
use Rattle.std.proofs.lemmas.Bool.{cases_Bool, cases_lt}
use Rattle.std.proofs.lemmas.Grind.{same_number_lists}
use Rattle.kl_base.specs.declared.class.Class.{Class}
use Rattle.kl_base.specs.declared.limits.TheConstants.{BASE_LIMIT}
use Rattle.kl_le.specs.Bytes.{Outside, Within}
use Rattle.kl_elf.specs.declared.records.Phdr.{Phdr}
use Rattle.kl_model.specs.Areas.{class_number}
use Rattle.kl_model.specs.Carries.{CarriesGraph, File, InArea, class_size, head_for, is_in_file, kernel_head, segment_of, segments_for, segments_of}
use Rattle.kl_model.specs.Image.{is_within}
use Rattle.kl_model.specs.Laid.{area_at}
use Rattle.kl_model.specs.Line.{classes}
use Rattle.kl_model.specs.Lists.{only_if}
use Rattle.kl_model.specs.Orders.{IsOrder, drawn_count}
use Rattle.kl_model.specs.Sizes.{made_of, page_of}
use Rattle.kl_model.specs.Sound.{IsSoundGraph, IsSoundPiece}
use Rattle.kl_model.specs.declared.graph.Graph.{Graph}
use Rattle.kl_model.specs.declared.kit.Kit.{Kit}
use Rattle.kl_model.specs.declared.kit.KitKind.TheVariants.{Kernel}
use Rattle.kl_model.specs.declared.object.Input.{Input}
use Rattle.kl_model.specs.declared.place.Gaps.{Gaps}
use Rattle.kl_model.specs.declared.place.Placement.{Placement}
use Rattle.kl_model.proofs.ClassMemory.{InOrder, mem_file, start_past_base}
use Rattle.kl_model.proofs.Covered.{In}
use Rattle.kl_model.proofs.ImageBytes.{within_is}
use Rattle.kl_write.proofs.LawBytes.{within_of}
use Rattle.kl_write.proofs.SlotWords.{any_in, in_any}
use Rattle.kl_write.proofs.SoundLaid.{in_get, in_split, ordered}
use Rattle.kl_write.proofs.WholeOrder.{whole_order}
use Rattle.kl_unique.proofs.Bare.{bare, bare_laid, bare_small}
use Rattle.kl_unique.proofs.Fixed.{AreBytes}
use Rattle.kl_unique.proofs.SameHeaders.{same_headers}
use Rattle.kl_unique.proofs.SameParts.{alike, byte_of, in_only, never}

-- what is in joined lists is in one of them
from_flat_map : {X Y : Type 0} (f : X → List Y) (xs : List X) (y : Y) → In y (flat_map f xs) → (x : X) × In y (f x)
from_flat_map f [] y i = elim i [ ]
from_flat_map f (x ∷ xs) y i = elim (in_split (f x) (flat_map f xs) i) [ inl j ↦ (x, j) | inr j ↦ from_flat_map f xs y j ]

-- a segment has a place of the file
abbrev has : ℕ → Phdr → Bool
has k s = is_within s.offset s.filesz k

-- a header of a kernel is that of a class
class_of_segment : (p : Placement) (s : Phdr) → In s (segments_of p) → (c : Class) × (s ≡ segment_of p c)
class_of_segment p s i =
    let r = from_flat_map (λ c. only_if (not (class_size p c == 0)) (segment_of p c)) classes s i in
    (r.0, in_only (not (class_size p r.0 == 0)) (segment_of p r.0) s r.1)

module _ (kit : Kit) (inputs : List Input) (g : Graph) (gaps : Option Gaps) (order : List ℕ) (p : Placement) (kernel : kit.kind ≡ Kernel) (limit : kit.base ≤ BASE_LIMIT)
    (sound : All (IsSoundPiece kit g) g.pieces) (flat : IsSoundGraph kit (bare g)) (o : IsOrder (drawn_count g.parts) order) (img twin : List ℕ)
    (x : AreBytes img) (y : AreBytes twin) (one : CarriesGraph img p kit inputs g gaps order) (two : CarriesGraph twin p kit inputs g gaps order) where
  in_order : InOrder p
  in_order =
      ordered kit (bare g) gaps order (made_of kit g) p (bare_laid p kit g gaps order (made_of kit g) one.laid)
      (bare_small p kit g gaps order (made_of kit g) one.small) limit flat (whole_order (bare g) order o)

  file_of : (image : List ℕ) → CarriesGraph image p kit inputs g gaps order → File image (kernel_head p g) (segments_of p)
  file_of image carries = subst (λ k. File image (head_for k (segments_for k (page_of kit g) p) p g) (segments_for k (page_of kit g) p)) kernel carries.file

  -- at the place of an address of a class
  in_class : (c : Class) (a : ℕ) → is_in_file c ≡ true → InArea p (class_number c) a → slice_index img (4096 + (a - p.base)) ≡ slice_index twin (4096 + (a - p.base))
  in_class c a f w =
      sym (byte_of img a (slice_index img (4096 + (a - p.base))) c (mem_file img p c a in_order (file_of img one).segments f w))
      ∙ (alike kit inputs g gaps order p kernel sound o img twin x y one two c a w
      ∙ byte_of twin a (slice_index twin (4096 + (a - p.base))) c (mem_file twin p c a in_order (file_of twin two).segments f w))

  in_segment : (c : Class) (k : ℕ) → Within (segment_of p c).offset (segment_of p c).filesz k → slice_index img k ≡ slice_index twin k
  in_segment c k w = elim (cases_Bool (is_in_file c)) [
    | inl f ↦
        let size : (segment_of p c).filesz ≡ class_size p c = rw f refl in
        let past = start_past_base p c in_order in
        let a = (area_at p (class_number c)).start + (k - (segment_of p c).offset) in
        let there_too : InArea p (class_number c) a = (omega arith, omega (arith, w.0, w.1, size)) in
        let place : 4096 + (a - p.base) ≡ k = omega (arith, past, w.0) in
        subst (λ n. slice_index img n ≡ slice_index twin n) place (in_class c a f there_too)
    | inr f ↦ let none : (segment_of p c).filesz ≡ 0 = rw f refl in absurd (omega (arith, w.0, w.1, none))
  ]

  -- outside all segments
  outside : (k : ℕ) → list_any (has k) (segments_of p) ≡ false → All (λ s. Outside s.offset s.filesz k) (segments_of p)
  outside k none i d h =
      let s = get_or (segments_of p) i d in
      elim (cases_lt k s.offset) [
        | inl l ↦ inl l
        | inr l ↦ elim (cases_lt k (s.offset + s.filesz)) [
          | inl m ↦
              let some = in_any (has k) (segments_of p) s (in_get (segments_of p) i d h) (within_is s.offset s.filesz k (l, m)) in
              absurd (never (list_any (has k) (segments_of p)) some none)
          | inr m ↦ inr m
        ]
      ]

  same_byte : (k : ℕ) → slice_index img k ≡ slice_index twin k
  same_byte k =
      let first = file_of img one in
      let second = file_of twin two in
      elim (cases_lt k (64 + 56 * length (segments_of p))) [
        | inl l ↦ same_headers img twin x y (kernel_head p g) (segments_of p) refl refl first.head second.head first.segments second.segments k (omega arith) l
        | inr l ↦ elim (cases_Bool (list_any (has k) (segments_of p))) [
          | inl e ↦
              let r = any_in (has k) (segments_of p) e in
              let c = class_of_segment p r.0 r.1 in
              in_segment c.0 k (subst (λ (s : Phdr). Within s.offset s.filesz k) c.1 (within_of r.0.offset r.0.filesz k r.2))
          | inr e ↦ first.zeros k l (outside k e) ∙ sym (second.zeros k l (outside k e))
        ]
      ]

  -- THE FILE
  pub same_file : img ≡ twin
  same_file = same_number_lists img twin ((file_of img one).len ∙ sym ((file_of twin two).len)) (λ k l. same_byte k)
