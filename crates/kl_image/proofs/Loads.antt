-- An image without a flaw is one that the standard lets be loaded.
use Rattle.std.proofs.Common.{ℕ, ◌≡◌, ◌+◌, ◌%◌, ◌<◌, ◌∙◌, ◌&&◌, ◌||◌, true, false, not, List, [], get_or, take, refl, sym, arith, eqb-true, lt-ltb, length-take-le}
use Rattle.std.specs.Prelude.{All, AllPairs, ◌==◌, nat_lt, nat_le, max, min}
use Rattle.std.specs.Int.{is_power_of_two}
use Rattle.std.specs.List.{list_any}
use Rattle.std.proofs.lemmas.Bool.{and_parts, or_parts, ltb-true, ltb-false, leb-true, not-false}
use Rattle.std.proofs.lemmas.List.{get_or-take}
use Rattle.std.proofs.lemmas.List.Folds.{list_any_at}
use Rattle.kl_elf.specs.declared.records.Phdr.{Phdr}
use Rattle.kl_model.specs.Memory.{covers, segments}
use Rattle.kl_image.specs.Headers.{has_bytes_outside, is_damaged, is_load, segment_flaws, share_memory}
use Rattle.kl_image.specs.Loadable.{IsSegment, CoverNoByte}
use Rattle.kl_image.proofs.SegmentFlaws.{right_at, inside}

-- a program header that isn't wrong by itself
pub is_segment : (b : List ℕ) (s : Phdr) → is_damaged b s ≡ false → IsSegment b s
is_segment b s right =
    let outside = has_bytes_outside b s in
    let large = nat_lt s.memsz s.filesz in
    let odd = not (is_power_of_two s.align) in
    let some = or_parts (outside || large || odd) (not (s.vaddr % s.align == s.offset % s.align)) right in
    let sizes = or_parts (outside || large) odd some.0 in
    let bytes = or_parts outside large sizes.0 in
    record {
      in_file = inside b s bytes.0;
      in_memory = ltb-false s.memsz s.filesz bytes.1;
      power = not-false (is_power_of_two s.align) sizes.1;
      congruent = eqb-true (s.vaddr % s.align) (s.offset % s.align) (not-false (s.vaddr % s.align == s.offset % s.align) some.1);
    }

pub are_segments : (b : List ℕ) → segment_flaws b ≡ [] → All (IsSegment b) (segments b)
are_segments b none k d h =
    let s = get_or (segments b) k d in
    is_segment b s (or_parts (is_damaged b s) (list_any (share_memory s) (take k (segments b))) (right_at b k d none h)).0

-- two headers that cover one byte share it
both_cover : (s t : Phdr) (a : ℕ) → covers a s ≡ true → covers a t ≡ true → share_memory t s ≡ true
both_cover s t a one two =
    let x = and_parts (is_load s) (nat_le s.vaddr a && nat_lt a (s.vaddr + s.memsz)) one in
    let y = and_parts (is_load t) (nat_le t.vaddr a && nat_lt a (t.vaddr + t.memsz)) two in
    let p = and_parts (nat_le s.vaddr a) (nat_lt a (s.vaddr + s.memsz)) x.1 in
    let q = and_parts (nat_le t.vaddr a) (nat_lt a (t.vaddr + t.memsz)) y.1 in
    let common : max t.vaddr s.vaddr < min (t.vaddr + t.memsz) (s.vaddr + s.memsz) = omega
    (arith, leb-true s.vaddr a p.0, ltb-true a (s.vaddr + s.memsz) p.1, leb-true t.vaddr a q.0, ltb-true a (t.vaddr + t.memsz) q.1) in
    rw (x.0, y.0, lt-ltb (max t.vaddr s.vaddr) (min (t.vaddr + t.memsz) (s.vaddr + s.memsz)) common) refl

pub apart : (b : List ℕ) → segment_flaws b ≡ [] → AllPairs CoverNoByte (segments b)
apart b none i j d less short a one two =
    let ss = segments b in
    let s = get_or ss i d in
    let t = get_or ss j d in
    let free = (or_parts (is_damaged b t) (list_any (share_memory t) (take j ss)) (right_at b j d none short)).1 in
    let same : get_or (take j ss) i d ≡ s = get_or-take j ss i d less in
    let long = length-take-le j ss (omega arith) in
    let found : list_any (share_memory t) (take j ss) ≡ true = list_any_at (share_memory t) (take j ss) i d (omega (arith, long)) (rw same (both_cover s t a one two)) in
    let bad : true ≡ false = sym found ∙ free in
    cc
