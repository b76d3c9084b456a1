-- What holds of program headers without a flaw.
use Rattle.std.proofs.Common.{ℕ, ◌≡◌, ◌+◌, ◌<◌, ◌≤◌, ◌∙◌, ◌||◌, ◌%◌, ◌⊎◌, inl, inr, zero, suc, Bool, true, false, not, List, [], ◌∷◌, length, get_or, take, refl, sym, arith, ne_eqb}
use Rattle.std.specs.Prelude.{All, ◌==◌, nat_lt, find, slice_get, Some}
use Rattle.std.specs.List.{list_any}
use Rattle.std.specs.Int.{is_power_of_two}
use Rattle.std.proofs.lemmas.Bool.{ltb-false, or_parts}
use Rattle.kl_elf.specs.declared.records.Phdr.{Phdr}
use Rattle.kl_model.specs.Lists.{each}
use Rattle.kl_model.proofs.Each.{each_all, each_first, each_more}
use Rattle.kl_model.specs.Memory.{segments}
use Rattle.kl_image.specs.Headers.{has_bytes_outside, is_damaged, segment_flaws, segment_flaws_of, share_memory}
use Rattle.kl_image.specs.declared.fault.ImageFault.{ImageFault}
use Rattle.kl_image.specs.declared.fault.ImageFault.TheVariants.{Segment}
use Rattle.kl_image.proofs.FlawLists.{none_at, not_told}

-- each is right by itself, and shares no memory with those before it
pub right_at : (b : List ℕ) (k : ℕ) (d : Phdr) → segment_flaws b ≡ [] → k < length (segments b)
    → (is_damaged b (get_or (segments b) k d) || list_any (share_memory (get_or (segments b) k d)) (take k (segments b))) ≡ false
unfolding segment_flaws
right_at b k d none h =
    let s = get_or (segments b) k d in
    not_told (is_damaged b s || list_any (share_memory s) (take k (segments b))) (Segment k)
    (none_at (λ n t. segment_flaws_of b (take n (segments b)) n t) (segments b) k d none h)

-- the bytes of each lie in the file
pub all_inside : (b : List ℕ) → segment_flaws b ≡ [] → All (λ s. has_bytes_outside b s ≡ false) (segments b)
all_inside b none k d h =
    let s = get_or (segments b) k d in
    let outside = has_bytes_outside b s in
    let large = nat_lt s.memsz s.filesz in
    let odd = not (is_power_of_two s.align) in
    let all = or_parts (is_damaged b s) (list_any (share_memory s) (take k (segments b))) (right_at b k d none h) in
    let some = or_parts (outside || large || odd) (not (s.vaddr % s.align == s.offset % s.align)) all.0 in
    (or_parts outside large (or_parts (outside || large) odd some.0).0).0

pub inside : (b : List ℕ) (s : Phdr) → has_bytes_outside b s ≡ false → 0 < s.filesz → s.offset + s.filesz ≤ length b
inside b s e h = go (nat_lt (length b) (s.offset + s.filesz)) refl
  where
    go : (t : Bool) → nat_lt (length b) (s.offset + s.filesz) ≡ t → s.offset + s.filesz ≤ length b
    go false is = ltb-false (length b) (s.offset + s.filesz) is
    go true is = let some : (s.filesz == 0) ≡ false = ne_eqb s.filesz 0 (λ z. omega (arith, z)) in absurd (let bad : true ≡ false = rw (some, is) at e in cc)

-- so does what is found among them
pub found_inside : (b : List ℕ) (p : Phdr → Bool) (ss : List Phdr) (s : Phdr) → All (λ t. has_bytes_outside b t ≡ false) ss → find p ss ≡ Some s
    → has_bytes_outside b s ≡ false
found_inside b p [] s all e = cc
found_inside b p (t ∷ ss) s all e = go (p t) refl (λ more. found_inside b p ss s (λ k d h. all (suc k) d (omega arith)) more)
  where
    go : (x : Bool) → p t ≡ x → (find p ss ≡ Some s → has_bytes_outside b s ≡ false) → has_bytes_outside b s ≡ false
    go true is rest = let same : Some t ≡ Some s = rw is at e in let eq : t ≡ s = cc in rw (← eq) (all 0 t (omega arith))
    go false is rest = rest (rw is at e)

-- what is told of each program header
abbrev pub told : List ℕ → List Phdr → ℕ → Phdr → List ImageFault
told b ss k s = segment_flaws_of b (take k ss) k s

-- a loop over them: one more, the first that is wrong, and the end
pub flaws_more : (b : List ℕ) (ss : List Phdr) (i : ℕ) (d : Phdr) → i < length ss → each (take i ss) (told b ss) ≡ [] → is_damaged b (get_or ss i d) ≡ false
    → list_any (share_memory (get_or ss i d)) (take i ss) ≡ false → each (take (i + 1) ss) (told b ss) ≡ []
flaws_more b ss i d h none right free = each_more (told b ss) ss i d h ∙ rw (none, right, free) refl

pub flaw_first : (b : List ℕ) (ss : List Phdr) (i : ℕ) (d : Phdr) → ss ≡ segments b → i < length ss → each (take i ss) (told b ss) ≡ []
    → (is_damaged b (get_or ss i d) || list_any (share_memory (get_or ss i d)) (take i ss)) ≡ true → slice_get (segment_flaws b) 0 ≡ Some (Segment i)
unfolding segment_flaws
flaw_first b ss i d same h none wrong =
    let first : slice_get (told b ss i (get_or ss i d)) 0 ≡ Some (Segment i) = rw wrong refl in
    let start : zero + i ≡ i = omega arith in
    let all : slice_get (each ss (told b ss)) 0 ≡ Some (Segment i) = each_first 0 (told b ss) ss i d (Segment i) h none (rw start first) in
    rw same at all

pub flaws_none : (b : List ℕ) (ss : List Phdr) (i : ℕ) → ss ≡ segments b → length ss ≤ i → each (take i ss) (told b ss) ≡ [] → segment_flaws b ≡ []
unfolding segment_flaws
flaws_none b ss i same end none =
    let all : each ss (told b ss) ≡ [] = sym (each_all (told b ss) ss i end) ∙ none in
    rw same at all

pub either_wrong : (p q : Bool) → (p ≡ true) ⊎ (q ≡ true) → (p || q) ≡ true
either_wrong true q e = refl
either_wrong false q (inl e) = cc
either_wrong false q (inr e) = e
