-- Everything behind the areas stands in order exactly where each may follow the one before it, and the last may be the last.
use Rattle.std.proofs.Common.{◌≡◌, ◌⊎◌, inl, inr, ◌+◌, ◌-◌, ◌==◌, ℕ, zero, suc, true, List, [], ◌∷◌, ◌++◌, length, refl, sym, ap, ◌∙◌, subst, arith, append_assoc, Option}
use Rattle.std.specs.Prelude.{Some, None, map, slice_get}
use Rattle.std.specs.Option.{option_map}
use Rattle.std.proofs.lemmas.Bool.{eqb-true, eq-eqb}
use Rattle.kl_base.specs.declared.class.Class.{Class}
use Rattle.kl_base.specs.declared.class.Class.TheVariants.{Text, Rodata, Rwdata, Bss}
use Rattle.kl_model.specs.Areas.{class_number}
use Rattle.kl_model.specs.declared.graph.PieceId.{PieceId}
use Rattle.kl_model.specs.declared.graph.PieceId.TheVariants.{Section, Common, Gap}
use Rattle.kl_model.specs.declared.place.Placed.{Placed}
use Rattle.kl_map.specs.MapForm.{Ascend, IsInOrder, all_gaps, commons_from, placed_ids, section_id}
use Rattle.kl_map.specs.Reading.{after_gap, last_id, last_of, may_end, may_follow}
use Rattle.kl_map.proofs.Spelled.{some_none}

-- the last of some pieces
last_some : (x : Placed) (xs : List Placed) → last_of (Some x.id) (placed_ids xs) ≡ option_map (λ p. p.id) (slice_get (x ∷ xs) (length xs))
last_some x [] = refl
last_some x (y ∷ xs) = last_some y xs

pub last_at : (xs : List Placed) (x : Placed) → ◌≡◌ {A = Option Placed} (Some x) (slice_get xs (length xs - 1)) → ◌≡◌ {A = Option PieceId} (Some x.id) (last_id xs)
last_at [] x e = some_none x e
last_at (y ∷ xs) x e =
    let count : suc (length xs) - 1 ≡ length xs = omega arith in
    ap (λ o. option_map {U = PieceId} (λ p. p.id) o) (e ∙ ap (slice_get (y ∷ xs)) count) ∙ sym (last_some y xs)

-- each may follow the one before it
abbrev pub Chain : Option PieceId → List PieceId → Type 0
Chain before [] = Unit {0}
Chain before (x ∷ xs) = (may_follow before x ≡ true) × Chain (Some x) xs

-- and the last may be the last
abbrev pub Whole : Option PieceId → List PieceId → Type 0
Whole before [] = may_end before ≡ true
Whole before (x ∷ xs) = (may_follow before x ≡ true) × Whole (Some x) xs

pub last_of-append : (before : Option PieceId) (xs ys : List PieceId) → last_of before (xs ++ ys) ≡ last_of (last_of before xs) ys
last_of-append before [] ys = refl
last_of-append before (x ∷ xs) ys = last_of-append (Some x) xs ys

pub chain_more : (before : Option PieceId) (xs : List PieceId) (y : PieceId) → Chain before xs → may_follow (last_of before xs) y ≡ true → Chain before (xs ++ y ∷ [])
chain_more before [] y chain e = (e, tt)
chain_more before (x ∷ xs) y chain e = (chain.0, chain_more (Some x) xs y chain.1 e)

pub chain_whole : (before : Option PieceId) (xs ys : List PieceId) → Chain before xs → Whole (last_of before xs) ys → Whole before (xs ++ ys)
chain_whole before [] ys chain whole = whole
chain_whole before (x ∷ xs) ys chain whole = (chain.0, chain_whole (Some x) xs ys chain.1 whole)

pub whole_rest : (before : Option PieceId) (xs ys : List PieceId) → Whole before (xs ++ ys) → Whole (last_of before xs) ys
whole_rest before [] ys whole = whole
whole_rest before (x ∷ xs) ys whole = whole_rest (Some x) xs ys whole.1

-- the gaps that are still to come
abbrev rest_gaps : Class → List PieceId
rest_gaps Text = Gap Rodata ∷ Gap Rwdata ∷ Gap Bss ∷ []
rest_gaps Rodata = Gap Rwdata ∷ Gap Bss ∷ []
rest_gaps Rwdata = Gap Bss ∷ []
rest_gaps Bss = []

abbrev pub finish : Option PieceId → List PieceId
finish None = []
finish (Some (Section input section)) = []
finish (Some (Common number)) = []
finish (Some (Gap class)) = rest_gaps class

pub finished : (before : Option PieceId) → Whole before (finish before)
finished None = refl
finished (Some (Section input section)) = refl
finished (Some (Common number)) = refl
finished (Some (Gap Text)) = (refl, (refl, (refl, refl)))
finished (Some (Gap Rodata)) = (refl, (refl, refl))
finished (Some (Gap Rwdata)) = (refl, refl)
finished (Some (Gap Bss)) = refl

-- no gap so far
abbrev IsOpen : Option PieceId → Type 0
IsOpen None = Unit {0}
IsOpen (Some (Section input section)) = Unit {0}
IsOpen (Some (Common number)) = Unit {0}
IsOpen (Some (Gap class)) = ⊥

no_gaps : (before : Option PieceId) → IsOpen before → Whole before []
no_gaps None open_end = refl
no_gaps (Some (Section input section)) open_end = refl
no_gaps (Some (Common number)) open_end = refl
no_gaps (Some (Gap class)) open_end = absurd open_end

four_gaps : (before : Option PieceId) → IsOpen before → Whole before all_gaps
four_gaps None open_end = (refl, (refl, (refl, (refl, refl))))
four_gaps (Some (Section input section)) open_end = (refl, (refl, (refl, (refl, refl))))
four_gaps (Some (Common number)) open_end = (refl, (refl, (refl, (refl, refl))))
four_gaps (Some (Gap class)) open_end = absurd open_end

gaps_whole : (before : Option PieceId) (gaps : List PieceId) → IsOpen before → (gaps ≡ []) ⊎ (gaps ≡ all_gaps) → Whole before gaps
gaps_whole before gaps open_end (inl e) = subst (Whole before) (sym e) (no_gaps before open_end)
gaps_whole before gaps open_end (inr e) = subst (Whole before) (sym e) (four_gaps before open_end)

commons_whole : (before : Option PieceId) (first more : ℕ) (gaps : List PieceId) → IsOpen before → may_follow before (Common first) ≡ true
    → (gaps ≡ []) ⊎ (gaps ≡ all_gaps) → Whole before (commons_from first more ++ gaps)
commons_whole before first zero gaps open_end e are = gaps_whole before gaps open_end are
commons_whole before first (suc more) gaps open_end e are =
    (e, commons_whole (Some (Common first)) (suc first) more gaps tt (eq-eqb (suc first) (first + 1) (omega arith)) are)

sections_whole : (s : ℕ × ℕ) (sections : List (ℕ × ℕ)) (commons : ℕ) (gaps : List PieceId) → Ascend (s ∷ sections) → (gaps ≡ []) ⊎ (gaps ≡ all_gaps)
    → Whole (Some (section_id s)) (map section_id sections ++ (commons_from 0 commons ++ gaps))
sections_whole s [] commons gaps ascend are = commons_whole (Some (section_id s)) 0 commons gaps tt refl are
sections_whole s (t ∷ sections) commons gaps ascend are = (ascend.0, sections_whole t sections commons gaps ascend.1 are)

parts_whole : (sections : List (ℕ × ℕ)) (commons : ℕ) (gaps : List PieceId) → Ascend sections → (gaps ≡ []) ⊎ (gaps ≡ all_gaps)
    → Whole None (map section_id sections ++ (commons_from 0 commons ++ gaps))
parts_whole [] commons gaps ascend are = commons_whole None 0 commons gaps tt refl are
parts_whole (s ∷ sections) commons gaps ascend are = (refl, sections_whole s sections commons gaps ascend are)

pub order_whole : (ids : List PieceId) → IsInOrder ids → Whole None ids
order_whole ids order =
    subst (Whole None) (sym (order.are ∙ append_assoc (map section_id order.sections) (commons_from 0 order.commons) order.gaps))
    (parts_whole order.sections order.commons order.gaps order.ascend order.none_or_all)

-- the gaps behind a gap
next_gap : (c d : Class) → after_gap c (Gap d) ≡ true → rest_gaps c ≡ Gap d ∷ rest_gaps d
next_gap Text Rodata e = refl
next_gap Rodata Rwdata e = refl
next_gap Rwdata Bss e = refl
next_gap Bss Text e = cc
next_gap Bss Rodata e = cc
next_gap Bss Rwdata e = cc
next_gap Bss Bss e = cc
next_gap c d e = cc

last_gap : (c : Class) → may_end (Some (Gap c)) ≡ true → rest_gaps c ≡ []
last_gap Bss e = refl
last_gap c e = cc

gaps_are : (c : Class) (ids : List PieceId) → Whole (Some (Gap c)) ids → ids ≡ rest_gaps c
gaps_are c [] whole = sym (last_gap c whole)
gaps_are c (Gap d ∷ ids) whole = ap (λ (l : List PieceId). Gap d ∷ l) (gaps_are d ids whole.1) ∙ sym (next_gap c d whole.0)
gaps_are c (Section input section ∷ ids) whole = let no = whole.0 in cc
gaps_are c (Common number ∷ ids) whole = let no = whole.0 in cc

-- commons and gaps
record AreTail (first : ℕ) (ids : List PieceId) : Type 0 where
  pub commons : ℕ
  pub gaps : List PieceId
  pub none_or_all : (gaps ≡ []) ⊎ (gaps ≡ all_gaps)
  pub are : ids ≡ commons_from first commons ++ gaps

no_tail : (first : ℕ) → AreTail first []
no_tail first = record { commons = 0; gaps = []; none_or_all = inl refl; are = refl }

first_gap : (c : Class) → (class_number c == 0) ≡ true → c ≡ Text
first_gap Text e = refl
first_gap c e = cc

gap_tail : (first : ℕ) (c : Class) (ids : List PieceId) → (class_number c == 0) ≡ true → Whole (Some (Gap c)) ids → AreTail first (Gap c ∷ ids)
gap_tail first c ids e whole =
    let same = first_gap c e in
    record {
      commons = 0;
      gaps = all_gaps;
      none_or_all = inr refl;
      are = ap (λ (l : List PieceId). Gap c ∷ l) (gaps_are c ids whole) ∙ ap (λ (d : Class). Gap d ∷ rest_gaps d) same;
    }

common_tail : (first n : ℕ) (ids : List PieceId) → n ≡ first → Whole (Some (Common n)) ids → AreTail first (Common n ∷ ids)
common_tail first n ids e whole =
    let tail = behind n ids whole in
    record {
      commons = suc tail.commons;
      gaps = tail.gaps;
      none_or_all = tail.none_or_all;
      are = ap (λ (l : List PieceId). Common n ∷ l) tail.are ∙ ap (λ (m : ℕ). Common m ∷ (commons_from (suc m) tail.commons ++ tail.gaps)) e;
    }
  where
    behind : (n : ℕ) (ids : List PieceId) → Whole (Some (Common n)) ids → AreTail (suc n) ids
    behind n [] whole = no_tail (suc n)
    behind n (Common m ∷ ids) whole =
        let same : m ≡ suc n = eqb-true m (n + 1) whole.0 ∙ omega arith in
        let tail = behind m ids whole.1 in
        record {
          commons = suc tail.commons;
          gaps = tail.gaps;
          none_or_all = tail.none_or_all;
          are = ap (λ (l : List PieceId). Common m ∷ l) tail.are ∙ ap (λ (k : ℕ). Common k ∷ (commons_from (suc k) tail.commons ++ tail.gaps)) same;
        }
    behind n (Gap c ∷ ids) whole = gap_tail (suc n) c ids whole.0 whole.1
    behind n (Section input section ∷ ids) whole = let no = whole.0 in cc

-- sections, commons and gaps behind a section
record AreBehind (s : ℕ × ℕ) (ids : List PieceId) : Type 0 where
  pub sections : List (ℕ × ℕ)
  pub ascend : Ascend (s ∷ sections)
  pub commons : ℕ
  pub gaps : List PieceId
  pub none_or_all : (gaps ≡ []) ⊎ (gaps ≡ all_gaps)
  pub are : ids ≡ map section_id sections ++ (commons_from 0 commons ++ gaps)

no_more : (s : ℕ × ℕ) (ids : List PieceId) → AreTail 0 ids → AreBehind s ids
no_more s ids tail =
    record { sections = []; ascend = tt; commons = tail.commons; gaps = tail.gaps; none_or_all = tail.none_or_all; are = tail.are }

are_behind : (input section : ℕ) (ids : List PieceId) → Whole (Some (Section input section)) ids → AreBehind (input, section) ids
are_behind input section [] whole = no_more (input, section) [] (no_tail 0)
are_behind input section (Section i s ∷ ids) whole =
    let more = are_behind i s ids whole.1 in
    record {
      sections = (i, s) ∷ more.sections;
      ascend = (whole.0, more.ascend);
      commons = more.commons;
      gaps = more.gaps;
      none_or_all = more.none_or_all;
      are = ap (λ (l : List PieceId). Section i s ∷ l) more.are;
    }
are_behind input section (Common n ∷ ids) whole = no_more (input, section) (Common n ∷ ids) (common_tail 0 n ids (eqb-true n 0 whole.0) whole.1)
are_behind input section (Gap c ∷ ids) whole = no_more (input, section) (Gap c ∷ ids) (gap_tail 0 c ids whole.0 whole.1)

no_sections : (ids : List PieceId) → AreTail 0 ids → IsInOrder ids
no_sections ids tail = record { sections = []; commons = tail.commons; gaps = tail.gaps; ascend = tt; none_or_all = tail.none_or_all; are = tail.are }

pub whole_order : (ids : List PieceId) → Whole None ids → IsInOrder ids
whole_order [] whole = no_sections [] (no_tail 0)
whole_order (Section i s ∷ ids) whole =
    let more = are_behind i s ids whole.1 in
    record {
      sections = (i, s) ∷ more.sections;
      commons = more.commons;
      gaps = more.gaps;
      ascend = more.ascend;
      none_or_all = more.none_or_all;
      are = ap (λ (l : List PieceId). Section i s ∷ l) more.are ∙ sym (append_assoc (map section_id ((i, s) ∷ more.sections)) (commons_from 0 more.commons) more.gaps);
    }
whole_order (Common n ∷ ids) whole = no_sections (Common n ∷ ids) (common_tail 0 n ids (eqb-true n 0 whole.0) whole.1)
whole_order (Gap c ∷ ids) whole = no_sections (Gap c ∷ ids) (gap_tail 0 c ids whole.0 whole.1)
