-- The lines of a kit in kit order, and its inputs.
use Rattle.std.proofs.Common.{ℕ, suc, ◌≡◌, ◌<◌, ◌≤◌, List, [], ◌∷◌, ◌++◌, length, map, get_or, refl, sym, subst, ◌+◌, arith, Bool, true, not, ◌&&◌, inl, inr}
use Rattle.std.specs.Prelude.{All, AllPairs, None, Some, Option, ◌==◌, nat_le, nat_eq, is_none, sum_by, codes}
use Rattle.std.specs.Str.{bytes_eq}
use Rattle.std.specs.List.{AllByRecursion, ends_with}
use Rattle.std.proofs.lemmas.Bool.{cases_Bool, eqb-true, leb-true}
use Rattle.std.proofs.lemmas.List.{get_or_default}
use Rattle.std.proofs.lemmas.List.Elements.{All-append, All-cons, All-nil}
use Rattle.kl_base.proofs.Bools.{and_left, and_right}
use Rattle.kl_ar.specs.Archives.{members_of}
use Rattle.kl_ar.specs.declared.member.Member.{Member}
use Rattle.kl_base.specs.Names.{name_fault}
use Rattle.kl_base.specs.declared.limits.TheConstants.{FILE_LIMIT, SCRATCH_SUFFIX}
use Rattle.kl_model.specs.Fit.{AreFit, IsFit}
use Rattle.kl_model.specs.Kept.{part_number}
use Rattle.kl_model.specs.declared.kit.KitInput.{KitInput}
use Rattle.kl_model.specs.declared.object.Input.{Input}
use Rattle.kl_model.specs.declared.object.Part.{Part}
use Rattle.kl_model.specs.declared.object.Part.TheVariants.{Head, Drawn, Tail}
use Rattle.kl_model.proofs.Each.{pairs-append}
use Rattle.kl_kit.specs.Forms.{HasFile, is_file}
use Rattle.kl_jobs.specs.Reading.{inputs_of, input_of, is_archive, kit_order, lines_of, member_input, over}
use Rattle.kl_jobs.proofs.Readings.{bounds}

none_is : {X : Type 0} (o : Option X) → is_none o ≡ true → o ≡ None
none_is None e = refl
none_is (Some x) e = cc

-- a file's name in a folder
abbrev not_kit_text : List ℕ → Bool
not_kit_text file = not (bytes_eq file (codes "link.conf"))

abbrev not_scratch : List ℕ → Bool
not_scratch file = not (ends_with nat_eq file SCRATCH_SUFFIX)

short_name : (file : List ℕ) → is_file file ≡ true → (nat_le (length file) FILE_LIMIT && is_none (name_fault (47 ∷ file))) ≡ true
short_name file is =
    and_left (nat_le (length file) FILE_LIMIT && is_none (name_fault (47 ∷ file))) (not_kit_text file)
    (and_left ((nat_le (length file) FILE_LIMIT && is_none (name_fault (47 ∷ file))) && not_kit_text file) (not_scratch file) is)

pub file_len : (k : KitInput) → HasFile k → length k.file ≤ FILE_LIMIT
file_len k is = leb-true (length k.file) FILE_LIMIT (and_left (nat_le (length k.file) FILE_LIMIT) (is_none (name_fault (47 ∷ k.file))) (short_name k.file is))

pub file_name : (k : KitInput) → HasFile k → name_fault (47 ∷ k.file) ≡ None
file_name k is = none_is (name_fault (47 ∷ k.file)) (and_right (nat_le (length k.file) FILE_LIMIT) (is_none (name_fault (47 ∷ k.file))) (short_name k.file is))

-- what holds of all lines holds of those of a part, and of all in kit order
module _ (P : KitInput → Type 0) (of_file : (k : KitInput) → HasFile k → P k) where
  part_lines : (part : Part) (lines : List KitInput) → AllByRecursion HasFile lines → All P (lines_of part lines)
  part_lines part [] are = All-nil P
  part_lines part (k ∷ ks) are = elim (cases_Bool (part_number k.place == part_number part)) [
    | inl e ↦ rw e (All-cons P k (lines_of part ks) (of_file k are.0) (part_lines part ks are.1))
    | inr e ↦ rw e (part_lines part ks are.1)
  ]

  pub order_lines : (lines : List KitInput) → AllByRecursion HasFile lines → All P (kit_order lines)
  order_lines lines are =
      All-append P (lines_of Head lines) _ (part_lines Head lines are)
      (All-append P (lines_of Drawn lines) (lines_of Tail lines) (part_lines Drawn lines are) (part_lines Tail lines are))

-- KIT ORDER: the head, the drawn inputs, the tail
abbrev pub Follows : KitInput → KitInput → Type 0
Follows j k = part_number j.place ≤ part_number k.place

of_part : (part : Part) (lines : List KitInput) → All (λ k. part_number k.place ≡ part_number part) (lines_of part lines)
of_part part [] = All-nil (λ k. part_number k.place ≡ part_number part)
of_part part (k ∷ ks) = elim (cases_Bool (part_number k.place == part_number part)) [
  | inl e ↦ rw e (All-cons (λ k. part_number k.place ≡ part_number part) k (lines_of part ks) (eqb-true (part_number k.place) (part_number part) e) (of_part part ks))
  | inr e ↦ rw e (of_part part ks)
]

all_alike : (n : ℕ) (ks : List KitInput) → All (λ k. part_number k.place ≡ n) ks → AllPairs Follows ks
all_alike n ks are = λ i j d low high. let a = are i d (omega (arith, low, high)) in let b = are j d high in omega (arith, a, b)

one_before : (n m : ℕ) (js ks : List KitInput) → n ≤ m → All (λ k. part_number k.place ≡ n) js → All (λ k. m ≤ part_number k.place) ks → All (λ j. All (Follows j) ks) js
one_before n m js ks less are later = λ i d low. λ j e high. let a = are i d low in let b = later j e high in omega (arith, a, b, less)

at_least : (n : ℕ) (ks : List KitInput) → All (λ k. part_number k.place ≡ n) ks → All (λ k. n ≤ part_number k.place) ks
at_least n ks are = λ i d low. let a = are i d low in omega (arith, a)

more_than : (n : ℕ) (ks : List KitInput) → All (λ k. suc n ≤ part_number k.place) ks → All (λ k. n ≤ part_number k.place) ks
more_than n ks are = λ i d low. let a = are i d low in omega (arith, a)

pub in_kit_order : (lines : List KitInput) → AllPairs Follows (kit_order lines)
in_kit_order lines =
    let head = of_part Head lines in let drawn = of_part Drawn lines in let tail = of_part Tail lines in
    let later : All (λ k. 1 ≤ part_number k.place) (lines_of Drawn lines ++ lines_of Tail lines) =
    All-append (λ k. 1 ≤ part_number k.place) (lines_of Drawn lines) (lines_of Tail lines) (at_least 1 _ drawn) (more_than 1 _ (at_least 2 _ tail)) in
    pairs-append Follows (lines_of Head lines) _ (all_alike 0 _ head)
    (pairs-append Follows (lines_of Drawn lines) (lines_of Tail lines) (all_alike 1 _ drawn) (all_alike 2 _ tail) (one_before 1 2 _ _ (omega arith) drawn (at_least 2 _ tail)))
    (one_before 0 1 _ _ (omega arith) head later)

-- INPUTS IN THAT ORDER: those of a file are all of its line's part, and those of one line after another follow
abbrev pub InputFollows : Input → Input → Type 0
InputFollows x y = part_number x.place ≤ part_number y.place

members_of_part : (place : Part) (b : List ℕ) (ms : List Member) → All (λ x. x.place ≡ place) (map (member_input place b) ms)
members_of_part place b [] = All-nil (λ x. x.place ≡ place)
members_of_part place b (m ∷ ms) = All-cons (λ x. x.place ≡ place) (member_input place b m) (map (member_input place b) ms) refl (members_of_part place b ms)

file_of_part : (place : Part) (b : List ℕ) → All (λ x. x.place ≡ place) (inputs_of place b)
file_of_part place b = elim (cases_Bool (is_archive b)) [
  | inl e ↦ rw e (members_of_part place b (members_of b))
  | inr e ↦ rw e (All-cons (λ x. x.place ≡ place) (input_of place b) [] refl (All-nil (λ x. x.place ≡ place)))
]

pub pairs_none : AllPairs InputFollows []
pairs_none = λ i j d low high. omega (arith, high)

-- all these inputs may stand before the lines from this one on
abbrev pub IsBefore : List KitInput → ℕ → Input → Type 0
IsBefore all i x = (j : ℕ) (d : KitInput) → i ≤ j → j < length all → part_number x.place ≤ part_number (get_or all j d).place

abbrev pub ComeBefore : List KitInput → ℕ → List Input → Type 0
ComeBefore all i xs = All (IsBefore all i) xs

module _ (all : List KitInput) (follow : AllPairs Follows all) (i : ℕ) (k : KitInput) (less : i < length all) (here : k ≡ get_or all i k) (xs : List Input) (b : List ℕ)
    (before : ComeBefore all i xs) where
  pub follow_on : AllPairs InputFollows xs → AllPairs InputFollows (xs ++ inputs_of k.place b)
  follow_on pairs =
      let new = file_of_part k.place b in
      pairs-append InputFollows xs (inputs_of k.place b) pairs
      (λ m n d low high. rw (new m d (omega (arith, low, high)), new n d high) (omega arith))
      (λ m d low. λ n e high. rw (new n e high) (subst (λ (j : KitInput). part_number (get_or xs m d).place ≤ part_number j.place) (sym here) (before m d low i k (omega arith) less)))

  pub before_on : ComeBefore all (i + 1) (xs ++ inputs_of k.place b)
  before_on =
      let new = file_of_part k.place b in
      All-append (IsBefore all (i + 1)) xs (inputs_of k.place b) (λ m d low. λ j e from less. before m d low j e (omega (arith, from)) less)
      (λ m d low. λ j e from less. rw (new m d low) (subst (λ (l : KitInput). part_number l.place ≤ part_number (get_or all j e).place) (sym here) (at j e from less)))
    where
      at : (j : ℕ) (e : KitInput) → i + 1 ≤ j → j < length all → part_number (get_or all i k).place ≤ part_number (get_or all j e).place
      at j e from less = rw (get_or_default all j e k less) (follow i j k (omega (arith, from)) less)

-- THE INPUTS OF A KIT ARE FIT
pub are_fit : (xs : List Input) → All IsFit xs → over xs ≡ None → AllPairs InputFollows xs → AreFit xs
are_fit xs fit none follow =
    let w = bounds xs (length xs) (sum_by (λ x. length x.bytes) xs) (sum_by (λ x. length x.object.sections) xs) (sum_by (λ x. length x.object.symbols) xs) (sum_by (λ x. length x.object.fields) xs)
    (record { inputs_are = refl; bytes_are = refl; sections_are = refl; symbols_are = refl; fields_are = refl }) none in
    record {
      each_input = fit;
      places = follow;
      count = w.0;
      bytes = w.1.0;
      sections = w.1.1.0;
      symbols = w.1.1.1.0;
      fields = w.1.1.1.1;
    }
