-- The ends of the names in a table of long names.
use Rattle.std.proofs.Common.{◌≡◌, ℕ, zero, suc, ◌+◌, ◌-◌, ◌<◌, ◌≤◌, Bool, true, false, cond, List, [], ◌∷◌, ◌++◌, length, get_or, drop, take, add-one, refl, sym, ap, subst, ◌∙◌, arith, Option}
use Rattle.std.specs.Prelude.{Some, None, All, find, nat_eq, nat_le, nat_lt, slice_get, IfSome}
use Rattle.std.specs.List.{starts_with, AllWithin}
use Rattle.std.specs.List.Sorted.{IsNonDecreasing}
use denote.Ref.{Bor}
use Rattle.std.specs.Option.{is_some, option_copied, option_map}
use Rattle.std.proofs.lemmas.Option.{slice_get_past, slice_get_read}
use Rattle.std.proofs.lemmas.List.{drop_more, take_rest, append_assoc}
use Rattle.std.proofs.lemmas.Bool.Decides.{nat_tests}
use Rattle.kl_base.specs.declared.class.Range.{Range}
use Rattle.kl_ar.specs.Archives.{name_len, range_from}
use Rattle.kl_ar.specs.Readers.{name_ends}
use Rattle.kl_ar.specs.declared.format.TheConstants.{LONG_NAME_END}

-- a place of the bytes at i, of which there are n
abbrev IsPlace : ℕ → ℕ → ℕ → Type 0
IsPlace i n e = (i ≤ e) × (e < i + n)

-- each end lies in the table
one_more : (i n : ℕ) (xs : List ℕ) (b : Bool) → All (IsPlace (suc i) n) xs → All (IsPlace i (suc n)) (cond b (i ∷ []) [] ++ xs)
one_more i n xs true rest zero d h = (omega arith, omega arith)
one_more i n xs true rest (suc k) d h = let w = rest k d (omega arith) in (omega (arith, w.0), omega (arith, w.1))
one_more i n xs false rest k d h = let w = rest k d h in (omega (arith, w.0), omega (arith, w.1))

ends_within : (i : ℕ) (t : List ℕ) → All (IsPlace i (length t)) (name_ends i t)
ends_within i [] = λ k d h. absurd (omega arith)
ends_within i (c ∷ t) = one_more i (length t) (name_ends (suc i) t) (starts_with nat_eq (c ∷ t) LONG_NAME_END) (ends_within (suc i) t)

pub ends_below : (t : List ℕ) → All (λ e. e < length t) (name_ends 0 t)
ends_below t k d h = let w = ends_within 0 t k d h in omega (arith, w.1)

-- they rise
rising_cons : (i n : ℕ) (xs : List ℕ) (b : Bool) → All (IsPlace (suc i) n) xs → IsNonDecreasing xs → IsNonDecreasing (cond b (i ∷ []) [] ++ xs)
rising_cons i n xs true behind rising zero zero d h l = omega arith
rising_cons i n xs true behind rising zero (suc k) d h l = let w = behind k d (omega arith) in omega (arith, w.0)
rising_cons i n xs true behind rising (suc j) zero d h l = absurd (omega arith)
rising_cons i n xs true behind rising (suc j) (suc k) d h l = rising j k d (omega arith) (omega arith)
rising_cons i n xs false behind rising j k d h l = rising j k d h l

ends_rise : (i : ℕ) (t : List ℕ) → IsNonDecreasing (name_ends i t)
ends_rise i [] = λ j k d h l. absurd (omega arith)
ends_rise i (c ∷ t) = rising_cons i (length t) (name_ends (suc i) t) (starts_with nat_eq (c ∷ t) LONG_NAME_END) (ends_within (suc i) t) (ends_rise (suc i) t)

pub rising : (t : List ℕ) → IsNonDecreasing (name_ends 0 t)
rising t = ends_rise 0 t

-- the first end that isn't before a place
le_true : (m n : ℕ) → m ≤ n → nat_le m n ≡ true
le_true m n h = grind (arith, nat_tests)

le_false : (m n : ℕ) → n < m → nat_le m n ≡ false
le_false m n h = grind (arith, nat_tests)

sum_more : (i : ℕ) (o : Option ℕ) → option_map (λ k. suc i + k) o ≡ option_map (λ k. i + k) (option_map (λ k. suc k) o)
sum_more i None = refl
sum_more i (Some k) = let e : suc i + k ≡ i + suc k = omega arith in ap (λ x. Some x) e

sum_zero : (i : ℕ) → i ≡ i + 0
sum_zero i = omega arith

found_here : (n i : ℕ) (xs : List ℕ) (o : Option ℕ) (b : Bool) → n ≤ i → find (nat_le n) xs ≡ option_map (λ k. suc i + k) o
    → find (nat_le n) (cond b (i ∷ []) [] ++ xs) ≡ option_map (λ k. i + k) (cond b (Some 0) (option_map (λ k. suc k) o))
found_here n i xs o true h rest = rw (le_true n i h) (ap (λ x. Some x) (sum_zero i))
found_here n i xs o false h rest = rest ∙ sum_more i o

all_behind : (n i : ℕ) (t : List ℕ) → n ≤ i → find (nat_le n) (name_ends i t) ≡ option_map (λ k. i + k) (name_len t)
all_behind n i [] h = refl
all_behind n i (c ∷ t) h =
    found_here n i (name_ends (suc i) t) (name_len t) (starts_with nat_eq (c ∷ t) LONG_NAME_END) h (all_behind n (suc i) t (omega arith))

none_here : (n i : ℕ) (xs : List ℕ) (b : Bool) → i < n → find (nat_le n) (cond b (i ∷ []) [] ++ xs) ≡ find (nat_le n) xs
none_here n i xs true h = rw (le_false n i h) refl
none_here n i xs false h = refl

found_from : (k i : ℕ) (t : List ℕ) → find (nat_le (i + k)) (name_ends i t) ≡ option_map (λ l. i + k + l) (name_len (drop k t))
found_from zero i t = let e : i + zero ≡ i = omega arith in rw e (all_behind i i t (omega arith))
found_from (suc k) i [] = refl
found_from (suc k) i (c ∷ t) =
    let e : i + suc k ≡ suc i + k = omega arith in
    none_here (i + suc k) i (name_ends (suc i) t) (starts_with nat_eq (c ∷ t) LONG_NAME_END) (omega arith) ∙ rw e (found_from k (suc i) t)

pub found_is : (n : ℕ) (t : List ℕ) → find (nat_le n) (name_ends 0 t) ≡ option_map (λ l. n + l) (name_len (drop n t))
found_is n t = let e : 0 + n ≡ n = omega arith in rw e at (found_from n 0 t)

-- the name of which that is the end
pub no_name : (start n : ℕ) (ends t : List ℕ) → ends ≡ name_ends 0 t → None ≡ find (nat_le n) ends → None ≡ range_from start (name_len (drop n t))
no_name start n ends t is none = go (name_len (drop n t)) (none ∙ (ap (find (nat_le n)) is ∙ found_is n t))
  where
    go : (o : Option ℕ) → None ≡ option_map (λ l. n + l) o → None ≡ range_from start o
    go None e = refl
    go (Some l) e = cc

pub name_is : (start n end : ℕ) (ends t : List ℕ) → ends ≡ name_ends 0 t → Some end ≡ find (nat_le n) ends
    → Some (record { at = start; len = end - n }) ≡ range_from start (name_len (drop n t))
name_is start n end ends t is some = go (name_len (drop n t)) (some ∙ (ap (find (nat_le n)) is ∙ found_is n t))
  where
    go : (o : Option ℕ) → Some end ≡ option_map (λ l. n + l) o → Some (record { at = start; len = end - n }) ≡ range_from start o
    go None e = cc
    go (Some l) e = let same : end ≡ n + l = cc in let len : end - n ≡ l = omega arith in ap (λ (x : ℕ). let r : Range = record { at = start; len = x } in Some r) len

-- by the place that a binary search gives
point_is : (n i : ℕ) (xs : List ℕ) → i ≤ length xs → AllWithin (λ y. nat_lt y n ≡ true) xs 0 i → AllWithin (λ y. nat_lt y n ≡ false) xs i (length xs)
    → slice_get xs i ≡ find (nat_le n) xs
point_is n zero [] h before behind = refl
point_is n (suc i) [] h before behind = absurd (omega arith)
point_is n zero (x ∷ xs) h before behind = rw (reach n x (behind 0 x (omega arith) (omega arith))) refl
  where
    reach : (n x : ℕ) → nat_lt x n ≡ false → nat_le n x ≡ true
    reach n x e = grind (arith, nat_tests)
point_is n (suc i) (x ∷ xs) h before behind =
    rw (short n x (before 0 x (omega arith) (omega arith)))
    (point_is n i xs (omega arith) (λ k d low high. before (suc k) d (omega arith) (omega arith)) (λ k d low high. behind (suc k) d (omega arith) (omega arith)))
  where
    short : (n x : ℕ) → nat_lt x n ≡ true → nat_le n x ≡ false
    short n x e = grind (arith, nat_tests)

pub find_point : (n i : ℕ) (xs : List ℕ) → i ≤ length xs → AllWithin (λ y. nat_lt y n ≡ true) xs 0 i × AllWithin (λ y. nat_lt y n ≡ false) xs i (length xs)
    → slice_get xs i ≡ find (nat_le n) xs
find_point n i xs h point = point_is n i xs h point.0 point.1

pub found_behind : (n : ℕ) (xs : List ℕ) (o : Option ℕ) → o ≡ find (nat_le n) xs → IfSome o (λ e. n ≤ e)
found_behind n xs o e = subst (λ (x : Option ℕ). IfSome x (λ e. n ≤ e)) (sym e) (go xs)
  where
    here : (x : ℕ) (t : Bool) (o : Option ℕ) → nat_le n x ≡ t → IfSome o (λ e. n ≤ e) → IfSome (cond t (Some x) o) (λ e. n ≤ e)
    here x true o e rest = grind (arith, nat_tests)
    here x false o e rest = rest

    go : (xs : List ℕ) → IfSome (find (nat_le n) xs) (λ e. n ≤ e)
    go [] = tt
    go (x ∷ xs) = here x (nat_le n x) (find (nat_le n) xs) refl (go xs)

-- the next place of a table
pub ends_more : (t : List ℕ) (i : ℕ) (xs ys : List ℕ) (b : Bool) → i < length t → b ≡ starts_with nat_eq (take (length t - i) (drop i t)) LONG_NAME_END
    → xs ++ name_ends i (drop i t) ≡ ys → xs ++ cond b (i ∷ []) [] ++ name_ends (i + 1) (drop (i + 1) t) ≡ ys
ends_more t i xs ys b h tested so_far =
    let whole : take (length t - i) (drop i t) ≡ get_or t i 0 ∷ drop (i + 1) t = take_rest t i ∙ drop_more t i 0 h in
    let test : starts_with nat_eq (get_or t i 0 ∷ drop (i + 1) t) LONG_NAME_END ≡ b = ap (λ (x : List ℕ). starts_with nat_eq x LONG_NAME_END) (sym whole) ∙ sym tested in
    let step : name_ends i (drop i t) ≡ cond b (i ∷ []) [] ++ name_ends (i + 1) (drop (i + 1) t) =
    ap (name_ends i) (drop_more t i 0 h)
    ∙ (ap (λ (x : Bool). cond x (i ∷ []) [] ++ name_ends (suc i) (drop (i + 1) t)) test
    ∙ ap (λ (x : ℕ). cond b (i ∷ []) [] ++ name_ends x (drop (i + 1) t)) (sym (add-one i))) in
    append_assoc xs (cond b (i ∷ []) []) (name_ends (i + 1) (drop (i + 1) t)) ∙ (ap (λ (x : List ℕ). xs ++ x) (sym step) ∙ so_far)

-- what stands at a place
pub got : (xs : List ℕ) (i : ℕ) (o : Option (Bor ℕ)) → is_some o ≡ nat_lt i (length xs) → IfSome o (λ x. x.now ≡ get_or xs i x.now) → option_copied o ≡ slice_get xs i
got xs i None within is = sym (slice_get_past xs i (past i (length xs) (sym within)))
  where
    past : (m n : ℕ) → nat_lt m n ≡ false → n ≤ m
    past m n e = grind (arith, nat_tests)
got xs i (Some x) within is = sym (slice_get_read xs (length xs) i x.now refl (below i (length xs) (sym within)) is)
  where
    below : (m n : ℕ) → nat_lt m n ≡ true → m < n
    below m n e = grind (arith, nat_tests)
