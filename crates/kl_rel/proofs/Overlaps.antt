-- Fields that share a byte, and their spans.
use Rattle.std.proofs.Common.{ℕ, zero, suc, ◌≡◌, ◌+◌, ◌-◌, ◌<◌, ◌≤◌, ◌⊎◌, ◌∙◌, inl, inr, Bool, true, false, cond, ◌&&◌, List, [], ◌∷◌, ◌++◌, length, get_or, take, refl, ap, arith, eq-eqb, eqb-true, lt-ltb}
use Rattle.std.specs.Prelude.{All, AllPairs, max, min, map, filter, ◌==◌, nat_lt, nat_le, slice_index_or}
use Rattle.std.specs.List.{AllAdjacentBelow, list_any, range_with_len}
use Rattle.std.specs.Ordering.{is_lt}
use Rattle.std.proofs.lemmas.Bool.{ltb-true, leb-true, cases_lt, cases_order, and_parts}
use Rattle.std.proofs.lemmas.Bool.Decides.{nat_tests}
use Rattle.std.proofs.lemmas.List.{append-nil, get_or_default}
use Rattle.std.proofs.lemmas.List.Folds.{list_any_none}
use Rattle.std.proofs.lemmas.List.Kept.{AllPairs-filter}
use Rattle.std.proofs.lemmas.List.Elements.{filter_more, All-map, All-weaker, filter_passes}
use Rattle.kl_model.specs.Fit.{ShareNoByte}
use Rattle.kl_model.specs.Relocations.{width}
use Rattle.kl_model.specs.declared.object.RawField.{RawField}
use Rattle.kl_rel.specs.Relocations.{is_byte_of, is_taken, shares_byte}
use Rattle.kl_rel.specs.FieldScans.{ApartUnless, Span, span_of, span_cmp, meet, Apart, is_noted, noted_spans}
use Rattle.kl_rel.proofs.Passes.{map-append}
use Rattle.kl_rel.proofs.Pairs.{pair_last, pairs_map, pairs_unmap, pairs_unfilter}

-- a field that shares no byte with any before it
pub last_free : (fields : List RawField) (f : RawField) → AllPairs ShareNoByte (fields ++ f ∷ []) → shares_byte fields f ≡ false
last_free fields f pairs = go f.offset (width f.kind) (omega arith) (omega arith)
  where
    one : (g : RawField) (x : ℕ) → ShareNoByte g f → f.offset ≤ x → x < f.offset + width f.kind → is_byte_of f.section x g ≡ false
    one g x apart low high = at (g.section == f.section) (nat_le g.offset x) (nat_lt x (g.offset + width g.kind)) refl refl refl
      where
        at : (s o e : Bool) → (g.section == f.section) ≡ s → nat_le g.offset x ≡ o → nat_lt x (g.offset + width g.kind) ≡ e
            → ((s && o) && e) ≡ false
        at true true true es eo ee =
            absurd (apart (eqb-true g.section f.section es) x (leb-true g.offset x eo, ltb-true x (g.offset + width g.kind) ee) (low, high))
        at true true false es eo ee = refl
        at true false e es eo ee = refl
        at false o e es eo ee = refl

    go : (a n : ℕ) → f.offset ≤ a → a + n ≤ f.offset + width f.kind → list_any (is_taken fields f.section) (range_with_len a n) ≡ false
    go a zero low high = refl
    go a (suc n) low high =
        let here = list_any_none (is_byte_of f.section a) fields
        (λ k d h. one (get_or fields k d) a (pair_last ShareNoByte fields f pairs k d h) low (omega arith)) in
        rw here (go (a + 1) n (omega arith) (omega arith))

-- two fields share a byte where their spans do
spans_apart : (f h : RawField) → ShareNoByte f h → Apart (span_of f) (span_of h)
spans_apart f h apart =
    go (f.section == h.section) (nat_lt (max f.offset h.offset) (min (f.offset + width f.kind) (h.offset + width h.kind))) refl refl
  where
    go : (s m : Bool) → (f.section == h.section) ≡ s
        → nat_lt (max f.offset h.offset) (min (f.offset + width f.kind) (h.offset + width h.kind)) ≡ m → (s && m) ≡ false
    go true true es em =
        let common = ltb-true (max f.offset h.offset) (min (f.offset + width f.kind) (h.offset + width h.kind)) em in
        absurd (apart (eqb-true f.section h.section es) (max f.offset h.offset) (omega arith, omega (arith, common))
        (omega arith, omega (arith, common)))
    go true false es em = refl
    go false m es em = refl

fields_apart : (f h : RawField) → Apart (span_of f) (span_of h) → ShareNoByte f h
fields_apart f h none = λ same q first second.
    let common : max f.offset h.offset < min (f.offset + width f.kind) (h.offset + width h.kind) = omega
    (arith, first.0, first.1, second.0, second.1) in
    let is = lt-ltb (max f.offset h.offset) (min (f.offset + width f.kind) (h.offset + width h.kind)) common in
    let bad : true ≡ false = rw (eq-eqb f.section h.section same, is) at none in
    cc

-- fields whose spans share no byte, where only those that are noted may
pub apart_by_spans : (noted : List Bool) (fields : List RawField) → AllPairs (ApartUnless noted) fields
    → AllPairs Apart (noted_spans noted fields) → AllPairs ShareNoByte fields
apart_by_spans noted fields others spans =
    pairs_unfilter (is_noted noted) ShareNoByte fields
    (λ i j d less short none. one (get_or fields i d) (get_or fields j d) none (others i j d less short))
    (pairs_unmap span_of ShareNoByte Apart fields_apart (filter (is_noted noted) fields) spans)
  where
    one : (f h : RawField) → (is_noted noted f && is_noted noted h) ≡ false → ApartUnless noted f h → ShareNoByte f h
    one f h none apart = λ same q first second. go (slice_index_or noted f.section true) refl same q first second
      where
        go : (t : Bool) → slice_index_or noted f.section true ≡ t → ShareNoByte f h
        go false e = apart e
        go true e = λ same q first second.
            let wide : 0 < width f.kind = omega (arith, first.0, first.1) in
            let broad : 0 < width h.kind = omega (arith, second.0, second.1) in
            let bad : true ≡ false = rw (← same, e, lt-ltb 0 (width f.kind) wide, lt-ltb 0 (width h.kind) broad) at none in
            cc

pub spans_by_apart : (noted : List Bool) (fields : List RawField) → AllPairs ShareNoByte fields → AllPairs Apart (noted_spans noted fields)
spans_by_apart noted fields pairs =
    pairs_map span_of ShareNoByte Apart spans_apart (filter (is_noted noted) fields)
    (AllPairs-filter ShareNoByte (is_noted noted) fields pairs)

-- one field more
spans_more : (noted : List Bool) (fields : List RawField) (i : ℕ) (d : RawField) → i < length fields
    → noted_spans noted (take (i + 1) fields)
    ≡ noted_spans noted (take i fields) ++ map span_of (cond (is_noted noted (get_or fields i d)) (get_or fields i d ∷ []) [])
spans_more noted fields i d h =
    ap (map span_of) (filter_more (is_noted noted) fields i d h)
    ∙ map-append span_of (filter (is_noted noted) (take i fields)) (cond (is_noted noted (get_or fields i d)) (get_or fields i d ∷ []) [])

pub spans_taken : (noted : List Bool) (fields : List RawField) (i : ℕ) (d : RawField) → i < length fields
    → is_noted noted (get_or fields i d) ≡ true
    → noted_spans noted (take (i + 1) fields) ≡ noted_spans noted (take i fields) ++ span_of (get_or fields i d) ∷ []
spans_taken noted fields i d h is = spans_more noted fields i d h ∙ rw is refl

pub spans_passed : (noted : List Bool) (fields : List RawField) (i : ℕ) (d : RawField) → i < length fields
    → is_noted noted (get_or fields i d) ≡ false
    → noted_spans noted (take (i + 1) fields) ≡ noted_spans noted (take i fields)
spans_passed noted fields i d h isnt = spans_more noted fields i d h ∙ (rw isnt (append-nil (noted_spans noted (take i fields))))

-- what is read of the notes
pub noted_at : (noted : List Bool) (fields : List RawField) → All (λ f. f.section < length noted) fields
    → (i : ℕ) (d : RawField) (r : Bool) → i < length fields
    → r ≡ get_or noted (get_or fields i d).section r → r ≡ slice_index_or noted (get_or fields i d).section true
noted_at noted fields sections i d r h e = e ∙ get_or_default noted (get_or fields i d).section r true (sections i d h)

-- each of these spans has a byte
pub spans_have_bytes : (noted : List Bool) (fields : List RawField) → All (λ x. x.1 < x.2) (noted_spans noted fields)
spans_have_bytes noted fields =
    All-map (λ x. x.1 < x.2) span_of (filter (is_noted noted) fields)
    (All-weaker (λ f. is_noted noted f ≡ true) (λ f. f.offset < f.offset + width f.kind) (λ f is.
    let wide = ltb-true 0 (width f.kind) ((and_parts (slice_index_or noted f.section true) (nat_lt 0 (width f.kind)) is).1) in
    omega (arith, wide)) (filter (is_noted noted) fields) (filter_passes (is_noted noted) fields))

pub meet_flips : (x y : Span) → meet x y ≡ meet y x
meet_flips x y = grind (arith, nat_tests)

-- a span ends before the next begins
abbrev pub Precedes : Span → Span → Type 0
Precedes x y = (x.0 < y.0) ⊎ ((x.0 ≡ y.0) × (x.2 ≤ y.1))

precedes_apart : (x y : Span) → Precedes x y → Apart x y
precedes_apart x y (inl below) = grind (arith, nat_tests, below)
precedes_apart x y (inr past) = grind (arith, nat_tests, past.0, past.1)

precedes_far : (x y z : Span) → y.1 < y.2 → Precedes x y → Precedes y z → Precedes x z
precedes_far x y z some (inl a) (inl b) = inl (omega (arith, a, b))
precedes_far x y z some (inl a) (inr b) = inl (omega (arith, a, b.0))
precedes_far x y z some (inr a) (inl b) = inl (omega (arith, a.0, b))
precedes_far x y z some (inr a) (inr b) = inr (omega (arith, a.0, b.0), omega (arith, a.1, b.1, some))

-- where each of several spans ends before the next, all are apart
pub all_precede : (xs : List Span) → All (λ x. x.1 < x.2) xs → AllAdjacentBelow Precedes xs (length xs) → AllPairs Apart xs
all_precede xs bytes next = λ i j d less short.
    let e : i + suc (j - i - 1) ≡ j = omega (arith, less) in
    precedes_apart (get_or xs i d) (get_or xs j d) (rw e at (far i (j - i - 1) d (rw e short)))
  where
    far : (i n : ℕ) (d : Span) → i + suc n < length xs → Precedes (get_or xs i d) (get_or xs (i + suc n) d)
    far i zero d short = let e : i + suc zero ≡ i + 1 = omega arith in rw e (next i d (rw e at short))
    far i (suc n) d short =
        let e : i + suc (suc n) ≡ (i + suc n) + 1 = omega arith in
        let last = next (i + suc n) d (rw e at short) in
        rw e (precedes_far (get_or xs i d) (get_or xs (i + suc n) d) (get_or xs ((i + suc n) + 1) d)
        (bytes (i + suc n) d (omega (arith, short))) (far i n d (omega (arith, short))) last)

-- in the order of their sections and offsets
pub in_order : (x y : Span) → is_lt (span_cmp y x) ≡ false → (x.0 < y.0) ⊎ ((x.0 ≡ y.0) × (x.1 ≤ y.1))
in_order x y e = elim (cases_order x.0 y.0) [
  | inl same ↦ elim (cases_lt y.1 x.1) [
    | inl less ↦ absurd (grind (arith, nat_tests, same, less, e))
    | inr past ↦ inr (same, past)
  ]
  | inr (inl below) ↦ inl below
  | inr (inr above) ↦ absurd (grind (arith, nat_tests, above, e))
]

pub precede_next : (x y : Span) → is_lt (span_cmp y x) ≡ false → (x.0 ≡ y.0 → x.2 ≤ y.1) → Precedes x y
precede_next x y e past = elim (in_order x y e) [
  | inl below ↦ inl below
  | inr same ↦ inr (same.0, past same.0)
]

pub meet_next : (x y : Span) → is_lt (span_cmp y x) ≡ false → y.1 < y.2 → x.0 ≡ y.0 → y.1 < x.2 → Apart x y → ⊥
meet_next x y e some same inside apart = elim (in_order x y e) [
  | inl below ↦ absurd (omega (arith, below, same))
  | inr order ↦
      let common : max x.1 y.1 < min x.2 y.2 = omega (arith, order.1, some, inside) in
      let bad : true ≡ false = rw (eq-eqb x.0 y.0 same, lt-ltb (max x.1 y.1) (min x.2 y.2) common) at apart in
      cc
]
