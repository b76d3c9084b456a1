-- A window that shows writes.
use Rattle.std.proofs.Common.{ℕ, ◌≡◌, ◌+◌, ◌-◌, ◌<◌, ◌≤◌, ◌∙◌, ◌⊎◌, List, [], ◌∷◌, ◌++◌, length, get_or, refl, ap, sym, arith, inl, inr, true}
use Rattle.std.specs.Prelude.{if◌then◌else◌}
use Rattle.std.proofs.lemmas.Bool.{cases_lt}
use Rattle.kl_le.specs.Bytes.{ChangesWithin, Outside, Within}
use Rattle.kl_model.specs.Image.{is_within}
use Rattle.kl_model.proofs.ImageBytes.{within_is}
use Rattle.kl_write.proofs.FileBytes.{within_not}
use Rattle.kl_write.specs.Windows.{Shows, Write, same_from, written}

-- one write after others
pub written-append : (b : ℕ) (xs ys : List Write) (q : ℕ) → written b (xs ++ ys) q ≡ written (written b xs q) ys q
written-append b [] ys q = refl
written-append b (x ∷ xs) ys q = written-append (if is_within x.place x.count q then x.byte (q - x.place) else b) xs ys q

pub shows-append : (a b c : List ℕ) (at : ℕ) (xs ys : List Write) → Shows a b at xs → Shows b c at ys → Shows a c at (xs ++ ys)
shows-append a b c at xs ys f g =
    let same = f.long in
    record {
      long = g.long ∙ f.long;
      bytes = λ k h. g.bytes k (omega (arith, same, h)) ∙ (ap (λ n. written n ys (at + k)) (f.bytes k h) ∙ sym (written-append (get_or a k 0) xs ys (at + k)));
    }

pub shows-none : (a : List ℕ) (at : ℕ) → Shows a a at []
shows-none a at = record { long = refl; bytes = λ k h. refl }

-- a place that a write has, or that it doesn't have
pub has_written : (b : ℕ) (w : Write) (q : ℕ) → Within w.place w.count q → written b (w ∷ []) q ≡ w.byte (q - w.place)
has_written b w q h = rw (within_is w.place w.count q h) refl

pub not_written : (b : ℕ) (w : Write) (q : ℕ) → Outside w.place w.count q → written b (w ∷ []) q ≡ b
not_written b w q h = rw (within_not w.place w.count q h) refl

pub cases_within : (at n q : ℕ) → Within at n q ⊎ Outside at n q
cases_within at n q =
    elim (cases_lt q at) [
      | inl l ↦ inr (inl l)
      | inr l ↦ elim (cases_lt q (at + n)) [ inl m ↦ inl (l, m) | inr m ↦ inr (inr m) ]
    ]

-- a window that has the bytes of a write that lie in it, and all others as before, shows it
pub shows_one : (old new : List ℕ) (at : ℕ) (w : Write) → length new ≡ length old
    → ((k : ℕ) → k < length old → Within w.place w.count (at + k) → get_or new k 0 ≡ w.byte (at + k - w.place))
    → ((k : ℕ) → k < length old → Outside w.place w.count (at + k) → get_or new k 0 ≡ get_or old k 0)
    → Shows old new at (w ∷ [])
shows_one old new at w long inside others = record {
  long = long;
  bytes = λ k h. elim (cases_within w.place w.count (at + k)) [
    | inl i ↦ inside k h i ∙ sym (has_written (get_or old k 0) w (at + k) i)
    | inr o ↦ others k h o ∙ sym (not_written (get_or old k 0) w (at + k) o)
  ];
}

-- nothing of a part lies in the window
pub shows_nothing : (old : List ℕ) (at : ℕ) (w : Write) → ((k : ℕ) → k < length old → Outside w.place w.count (at + k)) → Shows old old at (w ∷ [])
shows_nothing old at w out =
    shows_one old old at w refl (λ k h i. elim (out k h) [ inl l ↦ absurd (omega (arith, l, i.0)) | inr l ↦ absurd (omega (arith, l, i.1)) ]) (λ k h o. refl)

-- the part of a write from a place of the file on lies in the window, and stands there
module _ (old new : List ℕ) (at : ℕ) (w : Write) (from n : ℕ) (left : at ≤ from) (right : w.place ≤ from) (last : from + n ≤ w.place + w.count) (room : from + n ≤ at + length old)
    (all : (q : ℕ) → at ≤ q → q < at + length old → Within w.place w.count q → Within from n q) (long : length new ≡ length old) (rest : ChangesWithin old new (from - at) n) where
  outside : (k : ℕ) → k < length old → Outside w.place w.count (at + k) → get_or new k 0 ≡ get_or old k 0
  outside k h o =
      rest.others k (elim (cases_lt k (from - at)) [
        | inl l ↦ inl l
        | inr l ↦ elim (cases_lt k (from - at + n)) [
          | inl m ↦ elim o [ inl x ↦ absurd (omega (arith, x, l, m, left, right)) | inr x ↦ absurd (omega (arith, x, l, m, left, last)) ]
          | inr m ↦ inr m
        ]
      ])

  pub shows_part : ((i : ℕ) → i < n → get_or new (from - at + i) 0 ≡ w.byte (from + i - w.place)) → Shows old new at (w ∷ [])
  shows_part bytes =
      shows_one old new at w long (λ k h i.
      let here = all (at + k) (omega arith) (omega (arith, h)) i in
      let j : ℕ = at + k - from in
      let low = here.0 in
      let high = here.1 in
      let a : from - at + j ≡ k = omega (arith, low, left) in
      let b : from + j ≡ at + k = omega (arith, low) in
      let same : get_or new (from - at + j) 0 ≡ w.byte (from + j - w.place) = bytes j (omega (arith, low, high)) in
      rw (a, b) at same) outside

-- a write that is the same at each of its places
pub shows_as : (old new : List ℕ) (at : ℕ) (w v : Write) → Shows old new at (w ∷ []) → w.place ≡ v.place → w.count ≡ v.count → ((k : ℕ) → k < w.count → w.byte k ≡ v.byte k)
    → Shows old new at (v ∷ [])
shows_as old new at w v s place count bytes =
    shows_one old new at v s.long
    (λ k h i.
    let low = i.0 in
    let high = i.1 in
    let own : Within w.place w.count (at + k) = (omega (arith, place, low), omega (arith, place, count, high)) in
    let far : at + k - w.place ≡ at + k - v.place = ap (λ n. at + k - n) place in
    s.bytes k h ∙ (has_written (get_or old k 0) w (at + k) own ∙ (bytes (at + k - w.place) (omega (arith, place, low, count, high)) ∙ ap v.byte far)))
    (λ k h o. s.bytes k h ∙ not_written (get_or old k 0) w (at + k) (elim o [ inl l ↦ inl (omega (arith, place, l)) | inr l ↦ inr (omega (arith, place, count, l)) ]))

-- one byte up to a place and from another on, and between them another byte: as if all had the first before
pub shows_between : (old a b new : List ℕ) (at from to rest x y : ℕ) → from ≤ to → at + length old ≤ to + rest
    → Shows old a at (same_from 0 from x ∷ []) → Shows a b at (same_from from (to - from) y ∷ []) → Shows b new at (same_from to rest x ∷ [])
    → Shows old new at (same_from at (length old) x ∷ same_from from (to - from) y ∷ [])
shows_between old a b new at from to rest x y order room f g h =
    let all = shows-append old b new at (same_from 0 from x ∷ same_from from (to - from) y ∷ []) (same_from to rest x ∷ [])
    (shows-append old a b at (same_from 0 from x ∷ []) (same_from from (to - from) y ∷ []) f g) h in
    record {
      long = all.long;
      bytes = λ k l.
          let q = at + k in
          let whole : is_within at (length old) q ≡ true = within_is at (length old) q (omega arith, omega (arith, l)) in
          let same : written (get_or old k 0) (same_from at (length old) x ∷ same_from from (to - from) y ∷ []) q ≡ written x (same_from from (to - from) y ∷ []) q =
          ap (λ t. written (if t then x else get_or old k 0) (same_from from (to - from) y ∷ []) q) whole in
          all.bytes k l ∙ (elim (cases_lt q from) [
            | inl s ↦
                let i = within_is 0 from q (omega arith, omega (arith, s)) in
                let m = within_not from (to - from) q (inl s) in
                let n = within_not to rest q (inl (omega (arith, s, order))) in
                rw (i, m, n) refl
            | inr s ↦ elim (cases_lt q to) [
              | inl t ↦
                  let m = within_is from (to - from) q (s, omega (arith, t, order)) in
                  let n = within_not to rest q (inl t) in
                  rw (m, n) refl
              | inr t ↦
                  let m = within_not from (to - from) q (inr (omega (arith, t, order))) in
                  let n = within_is to rest q (t, omega (arith, l, room)) in
                  rw (m, n) refl
            ]
          ] ∙ sym same);
    }
