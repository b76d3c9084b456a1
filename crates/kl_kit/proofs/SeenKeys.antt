-- Keys in a set.
use Rattle.std.proofs.Common.{◌≡◌, Bool, true, false, cond, ◌&&◌, ◌||◌, not, List, [], ◌∷◌, ◌++◌, refl, sym, ap, ◌∙◌}
use Rattle.std.specs.Bool.{OnTrue}
use Rattle.std.specs.Str.{bytes_eq}
use Rattle.std.specs.Ordering.{is_eq, nat_cmp, ordering_then}
use Rattle.std.specs.declared.cmp.Ordering.{Ordering}
use Rattle.std.specs.declared.cmp.Ordering.TheVariants.{Less, Equal, Greater}
use Rattle.std.specs.Cmp.Lexicographic.{slice_cmp}
use Rattle.std.proofs.lemmas.Map.Text.{is_eq-slice_cmp}
use Rattle.std.proofs.lemmas.List.Folds.{list_any-append}
use Rattle.kl_kit.specs.Keys.{Key, comes_again, has_key, same_key}
use Rattle.kl_kit.specs.Readers.{SeenKey, key_order}

-- a key as it is kept
abbrev pub as_seen : Key → SeenKey
as_seen k = (record { ref_ptr = (0, 0); now = k.0 }, record { ref_ptr = (0, 0); now = k.1 }, record { ref_ptr = (0, 0); now = k.2 })

then_eq : (a b : Ordering) → is_eq (ordering_then a b) ≡ (is_eq a && is_eq b)
then_eq Less b = refl
then_eq Equal b = refl
then_eq Greater b = refl

-- two keys are one where each part is
pub same_seen : (a b : Key) → is_eq (key_order a (as_seen b)) ≡ same_key a b
same_seen k q =
    let first = slice_cmp nat_cmp k.0 q.0 in
    let second = slice_cmp nat_cmp k.1 q.1 in
    then_eq (ordering_then first second) (slice_cmp nat_cmp k.2 q.2)
    ∙ (rw (then_eq first second, is_eq-slice_cmp k.0 q.0, is_eq-slice_cmp k.1 q.1, is_eq-slice_cmp k.2 q.2) (grouped (bytes_eq k.0 q.0) (bytes_eq k.1 q.1) (bytes_eq k.2 q.2)))
  where
    grouped : (a b d : Bool) → ((a && b) && d) ≡ (a && (b && d))
    grouped true b d = refl
    grouped false b d = refl

either : (t h : Bool) → cond t true h ≡ (t || h)
either true h = refl
either false h = refl

pub one_more : (k q : Key) (h : Bool) → cond (is_eq (key_order k (as_seen q))) true h ≡ (same_key k q || h)
one_more k q h = ap (λ t. cond t true h) (same_seen k q) ∙ either (same_key k q) h

-- one key more
pub keys_more : (ks : List Key) (k q : Key) → (same_key k q || has_key ks q) ≡ has_key (ks ++ k ∷ []) q
keys_more ks k q = turn (same_key k q) (has_key ks q) ∙ sym (list_any-append (λ x. same_key x q) ks (k ∷ []))
  where
    turn : (a b : Bool) → (a || b) ≡ (b || (a || false))
    turn true true = refl
    turn true false = refl
    turn false true = refl
    turn false false = refl

-- which of several keys come again
pub first_again : (ks : List Key) (a : Key) (more : List Key) → false ≡ not (has_key ks a) → false ≡ not (comes_again ks (a ∷ more))
first_again ks a more e = go (has_key ks a) e
  where
    go : (t : Bool) → false ≡ not t → false ≡ not (t || comes_again (ks ++ a ∷ []) more)
    go true e = refl
    go false e = cc

pub later_again : (ks : List Key) (a : Key) (more : List Key) (fresh : Bool) → true ≡ not (has_key ks a) → fresh ≡ not (comes_again (ks ++ a ∷ []) more) → fresh ≡ not (comes_again ks (a ∷ more))
later_again ks a more fresh e rest = go (has_key ks a) e
  where
    go : (t : Bool) → true ≡ not t → fresh ≡ not (t || comes_again (ks ++ a ∷ []) more)
    go true e = cc
    go false e = rest

-- what is said of what is true
pub on_true : (P : Type 0) (t : Bool) → P → OnTrue t P
on_true P true p = p
on_true P false p = tt

pub from_true : (P : Type 0) (t : Bool) → true ≡ t → OnTrue t P → P
from_true P true e p = p
from_true P false e p = cc

pub alone_again : (ks : List Key) (a : Key) (fresh : Bool) → fresh ≡ not (has_key ks a) → fresh ≡ not (comes_again ks (a ∷ []))
alone_again ks a fresh e = e ∙ ap not (sym (or_false (has_key ks a)))
  where
    or_false : (t : Bool) → (t || false) ≡ t
    or_false true = refl
    or_false false = refl
