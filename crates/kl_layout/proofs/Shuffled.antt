-- Lists joined in other orders.
use Rattle.std.proofs.Common.{ℕ, suc, ◌≡◌, ◌<◌, ◌∙◌, List, [], ◌∷◌, ◌++◌, refl, ap, sym, subst, append_assoc, length, get_or, arith, Bool, true, false, ◌&&◌}
use Rattle.std.specs.Prelude.{flat_map, IsPermutation, ◌==◌}
use Rattle.std.specs.List.{AllByRecursion}
use Rattle.std.proofs.lemmas.List.Sorted.{IsPermutation-refl, IsPermutation-trans, IsPermutation-append, IsPermutation-append_comm, IsPermutation-append_left, IsPermutation-append_right}
use Rattle.kl_model.specs.Lists.{number_in}
use Rattle.kl_layout.specs.Once.{AreDistinct}
use Rattle.kl_layout.proofs.Grouped.{passing, passing-keys}

module _ {X : Type 0} where
  pub alike : (xs ys : List X) → xs ≡ ys → IsPermutation xs ys
  alike xs ys e = subst (λ (l : List X). IsPermutation xs l) e (IsPermutation-refl xs)

  -- the second of three lists to the front
  pub forward : (a b c : List X) → IsPermutation (a ++ (b ++ c)) (b ++ (a ++ c))
  forward a b c =
      subst (λ (l : List X). IsPermutation l (b ++ (a ++ c))) (append_assoc a b c)
      (subst (λ (l : List X). IsPermutation ((a ++ b) ++ c) l) (append_assoc b a c)
      (IsPermutation-append_left c (a ++ b) (b ++ a) (IsPermutation-append_comm a b)))

  -- the second and the third of four
  pub exchange : (a b c d : List X) → IsPermutation ((a ++ b) ++ (c ++ d)) ((a ++ c) ++ (b ++ d))
  exchange a b c d =
      subst (λ (l : List X). IsPermutation l ((a ++ c) ++ (b ++ d))) (sym (append_assoc a b (c ++ d)))
      (subst (λ (l : List X). IsPermutation (a ++ (b ++ (c ++ d))) l) (sym (append_assoc a c (b ++ d)))
      (IsPermutation-append_right a (b ++ (c ++ d)) (c ++ (b ++ d)) (forward b c d)))

  -- what stands in a class, gathered by what it is, as it stands in the line
  pub gathered : (n e r m z d : List X) → IsPermutation (((n ++ e) ++ (r ++ m)) ++ (z ++ d)) ((z ++ n) ++ (r ++ (e ++ (m ++ d))))
  gathered n e r m z d =
      let flat : ((n ++ e) ++ (r ++ m)) ++ (z ++ d) ≡ n ++ (e ++ (r ++ (m ++ (z ++ d)))) =
      append_assoc (n ++ e) (r ++ m) (z ++ d) ∙ (append_assoc n e ((r ++ m) ++ (z ++ d)) ∙ ap (λ (l : List X). n ++ (e ++ l)) (append_assoc r m (z ++ d))) in
      let line : (z ++ n) ++ (r ++ (e ++ (m ++ d))) ≡ z ++ (n ++ (r ++ (e ++ (m ++ d)))) = append_assoc z n (r ++ (e ++ (m ++ d))) in
      subst (λ (l : List X). IsPermutation l ((z ++ n) ++ (r ++ (e ++ (m ++ d))))) (sym flat)
      (subst (λ (l : List X). IsPermutation (n ++ (e ++ (r ++ (m ++ (z ++ d))))) l) (sym line)
      (IsPermutation-trans _ (n ++ (z ++ (r ++ (e ++ (m ++ d))))) _
      (IsPermutation-append_right n (e ++ (r ++ (m ++ (z ++ d)))) (z ++ (r ++ (e ++ (m ++ d)))) (inner))
      (forward n z (r ++ (e ++ (m ++ d))))))
    where
      inner : IsPermutation (e ++ (r ++ (m ++ (z ++ d)))) (z ++ (r ++ (e ++ (m ++ d))))
      inner =
          IsPermutation-trans _ (e ++ (r ++ (z ++ (m ++ d)))) _
          (IsPermutation-append_right e (r ++ (m ++ (z ++ d))) (r ++ (z ++ (m ++ d))) (IsPermutation-append_right r (m ++ (z ++ d)) (z ++ (m ++ d)) (forward m z d)))
          (IsPermutation-trans _ (e ++ (z ++ (r ++ (m ++ d)))) _
          (IsPermutation-append_right e (r ++ (z ++ (m ++ d))) (z ++ (r ++ (m ++ d))) (forward r z (m ++ d)))
          (IsPermutation-trans _ (z ++ (e ++ (r ++ (m ++ d)))) _
          (forward e z (r ++ (m ++ d)))
          (IsPermutation-append_right z (e ++ (r ++ (m ++ d))) (r ++ (e ++ (m ++ d))) (forward e r (m ++ d)))))

module _ {X Y : Type 0} (f h : X → List Y) where
  pub joined-same : (xs : List X) → AllByRecursion (λ x. f x ≡ h x) xs → flat_map f xs ≡ flat_map h xs
  joined-same [] a = refl
  joined-same (x ∷ xs) a = rw (a.0, joined-same xs a.1) refl

  pub joined-shuffled : (xs : List X) → AllByRecursion (λ x. IsPermutation (f x) (h x)) xs → IsPermutation (flat_map f xs) (flat_map h xs)
  joined-shuffled [] a = IsPermutation-refl []
  joined-shuffled (x ∷ xs) a = IsPermutation-append (f x) (h x) (flat_map f xs) (flat_map h xs) a.0 (joined-shuffled xs a.1)

  pub joined-both : (xs : List X) → IsPermutation (flat_map (λ x. f x ++ h x) xs) (flat_map f xs ++ flat_map h xs)
  joined-both [] = IsPermutation-refl []
  joined-both (x ∷ xs) =
      IsPermutation-trans _ ((f x ++ h x) ++ (flat_map f xs ++ flat_map h xs)) _
      (IsPermutation-append_right (f x ++ h x) (flat_map (λ y. f y ++ h y) xs) (flat_map f xs ++ flat_map h xs) (joined-both xs))
      (exchange (f x) (h x) (flat_map f xs) (flat_map h xs))

pub all_of : {X : Type 0} (P : X → Type 0) → ((x : X) → P x) → (xs : List X) → AllByRecursion P xs
all_of P a [] = tt
all_of P a (x ∷ xs) = (a x, all_of P a xs)

-- tests that agree on the members of a list
module _ {X Y : Type 0} (f : ℕ → X → Y) where
  pub passing-members : (t u : X → Bool) (n : ℕ) (xs : List X) → ((k : ℕ) (d : X) → k < length xs → t (get_or xs k d) ≡ u (get_or xs k d))
      → passing f t n xs ≡ passing f u n xs
  passing-members t u n [] s = refl
  passing-members t u n (x ∷ xs) s =
      let first : t x ≡ u x = s 0 x (omega arith) in
      rw (first, passing-members t u (suc n) xs (λ k d l. s (suc k) d (omega arith))) refl

  -- the items of a list are the groups of keys that its own items have
  pub keys-members : (key : X → ℕ) (keys : List ℕ) (t : X → Bool) (n : ℕ) (xs : List X) → AreDistinct keys
      → ((k : ℕ) (d : X) → k < length xs → t (get_or xs k d) ≡ true → number_in keys (key (get_or xs k d)) ≡ true)
      → IsPermutation (passing f t n xs) (flat_map (λ k. passing f (λ x. t x && (key x == k)) n xs) keys)
  keys-members key keys t n xs distinct known =
      subst (λ (l : List Y). IsPermutation l (flat_map (λ k. passing f (λ x. t x && (key x == k)) n xs) keys)) (sym here)
      (subst (λ (l : List Y). IsPermutation (passing f u n xs) l) groups (passing-keys f key keys u n xs distinct (λ x e. right_true (t x) (number_in keys (key x)) e)))
    where
      right_true : (a b : Bool) → (a && b) ≡ true → b ≡ true
      right_true true b e = e
      right_true false b e = cc

      absorbed : (a b : Bool) → (a ≡ true → b ≡ true) → a ≡ (a && b)
      absorbed true b h = sym (h refl)
      absorbed false b h = refl

      u : X → Bool
      u x = t x && number_in keys (key x)

      here : passing f t n xs ≡ passing f u n xs
      here = passing-members t u n xs (λ k d l. absorbed (t (get_or xs k d)) (number_in keys (key (get_or xs k d))) (known k d l))

      groups : flat_map (λ k. passing f (λ x. u x && (key x == k)) n xs) keys ≡ flat_map (λ k. passing f (λ x. t x && (key x == k)) n xs) keys
      groups = joined-same (λ k. passing f (λ x. u x && (key x == k)) n xs) (λ k. passing f (λ x. t x && (key x == k)) n xs) keys
          (all_of _ (λ m. passing-members (λ x. u x && (key x == m)) (λ x. t x && (key x == m)) n xs
          (λ k d l. ap (λ b. b && (key (get_or xs k d) == m)) (sym (absorbed (t (get_or xs k d)) (number_in keys (key (get_or xs k d))) (known k d l))))) keys)
