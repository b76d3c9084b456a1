-- A test of the items of a list, one more at its end.
use Rattle.std.proofs.Common.{◌≡◌, ℕ, Bool, true, false, ◌||◌, List, [], ◌∷◌, ◌++◌, refl, ap, ◌∙◌, bytes_eq}
use Rattle.std.specs.Prelude.{nat_eq}
use Rattle.std.specs.List.{list_any}
use Rattle.std.specs.Cmp.Lexicographic.{pointwise}
use Rattle.std.proofs.lemmas.List.Folds.{list_any-append}
use Rattle.kl_base.proofs.Bools.{same_bytes}
use Rattle.kl_host.specs.Paths.{folder_of}
use Rattle.kl_host.specs.Notes.{is_among}

or_true : (a : Bool) → (a || true) ≡ true
or_true true = refl
or_true false = refl

or_false : (a : Bool) → (a || false) ≡ a
or_false true = refl
or_false false = refl

-- the last item passes
pub any_last : {A : Type 0} (p : A → Bool) (xs : List A) (x : A) → p x ≡ true → list_any p (xs ++ x ∷ []) ≡ true
any_last p xs x is = list_any-append p xs (x ∷ []) ∙ (ap (λ b. list_any p xs || (b || false)) is ∙ or_true (list_any p xs))

-- the last item doesn't
pub any_other : {A : Type 0} (p : A → Bool) (xs : List A) (x : A) → p x ≡ false → list_any p (xs ++ x ∷ []) ≡ list_any p xs
any_other p xs x is = list_any-append p xs (x ∷ []) ∙ (ap (λ b. list_any p xs || (b || false)) is ∙ or_false (list_any p xs))

-- one more item changes no test that is passed
pub any_more : {A : Type 0} (p : A → Bool) (xs : List A) (x : A) → list_any p xs ≡ true → list_any p (xs ++ x ∷ []) ≡ true
any_more p xs x is = list_any-append p xs (x ∷ []) ∙ ap (λ b. b || (p x || false)) is

-- the last name is among them, and its folder
pub among_last : (name : List ℕ) (names : List (List ℕ)) → is_among name (names ++ name ∷ []) ≡ true
among_last name names = any_last (λ other. pointwise nat_eq other name) names name (same_bytes name)

pub folder_last : (name : List ℕ) (names : List (List ℕ)) → list_any (λ other. bytes_eq (folder_of other) (folder_of name)) (names ++ name ∷ []) ≡ true
folder_last name names = any_last (λ other. bytes_eq (folder_of other) (folder_of name)) names name (same_bytes (folder_of name))
