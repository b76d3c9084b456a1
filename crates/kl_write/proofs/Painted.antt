-- What a place of the file has behind writes: a byte that all writes that have the place agree on.
use Rattle.std.proofs.Common.{ℕ, suc, ◌≡◌, ◌+◌, ◌-◌, ◌<◌, List, [], ◌∷◌, length, get_or, refl, arith, inl, inr, Bool, true, false}
use Rattle.std.specs.Prelude.{Some, find}
use Rattle.std.specs.List.{list_any}
use Rattle.std.proofs.lemmas.Bool.{cases_Bool}
use Rattle.kl_le.specs.Bytes.{Within}
use Rattle.kl_model.specs.Image.{is_within}
use Rattle.kl_model.specs.Lists.{each_from, only_if}
use Rattle.kl_model.proofs.Covered.{In, here, there}
use Rattle.kl_model.proofs.ImageBytes.{within_is}
use Rattle.kl_write.proofs.LawBytes.{within_of}
use Rattle.kl_write.proofs.SoundLaid.{in_split}
use Rattle.kl_write.specs.Windows.{Write, written}

-- a write gives a byte at a place that it has
abbrev pub Gives : ℕ → ℕ → Write → Type 0
Gives q v w = Within w.place w.count q → w.byte (q - w.place) ≡ v

-- where all writes that have a place give its byte, it is there if it was there before, or if one of them has the place
step : (b v q : ℕ) (w : Write) → Gives q v w → b ≡ v → written b (w ∷ []) q ≡ v
step b v q w give e =
    elim (cases_Bool (is_within w.place w.count q)) [
      | inl h ↦ rw h (give (within_of w.place w.count q h))
      | inr h ↦ rw h e
    ]

pub all_same : (b v q : ℕ) (ws : List Write) → ((w : Write) → In w ws → Gives q v w) → b ≡ v → written b ws q ≡ v
all_same b v q [] give e = e
all_same b v q (w ∷ ws) give e = all_same (written b (w ∷ []) q) v q ws (λ x i. give x (there i)) (step b v q w (give w here) e)

pub some_same : (b v q : ℕ) (ws : List Write) → ((w : Write) → In w ws → Gives q v w) → (w : Write) → In w ws → Within w.place w.count q → written b ws q ≡ v
some_same b v q [] give w i h = elim i [ ]
some_same b v q (x ∷ ws) give w here h =
    let first : written b (x ∷ []) q ≡ v = rw (within_is x.place x.count q h) (give x here h) in
    all_same (written b (x ∷ []) q) v q ws (λ y i. give y (there i)) first
some_same b v q (x ∷ ws) give w (there i) h = some_same (written b (x ∷ []) q) v q ws (λ y j. give y (there j)) w i h

-- no item passes a test
pub any_none : {X : Type 0} (p : X → Bool) (xs : List X) → list_any p xs ≡ false → (x : X) → In x xs → p x ≡ false
any_none p [] e x i = elim i [ ]
any_none p (y ∷ ys) e x here = elim (cases_Bool (p y)) [ inl a ↦ (let no : true ≡ false = rw a at e in cc) | inr a ↦ a ]
any_none p (y ∷ ys) e x (there i) = elim (cases_Bool (p y)) [ inl a ↦ (let no : true ≡ false = rw a at e in cc) | inr a ↦ any_none p ys (rw a at e) x i ]

-- what is among that which items give is given by one
pub in_given : {X Y : Type 0} (f : ℕ → X → List Y) (n : ℕ) (xs : List X) (d : X) (y : Y) → In y (each_from n f xs) → (i : ℕ) × (i < length xs) × In y (f (n + i) (get_or xs i d))
in_given f n [] d y i = elim i [ ]
in_given f n (x ∷ xs) d y i =
    elim (in_split (f n x) (each_from (suc n) f xs) i) [
      | inl j ↦ (0, omega arith, (let z : n + 0 ≡ n = omega arith in rw z j))
      | inr j ↦
          let more = in_given f (suc n) xs d y j in
          let l = more.1 in
          (suc more.0, omega arith, (let z : n + suc more.0 ≡ suc n + more.0 = omega arith in rw z more.2))
    ]

pub in_only : {X : Type 0} (b : Bool) (x y : X) → In y (only_if b x) → (b ≡ true) × (y ≡ x)
in_only true x y here = (refl, refl)
in_only true x y (there i) = elim i [ ]
in_only false x y i = elim i [ ]

pub in_one : {X : Type 0} (x y : X) → In y (x ∷ []) → y ≡ x
in_one x y here = refl
in_one x y (there i) = elim i [ ]

-- what a search finds is there and passes the test
pub find_in : {X : Type 0} (t : X → Bool) (xs : List X) (x : X) → find t xs ≡ Some x → In x xs × (t x ≡ true)
find_in t [] x e = cc
find_in t (y ∷ ys) x e =
    elim (cases_Bool (t y)) [
      | inl a ↦ (let is : y ≡ x = some_is y x (rw a at e) in rw (← is) (here, a))
      | inr a ↦ let r = find_in t ys x (rw a at e) in (there r.0, r.1)
    ]
  where
    some_is : {X : Type 0} (y x : X) → Some y ≡ Some x → y ≡ x
    some_is y x e = cc
