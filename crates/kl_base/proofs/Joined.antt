-- Two names joined are a name.
use Rattle.std.proofs.Common.{◌≡◌, ℕ, ◌+◌, ◌≤◌, Bool, true, false, not, ◌&&◌, ◌||◌, List, [], ◌∷◌, ◌++◌, length, refl, ap, ◌∙◌, arith, length-append, Option}
use Rattle.std.specs.Prelude.{Some, None, ◌==◌, cond}
use Rattle.std.specs.List.{list_all}
use Rattle.std.proofs.lemmas.Bool.{le-ltb, ne_eqb, eqb-true, not-false}
use Rattle.std.proofs.lemmas.List.Folds.{list_all-append}
use Rattle.kl_base.specs.Names.{name_fault, stands, any_suffix, slash_then, ends_part, dots, is_path_byte}
use Rattle.kl_base.specs.declared.name.NameFault.TheVariants.{Empty, TooLong, NotAbsolute, BadByte, EmptyPart, DotPart}
use Rattle.kl_base.specs.declared.limits.TheConstants.{NAME_LIMIT}

-- what no fault says
pub record IsSound (n : List ℕ) : Type 0 where
  pub empty : stands n Empty ≡ false
  pub long : stands n TooLong ≡ false
  pub absolute : stands n NotAbsolute ≡ false
  pub bytes : stands n BadByte ≡ false
  pub parts : stands n EmptyPart ≡ false
  pub dot : stands n DotPart ≡ false

not_chosen : {A : Type 0} (b : Bool) (x : A) (y : Option A) → cond b (Some x) y ≡ None → (b ≡ false) × (y ≡ None)
not_chosen true x y e = cc
not_chosen false x y e = (refl, e)

pub sound-none : (n : List ℕ) → name_fault n ≡ None → IsSound n
sound-none n e =
    let a = not_chosen (stands n Empty) Empty _ e in
    let b = not_chosen (stands n TooLong) TooLong _ a.1 in
    let d = not_chosen (stands n NotAbsolute) NotAbsolute _ b.1 in
    let f = not_chosen (stands n BadByte) BadByte _ d.1 in
    let g = not_chosen (stands n EmptyPart) EmptyPart _ f.1 in
    let h = not_chosen (stands n DotPart) DotPart _ g.1 in
    record { empty = a.0; long = b.0; absolute = d.0; bytes = f.0; parts = g.0; dot = h.0 }

-- the bytes of a name
pub name_bytes : (n : List ℕ) → name_fault n ≡ None → list_all is_path_byte n ≡ true
name_bytes n e = not-false (list_all is_path_byte n) (sound-none n e).bytes

pub none-sound : (n : List ℕ) → IsSound n → name_fault n ≡ None
none-sound n s = rw (s.empty, s.long, s.absolute, s.bytes, s.parts, s.dot) refl

-- a test of the rest after some place, in two lists one after the other
any_suffix-append : (f g : List ℕ → Bool) (xs ys : List ℕ) → ((x : ℕ) (zs : List ℕ) → f (x ∷ zs ++ ys) ≡ g (x ∷ zs))
    → any_suffix f (xs ++ ys) ≡ (any_suffix g xs || any_suffix f ys)
any_suffix-append f g [] ys same = refl
any_suffix-append f g (x ∷ xs) ys same =
    rw (same x xs, any_suffix-append f g xs ys same) (or_assoc (g (x ∷ xs)) (any_suffix g xs) (any_suffix f ys))
  where
    or_assoc : (a b d : Bool) → (a || (b || d)) ≡ ((a || b) || d)
    or_assoc true b d = refl
    or_assoc false b d = refl

-- what is asked at a slash is asked of the bytes before the next slash alone
ends_part-append : (zs ys : List ℕ) → ends_part (zs ++ 47 ∷ ys) ≡ ends_part zs
ends_part-append [] ys = refl
ends_part-append (z ∷ zs) ys = refl

and_true : (b : Bool) → (b && true) ≡ b
and_true true = refl
and_true false = refl

dots-append : (zs ys : List ℕ) → dots (zs ++ 47 ∷ ys) ≡ dots zs
dots-append [] [] = refl
dots-append [] (y ∷ ys) = refl
dots-append (a ∷ []) ys = and_true (a == 46)
dots-append (a ∷ b ∷ zs) ys = rw (ends_part-append zs ys) refl

suffixes-append : (test : List ℕ → Bool) (xs ys : List ℕ) → ((zs : List ℕ) → test (zs ++ 47 ∷ ys) ≡ test zs)
    → any_suffix (slash_then test) xs ≡ false → any_suffix (slash_then test) (47 ∷ ys) ≡ false → any_suffix (slash_then test) (xs ++ 47 ∷ ys) ≡ false
suffixes-append test xs ys same left right =
    any_suffix-append (slash_then test) (slash_then test) xs (47 ∷ ys) (λ x zs. ap (λ b. (x == 47) && b) (same zs))
    ∙ rw (left, right) refl

begins : (b : ℕ) → not (b == 47) ≡ false → b ≡ 47
begins b e = eqb-true b 47 (not-false (b == 47) e)

-- two names joined are a name
pub name_fault-append : (a b : List ℕ) → name_fault a ≡ None → name_fault b ≡ None → length a + length b ≤ NAME_LIMIT → name_fault (a ++ b) ≡ None
name_fault-append a b na nb h = go a b (sound-none a na) (sound-none b nb) h
  where
    go : (a b : List ℕ) → IsSound a → IsSound b → length a + length b ≤ NAME_LIMIT → name_fault (a ++ b) ≡ None
    go [] b s t h = let e = s.absolute in cc
    go a [] s t h = let e = t.absolute in cc
    go (x ∷ xs) (y ∷ ys) s t h =
        let slash : y ≡ 47 = begins y t.absolute in
        none-sound (x ∷ xs ++ y ∷ ys) (record {
          empty = ne_eqb (length (x ∷ xs ++ y ∷ ys)) 0 (λ e. omega (arith, e));
          long = le-ltb NAME_LIMIT (length (x ∷ xs ++ y ∷ ys)) (omega (arith, length-append (x ∷ xs) (y ∷ ys)));
          absolute = s.absolute;
          bytes = rw (list_all-append is_path_byte (x ∷ xs) (y ∷ ys), not-false _ s.bytes, not-false _ t.bytes) refl;
          parts = rw slash (suffixes-append ends_part (x ∷ xs) ys (λ zs. ends_part-append zs ys) s.parts (rw slash at t.parts));
          dot = rw slash (suffixes-append dots (x ∷ xs) ys (λ zs. dots-append zs ys) s.dot (rw slash at t.dot));
        })
