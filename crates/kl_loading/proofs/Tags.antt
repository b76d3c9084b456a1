-- Entries of the dynamic section by their tags.
use Rattle.std.proofs.Common.{ℕ, suc, ◌≡◌, ◌+◌, ◌∙◌, List, [], ◌∷◌, ◌++◌, length, map, refl, ap, Bool, true, false, not, ◌&&◌}
use Rattle.std.specs.Prelude.{Option, Some, None, find, ◌==◌, is_some, cond}
use Rattle.std.specs.List.{before_first, list_all}
use Rattle.std.proofs.lemmas.Bool.{eq-eqb}
use Rattle.kl_loading.proofs.BeforeFirst.{before_pass}
use Rattle.kl_elf.specs.declared.records.Dyn.{Dyn}
use Rattle.kl_model.specs.Lists.{only_if}
use Rattle.kl_model.specs.Sizes.{has_bytes, tags}
use Rattle.kl_model.specs.Slots.{jump_entries, rela_entries}
use Rattle.kl_model.specs.Tables.{needed_from}
use Rattle.kl_model.specs.declared.graph.Graph.{Graph}
use Rattle.kl_model.specs.declared.kit.Kit.{Kit}

module _ (t : ℕ) where
  -- the first entry with a tag, before the first DT_NULL
  abbrev pub first_with : List Dyn → Option Dyn
  first_with ds = find (λ d. d.tag == t) (before_first (λ d. d.tag == 0) ds)

  abbrev pub is_other : ℕ → Bool
  is_other x = not (x == 0) && not (x == t)

  pass : (d : Dyn) (ds : List Dyn) (a b : Bool) → (d.tag == 0) ≡ a → (d.tag == t) ≡ b → (not a && not b) ≡ true → first_with (d ∷ ds) ≡ first_with ds
  pass d ds true b e f h = cc
  pass d ds false true e f h = cc
  pass d ds false false e f h = ap (find (λ d. d.tag == t)) (before_pass (λ d. d.tag == 0) d ds e) ∙ rw f refl

  pub pass_needed : (at : ℕ) (ts : List (List ℕ)) (ds : List Dyn) → is_other 1 ≡ true → first_with (needed_from at ts ++ ds) ≡ first_with ds
  pass_needed at [] ds h = refl
  pass_needed at (x ∷ xs) ds h =
      pass (record { tag = 1; value = at }) (needed_from (suc (at + length x)) xs ++ ds) (1 == 0) (1 == t) refl refl h ∙ pass_needed (suc (at + length x)) xs ds h

  module _ (f : ℕ → ℕ) where
    abbrev pub rows : List ℕ → List Dyn
    rows ts = map (λ tag. record { tag = tag; value = f tag }) ts

    skip : (xs ys : List ℕ) → list_all is_other xs ≡ true → first_with (rows (xs ++ ys)) ≡ first_with (rows ys)
    skip [] ys h = refl
    skip (x ∷ xs) ys h =
        let b = both (is_other x) (list_all is_other xs) h in
        pass (record { tag = x; value = f x }) (rows (xs ++ ys)) (x == 0) (x == t) refl refl b.0 ∙ skip xs ys b.1
      where
        both : (a b : Bool) → (a && b) ≡ true → (a ≡ true) × (b ≡ true)
        both true b e = (refl, e)
        both false b e = cc

    only : (b : Bool) (x : ℕ) (ys : List ℕ) → is_other x ≡ true → first_with (rows (only_if b x ++ ys)) ≡ first_with (rows ys)
    only true x ys h = skip (x ∷ []) ys (rw h refl)
    only false x ys h = refl

    two : (b : Bool) (x y : ℕ) (ys : List ℕ) → is_other x ≡ true → is_other y ≡ true → first_with (rows (cond b (x ∷ y ∷ []) [] ++ ys)) ≡ first_with (rows ys)
    two true x y ys h i = skip (x ∷ y ∷ []) ys (rw (h, i) refl)
    two false x y ys h i = refl

    pub three : (b : Bool) (x y z : ℕ) (ys : List ℕ) → is_other x ≡ true → is_other y ≡ true → is_other z ≡ true
        → first_with (rows (cond b [] (x ∷ y ∷ z ∷ []) ++ ys)) ≡ first_with (rows ys)
    three true x y z ys h i j = refl
    three false x y z ys h i j = skip (x ∷ y ∷ z ∷ []) ys (rw (h, i, j) refl)

-- the tags of the entries of the loader
abbrev pub rela_tags : Graph → List ℕ
rela_tags g = cond (length (rela_entries g) == 0) [] (7 ∷ 8 ∷ 9 ∷ [])

abbrev pub jump_tags : Graph → List ℕ
jump_tags g = cond (length (jump_entries g) == 0) [] (23 ∷ 2 ∷ 20 ∷ 3 ∷ [])

abbrev pub last_tags : Graph → List ℕ
last_tags g = rela_tags g ++ (jump_tags g ++ 30 ∷ 0 ∷ [])

-- none of the tags before those of the tables is the one that is asked for
abbrev pub is_behind : ℕ → Bool
is_behind t = list_all (is_other t) (1 ∷ 14 ∷ 12 ∷ 13 ∷ 25 ∷ 27 ∷ 26 ∷ 28 ∷ [])

module _ (t : ℕ) (f : ℕ → ℕ) (kit : Kit) (g : Graph) where
  pub behind : is_other t 14 ≡ true → is_other t 12 ≡ true → is_other t 13 ≡ true → is_other t 25 ≡ true → is_other t 27 ≡ true → is_other t 26 ≡ true → is_other t 28 ≡ true
      → first_with t (rows t f (tags kit g)) ≡ first_with t (rows t f (4 ∷ 5 ∷ 6 ∷ 10 ∷ 11 ∷ last_tags g))
  behind a b c d e h i =
      only t f (is_some kit.soname) 14 _ a
      ∙ (only t f (has_bytes g 4) 12 _ b ∙ (only t f (has_bytes g 5) 13 _ c ∙ (two t f (has_bytes g 11) 25 27 _ d e ∙ two t f (has_bytes g 12) 26 28 _ h i)))

  -- the entry of each table
  hit : (ys : List ℕ) → (t == 0) ≡ false → first_with t (rows t f (t ∷ ys)) ≡ Some (record { tag = t; value = f t })
  hit ys e =
      let same : (t == t) ≡ true = eq-eqb t t refl in
      ap (find (λ d. d.tag == t)) (before_pass (λ d. d.tag == 0) (record { tag = t; value = f t }) (rows t f ys) e) ∙ rw same refl

  -- behind these tags
  pub found : (xs ys : List ℕ) → (t == 0) ≡ false → list_all (is_other t) xs ≡ true → first_with t (rows t f (xs ++ t ∷ ys)) ≡ Some (record { tag = t; value = f t })
  found xs ys e h = skip t f xs (t ∷ ys) h ∙ hit ys e

  pub pass_all : (xs ys : List ℕ) → list_all (is_other t) xs ≡ true → first_with t (rows t f (xs ++ ys)) ≡ first_with t (rows t f ys)
  pass_all xs ys h = skip t f xs ys h

  -- where there is no entry of a table its tag isn't there
  pub pass_if : (b : Bool) (xs ys : List ℕ) → list_all (is_other t) xs ≡ true → first_with t (rows t f (cond b [] xs ++ ys)) ≡ first_with t (rows t f ys)
  pass_if true xs ys h = refl
  pass_if false xs ys h = skip t f xs ys h

  pub none_left : list_all (is_other t) (30 ∷ []) ≡ true → first_with t (rows t f (30 ∷ 0 ∷ [])) ≡ None
  none_left h = skip t f (30 ∷ []) (0 ∷ []) h
