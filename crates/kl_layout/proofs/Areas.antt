-- The areas of a class: none stands twice, and an area that has a name is of one class alone.
use Rattle.std.proofs.Common.{ℕ, zero, suc, ◌≡◌, ◌+◌, ◌<◌, ◌≤◌, List, [], ◌∷◌, ◌++◌, length, get_or, refl, subst, arith, Bool, true, false, ◌||◌, inl, inr}
use Rattle.std.specs.Prelude.{◌==◌, cond}
use Rattle.std.specs.List.{AllByRecursion}
use Rattle.std.proofs.lemmas.Bool.{cases_Bool, eqb-true, ne_eqb}
use Rattle.kl_base.specs.declared.class.Class.{Class}
use Rattle.kl_base.specs.declared.class.Class.TheVariants.{Text, Rodata, Rwdata, Bss}
use Rattle.kl_model.specs.Lists.{each_from, only_if, number_in}
use Rattle.kl_model.specs.Areas.{same_class, class_number, named_areas}
use Rattle.kl_model.specs.declared.kit.Kit.{Kit}
use Rattle.kl_model.specs.declared.kit.Run.{Run}
use Rattle.kl_layout.specs.Once.{AreDistinct}
use Rattle.kl_layout.proofs.Enumerated.{all_append, passing_holds}
use Rattle.kl_model.specs.Sound.{run_areas, class_areas}

-- the class of an area that is no run
abbrev pub low_class : ℕ → ℕ
low_class n = cond ((n == 1) || (n == 7)) 1 (cond (n == 3) 3 (cond ((n == 0) || ((n == 4) || (n == 5))) 0 2))

low_named : (c : Class) → AllByRecursion (λ a. low_class a ≡ class_number c) (named_areas c)
low_named Text = (refl, (refl, tt))
low_named Rodata = (refl, tt)
low_named Rwdata = (refl, (refl, (refl, (refl, tt))))
low_named Bss = tt

pub low_own : (c : Class) → low_class (class_number c) ≡ class_number c
low_own Text = refl
low_own Rodata = refl
low_own Rwdata = refl
low_own Bss = refl

own_not_named : (c : Class) → number_in (named_areas c) (class_number c) ≡ false
own_not_named Text = refl
own_not_named Rodata = refl
own_not_named Rwdata = refl
own_not_named Bss = refl

pub own_low : (c : Class) → class_number c < 4
own_low Text = omega arith
own_low Rodata = omega arith
own_low Rwdata = omega arith
own_low Bss = omega arith

named_distinct : (c : Class) → AreDistinct (named_areas c)
named_distinct Text = (refl, (refl, tt))
named_distinct Rodata = (refl, tt)
named_distinct Rwdata = (refl, (refl, (refl, (refl, tt))))
named_distinct Bss = tt

differ : (m n : ℕ) → m < 15 → (m == (15 + n)) ≡ false
differ m n l = ne_eqb m (15 + n) (λ e. absurd (omega (arith, e, l)))

far : (c : Class) (n : ℕ) → number_in (named_areas c) (15 + n) ≡ false
far Text n = rw (differ 4 n (omega arith), differ 5 n (omega arith)) refl
far Rodata n = rw (differ 7 n (omega arith)) refl
far Rwdata n = rw (differ 9 n (omega arith), differ 10 n (omega arith), differ 11 n (omega arith), differ 12 n (omega arith)) refl
far Bss n = refl

pub any_holds : (Q : ℕ → Type 0) (ns : List ℕ) (m : ℕ) → AllByRecursion Q ns → number_in ns m ≡ true → Q m
any_holds Q [] m a e = cc
any_holds Q (n ∷ ns) m a e = elim (cases_Bool (n == m)) [
  | inl b ↦ subst Q (eqb-true n m b) a.0
  | inr b ↦ any_holds Q ns m a.1 (rw b at e)
]

unfounded : (a b : Bool) → a ≡ false → b ≡ false → (a || b) ≡ true → ⊥
unfounded true b e f g = cc
unfounded false true e f g = cc
unfounded false false e f g = cc

module _ (c : Class) where
  abbrev runs_from : ℕ → List Run → List ℕ
  runs_from n rs = each_from n (λ k r. only_if (same_class r.class c) (15 + k)) rs

  pub absent : (m n : ℕ) (rs : List Run) → m < 15 + n → number_in (named_areas c) m ≡ false → number_in (runs_from n rs ++ named_areas c) m ≡ false
  absent m n [] l h = h
  absent m n (r ∷ rs) l h =
      let apart : ((15 + n) == m) ≡ false = ne_eqb (15 + n) m (λ e. absurd (omega (arith, e, l))) in
      let rest = absent m (suc n) rs (omega (arith, l)) h in
      elim (cases_Bool (same_class r.class c)) [
        | inl a ↦ rw (a, apart) rest
        | inr a ↦ rw a rest
      ]

  runs_distinct : (n : ℕ) (rs : List Run) → AreDistinct (runs_from n rs ++ named_areas c)
  runs_distinct n [] = named_distinct c
  runs_distinct n (r ∷ rs) =
      let rest = runs_distinct (suc n) rs in
      elim (cases_Bool (same_class r.class c)) [
        | inl a ↦ rw a (absent (15 + n) (suc n) rs (omega arith) (far c n), rest)
        | inr a ↦ rw a rest
      ]

  pub areas_apart : (kit : Kit) → AreDistinct (class_areas kit c)
  areas_apart kit = (absent (class_number c) 0 kit.runs (omega (arith, own_low c)) (own_not_named c), runs_distinct 0 kit.runs)

  -- an area below 15 that a class has is of that class
  pub area_of_class : (kit : Kit) (m : ℕ) → m < 15 → number_in (class_areas kit c) m ≡ true → low_class m ≡ class_number c
  area_of_class kit m l e = elim (cases_Bool (number_in (named_areas c) m)) [
    | inl a ↦ any_holds (λ n. low_class n ≡ class_number c) (named_areas c) m (low_named c) a
    | inr a ↦
        let none = absent m 0 kit.runs (omega (arith, l)) a in
        elim (cases_Bool (class_number c == m)) [
          | inl b ↦ subst (λ (n : ℕ). low_class n ≡ class_number c) (eqb-true (class_number c) m b) (low_own c)
          | inr b ↦ absurd (unfounded (class_number c == m) (number_in (run_areas kit c ++ named_areas c) m) b none e)
        ]
  ]

  -- a run that a class has is of that class
  run_at : (n : ℕ) (rs : List Run) (j : ℕ) (d : Run) → j < length rs → number_in (runs_from n rs ++ named_areas c) (15 + (n + j)) ≡ true
      → same_class (get_or rs j d).class c ≡ true
  run_at n [] j d l e = absurd (omega arith)
  run_at n (r ∷ rs) zero d l e = elim (cases_Bool (same_class r.class c)) [
    | inl a ↦ a
    | inr a ↦
        let here : n + zero ≡ n = omega arith in
        let rest : number_in (runs_from (suc n) rs ++ named_areas c) (15 + n) ≡ true = rw (here, a) at e in
        let none = absent (15 + n) (suc n) rs (omega arith) (far c n) in
        absurd (unfounded false (number_in (runs_from (suc n) rs ++ named_areas c) (15 + n)) refl none rest)
  ]
  run_at n (r ∷ rs) (suc j) d l e =
      let next : n + suc j ≡ suc n + j = omega arith in
      let other : ((15 + n) == (15 + (suc n + j))) ≡ false = ne_eqb (15 + n) (15 + (suc n + j)) (λ f. absurd (omega (arith, f))) in
      let there = rw next at e in
      run_at (suc n) rs j d (omega (arith, l)) (elim (cases_Bool (same_class r.class c)) [
        | inl a ↦ rw (a, other) at there
        | inr a ↦ rw a at there
      ])

  pub run_of_class : (kit : Kit) (j : ℕ) (d : Run) → j < length kit.runs → number_in (class_areas kit c) (15 + j) ≡ true → same_class (get_or kit.runs j d).class c ≡ true
  run_of_class kit j d l e =
      let other : (class_number c == (15 + j)) ≡ false = ne_eqb (class_number c) (15 + j) (λ f. absurd (omega (arith, f, own_low c))) in
      let here : 0 + j ≡ j = omega arith in
      run_at 0 kit.runs j d l (rw here (rw other at e))

  -- the areas of a class are below the number of all areas
  named_below : (n : ℕ) → 15 ≤ n → AllByRecursion (λ a. a < n) (named_areas c)
  named_below n h = go c
    where
      go : (b : Class) → AllByRecursion (λ a. a < n) (named_areas b)
      go Text = (omega (arith, h), (omega (arith, h), tt))
      go Rodata = (omega (arith, h), tt)
      go Rwdata = (omega (arith, h), (omega (arith, h), (omega (arith, h), (omega (arith, h), tt))))
      go Bss = tt

  pub area_below : (kit : Kit) (a : ℕ) → number_in (class_areas kit c) a ≡ true → a < 15 + length kit.runs
  area_below kit a e =
      any_holds (λ m. m < 15 + length kit.runs) (class_areas kit c) a (
        omega (arith, own_low c),
        all_append (λ m. m < 15 + length kit.runs) (run_areas kit c) (named_areas c)
            (passing_holds (λ k (r : Run). 15 + k) (λ r. same_class r.class c) (λ m. m < 15 + length kit.runs) 0 kit.runs (λ k d l t. omega (arith, l)))
            (named_below (15 + length kit.runs) (omega arith)),
      ) e
