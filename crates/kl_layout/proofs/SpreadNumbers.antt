-- The numbers of the spreads of a class: none stands twice, and none is of two classes.
use Rattle.std.proofs.Common.{ℕ, zero, suc, ◌≡◌, ◌+◌, ◌-◌, ◌<◌, ◌≢◌, ◌∙◌, List, [], ◌∷◌, ◌++◌, length, get_or, refl, ap, sym, arith, true, false, inl, inr}
use Rattle.std.specs.Prelude.{◌==◌, ◌||◌, nat_lt, cond, All}
use Rattle.std.specs.List.{AllByRecursion}
use Rattle.std.proofs.lemmas.Bool.{cases_Bool, eqb-true, le-ltb, ne_eqb}
use Rattle.std.proofs.lemmas.List.Elements.{All-from_recursion}
use Rattle.kl_base.specs.declared.class.Class.{Class}
use Rattle.kl_base.specs.declared.class.Class.TheVariants.{Text, Rodata, Rwdata, Bss}
use Rattle.kl_model.specs.Areas.{class_number, same_class}
use Rattle.kl_model.specs.Lists.{each_from, number_in, only_if}
use Rattle.kl_model.specs.Sound.{run_areas}
use Rattle.kl_model.specs.declared.kit.KitKind.{KitKind}
use Rattle.kl_model.specs.declared.kit.KitKind.TheVariants.{Kernel, Library}
use Rattle.kl_model.specs.declared.kit.Kit.{Kit}
use Rattle.kl_model.specs.declared.kit.Run.{Run}
use Rattle.kl_layout.specs.Once.{AreDistinct}
use Rattle.kl_layout.specs.Spreads.{got_numbers, last_numbers, spread_numbers}
use Rattle.kl_layout.proofs.Areas.{any_holds, own_low}
use Rattle.kl_layout.proofs.Enumerated.{all_append, passing_holds}

-- the class of a spread that is no run
abbrev pub got_home : KitKind → ℕ
got_home Kernel = 1
got_home Library = 2

abbrev pub low_home : KitKind → ℕ → ℕ
low_home kind n =
    cond ((n == 0) || ((n == 4) || ((n == 5) || (n == 6)))) 0
    (cond ((n == 1) || ((n == 7) || (n == 8))) 1 (cond (n == 3) 3 (cond (n == 13) (got_home kind) 2)))

abbrev run_class : List Run → ℕ → ℕ
run_class [] k = 3
run_class (r ∷ rs) zero = class_number r.class
run_class (r ∷ rs) (suc k) = run_class rs k

-- the number of the class of each spread
abbrev pub home : Kit → ℕ → ℕ
home kit n = cond (nat_lt n 15) (low_home kit.kind n) (run_class kit.runs (n - 15))

run_class_at : (rs : List Run) (k : ℕ) (d : Run) → k < length rs → run_class rs k ≡ class_number (get_or rs k d).class
run_class_at [] k d l = absurd (omega arith)
run_class_at (r ∷ rs) zero d l = refl
run_class_at (r ∷ rs) (suc k) d l = run_class_at rs k d (omega (arith, l))

run_class_past : (rs : List Run) → run_class rs (length rs) ≡ 3
run_class_past [] = refl
run_class_past (r ∷ rs) = run_class_past rs

differ : (m k : ℕ) → m < 15 → (m == (15 + k)) ≡ false
differ m k l = ne_eqb m (15 + k) (λ e. absurd (omega (arith, e, l)))

module _ (kit : Kit) (c : Class) where
  home_far : (k : ℕ) → home kit (15 + k) ≡ run_class kit.runs k
  home_far k =
      let high = le-ltb (15 + k) 15 (omega arith) in
      let back : 15 + k - 15 ≡ k = omega arith in
      rw (high, back) refl

  home_run : (k : ℕ) (d : Run) → k < length kit.runs → same_class (get_or kit.runs k d).class c ≡ true → home kit (15 + k) ≡ class_number c
  home_run k d l t = home_far k ∙ (run_class_at kit.runs k d l ∙ eqb-true _ _ t)

  home_last : (b : Class) → AllByRecursion (λ n. home kit n ≡ class_number b) (last_numbers kit b)
  home_last Text = (refl, (refl, (refl, tt)))
  home_last Rodata = (refl, (refl, go kit.kind refl))
    where
      go : (k : KitKind) → kit.kind ≡ k → AllByRecursion (λ n. home kit n ≡ 1) (got_numbers k Rodata)
      go Kernel e = (ap got_home e, tt)
      go Library e = tt
  home_last Rwdata = (refl, (refl, (refl, (refl, all_append (λ n. home kit n ≡ 2) (got_numbers kit.kind Rwdata) (14 ∷ []) (go kit.kind refl) (refl, tt)))))
    where
      go : (k : KitKind) → kit.kind ≡ k → AllByRecursion (λ n. home kit n ≡ 2) (got_numbers k Rwdata)
      go Kernel e = tt
      go Library e = (ap got_home e, tt)
  home_last Bss = (home_far (length kit.runs) ∙ run_class_past kit.runs, tt)

  home_own : (b : Class) → home kit (class_number b) ≡ class_number b
  home_own Text = refl
  home_own Rodata = refl
  home_own Rwdata = refl
  home_own Bss = refl

  homes : AllByRecursion (λ n. home kit n ≡ class_number c) (spread_numbers kit c)
  homes = (
    home_own c,
    all_append (λ n. home kit n ≡ class_number c) (run_areas kit c) (last_numbers kit c)
        (passing_holds (λ k (r : Run). 15 + k) (λ r. same_class r.class c) (λ n. home kit n ≡ class_number c) 0 kit.runs (λ k d l t. let here : 0 + k ≡ k = omega arith in rw here (home_run k d l t)))
        (home_last c),
  )

  -- a spread that a class has is of that class
  pub home_is : (n : ℕ) → number_in (spread_numbers kit c) n ≡ true → home kit n ≡ class_number c
  home_is n e = any_holds (λ n. home kit n ≡ class_number c) (spread_numbers kit c) n homes e

  -- none stands twice
  far : (k : ℕ) → k < length kit.runs → number_in (last_numbers kit c) (15 + k) ≡ false
  far k l = go c
    where
      got : (q : KitKind) (b : Class) → number_in (got_numbers q b) (15 + k) ≡ false
      got Kernel Text = refl
      got Kernel Rodata = rw (differ 13 k (omega arith)) refl
      got Kernel Rwdata = refl
      got Kernel Bss = refl
      got Library Text = refl
      got Library Rodata = refl
      got Library Rwdata = rw (differ 13 k (omega arith)) refl
      got Library Bss = refl

      last : (q : KitKind) → number_in (got_numbers q Rwdata ++ 14 ∷ []) (15 + k) ≡ false
      last Kernel = rw (differ 14 k (omega arith)) refl
      last Library = rw (differ 13 k (omega arith), differ 14 k (omega arith)) refl

      go : (b : Class) → number_in (last_numbers kit b) (15 + k) ≡ false
      go Text = rw (differ 4 k (omega arith), differ 5 k (omega arith), differ 6 k (omega arith)) refl
      go Rodata = rw (differ 7 k (omega arith), differ 8 k (omega arith)) (got kit.kind Rodata)
      go Rwdata = rw (differ 9 k (omega arith), differ 10 k (omega arith), differ 11 k (omega arith), differ 12 k (omega arith)) (last kit.kind)
      go Bss = let e : ((15 + length kit.runs) == (15 + k)) ≡ false = ne_eqb (15 + length kit.runs) (15 + k) (λ f. absurd (omega (arith, f, l))) in rw e refl

  last_distinct : (b : Class) → AreDistinct (last_numbers kit b)
  last_distinct Text = (refl, (refl, (refl, tt)))
  last_distinct Rodata = go kit.kind
    where
      go : (q : KitKind) → AreDistinct (7 ∷ 8 ∷ got_numbers q Rodata)
      go Kernel = (refl, (refl, (refl, tt)))
      go Library = (refl, (refl, tt))
  last_distinct Rwdata = go kit.kind
    where
      go : (q : KitKind) → AreDistinct (9 ∷ 10 ∷ 11 ∷ 12 ∷ (got_numbers q Rwdata ++ 14 ∷ []))
      go Kernel = (refl, (refl, (refl, (refl, (refl, tt)))))
      go Library = (refl, (refl, (refl, (refl, (refl, (refl, tt))))))
  last_distinct Bss = (refl, tt)

  own_not_last : (b : Class) → number_in (last_numbers kit b) (class_number b) ≡ false
  own_not_last Text = refl
  own_not_last Rodata = go kit.kind
    where
      go : (q : KitKind) → number_in (7 ∷ 8 ∷ got_numbers q Rodata) 1 ≡ false
      go Kernel = refl
      go Library = refl
  own_not_last Rwdata = go kit.kind
    where
      go : (q : KitKind) → number_in (9 ∷ 10 ∷ 11 ∷ 12 ∷ (got_numbers q Rwdata ++ 14 ∷ [])) 2 ≡ false
      go Kernel = refl
      go Library = refl
  own_not_last Bss = let e : ((15 + length kit.runs) == 3) ≡ false = ne_eqb (15 + length kit.runs) 3 (λ f. absurd (omega (arith, f))) in rw e refl

  abbrev runs_from : ℕ → List Run → List ℕ
  runs_from n rs = each_from n (λ k r. only_if (same_class r.class c) (15 + k)) rs

  absent : (m n : ℕ) (rs : List Run) → m < 15 + n → number_in (last_numbers kit c) m ≡ false → number_in (runs_from n rs ++ last_numbers kit c) m ≡ false
  absent m n [] l h = h
  absent m n (r ∷ rs) l h =
      let apart : ((15 + n) == m) ≡ false = ne_eqb (15 + n) m (λ e. absurd (omega (arith, e, l))) in
      let rest = absent m (suc n) rs (omega (arith, l)) h in
      elim (cases_Bool (same_class r.class c)) [
        | inl a ↦ rw (a, apart) rest
        | inr a ↦ rw a rest
      ]

  runs_distinct : (n : ℕ) (rs : List Run) → n + length rs ≡ length kit.runs → AreDistinct (runs_from n rs ++ last_numbers kit c)
  runs_distinct n [] e = last_distinct c
  runs_distinct n (r ∷ rs) e =
      let rest = runs_distinct (suc n) rs (omega (arith, e)) in
      elim (cases_Bool (same_class r.class c)) [
        | inl a ↦ rw a (absent (15 + n) (suc n) rs (omega arith) (far n (omega (arith, e))), rest)
        | inr a ↦ rw a rest
      ]

  pub numbers_apart : AreDistinct (spread_numbers kit c)
  numbers_apart = (absent (class_number c) 0 kit.runs (omega (arith, own_low c)) (own_not_last c), runs_distinct 0 kit.runs (omega arith))

  -- they are below the number of all spreads
  last_below : (b : Class) → AllByRecursion (λ n. n < 15 + (length kit.runs + 1)) (last_numbers kit b)
  last_below Text = (omega arith, (omega arith, (omega arith, tt)))
  last_below Rodata = (omega arith, (omega arith, go kit.kind))
    where
      go : (q : KitKind) → AllByRecursion (λ n. n < 15 + (length kit.runs + 1)) (got_numbers q Rodata)
      go Kernel = (omega arith, tt)
      go Library = tt
  last_below Rwdata = (omega arith, (omega arith, (omega arith, (omega arith, go kit.kind))))
    where
      go : (q : KitKind) → AllByRecursion (λ n. n < 15 + (length kit.runs + 1)) (got_numbers q Rwdata ++ 14 ∷ [])
      go Kernel = (omega arith, tt)
      go Library = (omega arith, (omega arith, tt))
  last_below Bss = (omega arith, tt)

  below : AllByRecursion (λ n. n < 15 + (length kit.runs + 1)) (spread_numbers kit c)
  below = (
    omega (arith, own_low c),
    all_append (λ n. n < 15 + (length kit.runs + 1)) (run_areas kit c) (last_numbers kit c)
        (passing_holds (λ k (r : Run). 15 + k) (λ r. same_class r.class c) (λ n. n < 15 + (length kit.runs + 1)) 0 kit.runs (λ k d l t. omega (arith, l)))
        (last_below c),
  )

  pub numbers_below : All (λ n. n < 15 + (length kit.runs + 1)) (spread_numbers kit c)
  numbers_below = All-from_recursion (λ n. n < 15 + (length kit.runs + 1)) (spread_numbers kit c) below

  -- and no spread of another class is among them
  pub not_of_class : (d : Class) (n : ℕ) → number_in (spread_numbers kit d) n ≡ true → class_number c ≢ class_number d → home kit n ≡ class_number d → number_in (spread_numbers kit c) n ≡ false
  not_of_class d n e other h = elim (cases_Bool (number_in (spread_numbers kit c) n)) [
    | inl a ↦ absurd (other (sym (home_is n a) ∙ h))
    | inr a ↦ a
  ]

  pub member_below : (n : ℕ) → number_in (spread_numbers kit c) n ≡ true → n < 15 + (length kit.runs + 1)
  member_below n e = any_holds (λ n. n < 15 + (length kit.runs + 1)) (spread_numbers kit c) n below e
