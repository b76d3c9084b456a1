-- One run more among the areas of first runs, by names and classes.
use Rattle.std.proofs.Common.{ℕ, zero, suc, ◌≡◌, ◌≢◌, ◌+◌, ◌<◌, ◌≤◌, ◌∙◌, List, [], ◌∷◌, ◌++◌, length, set, refl, ap, sym, arith, Bool, true, false, not, ◌&&◌, ◌||◌, cond, inl, inr, length-append}
use Rattle.std.specs.Prelude.{Some, None, Option, slice_get}
use Rattle.std.specs.Option.{option_and_then, option_or}
use Rattle.std.specs.Str.{bytes_eq}
use Rattle.std.proofs.lemmas.Bool.{cases_Bool}
use Rattle.std.proofs.lemmas.Cmp.{nat_list_eq_equiv}
use Rattle.std.proofs.lemmas.List.Folds.{list_any-append}
use Rattle.kl_model.specs.Lists.{among, only_if}
use Rattle.std.proofs.lemmas.Option.{slice_get_within}
use Rattle.kl_base.specs.declared.class.Class.{Class}
use Rattle.kl_base.specs.declared.class.Class.TheVariants.{Text, Rodata, Rwdata, Bss}
use Rattle.kl_model.specs.Areas.{same_class}
use Rattle.kl_model.specs.declared.kit.Run.{Run}
use Rattle.kl_names.specs.Numbers.{place_in, with_name}
use Rattle.kl_names.proofs.NameLists.{number_leads, place_last, place_new, same_text, with_new, with_old}
use Rattle.kl_sym.specs.SectionLines.{run_among, run_found, run_in}
use Rattle.kl_model.specs.declared.area.TheConstants as area
use Rattle.kl_sym.proofs.PieceNumbers.{only_if-le, position-append}
use Rattle.kl_sym.specs.declared.lines.FirstRuns.{FirstRuns}
use Rattle.kl_sym.specs.declared.lines.TheConstants.{NO_RUNS}

none_of : (c : Class) → run_in NO_RUNS c ≡ None
none_of Text = refl
none_of Rodata = refl
none_of Rwdata = refl
none_of Bss = refl

get_first : {X : Type 0} (xs ys : List X) (k : ℕ) → k < length xs → slice_get (xs ++ ys) k ≡ slice_get xs k
get_first [] ys k h = absurd (omega arith)
get_first (x ∷ xs) ys zero h = refl
get_first (x ∷ xs) ys (suc k) h = get_first xs ys k (omega arith)

get_last : {X : Type 0} (xs : List X) (y : X) → slice_get (xs ++ y ∷ []) (length xs) ≡ Some y
get_last [] y = refl
get_last (x ∷ xs) y = get_last xs y

get_set : {X : Type 0} (xs : List X) (k : ℕ) (x : X) → k < length xs → slice_get (set xs k x) k ≡ Some x
get_set [] k x h = absurd (omega arith)
get_set (y ∷ xs) zero x h = refl
get_set (y ∷ xs) (suc k) x h = get_set xs k x (omega arith)

get_other : {X : Type 0} (xs : List X) (k j : ℕ) (x : X) → j ≢ k → slice_get (set xs k x) j ≡ slice_get xs j
get_other [] k j x apart = refl
get_other (y ∷ xs) zero zero x apart = absurd (apart refl)
get_other (y ∷ xs) zero (suc j) x apart = refl
get_other (y ∷ xs) (suc k) zero x apart = refl
get_other (y ∷ xs) (suc k) (suc j) x apart = get_other xs k j x (λ e. apart (ap suc e))

-- the place of a name is one of the names
pub place_low : (names : List (List ℕ)) (q : List ℕ) (n : ℕ) → place_in names q ≡ Some n → n < length names
place_low names q n e = slice_get_within names n q (number_leads names q n e)

-- where the number of a name isn't that of the end, the name was there
pub was_there : (names : List (List ℕ)) (s : List ℕ) (n : ℕ) → place_in (with_name names s) s ≡ Some n → n ≢ length names → with_name names s ≡ names
was_there names s n e apart = go (place_in names s) refl
  where
    go : (o : Option ℕ) → place_in names s ≡ o → with_name names s ≡ names
    go (Some k) at = sym (with_old names s k at)
    go None at =
        let last : Some n ≡ Some (length names) = sym e ∙ (ap (λ l. place_in l s) (sym (with_new names s at)) ∙ place_last names s at) in
        let same : n ≡ length names = cc in absurd (apart same)

-- and where it is, the name is new
pub is_new : (names : List (List ℕ)) (s : List ℕ) (n : ℕ) → place_in (with_name names s) s ≡ Some n → n ≡ length names → place_in names s ≡ None
is_new names s n e last = go (place_in names s) refl
  where
    go : (o : Option ℕ) → place_in names s ≡ o → place_in names s ≡ None
    go None at = at
    go (Some k) at =
        let here : Some n ≡ Some k = sym e ∙ (ap (λ l. place_in l s) (sym (with_old names s k at)) ∙ at) in
        let same : n ≡ k = cc in
        let low = place_low names s k at in absurd (omega arith)

-- a name more with no run finds what was found
pub found_push : (names : List (List ℕ)) (runs : List FirstRuns) (s : List ℕ) (c : Class) (q : List ℕ) → length runs ≡ length names → place_in names s ≡ None
    → run_found (names ++ s ∷ []) (runs ++ NO_RUNS ∷ []) c q ≡ run_found names runs c q
found_push names runs s c q len new = elim (cases_Bool (bytes_eq s q)) [
  | inl a ↦
      let same : s ≡ q = same_text s q a in
      let none : place_in names q ≡ None = rw same at new in
      let last : slice_get (runs ++ NO_RUNS ∷ []) (length names) ≡ Some NO_RUNS = rw (← len) (get_last runs NO_RUNS) in
      rw (place_new names s q new, a, none, last) (none_of c)
  | inr a ↦ rw (place_new names s q new, a) (other (place_in names q) refl)
]
  where
    other : (o : Option ℕ) → place_in names q ≡ o
        → option_and_then (λ n. option_and_then (λ r. run_in r c) (slice_get (runs ++ NO_RUNS ∷ []) n)) o ≡ option_and_then (λ n. option_and_then (λ r. run_in r c) (slice_get runs n)) o
    other None at = refl
    other (Some n) at = let low = place_low names q n at in rw (get_first runs (NO_RUNS ∷ []) n (omega arith)) refl

or_none : (o : Option ℕ) → o ≡ option_or o None
or_none None = refl
or_none (Some n) = refl

-- with the areas of one name changed, what is found of the others stays
pub found_set : (names : List (List ℕ)) (runs : List FirstRuns) (s : List ℕ) (n area : ℕ) (old new : FirstRuns) (cl c : Class) (q : List ℕ) → length runs ≡ length names → place_in names s ≡ Some n
    → slice_get runs n ≡ Some old → ((c : Class) → run_in new c ≡ option_or (run_in old c) (cond (same_class c cl) (Some area) None))
    → run_found names (set runs n new) c q ≡ option_or (run_found names runs c q) (cond (bytes_eq q s && same_class c cl) (Some area) None)
found_set names runs s n area old new cl c q len at here with = elim (cases_Bool (bytes_eq q s)) [
  | inl a ↦
      let same : q ≡ s = same_text q s a in
      let place : place_in names q ≡ Some n = rw same at in
      let low = place_low names s n at in
      rw (place, a, get_set runs n new (omega arith), here) (with c)
  | inr a ↦ rw a (other (place_in names q) refl a)
]
  where
    self_is : (t : List ℕ) → bytes_eq t t ≡ true
    self_is t = nat_list_eq_equiv.refl t

    apart : (m : ℕ) → place_in names q ≡ Some m → bytes_eq q s ≡ false → m ≢ n
    apart m is a = λ e.
        let one : slice_get names m ≡ Some q = number_leads names q m is in
        let two : slice_get names m ≡ Some s = rw e (number_leads names s n at) in
        let both : Some q ≡ Some s = sym one ∙ two in
        let same : q ≡ s = cc in
        let yes : bytes_eq q s ≡ true = rw same (self_is s) in
        let no : true ≡ false = sym yes ∙ a in cc

    other : (o : Option ℕ) → place_in names q ≡ o → bytes_eq q s ≡ false
        → option_and_then (λ m. option_and_then (λ r. run_in r c) (slice_get (set runs n new) m)) o ≡ option_or (option_and_then (λ m. option_and_then (λ r. run_in r c) (slice_get runs m)) o) None
    other None is a = refl
    other (Some m) is a = rw (get_other runs n m new (apart m is a)) (or_none _)

-- the first of one run more
pub among_more : (rs : List Run) (r : Run) (c : Class) (q : List ℕ)
    → run_among (rs ++ r ∷ []) c q ≡ option_or (run_among rs c q) (cond (bytes_eq q r.section && same_class c r.class) (Some (area.FIRST_RUN + length rs)) None)
among_more rs r c q = position-append (λ (r : Run). bytes_eq q r.section && same_class c r.class) area.FIRST_RUN rs (r ∷ [])

-- one name more among names
pub among_with : (names : List (List ℕ)) (t q : List ℕ) → among (with_name names t) q ≡ (among names q || bytes_eq q t)
among_with names t q =
    list_any-append (bytes_eq q) names (only_if (not (among names t)) t)
    ∙ elim (cases_Bool (among names t)) [
      | inl a ↦ rw a (there a)
      | inr a ↦ rw a (ap (λ b. among names q || b) (or_false (bytes_eq q t)))
    ]
  where
    or_false : (b : Bool) → (b || false) ≡ b
    or_false true = refl
    or_false false = refl

    or_true : (b : Bool) → b ≡ true → (b || false) ≡ (b || true)
    or_true b e = rw e refl

    there : among names t ≡ true → (among names q || false) ≡ (among names q || bytes_eq q t)
    there a = elim (cases_Bool (bytes_eq q t)) [
      | inl e ↦ let same : q ≡ t = same_text q t e in let yes : among names q ≡ true = rw same a in rw (e, yes) refl
      | inr e ↦ rw e refl
    ]

pub among_one : (xs : List (List ℕ)) (x q : List ℕ) → among (xs ++ x ∷ []) q ≡ (among xs q || bytes_eq q x)
among_one xs x q = list_any-append (bytes_eq q) xs (x ∷ []) ∙ ap (λ b. among xs q || b) (or_false (bytes_eq q x))
  where
    or_false : (b : Bool) → (b || false) ≡ b
    or_false true = refl
    or_false false = refl

pub with_more : (names : List (List ℕ)) (t : List ℕ) → length (with_name names t) ≤ length names + 1
with_more names t = let all = length-append names (only_if (not (among names t)) t) in let one = only_if-le (not (among names t)) t in omega arith

pub no_run : (c : Class) (q : List ℕ) → run_found [] [] c q ≡ None
no_run c q = refl
