-- The entries of a dynamic section have no flaw where none names a wrong table, and their section has an entry DT_NULL.
use Rattle.std.proofs.Common.{ℕ, zero, suc, ◌≡◌, ◌+◌, ◌/◌, ◌<◌, ◌≤◌, ◌∙◌, ◌&&◌, ◌||◌, Bool, true, false, not, List, [], ◌∷◌, ◌++◌, length, take, refl, ap, arith}
use Rattle.std.specs.Prelude.{◌==◌}
use Rattle.std.specs.List.{before_first, list_any}
use Rattle.kl_elf.specs.declared.records.Dyn.{Dyn}
use Rattle.kl_model.specs.Lists.{each, each_from}
use Rattle.kl_model.specs.Loaded.{dynamics}
use Rattle.kl_loading.proofs.BeforeFirst.{before_pass, before_stop}
use Rattle.kl_image.specs.Dynamic.{entry_flaws, entry_flaws_of, has_tag, is_wrong_entry}
use Rattle.kl_image.specs.declared.fault.ImageFault.{ImageFault}

-- no entry names a wrong table
abbrev pub NoneWrong : List ℕ → List Dyn → Type 0
NoneWrong b [] = Unit {0}
NoneWrong b (d ∷ ds) = (is_wrong_entry b d ≡ false) × NoneWrong b ds

pub none_wrong-append : (b : List ℕ) (ds es : List Dyn) → NoneWrong b ds → NoneWrong b es → NoneWrong b (ds ++ es)
none_wrong-append b [] es h k = k
none_wrong-append b (d ∷ ds) es h k = (h.0, none_wrong-append b ds es h.1 k)

-- nor one before the first DT_NULL
pub none_wrong-before : (b : List ℕ) (t : Dyn → Bool) (ds : List Dyn) → NoneWrong b ds → NoneWrong b (before_first t ds)
none_wrong-before b t [] h = tt
none_wrong-before b t (d ∷ ds) h = go (t d) refl (none_wrong-before b t ds h.1)
  where
    go : (x : Bool) → t d ≡ x → NoneWrong b (before_first t ds) → NoneWrong b (before_first t (d ∷ ds))
    go true e rest = rw (before_stop t d ds e) tt
    go false e rest = rw (before_pass t d ds e) (h.0, rest)

told_none : (b : List ℕ) (at : ℕ) (before : List Dyn) (k : ℕ) (d : Dyn) → is_wrong_entry b d ≡ false → entry_flaws_of b at before k d ≡ []
told_none b at before k d right = go (list_any (has_tag d.tag) before) refl
  where
    go : (x : Bool) → list_any (has_tag d.tag) before ≡ x → entry_flaws_of b at before k d ≡ []
    go true e = rw e refl
    go false e = rw (e, right) refl

all_none : (b : List ℕ) (at : ℕ) (whole : List Dyn) (k : ℕ) (ds : List Dyn) → NoneWrong b ds → each_from k (λ k d. entry_flaws_of b at (take k whole) k d) ds ≡ []
all_none b at whole k [] h = refl
all_none b at whole k (d ∷ ds) h =
    ap (λ l. l ++ each_from (suc k) (λ k d. entry_flaws_of b at (take k whole) k d) ds) (told_none b at (take k whole) k d h.0) ∙ all_none b at whole (suc k) ds h.1

pub entries_right : (b : List ℕ) (at : ℕ) (ds : List Dyn) → dynamics b ≡ ds → NoneWrong b ds → entry_flaws b at ≡ []
unfolding entry_flaws
entries_right b at ds is h = ap (λ es. each es (λ k d. entry_flaws_of b at (take k es) k d)) is ∙ all_none b at ds 0 ds h

-- where an item passes a test fewer stand before the first that does
pub fewer_before : {X : Type 0} (t : X → Bool) (xs : List X) → list_any t xs ≡ true → length (before_first t xs) < length xs
fewer_before t [] h = cc
fewer_before t (x ∷ xs) h = go (t x) refl (λ e. fewer_before t xs e)
  where
    go : (y : Bool) → t x ≡ y → (list_any t xs ≡ true → length (before_first t xs) < length xs) → length (before_first t (x ∷ xs)) < length (x ∷ xs)
    go true e more = rw (before_stop t x xs e) (omega arith)
    go false e more =
        let left : list_any t xs ≡ true = rw e at h in
        let rest = more left in
        rw (before_pass t x xs e) (omega (arith, rest))

pub any_right : {X : Type 0} (t : X → Bool) (xs ys : List X) → list_any t ys ≡ true → list_any t (xs ++ ys) ≡ true
any_right t [] ys h = h
any_right t (x ∷ xs) ys h = go (t x) (any_right t xs ys h)
  where
    go : (b : Bool) → list_any t (xs ++ ys) ≡ true → (b || list_any t (xs ++ ys)) ≡ true
    go true e = refl
    go false e = e
