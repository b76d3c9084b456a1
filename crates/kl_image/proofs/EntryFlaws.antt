-- A walk over the entries of a dynamic section: the flaws so far, and the tags.
use Rattle.std.proofs.Common.{ℕ, zero, ◌≡◌, ◌+◌, ◌*◌, ◌<◌, ◌≤◌, ◌∙◌, ◌||◌, Bool, true, false, List, [], ◌∷◌, ◌++◌, length, get_or, take, refl, sym, arith, eqb-true}
use Rattle.std.specs.Prelude.{◌==◌, slice_get, is_some, Option, Some, None}
use Rattle.std.specs.List.{list_any}
use Rattle.std.proofs.lemmas.List.{take_more}
use Rattle.std.proofs.lemmas.List.Folds.{list_any-append}
use Rattle.kl_elf.specs.declared.records.Dyn.{Dyn}
use Rattle.kl_model.specs.Lists.{each}
use Rattle.kl_model.specs.Loaded.{dynamics}
use Rattle.kl_model.proofs.Each.{each_all, each_first, each_more}
use Rattle.kl_image.specs.Dynamic.{entry_flaws, entry_flaws_of, has_tag, is_wrong_entry, is_wrong_table, table_size}
use Rattle.kl_image.specs.declared.fault.ImageFault.{ImageFault}
use Rattle.kl_image.specs.declared.fault.ImageFault.TheVariants.{Tables}

-- what is told of each entry
abbrev pub told : List ℕ → ℕ → List Dyn → ℕ → Dyn → List ImageFault
told b at ds k d = entry_flaws_of b at (take k ds) k d

pub told_none : (b : List ℕ) (at : ℕ) (before : List Dyn) (k : ℕ) (d : Dyn) → table_size b d.tag ≡ None → entry_flaws_of b at before k d ≡ []
told_none b at before k d none = go (list_any (has_tag d.tag) before) refl
  where
    go : (x : Bool) → list_any (has_tag d.tag) before ≡ x → entry_flaws_of b at before k d ≡ []
    go true e = rw e refl
    go false e = rw (e, none) refl

-- an entry whose tag comes before, if it names a table
pub told_seen : (b : List ℕ) (at : ℕ) (before : List Dyn) (k : ℕ) (d : Dyn) → (is_some (table_size b d.tag) ≡ true → list_any (has_tag d.tag) before ≡ true)
    → entry_flaws_of b at before k d ≡ []
told_seen b at before k d again = go (table_size b d.tag) refl
  where
    go : (o : Option ℕ) → table_size b d.tag ≡ o → entry_flaws_of b at before k d ≡ []
    go None e = told_none b at before k d e
    go (Some size) e = let later : list_any (has_tag d.tag) before ≡ true = again (rw e refl) in rw later refl

pub told_right : (b : List ℕ) (at : ℕ) (before : List Dyn) (k : ℕ) (d : Dyn) (size : ℕ) → table_size b d.tag ≡ Some size → is_wrong_table b d size ≡ false
    → entry_flaws_of b at before k d ≡ []
told_right b at before k d size is right = go (list_any (has_tag d.tag) before) refl
  where
    wrong : is_wrong_entry b d ≡ false
    wrong = rw is right

    go : (x : Bool) → list_any (has_tag d.tag) before ≡ x → entry_flaws_of b at before k d ≡ []
    go true e = rw e refl
    go false e = rw (e, wrong) refl

pub told_wrong : (b : List ℕ) (at : ℕ) (before : List Dyn) (k : ℕ) (d : Dyn) (size : ℕ) → list_any (has_tag d.tag) before ≡ false → table_size b d.tag ≡ Some size
    → is_wrong_table b d size ≡ true → entry_flaws_of b at before k d ≡ Tables (at + 16 * k) ∷ []
told_wrong b at before k d size first is wrong = let is_wrong : is_wrong_entry b d ≡ true = rw is wrong in rw (first, is_wrong) refl

-- a loop over them: one more, the first that is wrong, and the end
pub flaws_more : (b : List ℕ) (at : ℕ) (ds : List Dyn) (i : ℕ) (d : Dyn) → i < length ds → each (take i ds) (told b at ds) ≡ []
    → told b at ds i (get_or ds i d) ≡ [] → each (take (i + 1) ds) (told b at ds) ≡ []
flaws_more b at ds i d h none right = each_more (told b at ds) ds i d h ∙ rw (none, right) refl

pub flaw_first : (b : List ℕ) (at : ℕ) (ds : List Dyn) (i : ℕ) (d : Dyn) → ds ≡ dynamics b → i < length ds → each (take i ds) (told b at ds) ≡ []
    → told b at ds i (get_or ds i d) ≡ Tables (at + 16 * i) ∷ [] → slice_get (entry_flaws b at) 0 ≡ Some (Tables (at + 16 * i))
unfolding entry_flaws
flaw_first b at ds i d same h none wrong =
    let first : slice_get (told b at ds i (get_or ds i d)) 0 ≡ Some (Tables (at + 16 * i)) = rw wrong refl in
    let start : zero + i ≡ i = omega arith in
    let all : slice_get (each ds (told b at ds)) 0 ≡ Some (Tables (at + 16 * i)) = each_first 0 (told b at ds) ds i d (Tables (at + 16 * i)) h none (rw start first) in
    rw same at all

pub flaws_none : (b : List ℕ) (at : ℕ) (ds : List Dyn) (i : ℕ) → ds ≡ dynamics b → length ds ≤ i → each (take i ds) (told b at ds) ≡ [] → entry_flaws b at ≡ []
unfolding entry_flaws
flaws_none b at ds i same end none =
    let all : each ds (told b at ds) ≡ [] = sym (each_all (told b at ds) ds i end) ∙ none in
    rw same at all

-- the tags of these entries, of those that name tables
abbrev pub AreSeen : List ℕ → List Dyn → List ℕ → Type 0
AreSeen b ds seen = (t : ℕ) → is_some (table_size b t) ≡ true → list_any (λ m. m == t) seen ≡ list_any (has_tag t) ds

pub seen_more : (b : List ℕ) (ds : List Dyn) (i : ℕ) (d : Dyn) (seen : List ℕ) → i < length ds → AreSeen b (take i ds) seen
    → AreSeen b (take (i + 1) ds) (seen ++ (get_or ds i d).tag ∷ [])
seen_more b ds i d seen h are t is =
    let left = list_any-append (λ m. m == t) seen ((get_or ds i d).tag ∷ []) in
    let right = list_any-append (has_tag t) (take i ds) (get_or ds i d ∷ []) in
    rw (take_more ds i d h, left, right, are t is) refl

pub seen_same : (b : List ℕ) (ds : List Dyn) (i : ℕ) (d : Dyn) (seen : List ℕ) → i < length ds → AreSeen b (take i ds) seen
    → (is_some (table_size b (get_or ds i d).tag) ≡ true → list_any (has_tag (get_or ds i d).tag) (take i ds) ≡ true) → AreSeen b (take (i + 1) ds) seen
seen_same b ds i d seen h are again t is =
    let right = list_any-append (has_tag t) (take i ds) (get_or ds i d ∷ []) in
    rw (take_more ds i d h, right, are t is) (sym (same ((get_or ds i d).tag == t) refl))
  where
    same : (x : Bool) → ((get_or ds i d).tag == t) ≡ x → (list_any (has_tag t) (take i ds) || list_any (has_tag t) (get_or ds i d ∷ [])) ≡ list_any (has_tag t) (take i ds)
    same true e =
        let tag = eqb-true (get_or ds i d).tag t e in
        let before = rw tag at (again (rw tag is)) in
        rw before refl
    same false e = go (list_any (has_tag t) (take i ds)) refl
      where
        go : (y : Bool) → list_any (has_tag t) (take i ds) ≡ y → (list_any (has_tag t) (take i ds) || list_any (has_tag t) (get_or ds i d ∷ [])) ≡ list_any (has_tag t) (take i ds)
        go true f = rw f refl
        go false f = rw (f, e) refl
