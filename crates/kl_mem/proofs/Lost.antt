-- The files of an image, as one after another is put there.
use Rattle.std.proofs.Common.{◌≡◌, ⊎_elim, ℕ, Bool, true, false, ◌||◌, List, [], ◌∷◌, ◌++◌, refl, sym, ap, ◌∙◌, subst, ◌+◌, ◌<◌, length, take, get_or}
use Rattle.std.specs.Prelude.{Option, Some, None, option_map, is_some}
use Rattle.std.specs.Set.{is_member}
use Rattle.std.specs.FinMap.{get, insert, get-empty}
use Rattle.std.specs.Ordering.{nat_cmp}
use Rattle.std.specs.Cmp.Lexicographic.{slice_cmp}
use Rattle.std.proofs.lemmas.List.{take_more}
use Rattle.std.proofs.lemmas.Bool.{cases_Bool, cond-true, cond-false}
use Rattle.kl_store.specs.Disk.{Disk, names_now}
use Rattle.kl_mem.specs.declared.step.Step.{Step}
use Rattle.kl_mem.specs.declared.step.Step.TheVariants.{Put}
use Rattle.kl_mem.specs.Record.{disk_of}
use Rattle.kl_mem.proofs.Written.{disk_more, names_more}
use Rattle.kl_store.specs.Names.{Names, Change, same_name}
use Rattle.kl_store.proofs.NameMaps.{same_eq, get-inserted}
use Rattle.kl_mem.specs.Picked.{IsKept, IsLeft, AreLeft, twisted}

-- each of these names has what is left of its file, and no other name has a file
pub record IsPartLeft (changes : List Change) (k twist : ℕ) (m x : Names) (done : List (List ℕ)) : Type 0 where
  pub left : (q : List ℕ) → is_member same_name done q ≡ true → IsLeft changes k twist q (get m q) (get x q)
  pub none : (q : List ℕ) → is_member same_name done q ≡ false → get x q ≡ None

or_false : (a : Bool) → (a || false) ≡ a
or_false true = refl
or_false false = refl

or_assoc : (a b c : Bool) → (a || (b || c)) ≡ ((a || b) || c)
or_assoc true b c = refl
or_assoc false b c = refl

one_more : (done : List (List ℕ)) (n q : List ℕ) → is_member same_name (done ++ n ∷ []) q ≡ (is_member same_name done q || same_name q n)
one_more [] n q = or_false (same_name q n)
one_more (d ∷ done) n q = ap (λ b. same_name q d || b) (one_more done n q) ∙ or_assoc (same_name q d) (is_member same_name done q) (same_name q n)

second : (a b : Bool) → b ≡ false → (a || b) ≡ true → a ≡ true
second true b none e = refl
second false b none e = sym none ∙ e

neither : (a b : Bool) → (a || b) ≡ false → (a ≡ false) × (b ≡ false)
neither true b e = cc
neither false b e = (refl, e)

-- one file more
pub put_left : (changes : List Change) (k twist : ℕ) (m x : Names) (done : List (List ℕ)) (n bytes : List ℕ) → IsPartLeft changes k twist m x done → IsLeft changes k twist n (get m n) (Some bytes)
    → IsPartLeft changes k twist m (insert x n bytes) (done ++ n ∷ [])
put_left changes k twist m x done n bytes part left = record {
  left = λ q in_it. ⊎_elim
      (λ is.
      let same : q ≡ n = same_eq q n is in
      let here : get (insert x n bytes) q ≡ Some bytes = get-inserted x n bytes q ∙ cond-true (same_name q n) _ _ is in
      subst (λ (p : List ℕ). IsLeft changes k twist p (get m p) (get (insert x n bytes) q)) (sym same) (subst (λ (o : Option (List ℕ)). IsLeft changes k twist n (get m n) o) (sym here) left))
      (λ other.
      let there : get (insert x n bytes) q ≡ get x q = get-inserted x n bytes q ∙ cond-false (same_name q n) _ _ other in
      subst (λ (o : Option (List ℕ)). IsLeft changes k twist q (get m q) o) (sym there) (part.left q (second _ _ other (sym (one_more done n q) ∙ in_it))))
      (cases_Bool (same_name q n));
  none = λ q out.
      let both = neither (is_member same_name done q) (same_name q n) (sym (one_more done n q) ∙ out) in
      get-inserted x n bytes q ∙ cond-false (same_name q n) _ _ both.1 ∙ part.none q both.0;
}

none_left : (changes : List Change) (k twist : ℕ) (n : List ℕ) (before now : Option (List ℕ)) → before ≡ None → now ≡ None → IsLeft changes k twist n before now
none_left changes k twist n before now was is = record { there = ap is_some (is ∙ sym was); kept = λ file kept. is ∙ sym was; others = λ lost. is ∙ ap (option_map (twisted twist)) (sym was) }

-- one name more that holds no file
pub skip_left : (changes : List Change) (k twist : ℕ) (m x : Names) (done : List (List ℕ)) (n : List ℕ) → IsPartLeft changes k twist m x done → get m n ≡ None → IsPartLeft changes k twist m x (done ++ n ∷ [])
skip_left changes k twist m x done n part absent = record {
  left = λ q in_it. ⊎_elim
      (λ before. part.left q before)
      (λ new. ⊎_elim
      (λ is. none_left changes k twist q (get m q) (get x q) (ap (λ (p : List ℕ). get m p) (same_eq q n is) ∙ absent) (part.none q new))
      (λ other. part.left q (second _ _ other (sym (one_more done n q) ∙ in_it)))
      (cases_Bool (same_name q n)))
      (cases_Bool (is_member same_name done q));
  none = λ q out. part.none q (neither (is_member same_name done q) (same_name q n) (sym (one_more done n q) ∙ out)).0;
}

no_some : (o : Option (List ℕ)) → is_some o ≡ false → o ≡ None
no_some None e = refl
no_some (Some v) e = cc

-- all of them
pub all_left : (changes : List Change) (k twist : ℕ) (m x : Names) (names : List (List ℕ)) → IsPartLeft changes k twist m x names → ((q : List ℕ) → is_some (get m q) ≡ is_member same_name names q) → AreLeft changes k twist m x
all_left changes k twist m x names part all q = ⊎_elim
    (λ in_it. part.left q in_it)
    (λ out. none_left changes k twist q (get m q) (get x q) (no_some (get m q) (all q ∙ out)) (part.none q out))
    (cases_Bool (is_member same_name names q))

-- what is left of one file
pub left_kept : (changes : List Change) (k twist : ℕ) (n bytes : List ℕ) → ((x : List ℕ) × IsKept changes k n x) → IsLeft changes k twist n (Some bytes) (Some bytes)
left_kept changes k twist n bytes keeps = record { there = refl; kept = λ file kept. refl; others = λ lost. absurd (lost keeps.0 keeps.1) }

pub left_lost : (changes : List Change) (k twist : ℕ) (n bytes after : List ℕ) → ((x : List ℕ) → ¬ IsKept changes k n x) → after ≡ twisted twist bytes → IsLeft changes k twist n (Some bytes) (Some after)
left_lost changes k twist n bytes after lost is = record { there = refl; kept = λ file kept. absurd (lost file kept); others = λ _. ap (λ (l : List ℕ). Some l) is }

-- no name yet
pub none_put : (changes : List Change) (k twist : ℕ) (m : Names) (steps : List Step) → steps ≡ [] → IsPartLeft changes k twist m (names_now (disk_of steps)) []
none_put changes k twist m steps is = record {
  left = λ q in_it. cc;
  none = λ q out. ap (λ (l : List Step). get (names_now (disk_of l)) q) is ∙ get-empty (slice_cmp nat_cmp) q;
}

more_of : (ns : List (List ℕ)) (i : ℕ) (n : List ℕ) → i < length ns → n ≡ get_or ns i n → take (i + 1) ns ≡ take i ns ++ n ∷ []
more_of ns i n less is = take_more ns i n less ∙ ap (λ (p : List ℕ). take i ns ++ p ∷ []) (sym is)

pub on_put : (changes : List Change) (k twist : ℕ) (m : Names) (steps next : List Step) (ns : List (List ℕ)) (i : ℕ) (n before bytes : List ℕ) → i < length ns → n ≡ get_or ns i n → next ≡ steps ++ Put n bytes ∷ []
    → IsPartLeft changes k twist m (names_now (disk_of steps)) (take i ns) → get m n ≡ Some before → IsLeft changes k twist n (Some before) (Some bytes) → IsPartLeft changes k twist m (names_now (disk_of next)) (take (i + 1) ns)
on_put changes k twist m steps next ns i n before bytes less is put part there left =
    subst (λ (l : List (List ℕ)). IsPartLeft changes k twist m (names_now (disk_of next)) l) (sym (more_of ns i n less is))
    (subst (λ (x : Names). IsPartLeft changes k twist m x (take i ns ++ n ∷ [])) (sym (ap (λ (l : List Step). names_now (disk_of l)) put ∙ names_more steps (Put n bytes)))
    (put_left changes k twist m (names_now (disk_of steps)) (take i ns) n bytes part (subst (λ (o : Option (List ℕ)). IsLeft changes k twist n o (Some bytes)) (sym there) left)))

pub on_skip : (changes : List Change) (k twist : ℕ) (m x : Names) (ns : List (List ℕ)) (i : ℕ) (n : List ℕ) → i < length ns → n ≡ get_or ns i n → IsPartLeft changes k twist m x (take i ns) → get m n ≡ None
    → IsPartLeft changes k twist m x (take (i + 1) ns)
on_skip changes k twist m x ns i n less is part absent = subst (λ (l : List (List ℕ)). IsPartLeft changes k twist m x l) (sym (more_of ns i n less is)) (skip_left changes k twist m x (take i ns) n part absent)

-- nothing is pending behind a file that was put there
pub put_settled : (steps next : List Step) (n bytes : List ℕ) → next ≡ steps ++ Put n bytes ∷ [] → (disk_of next).changes ≡ []
put_settled steps next n bytes is = ap (λ (l : List Step). (disk_of l).changes) is ∙ ap (λ (d : Disk). d.changes) (disk_more steps (Put n bytes))
