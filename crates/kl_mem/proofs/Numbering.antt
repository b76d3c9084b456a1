-- The numbers of files, step by step.
use Rattle.std.proofs.Common.{arith, ◌≡◌, ℕ, ◌+◌, ◌-◌, ◌<◌, ◌≤◌, List, [], ◌∷◌, ◌++◌, refl, sym, ap, ◌∙◌, get_or, length, take, drop, take-append-drop, inl, inr, ◌⊎◌, ⊎_elim, subst, true, false}
use Rattle.std.specs.Prelude.{Option, Some, None, nat_eq}
use Rattle.std.specs.Cmp.Lexicographic.{pointwise}
use Rattle.std.proofs.lemmas.Slice.Eq.{bytes_eq-Decides}
use Rattle.std.proofs.lemmas.List.{take_more}
use Rattle.kl_store.specs.Names.{Change}
use Rattle.kl_store.specs.Names as names
use Rattle.kl_store.specs.Disk.{Numbers, renumbered, all_renumbered, IsAppendedTo}
use Rattle.kl_store.proofs.Disks.{all_renumbered-append, appended_parts}
use Rattle.kl_mem.specs.declared.step.Step.{Step}
use Rattle.kl_mem.specs.declared.step.Step.TheVariants.{Create, Append, Rename, Remove, Settle, Put}
use Rattle.kl_mem.specs.Record.{changes_of, renumbers}

pub changes_of-append : (xs ys : List Step) → changes_of (xs ++ ys) ≡ changes_of xs ++ changes_of ys
changes_of-append [] ys = refl
changes_of-append (Create n ∷ xs) ys = ap (λ (l : List Change). names.Create n ∷ l) (changes_of-append xs ys)
changes_of-append (Append n bytes ∷ xs) ys = ap (λ (l : List Change). names.Append n bytes ∷ l) (changes_of-append xs ys)
changes_of-append (Rename a b ∷ xs) ys = ap (λ (l : List Change). names.Rename a b ∷ l) (changes_of-append xs ys)
changes_of-append (Remove n ∷ xs) ys = ap (λ (l : List Change). names.Remove n ∷ l) (changes_of-append xs ys)
changes_of-append (Settle ∷ xs) ys = changes_of-append xs ys
changes_of-append (Put n bytes ∷ xs) ys = changes_of-append xs ys

one : (s : Step) (f : Numbers) → all_renumbered (changes_of (s ∷ [])) f ≡ renumbers s f
one (Create n) f = refl
one (Append n bytes) f = refl
one (Rename a b) f = refl
one (Remove n) f = refl
one Settle f = refl
one (Put n bytes) f = refl

abbrev pub numbers_at : List Step → ℕ → Numbers
numbers_at steps k = all_renumbered (changes_of (take k steps)) Some

pub numbers_more : (steps : List Step) (i : ℕ) (s : Step) (q : List ℕ) → 0 < i → i ≤ length steps → s ≡ get_or steps (i - 1) s → renumbers s (numbers_at steps (i - 1)) q ≡ numbers_at steps i q
numbers_more steps i s q some within is =
    let next : (i - 1) + 1 ≡ i = omega arith in
    let more : take ((i - 1) + 1) steps ≡ take (i - 1) steps ++ s ∷ [] = take_more steps (i - 1) s (omega arith) ∙ ap (λ (t : Step). take (i - 1) steps ++ t ∷ []) (sym is) in
    sym (ap (λ (g : Numbers). g q) (
    ap (λ (l : List Step). all_renumbered (changes_of l) Some) more
    ∙ ap (λ (cs : List Change). all_renumbered cs Some) (changes_of-append (take (i - 1) steps) (s ∷ []))
    ∙ all_renumbered-append (changes_of (take (i - 1) steps)) (changes_of (s ∷ [])) Some
    ∙ one s (numbers_at steps (i - 1))))
    ∙ ap (λ (k : ℕ). numbers_at steps k q) next

-- an append among the first changes, or among the last
pub first_appended : (file : List ℕ) (cs ds : List Change) (f : Numbers) → IsAppendedTo file cs f → IsAppendedTo file (cs ++ ds) f
first_appended file [] ds f h = absurd h
first_appended file (names.Create k ∷ cs) ds f h = first_appended file cs ds (renumbered (names.Create k) f) h
first_appended file (names.Append k bytes ∷ cs) ds f (inl h) = inl h
first_appended file (names.Append k bytes ∷ cs) ds f (inr h) = inr (first_appended file cs ds f h)
first_appended file (names.Rename a b ∷ cs) ds f h = first_appended file cs ds (renumbered (names.Rename a b) f) h
first_appended file (names.Remove k ∷ cs) ds f h = first_appended file cs ds (renumbered (names.Remove k) f) h

last_appended : (file : List ℕ) (cs ds : List Change) (f : Numbers) → IsAppendedTo file ds (all_renumbered cs f) → IsAppendedTo file (cs ++ ds) f
last_appended file [] ds f h = h
last_appended file (names.Create k ∷ cs) ds f h = last_appended file cs ds (renumbered (names.Create k) f) h
last_appended file (names.Append k bytes ∷ cs) ds f h = inr (last_appended file cs ds f h)
last_appended file (names.Rename a b ∷ cs) ds f h = last_appended file cs ds (renumbered (names.Rename a b) f) h
last_appended file (names.Remove k ∷ cs) ds f h = last_appended file cs ds (renumbered (names.Remove k) f) h

abbrev pub AppendedBy : List ℕ → List Step → ℕ → Type 0
AppendedBy file steps k = IsAppendedTo file (changes_of (take k steps)) Some

pub steps_more : (steps : List Step) (i : ℕ) (s : Step) → i < length steps → s ≡ get_or steps i s → changes_of (take (i + 1) steps) ≡ changes_of (take i steps) ++ changes_of (s ∷ [])
steps_more steps i s less is = ap changes_of (take_more steps i s less ∙ ap (λ (t : Step). take i steps ++ t ∷ []) (sym is)) ∙ changes_of-append (take i steps) (s ∷ [])

-- what the step adds
pub appended_step : (file : List ℕ) (steps : List Step) (i : ℕ) (s : Step) → i < length steps → s ≡ get_or steps i s → AppendedBy file steps (i + 1) → AppendedBy file steps i ⊎ IsAppendedTo file (changes_of (s ∷ [])) (numbers_at steps i)
appended_step file steps i s less is h = appended_parts file (changes_of (take i steps)) (changes_of (s ∷ [])) Some (subst (λ (cs : List Change). IsAppendedTo file cs Some) (steps_more steps i s less is) h)

pub step_appends : (file : List ℕ) (steps : List Step) (i : ℕ) (s : Step) → i < length steps → s ≡ get_or steps i s → IsAppendedTo file (changes_of (s ∷ [])) (numbers_at steps i) → AppendedBy file steps (i + 1)
step_appends file steps i s less is h = subst (λ (cs : List Change). IsAppendedTo file cs Some) (sym (steps_more steps i s less is)) (last_appended file (changes_of (take i steps)) (changes_of (s ∷ [])) Some h)

pub appended_whole_list : (file : List ℕ) (steps : List Step) (k : ℕ) → AppendedBy file steps k → IsAppendedTo file (changes_of steps) Some
appended_whole_list file steps k h = subst (λ (cs : List Change). IsAppendedTo file cs Some)
    (sym (changes_of-append (take k steps) (drop k steps)) ∙ ap changes_of (take-append-drop k steps)) (first_appended file (changes_of (take k steps)) (changes_of (drop k steps)) Some h)

-- whether the step of that number appends to the file
pub append_hit : (file : List ℕ) (steps : List Step) (i : ℕ) (s : Step) (n bytes : List ℕ) → i < length steps → s ≡ get_or steps i s → s ≡ Append n bytes → numbers_at steps i n ≡ Some file → AppendedBy file steps (i + 1)
append_hit file steps i s n bytes less is form here = step_appends file steps i s less is (subst (λ (t : Step). IsAppendedTo file (changes_of (t ∷ [])) (numbers_at steps i)) (sym form) (inl here))

pub append_miss : (file : List ℕ) (steps : List Step) (i : ℕ) (s : Step) (n bytes : List ℕ) → i < length steps → s ≡ get_or steps i s → s ≡ Append n bytes → (numbers_at steps i n ≡ Some file → ⊥)
    → AppendedBy file steps (i + 1) → AppendedBy file steps i
append_miss file steps i s n bytes less is form other h = ⊎_elim
    (λ before. before)
    (λ now. ⊎_elim (λ e. absurd (other e)) (λ never. absurd never) (subst (λ (t : Step). IsAppendedTo file (changes_of (t ∷ [])) (numbers_at steps i)) form now))
    (appended_step file steps i s less is h)

no_append : (file : List ℕ) (s : Step) (f : Numbers) → ((n bytes : List ℕ) → s ≡ Append n bytes → ⊥) → ¬ IsAppendedTo file (changes_of (s ∷ [])) f
no_append file (Create n) f other h = h
no_append file (Append n bytes) f other h = other n bytes refl
no_append file (Rename a b) f other h = h
no_append file (Remove n) f other h = h
no_append file Settle f other h = h
no_append file (Put n bytes) f other h = h

pub other_miss : (file : List ℕ) (steps : List Step) (i : ℕ) (s : Step) → i < length steps → s ≡ get_or steps i s → ((n bytes : List ℕ) → s ≡ Append n bytes → ⊥) → AppendedBy file steps (i + 1) → AppendedBy file steps i
other_miss file steps i s less is other h = ⊎_elim (λ before. before) (λ now. absurd (no_append file s (numbers_at steps i) other now)) (appended_step file steps i s less is h)

pub same_number : (a file : List ℕ) → pointwise nat_eq a file ≡ true → a ≡ file
same_number a file e = (bytes_eq-Decides a file).0 e

pub other_number : (a file : List ℕ) → pointwise nat_eq a file ≡ false → ◌≡◌ {A = Option (List ℕ)} (Some a) (Some file) → ⊥
other_number a file e is = let same : a ≡ file = cc in let yes : pointwise nat_eq a file ≡ true = (bytes_eq-Decides a file).1 same in cc

pub none_number : (file : List ℕ) → ◌≡◌ {A = Option (List ℕ)} None (Some file) → ⊥
none_number file e = cc
