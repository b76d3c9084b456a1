-- What leaves names alone.
use Rattle.std.proofs.Common.{◌≡◌, ◌≢◌, ℕ, List, true, false, refl, sym, ap, ◌∙◌, ⊎_elim, is_some}
use Rattle.std.specs.Prelude.{Option, Some, None, option_map, Bool, Result, Ok, Err, ◌⊎◌}
use Rattle.std.specs.FinMap.{get}
use Rattle.std.proofs.lemmas.Bool.{cond-false}
use Rattle.kl_store.specs.Names.{Names, Change, Create, Append, Rename, Remove, carried_out, cut, is_scratch, same_name}
use Rattle.kl_store.specs.Meaning.{Meaning}
use Rattle.kl_store.specs.Calls.{Keeps, Stays, Makes, MakesIf, Does, DoesIf, Settles}
use Rattle.kl_store.specs.Files.{KeepsNames, SameFiles}
use Rattle.kl_store.proofs.NameMaps.{same_apart, get-created, get-appended, get-renamed, get-removed}

same_told : {o : Option Names} (m n : Names) → o ≡ Some m → o ≡ Some n → m ≡ n
same_told m n p q = let both : ◌≡◌ {A = Option Names} (Some m) (Some n) = sym p ∙ q in cc

-- names that stay
pub kept_names : {P : List ℕ → Type 0} (a b : Meaning) → b.names ≡ a.names → KeepsNames P a b
kept_names a b same = record {
  tells = ap is_some same;
  names = λ m told x now n is. ap (λ (y : Names). get y n) (same_told x m now (same ∙ told));
}

-- calls that change nothing
pub stays_kept : {P : List ℕ → Type 0} {a b : Meaning} → Stays a b → KeepsNames P a b
stays_kept {a = a} {b = b} stays = kept_names a b stays.names

-- names that are told at the one end are told at the other
told_too : (old new : Option Names) (x : Names) → is_some new ≡ is_some old → old ≡ Some x → (y : Names) × (new ≡ Some y)
told_too old (Some y) x same told = (y, refl)
told_too old None x same told = let differ : false ≡ true = same ∙ ap is_some told in cc

-- one call after another
pub keeps_trans : {P : List ℕ → Type 0} {a b c : Meaning} → KeepsNames P a b → KeepsNames P b c → KeepsNames P a c
keeps_trans {a = a} {b = b} p q = record {
  tells = q.tells ∙ p.tells;
  names = λ m told x now n is. let mid = told_too a.names b.names m p.tells told in q.names mid.0 mid.1 x now n is ∙ p.names m told mid.0 mid.1 n is;
}

pub keeps_fewer : {P Q : List ℕ → Type 0} {a b : Meaning} → ((n : List ℕ) → Q n → P n) → KeepsNames P a b → KeepsNames Q a b
keeps_fewer fewer p = record { tells = p.tells; names = λ m told x now n is. p.names m told x now n (fewer n is) }

-- a scratch name is no other name
pub plain_not_scratch : (q n : List ℕ) → is_scratch n ≡ true → is_scratch q ≡ false → q ≢ n
plain_not_scratch q n scratch plain same = let differ : true ≡ false = sym scratch ∙ sym (ap is_scratch same) ∙ plain in cc

-- what leaves all names but a scratch name alone leaves the files
pub scratch_files : {a b : Meaning} (n : List ℕ) → is_scratch n ≡ true → KeepsNames (λ q. q ≢ n) a b → SameFiles a b
scratch_files n scratch p = keeps_fewer (λ q plain. plain_not_scratch q n scratch plain) p

-- the change is of other names
abbrev pub IsOff : Change → List ℕ → Type 0
IsOff (Create a) n = n ≢ a
IsOff (Append a bytes) n = n ≢ a
IsOff (Rename a b) n = (n ≢ a) × (n ≢ b)
IsOff (Remove a) n = n ≢ a

off_same : (c : Change) (m : Names) (n : List ℕ) → IsOff c n → get (carried_out c m) n ≡ get m n
off_same (Create a) m n off = get-created m a n ∙ cond-false (same_name n a) _ _ (same_apart n a off)
off_same (Append a bytes) m n off = get-appended m a bytes n ∙ cond-false (same_name n a) _ _ (same_apart n a off)
off_same (Rename a b) m n off = get-renamed m a b n ∙ cond-false (same_name n b) _ _ (same_apart n b off.1) ∙ cond-false (same_name n a) _ _ (same_apart n a off.0)
off_same (Remove a) m n off = get-removed m a n ∙ cond-false (same_name n a) _ _ (same_apart n a off)

cut_off : (k : ℕ) (c : Change) (n : List ℕ) → IsOff c n → IsOff (cut k c) n
cut_off k (Create a) n off = off
cut_off k (Append a bytes) n off = off
cut_off k (Rename a b) n off = off
cut_off k (Remove a) n off = off

still_some : (o : Option Names) (f : Names → Names) → is_some (option_map f o) ≡ is_some o
still_some None f = refl
still_some (Some m) f = refl

makes_names : {P : List ℕ → Type 0} {a b : Meaning} (c : Change) → ((n : List ℕ) → P n → IsOff c n) → Makes c a b → KeepsNames P a b
makes_names {a = a} c off made = record {
  tells = ap is_some made.names ∙ still_some a.names (carried_out c);
  names = λ m told x now n is.
      ap (λ (y : Names). get y n) (same_told x (carried_out c m) now (made.names ∙ ap (option_map (carried_out c)) told)) ∙ off_same c m n (off n is);
}

failed_names : {P : List ℕ → Type 0} {a b : Meaning} (c : Change) → ((n : List ℕ) → P n → IsOff c n) → (Keeps a b ⊎ ((k : ℕ) × Makes (cut k c) a b)) → KeepsNames P a b
failed_names {a = a} {b = b} c off failed = ⊎_elim (λ kept. kept_names a b kept.names) (λ part. makes_names (cut part.0 c) (λ n is. cut_off part.0 c n (off n is)) part.1) failed

-- a call that makes the change, whatever it answers
pub does_names : {P : List ℕ → Type 0} {T E : Type 0} {a b : Meaning} {result : Result T E} (c : Change) → ((n : List ℕ) → P n → IsOff c n) → Does c a b result → KeepsNames P a b
does_names {result = Ok x} c off does = makes_names c off does.made
does_names {result = Err e} c off does = failed_names c off does.failed

made_if_names : {P : List ℕ → Type 0} {a b : Meaning} (c : Change) (was : Bool) → ((n : List ℕ) → P n → IsOff c n) → MakesIf c a b was → KeepsNames P a b
made_if_names c true off made = makes_names c off made
made_if_names {a = a} {b = b} c false off missed = kept_names a b missed.names

-- one that makes it where there is such a file
pub does_if_names : {P : List ℕ → Type 0} {E : Type 0} {a b : Meaning} {result : Result Bool E} (c : Change) → ((n : List ℕ) → P n → IsOff c n) → DoesIf c a b result → KeepsNames P a b
does_if_names {result = Ok was} c off does = made_if_names c was off does.made
does_if_names {result = Err e} c off does = failed_names c off does.failed

-- one that settles
pub settles_names : {T E : Type 0} {a b : Meaning} {result : Result T E} → Settles a b result → b.names ≡ a.names
settles_names {result = Ok x} settles = settles.done.names
settles_names {result = Err e} settles = settles.failed.names

pub settles_kept : {P : List ℕ → Type 0} {T E : Type 0} {a b : Meaning} {result : Result T E} → Settles a b result → KeepsNames P a b
settles_kept {a = a} {b = b} settles = kept_names a b (settles_names settles)
