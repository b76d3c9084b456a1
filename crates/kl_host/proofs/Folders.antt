-- The folder of a path, one byte more at its end.
use Rattle.std.proofs.Common.{◌≡◌, ℕ, ◌+◌, ◌<◌, Bool, true, false, ◌||◌, true≢false, List, [], ◌∷◌, ◌++◌, length, take, refl, sym, ap, ◌∙◌}
use Rattle.std.proofs.lemmas.List.{take_more}
use Rattle.std.proofs.lemmas.Bool.{ne_eqb}
use Rattle.std.specs.Prelude.{◌==◌, get_or, if◌then◌else◌, None}
use Rattle.std.proofs.lemmas.Bool.{eqb-true}
use Rattle.kl_base.specs.Names.{name_fault}
use Rattle.kl_base.proofs.Joined.{sound-none}
use Rattle.kl_host.specs.Paths.{IsFolder, folder_of, has_slash}
use Rattle.std.proofs.lemmas.Bool.{not-false}
use Rattle.kl_host.proofs.Among.{any_last, any_other}

pub folder_slash : (xs : List ℕ) (b : ℕ) → (b == 47) ≡ true → folder_of (xs ++ b ∷ []) ≡ xs
folder_slash [] b e = refl
folder_slash (x ∷ xs) b e = rw (any_last (λ c. c == 47) xs b e, folder_slash xs b e) refl

pub folder_other : (xs : List ℕ) (b : ℕ) → (b == 47) ≡ false → folder_of (xs ++ b ∷ []) ≡ folder_of xs
folder_other [] b e = refl
folder_other (x ∷ xs) b e = rw (any_other (λ c. c == 47) xs b e, folder_other xs b e) refl

-- the folder of some first bytes, one more of them
pub more_slash : (xs : List ℕ) (i : ℕ) → i < length xs → get_or xs i 0 ≡ 47 → take i xs ≡ folder_of (take (i + 1) xs)
more_slash xs i h e = sym (ap folder_of (take_more xs i 0 h) ∙ folder_slash (take i xs) (get_or xs i 0) (ap (λ b. b == 47) e))

pub more_other : (xs : List ℕ) (i : ℕ) → i < length xs → (get_or xs i 0 ≡ 47 → ⊥) → folder_of (take i xs) ≡ folder_of (take (i + 1) xs)
more_other xs i h other = sym (ap folder_of (take_more xs i 0 h) ∙ folder_other (take i xs) (get_or xs i 0) (ne_eqb (get_or xs i 0) 47 other))

-- a path with a slash is its folder, a slash and its last part
first_or_rest : (a b : Bool) → (a || b) ≡ true → b ≡ false → a ≡ true
first_or_rest true b e f = refl
first_or_rest false b e f = absurd (true≢false (sym e ∙ f))

splits : (b : ℕ) (bytes : List ℕ) (more : Bool) → has_slash bytes ≡ more → has_slash (b ∷ bytes) ≡ true → (has_slash bytes ≡ true → IsFolder (folder_of bytes) bytes)
    → IsFolder (if more then b ∷ folder_of bytes else []) (b ∷ bytes)
splits b bytes true e slash rest =
    let r = rest e in
    record { last = r.last; parts = ap (λ l. b ∷ l) r.parts; whole = r.whole }
splits b bytes false e slash rest = record {
  last = bytes;
  parts = ap (λ c. c ∷ bytes) (eqb-true b 47 (first_or_rest (b == 47) (has_slash bytes) slash e));
  whole = e;
}

is_folder : (bytes : List ℕ) → has_slash bytes ≡ true → IsFolder (folder_of bytes) bytes
is_folder [] e = absurd (true≢false (sym e))
is_folder (b ∷ bytes) e = splits b bytes (has_slash bytes) refl e (λ h. is_folder bytes h)

-- and a name has one, its first byte
slash_first : (n : List ℕ) → name_fault n ≡ None → has_slash n ≡ true
slash_first [] e = cc
slash_first (b ∷ bytes) e = rw (not-false (b == 47) (sound-none (b ∷ bytes) e).absolute) refl

pub folder_is : (n : List ℕ) → name_fault n ≡ None → IsFolder (folder_of n) n
folder_is n e = is_folder n (slash_first n e)
