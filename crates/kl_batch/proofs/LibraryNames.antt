-- The names of a library and of its map.
use Rattle.std.proofs.Common.{◌≡◌, ◌≢◌, ◌≤◌, ◌+◌, ◌-◌, ◌==◌, ℕ, Bool, true, false, ◌&&◌, List, [], ◌∷◌, ◌++◌, length, drop, refl, sym, ap, ◌∙◌, arith, length-append, append_assoc}
use Rattle.std.specs.Prelude.{None, codes, nat_eq, nat_le}
use Rattle.std.specs.List.{ends_with}
use Rattle.std.specs.Str.{bytes_eq}
use Rattle.std.specs.Cmp.Lexicographic.{pointwise}
use Rattle.std.proofs.lemmas.Bool.{eqb-true, le-leb, not-false}
use Rattle.std.proofs.lemmas.List.{drop-append-le, length-drop}
use Rattle.kl_base.specs.Names.{name_fault}
use Rattle.kl_base.specs.declared.class.Slot.{Slot}
use Rattle.kl_base.specs.declared.class.Slot.TheVariants.{Kernel, Libs}
use Rattle.kl_base.specs.declared.limits.TheConstants.{OUTPUT_LIMIT}
use Rattle.kl_base.proofs.Bools.{none_is}
use Rattle.kl_base.proofs.Joined.{name_fault-append, sound-none}
use Rattle.kl_intent.specs.IntentText.{is_target, slot_name}
use Rattle.kl_install.proofs.Named.{is_target_parts}
use Rattle.kl_install.proofs.Suffixes.{suffix_valid}
use Rattle.kl_batch.specs.Batches.{IsLibraryName, map_of}

-- the name in two parts, of which the first is a name
abbrev below : List ℕ → List ℕ
below output = codes "/var/db/relink" ++ output

in_two : (output : List ℕ) → map_of output ≡ below output ++ codes ".map"
in_two output = sym (append_assoc (codes "/var/db/relink") output (codes ".map"))

pub below_valid : (output : List ℕ) → name_fault output ≡ None → length output ≤ OUTPUT_LIMIT → name_fault (below output) ≡ None
below_valid output none short = name_fault-append (codes "/var/db/relink") output refl none (omega (arith, short))

-- it ends in `.map`, and not in `.relink`
three : (l : List ℕ) → length l ≡ 3 → pointwise nat_eq (codes ".relink") (l ++ codes ".map") ≡ false
three [] e = cc
three (a ∷ []) e = cc
three (a ∷ b ∷ []) e = cc
three (a ∷ b ∷ c ∷ []) e = none (nat_eq 46 a) (nat_eq 114 b) (nat_eq 101 c)
  where
    none : (p q r : Bool) → (p && (q && (r && false))) ≡ false
    none true true true = refl
    none true true false = refl
    none true false r = refl
    none false q r = refl
three (a ∷ b ∷ c ∷ d ∷ l) e = cc

no_temp : (xs : List ℕ) → 3 ≤ length xs → ends_with nat_eq (xs ++ codes ".map") (codes ".relink") ≡ false
no_temp xs long =
    let s = codes ".map" in
    let place : length (xs ++ s) - 7 ≡ length xs - 3 = omega (arith, length-append xs s) in
    ap (λ (n : ℕ). pointwise nat_eq (codes ".relink") (drop n (xs ++ s))) place
    ∙ ap (pointwise nat_eq (codes ".relink")) (drop-append-le (length xs - 3) xs s (omega arith))
    ∙ three (drop (length xs - 3) xs) (length-drop (length xs - 3) xs ∙ omega (arith, long))

-- it is no slot's
no_slot : (s : Slot) (b : ℕ) (rest : List ℕ) → b ≡ 47 → bytes_eq (map_of (b ∷ rest)) (slot_name s) ≡ false
no_slot Kernel b rest is = rw is refl
no_slot Libs b rest is = rw is refl

begins : (output : List ℕ) → name_fault output ≡ None → (s : Slot) → bytes_eq (map_of output) (slot_name s) ≡ false
begins [] none s = cc
begins (b ∷ rest) none s = no_slot s b rest (eqb-true b 47 (not-false (b == 47) (sound-none (b ∷ rest) none).absolute))

-- THE MAP OF A LIBRARY may be a target too, and isn't the library
pub map_target : (output : List ℕ) → IsLibraryName output → is_target (map_of output) ≡ true
map_target output is =
    let none : name_fault output ≡ None = none_is (name_fault output) (is_target_parts output is.target).fault in
    let size : length (below output) ≡ 14 + length output = length-append (codes "/var/db/relink") output in
    let fault : name_fault (map_of output) ≡ None =
    ap name_fault (in_two output) ∙ suffix_valid (below output) (codes ".map") refl (omega (arith, size, is.short)) (below_valid output none is.short) in
    let long : nat_le (length (map_of output)) 248 ≡ true =
    le-leb (length (map_of output)) 248 (omega (arith, is.short, length-append (codes "/var/db/relink") (output ++ codes ".map"), length-append output (codes ".map"))) in
    let plain : ends_with nat_eq (map_of output) (codes ".relink") ≡ false = ap (λ l. ends_with nat_eq l (codes ".relink")) (in_two output) ∙ no_temp (below output) (omega (arith, size)) in
    rw (fault, long, plain, begins output none Kernel, begins output none Libs) refl

pub map_apart : (output : List ℕ) → map_of output ≢ output
map_apart output same = absurd (omega (arith, ap length same, length-append (codes "/var/db/relink") (output ++ codes ".map"), length-append output (codes ".map")))
