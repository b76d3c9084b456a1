-- The names that steps leave.
use Rattle.std.proofs.Common.{◌≡◌, ℕ, List, [], ◌∷◌, ◌++◌, refl, sym, ap, ◌∙◌}
use Rattle.std.specs.Prelude.{nat_eq}
use Rattle.std.specs.Cmp.Lexicographic.{pointwise}
use Rattle.std.proofs.lemmas.Map.Text.{is_eq-slice_cmp}
use Rattle.kl_store.specs.Names.{Names, same_name}
use Rattle.kl_store.specs.Names as names
use Rattle.kl_store.specs.Disk.{Disk, names_now}
use Rattle.std.specs.FinMap.{get}
use Rattle.kl_store.proofs.NameMaps.{same_names}
use Rattle.kl_store.proofs.Disks.{names_now-joined}
use Rattle.kl_mem.specs.declared.step.Step.{Step}
use Rattle.kl_mem.specs.declared.step.Step.TheVariants.{Create, Append, Rename, Remove, Settle, Put}
use Rattle.kl_mem.specs.Record.{stepped, all_stepped, blank, disk_of, written}

-- the test of the definitions is that of the code
pub same_bytes : (a b : List ℕ) → same_name a b ≡ pointwise nat_eq a b
same_bytes a b = is_eq-slice_cmp a b

pub all_stepped-append : (xs ys : List Step) (d : Disk) → all_stepped (xs ++ ys) d ≡ all_stepped ys (all_stepped xs d)
all_stepped-append [] ys d = refl
all_stepped-append (x ∷ xs) ys d = all_stepped-append xs ys (stepped x d)

pub disk_more : (steps : List Step) (s : Step) → disk_of (steps ++ s ∷ []) ≡ stepped s (disk_of steps)
disk_more steps s = all_stepped-append steps (s ∷ []) blank

-- the names after one step more
pub names_stepped : (s : Step) (d : Disk) → names_now (stepped s d) ≡ written s (names_now d)
names_stepped (Create n) d = names_now-joined d (names.Create n)
names_stepped (Append n bytes) d = names_now-joined d (names.Append n bytes)
names_stepped (Rename a b) d = names_now-joined d (names.Rename a b)
names_stepped (Remove n) d = names_now-joined d (names.Remove n)
names_stepped Settle d = refl
names_stepped (Put n bytes) d = refl

pub names_more : (steps : List Step) (s : Step) → names_now (disk_of (steps ++ s ∷ [])) ≡ written s (names_now (disk_of steps))
names_more steps s = ap names_now (disk_more steps s) ∙ names_stepped s (disk_of steps)

-- the files beside the record, with a step more
pub same_after : (m next : Names) (old reserved steps : List Step) (s : Step) → ((q : List ℕ) → get m q ≡ get (names_now (disk_of old)) q) → next ≡ written s m → reserved ≡ old → steps ≡ reserved ++ s ∷ []
    → (q : List ℕ) → get next q ≡ get (names_now (disk_of steps)) q
same_after m next old reserved steps s same is kept more q =
    let now : m ≡ names_now (disk_of old) = same_names _ _ same in
    ap (λ (x : Names). get x q) (is ∙ ap (written s) now ∙ sym (names_more old s))
    ∙ ap (λ (l : List Step). get (names_now (disk_of l)) q) (ap (λ (l : List Step). l ++ s ∷ []) (sym kept) ∙ sym more)

-- files that stay, of a record that stays
pub same_still : (m next : Names) (old steps : List Step) → ((q : List ℕ) → get m q ≡ get (names_now (disk_of old)) q) → next ≡ m → steps ≡ old
    → (q : List ℕ) → get next q ≡ get (names_now (disk_of steps)) q
same_still m next old steps same is kept q = ap (λ (x : Names). get x q) is ∙ same q ∙ ap (λ (l : List Step). get (names_now (disk_of l)) q) (sym kept)
