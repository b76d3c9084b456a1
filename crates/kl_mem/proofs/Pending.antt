-- The changes since the last settle, and the names after some of them.
use Rattle.std.proofs.Common.{◌≡◌, ◌≤◌, ◌<◌, ◌+◌, ◌-◌, ◌/◌, ◌%◌, ◌⊎◌, inl, inr, ℕ, zero, suc, Bool, true, false, not, List, [], ◌∷◌, ◌++◌, length, take, drop, get_or, refl, sym, ap, ◌∙◌, subst, arith, append_assoc, take-append-drop}
use Rattle.std.specs.Prelude.{Option, Some, None, option_map, is_some}
use Rattle.std.proofs.lemmas.List.{take_more, append-nil}
use Rattle.std.proofs.Math.Seq.{take-add}
use Rattle.std.proofs.Math.Nat.{mod-lt}
use Rattle.std.specs.FinMap.{get}
use Rattle.kl_store.specs.Names.{Names, Change, all_carried_out}
use Rattle.kl_store.specs.Names as names
use Rattle.kl_store.specs.Disk.{Disk, names_now, all_renumbered, IsAppendedTo, IsImage}
use Rattle.kl_store.proofs.Disks.{kept_none, kept_through}
use Rattle.kl_mem.specs.declared.step.Step.{Step}
use Rattle.kl_mem.specs.declared.step.Step.TheVariants.{Create, Append, Rename, Remove, Settle, Put}
use Rattle.kl_mem.specs.Record.{stepped, all_stepped, blank, disk_of, AreChanges, changes_of}
use Rattle.kl_mem.specs.Picked.{IsKept, IsPicked, AreLeft, carried_by, twist_of, twisted}
use Rattle.kl_mem.proofs.Written.{all_stepped-append, disk_more}
use Rattle.kl_mem.proofs.Numbering.{first_appended}

ends_settled : (s : Step) (d : Disk) → ((s ≡ Settle) ⊎ ((n : List ℕ) × (bytes : List ℕ) × (s ≡ Put n bytes))) → (stepped s d).changes ≡ []
ends_settled s d (inl is) = ap (λ (t : Step). (stepped t d).changes) is
ends_settled s d (inr is) = ap (λ (t : Step). (stepped t d).changes) is.2

-- behind a settle, or a file that was put there, nothing is pending
pub settled_there : (steps : List Step) (i : ℕ) (s : Step) → 0 < i → i ≤ length steps → s ≡ get_or steps (i - 1) s → ((s ≡ Settle) ⊎ ((n : List ℕ) × (bytes : List ℕ) × (s ≡ Put n bytes)))
    → (disk_of (take i steps)).changes ≡ []
settled_there steps i s some within is end =
    let next : (i - 1) + 1 ≡ i = omega arith in
    let more : take ((i - 1) + 1) steps ≡ take (i - 1) steps ++ s ∷ [] = take_more steps (i - 1) s (omega arith) ∙ ap (λ (t : Step). take (i - 1) steps ++ t ∷ []) (sym is) in
    ap (λ (k : ℕ). (disk_of (take k steps)).changes) (sym next) ∙ ap (λ (l : List Step). (disk_of l).changes) more ∙ ap (λ (d : Disk). d.changes) (disk_more (take (i - 1) steps) s) ∙ ends_settled s _ end

-- the first of the changes are those of the first steps
pub take_changes : (ss : List Step) (k : ℕ) → AreChanges ss → take k (changes_of ss) ≡ changes_of (take k ss)
take_changes ss zero are = refl
take_changes [] (suc k) are = refl
take_changes (Create n ∷ ss) (suc k) are = ap (λ (l : List Change). names.Create n ∷ l) (take_changes ss k are.1)
take_changes (Append n bytes ∷ ss) (suc k) are = ap (λ (l : List Change). names.Append n bytes ∷ l) (take_changes ss k are.1)
take_changes (Rename a b ∷ ss) (suc k) are = ap (λ (l : List Change). names.Rename a b ∷ l) (take_changes ss k are.1)
take_changes (Remove n ∷ ss) (suc k) are = ap (λ (l : List Change). names.Remove n ∷ l) (take_changes ss k are.1)
take_changes (Settle ∷ ss) (suc k) are = absurd are.0
take_changes (Put n bytes ∷ ss) (suc k) are = absurd are.0

pub length_changes : (ss : List Step) → AreChanges ss → length (changes_of ss) ≡ length ss
length_changes [] are = refl
length_changes (Create n ∷ ss) are = ap suc (length_changes ss are.1)
length_changes (Append n bytes ∷ ss) are = ap suc (length_changes ss are.1)
length_changes (Rename a b ∷ ss) are = ap suc (length_changes ss are.1)
length_changes (Remove n ∷ ss) are = ap suc (length_changes ss are.1)
length_changes (Settle ∷ ss) are = absurd are.0
length_changes (Put n bytes ∷ ss) are = absurd are.0

first_changes : (ss : List Step) (k : ℕ) → AreChanges ss → AreChanges (take k ss)
first_changes ss zero are = tt
first_changes [] (suc k) are = tt
first_changes (s ∷ ss) (suc k) are = (are.0, first_changes ss k are.1)

-- the disk with these changes pending
abbrev with_changes : Disk → List Change → Disk
with_changes d cs = record { stable = d.stable; changes = cs }

one_more : (d : Disk) (c : Change) (cs : List Change) → with_changes d ((d.changes ++ c ∷ []) ++ cs) ≡ with_changes d (d.changes ++ c ∷ cs)
one_more d c cs = ap (with_changes d) (append_assoc d.changes (c ∷ []) cs)

pending : (ss : List Step) (d : Disk) → AreChanges ss → all_stepped ss d ≡ with_changes d (d.changes ++ changes_of ss)
pending [] d are = ap (with_changes d) (sym (append-nil d.changes))
pending (Create n ∷ ss) d are = pending ss (stepped (Create n) d) are.1 ∙ one_more d (names.Create n) (changes_of ss)
pending (Append n bytes ∷ ss) d are = pending ss (stepped (Append n bytes) d) are.1 ∙ one_more d (names.Append n bytes) (changes_of ss)
pending (Rename a b ∷ ss) d are = pending ss (stepped (Rename a b) d) are.1 ∙ one_more d (names.Rename a b) (changes_of ss)
pending (Remove n ∷ ss) d are = pending ss (stepped (Remove n) d) are.1 ∙ one_more d (names.Remove n) (changes_of ss)
pending (Settle ∷ ss) d are = absurd are.0
pending (Put n bytes ∷ ss) d are = absurd are.0

-- the steps' disk, by those before the last settle and those behind it
pub record IsSplit (steps : List Step) (i : ℕ) (stable : Names) (changes : List Change) : Type 0 where
  pub disk : disk_of steps ≡ record { stable = stable; changes = changes }
  pub size : length changes ≡ length (drop i steps)
  pub after : (k : ℕ) → names_now (disk_of (take (i + k) steps)) ≡ all_carried_out (take k changes) stable

split_at : (steps rest : List Step) (d : Disk) → d.changes ≡ [] → AreChanges rest → all_stepped rest d ≡ with_changes d (changes_of rest)
split_at steps rest d none are = pending rest d are ∙ ap (λ (l : List Change). with_changes d (l ++ changes_of rest)) none

pub split : (steps : List Step) (i : ℕ) → AreChanges (drop i steps) → (disk_of (take i steps)).changes ≡ [] → IsSplit steps i (disk_of (take i steps)).stable (changes_of (drop i steps))
split steps i are none =
    let d = disk_of (take i steps) in
    record {
      disk = ap disk_of (sym (take-append-drop i steps)) ∙ all_stepped-append (take i steps) (drop i steps) blank ∙ split_at steps (drop i steps) d none are;
      size = length_changes (drop i steps) are;
      after = λ k.
          ap (λ (l : List Step). names_now (disk_of l)) (take-add i k steps) ∙ ap names_now (all_stepped-append (take i steps) (take k (drop i steps)) blank
          ∙ split_at steps (take k (drop i steps)) d none (first_changes (drop i steps) k are)) ∙ ap (λ (cs : List Change). all_carried_out cs d.stable) (sym (take_changes (drop i steps) k are));
    }

same_Some : (x y : List ℕ) → ◌≡◌ {A = Option (List ℕ)} (Some x) (Some y) → x ≡ y
same_Some x y is = cc

turned_true : (b : Bool) → not b ≡ true → b ≡ false
turned_true false e = refl
turned_true true e = cc

turned_false : (b : Bool) → not b ≡ false → b ≡ true
turned_false true e = refl
turned_false false e = cc

numbered : (ss : List Step) (k : ℕ) (name : List ℕ) → AreChanges ss → all_renumbered (take k (changes_of ss)) Some name ≡ all_renumbered (changes_of (take k ss)) Some name
numbered ss k name are = ap (λ (cs : List Change). all_renumbered cs Some name) (take_changes ss k are)

-- whether a file keeps its bytes
pub kept_file : (ss : List Step) (k : ℕ) (name file : List ℕ) (appended : Bool) → AreChanges ss → Some file ≡ all_renumbered (changes_of (take k ss)) Some name → (appended ≡ false → ¬ IsAppendedTo file (changes_of ss) Some)
    → not appended ≡ true → (x : List ℕ) × IsKept (changes_of ss) k name x
kept_file ss k name file appended are is never keeps = (file, record { number = numbered ss k name are ∙ sym is; untouched = never (turned_true appended keeps) })

pub lost_file : (ss : List Step) (k : ℕ) (name file : List ℕ) (appended : Bool) → AreChanges ss → Some file ≡ all_renumbered (changes_of (take k ss)) Some name → (appended ≡ true → IsAppendedTo file (changes_of ss) Some)
    → not appended ≡ false → (x : List ℕ) → ¬ IsKept (changes_of ss) k name x
lost_file ss k name file appended are is does lost x kept =
    kept.untouched (subst (λ (f : List ℕ). IsAppendedTo f (changes_of ss) Some) (same_Some file x (is ∙ sym (numbered ss k name are) ∙ kept.number)) (does (turned_false appended lost)))

pub lost_new : (ss : List Step) (k : ℕ) (name : List ℕ) → AreChanges ss → None ≡ all_renumbered (changes_of (take k ss)) Some name → (x : List ℕ) → ¬ IsKept (changes_of ss) k name x
lost_new ss k name are is x kept = let no : ◌≡◌ {A = Option (List ℕ)} None (Some x) = is ∙ sym (numbered ss k name are) ∙ kept.number in cc

-- the bytes of a file that is kept are its stable ones
stable_bytes : (cs : List Change) (k : ℕ) (stable : Names) (name file : List ℕ) → IsKept cs k name file → get (all_carried_out (take k cs) stable) name ≡ get stable file
stable_bytes cs k stable name file kept = kept_through (take k cs) Some stable stable file (kept_none stable file)
    (λ h. kept.untouched (subst (λ (l : List Change). IsAppendedTo file l Some) (take-append-drop k cs) (first_appended file (take k cs) (drop k cs) Some h))) name kept.number

-- the picked image
pub picked : (steps : List Step) (i pick k twist : ℕ) (stable m x : Names) (changes : List Change) → IsSplit steps i stable changes → k ≡ carried_by pick (disk_of steps) → twist ≡ twist_of pick (disk_of steps)
    → m ≡ names_now (disk_of (take (i + k) steps)) → AreLeft changes k twist m x → IsPicked pick (disk_of steps) x
picked steps i pick k twist stable m x changes split carried turn is left =
    let d : Disk = record { stable = stable; changes = changes } in
    let now : m ≡ all_carried_out (take k changes) stable = is ∙ split.after k in
    subst (λ (e : Disk). IsPicked pick e x) (sym split.disk) (record {
      kept = λ name file kept.
          let keeps : IsKept changes k name file = subst (λ (j : ℕ). IsKept changes j name file) (sym (carried ∙ ap (carried_by pick) split.disk)) kept in
          (left name).kept file keeps ∙ ap (λ (y : Names). get y name) now ∙ stable_bytes changes k stable name file keeps;
      others = λ name lost.
          let at : k ≡ carried_by pick d = carried ∙ ap (carried_by pick) split.disk in
          (left name).others (λ file kept. lost file (subst (λ (j : ℕ). IsKept changes j name file) at kept))
          ∙ ap (λ (t : ℕ). option_map (twisted t) (get m name)) (turn ∙ ap (twist_of pick) split.disk)
          ∙ ap (λ (y : Names). option_map (twisted (twist_of pick d)) (get y name)) (now ∙ ap (λ (j : ℕ). all_carried_out (take j changes) stable) at);
    })

-- which is an image
pub is_image : (steps : List Step) (i k twist : ℕ) (stable m x : Names) (changes : List Change) → IsSplit steps i stable changes → k ≤ length (drop i steps)
    → m ≡ names_now (disk_of (take (i + k) steps)) → AreLeft changes k twist m x → IsImage (disk_of steps) x
is_image steps i k twist stable m x changes split within is left =
    let now : m ≡ all_carried_out (take k changes) stable = is ∙ split.after k in
    subst (λ (e : Disk). IsImage e x) (sym split.disk) (record {
      carried = k;
      image = record {
        within = omega (arith, within, split.size);
        same_names = λ name. (left name).there ∙ ap (λ (y : Names). is_some (get y name)) now;
        kept = λ name file number untouched.
            let keeps : IsKept changes k name file = record { number = number; untouched = untouched } in
            (left name).kept file keeps ∙ ap (λ (y : Names). get y name) now ∙ stable_bytes changes k stable name file keeps;
      };
    })

-- the pick, by the number of steps behind the last settle
carried_is : (steps : List Step) (i pick : ℕ) (stable : Names) (changes : List Change) → IsSplit steps i stable changes → pick % (length (drop i steps) + 1) ≡ carried_by pick (disk_of steps)
carried_is steps i pick stable changes split = ap (λ (n : ℕ). pick % (n + 1)) (sym split.size) ∙ ap (carried_by pick) (sym split.disk)

twist_is : (steps : List Step) (i pick : ℕ) (stable : Names) (changes : List Change) → IsSplit steps i stable changes → (pick / (length (drop i steps) + 1)) % 4 ≡ twist_of pick (disk_of steps)
twist_is steps i pick stable changes split = ap (λ (n : ℕ). (pick / (n + 1)) % 4) (sym split.size) ∙ ap (twist_of pick) (sym split.disk)

pub picked_by : (steps : List Step) (i pick : ℕ) (stable m x : Names) (changes : List Change) → IsSplit steps i stable changes → m ≡ names_now (disk_of (take (i + pick % (length (drop i steps) + 1)) steps))
    → AreLeft changes (pick % (length (drop i steps) + 1)) ((pick / (length (drop i steps) + 1)) % 4) m x → IsPicked pick (disk_of steps) x
picked_by steps i pick stable m x changes split is left =
    picked steps i pick (pick % (length (drop i steps) + 1)) ((pick / (length (drop i steps) + 1)) % 4) stable m x changes split (carried_is steps i pick stable changes split) (twist_is steps i pick stable changes split) is left

-- the same, of the steps behind the last settle as the code has them
abbrev pub first_of : List Step → ℕ → ℕ
first_of behind pick = pick % (length behind + 1)

abbrev pub turn_of : List Step → ℕ → ℕ
turn_of behind pick = (pick / (length behind + 1)) % 4

pub picked_behind : (steps behind : List Step) (i pick : ℕ) (m x : Names) → behind ≡ drop i steps → AreChanges (drop i steps) → (disk_of (take i steps)).changes ≡ [] → m ≡ names_now (disk_of (take (i + first_of behind pick) steps))
    → AreLeft (changes_of behind) (first_of behind pick) (turn_of behind pick) m x → IsPicked pick (disk_of steps) x
picked_behind steps behind i pick m x same are none is left =
    picked_by steps i pick (disk_of (take i steps)).stable m x (changes_of (drop i steps)) (split steps i are none)
    (is ∙ ap (λ (l : List Step). names_now (disk_of (take (i + first_of l pick) steps))) same)
    (subst (λ (l : List Step). AreLeft (changes_of l) (first_of l pick) (turn_of l pick) m x) same left)

pub image_behind : (steps behind : List Step) (i pick : ℕ) (m x : Names) → behind ≡ drop i steps → AreChanges (drop i steps) → (disk_of (take i steps)).changes ≡ [] → m ≡ names_now (disk_of (take (i + first_of behind pick) steps))
    → AreLeft (changes_of behind) (first_of behind pick) (turn_of behind pick) m x → IsImage (disk_of steps) x
image_behind steps behind i pick m x same are none is left =
    let rest = drop i steps in
    is_image steps i (first_of rest pick) (turn_of rest pick) (disk_of (take i steps)).stable m x (changes_of rest) (split steps i are none) (omega (arith, mod-lt pick {m = length rest + 1} (omega arith)))
    (is ∙ ap (λ (l : List Step). names_now (disk_of (take (i + first_of l pick) steps))) same)
    (subst (λ (l : List Step). AreLeft (changes_of l) (first_of l pick) (turn_of l pick) m x) same left)
