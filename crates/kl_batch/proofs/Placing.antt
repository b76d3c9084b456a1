-- Files that are staged and take their places.
use Rattle.std.proofs.Common.{◌≡◌, ◌≢◌, inl, inr, ◌⊎◌, ⊎_elim, ℕ, false, List, [], ◌∷◌, ◌++◌, map, refl, sym, ap, ◌∙◌, subst}
use Rattle.std.specs.Prelude.{Some, None, Result}
use Rattle.std.specs.Option.{ForSome}
use Rattle.std.specs.List.{AllByRecursion}
use Rattle.std.specs.FinMap.{get}
use Rattle.std.proofs.lemmas.Bool.{cases_Bool}
use Rattle.std.proofs.lemmas.Result.{on_ok_weaker}
use Rattle.kl_base.specs.declared.class.Slot.{Slot}
use Rattle.kl_store.specs.Names.{Names, is_scratch, same_name}
use Rattle.kl_store.specs.Disk.{Disk, names_now}
use Rattle.kl_store.specs.Meaning.{Meaning}
use Rattle.kl_store.specs.Images.{Leaves, Ends}
use Rattle.kl_store.specs.Files.{IsWritten, KeepsNames, SameNames, SameFiles}
use Rattle.kl_store.proofs.KeptNames.{keeps_fewer}
use Rattle.kl_install.specs.Others.{IsOther}
use Rattle.kl_base.proofs.Bools.{true_false}
use Rattle.kl_store.proofs.NameMaps.{same_eq, same_refl}
use Rattle.kl_store.proofs.Moments.{leaves_none, leaves_on, weaker, told_after, told_names, same_disk}
use Rattle.kl_intent.specs.declared.intent.Entry.{Entry}
use Rattle.kl_intent.specs.IntentText.{slot_name}
use Rattle.kl_install.specs.After.{after, temp_name, temp_of}
use Rattle.kl_install.specs.Batch.{Batch, Each, IsAway, intent_name, intent_temp, IsOldOrNew, IsDone}
use Rattle.kl_install.specs.Committed.{Commits}
use Rattle.kl_install.specs.Staging.{Stages}
use Rattle.kl_install.proofs.Named.{plain_apart, temps_apart, temp_scratch, target_plain, slot_plain}
use Rattle.kl_install.proofs.Recovered.{after_none, each_map}
use Rattle.kl_batch.specs.Together.{File, file, AreTargets, IsNone, AllHold, AreInPlace, AreAllOrNone, AreWaiting, AreStaged, Installs, IsElsewhere}
use Rattle.kl_install.proofs.Clear.{clear_slot}

pub same_files : (m : Names) → SameNames m m
same_files m q plain = refl

-- nothing is staged yet
pub staged_none : (entries : List Entry) (a : Meaning) → entries ≡ [] → AreStaged [] entries a a
staged_none entries a none = record {
  names = ap (map (λ e. e.target)) none;
  waiting = λ d told e now. record { waits = tt; same = λ q plain. ap (λ (k : Disk). get (names_now k) q) (same_disk e d (sym now ∙ told)) };
  quiet = leaves_none;
}

pub names_append : {X Y : Type 0} (f : X → Y) (xs : List X) (x : X) → map f (xs ++ x ∷ []) ≡ map f xs ++ f x ∷ []
names_append f [] x = refl
names_append f (y ∷ xs) x = ap (λ l. f y ∷ l) (names_append f xs x)

waits_more : (files : List File) (target bytes : List ℕ) (n x : Names) → IsNone target files → IsWritten (temp_name target) bytes n x
    → AllByRecursion (λ f. get n (temp_name f.name) ≡ Some f.bytes) files → AllByRecursion (λ f. get x (temp_name f.name) ≡ Some f.bytes) (files ++ file target bytes ∷ [])
waits_more [] target bytes n x new written waits = (written.here, tt)
waits_more (f ∷ files) target bytes n x new written waits = (
  written.others (temp_name f.name) (temps_apart f.name target (λ same. new.0 (sym same))) ∙ waits.0,
  waits_more files target bytes n x new.1 written waits.1,
)

-- one file more is staged
pub staged_more : {a x y : Meaning} (files : List File) (b : Batch) (target bytes : List ℕ) (all : List Entry) → IsNone target files → AreStaged files b.entries a x → Stages b target bytes all x y → Leaves x y SameNames
    → AreStaged (files ++ file target bytes ∷ []) all a y
staged_more {a} {x} {y} files b target bytes all new before stages quiet = record {
  names =
      ap (map (λ e. e.target)) stages.noted ∙ names_append (λ e. e.target) b.entries stages.entry
      ∙ ap (λ (l : List (List ℕ)). l ++ stages.entry.target ∷ []) before.names ∙ ap (λ (t : List ℕ). map (λ f. f.name) files ++ t ∷ []) stages.target_is
      ∙ sym (names_append (λ f. f.name) files (file target bytes));
  waiting = λ d told e now.
      let mid = told_after d before.quiet told in
      let was = before.waiting d told mid.0 mid.1 in
      let written = stages.waits mid.0 mid.1 e now in
      record {
        waits = waits_more files target bytes (names_now mid.0) (names_now e) new written was.waits;
        same = λ q plain. written.others q (plain_apart q (temp_name target) plain (temp_scratch target)) ∙ was.same q plain;
      };
  quiet = leaves_on before.quiet quiet (λ d told.
      let mid = told_after d before.quiet told in
      (mid.0, mid.1, λ n same q plain. same q plain ∙ (before.waiting d told mid.0 mid.1).same q plain));
}

-- one file more under the name that is meant, and the first
pub staged_next : {a x y : Meaning} (files : List File) (target : List ℕ) {b : Batch} {name bytes : List ℕ} {all : List Entry} → IsNone target files → name ≡ target
    → AreStaged files b.entries a x → Stages b name bytes all x y → Leaves x y SameNames → AreStaged (files ++ file target bytes ∷ []) all a y
staged_next {x = x} {y = y} files target {b} {name} {bytes} {all} new is before stages quiet =
    staged_more files b target bytes all new before (subst (λ (n : List ℕ). Stages b n bytes all x y) is stages) quiet

pub staged_first : {a x : Meaning} (target : List ℕ) {b : Batch} {name bytes : List ℕ} {all : List Entry} → b.entries ≡ [] → name ≡ target
    → Stages b name bytes all a x → Leaves a x SameNames → AreStaged (file target bytes ∷ []) all a x
staged_first {a = a} target {b} none is stages quiet = staged_next [] target tt is (staged_none b.entries a none) stages quiet

-- one file fails to be staged
pub staged_fails : {a x y : Meaning} (files : List File) (entries : List Entry) → AreStaged files entries a x → Leaves x y SameNames → Leaves a y SameNames
staged_fails files entries before quiet = leaves_on before.quiet quiet (λ d told.
    let mid = told_after d before.quiet told in
    (mid.0, mid.1, λ n same q plain. same q plain ∙ (before.waiting d told mid.0 mid.1).same q plain))

-- entries and files of the same names
heads : (a b : List ℕ) (xs ys : List (List ℕ)) → ◌≡◌ {A = List (List ℕ)} (a ∷ xs) (b ∷ ys) → (a ≡ b) × (xs ≡ ys)
heads a b xs ys e = (cc, cc)

held_of : (es : List Entry) (files : List File) (n x : Names) → map (λ e. e.target) es ≡ map (λ f. f.name) files → Each (λ e. get x e.target ≡ get n (temp_of e)) es
    → AllByRecursion (λ f. get n (temp_name f.name) ≡ Some f.bytes) files → AllHold x files
held_of [] [] n x names moved waits = tt
held_of [] (f ∷ files) n x names moved waits = cc
held_of (e ∷ es) [] n x names moved waits = cc
held_of (e ∷ es) (f ∷ files) n x names moved waits =
    let same = heads e.target f.name (map (λ e. e.target) es) (map (λ f. f.name) files) names in (
      ap (λ (t : List ℕ). get x t) (sym same.0) ∙ moved.0 ∙ ap (λ (t : List ℕ). get n (temp_name t)) same.0 ∙ waits.0,
      held_of es files n x same.1 moved.1 waits.1,
    )

not_target : (q : List ℕ) (es : List Entry) (files : List File) → map (λ e. e.target) es ≡ map (λ f. f.name) files → IsNone q files → Each (λ e. q ≢ e.target) es
not_target q [] files names none = tt
not_target q (e ∷ es) [] names none = cc
not_target q (e ∷ es) (f ∷ files) names none =
    let same = heads e.target f.name (map (λ e. e.target) es) (map (λ f. f.name) files) names in
    (λ is. none.0 (is ∙ same.0), not_target q es files same.1 none.1)

away : (q : List ℕ) (es : List Entry) → is_scratch q ≡ false → Each (λ e. q ≢ e.target) es → IsAway q es
away q [] plain none = tt
away q (e ∷ es) plain none = ((none.0, plain_apart q (temp_of e) plain (temp_scratch e.target)), away q es plain none.1)

-- a name is one of the targets, or none
by_targets : (q : List ℕ) (es : List Entry) (P : Type 0) → Each (λ e. e.target ≡ q → P) es → (Each (λ e. q ≢ e.target) es → P) → P
by_targets q [] P each none = none tt
by_targets q (e ∷ es) P each none = ⊎_elim
    (λ is. each.0 (sym (same_eq q e.target is)))
    (λ other. by_targets q es P each.1 (λ rest. none (λ same. true_false (sym (ap (λ (t : List ℕ). same_name t e.target) same ∙ same_refl e.target) ∙ other), rest)))
    (cases_Bool (same_name q e.target))

each_file : (es : List Entry) (files : List File) (P : List ℕ → Type 0) → map (λ e. e.target) es ≡ map (λ f. f.name) files → Each (λ e. P e.target) es → AllByRecursion (λ f. P f.name) files
each_file [] [] P names h = tt
each_file [] (f ∷ files) P names h = cc
each_file (e ∷ es) [] P names h = cc
each_file (e ∷ es) (f ∷ files) P names h =
    let same = heads e.target f.name (map (λ e. e.target) es) (map (λ f. f.name) files) names in (subst P same.0 h.0, each_file es files P same.1 h.1)

target_scratch : (files : List File) → AreTargets files → AllByRecursion (λ f. is_scratch f.name ≡ false) files
target_scratch [] targets = tt
target_scratch (f ∷ files) targets = (target_plain f.name targets.0, target_scratch files targets.1)

pub all_map : {X : Type 0} (P Q : X → Type 0) (xs : List X) → ((x : X) → P x → Q x) → AllByRecursion P xs → AllByRecursion Q xs
all_map P Q [] f h = tt
all_map P Q (x ∷ xs) f h = (f x h.0, all_map P Q xs f h.1)

-- names with the same files
pub quiet_all : (slot : Slot) (files : List File) (m x : Names) → AreTargets files → get m (slot_name slot) ≡ None → SameNames m x → AreAllOrNone slot files m x
quiet_all slot files m x targets free same =
    let none = same (slot_name slot) (slot_plain slot) ∙ free in
    let after_is = after_none slot x none in
    record {
      recovered = inl (λ q plain. ap (λ (y : Names). get y q) after_is ∙ same q plain);
      clear = clear_slot slot [] x (inl none);
      each = all_map (λ f. is_scratch f.name ≡ false) (λ f. (get x f.name ≡ get m f.name) ⊎ (get x f.name ≡ get (after slot x) f.name)) files (λ f plain. inl (same f.name plain)) (target_scratch files targets);
      elsewhere = λ q plain slots none. same q plain;
    }

-- what a commit may leave of files that wait
pub committed_all : (b : Batch) (files : List File) (m n x : Names) → AreTargets files → map (λ e. e.target) b.entries ≡ map (λ f. f.name) files
    → AreWaiting files m n → IsOldOrNew b n x → AreAllOrNone b.slot files m x
committed_all b files m n x targets names waiting old_new =
    record {
      recovered = ⊎_elim
          (λ old. inl (λ q plain. by_targets q b.entries (get (after b.slot x) q ≡ get m q)
          (each_map (λ e. get (after b.slot x) e.target ≡ get n e.target) (λ e. e.target ≡ q → get (after b.slot x) q ≡ get m q) b.entries
          (λ e is here. subst (λ (t : List ℕ). get (after b.slot x) t ≡ get n t) here is ∙ waiting.same q plain) old)
          (λ other. old_new.others q plain other ∙ waiting.same q plain)))
          (λ new. inr (record {
            held = held_of b.entries files n (after b.slot x) names new waiting.waits;
            others = λ q plain none. old_new.others q plain (not_target q b.entries files names none) ∙ waiting.same q plain;
          }))
          old_new.targets;
      clear = clear_slot b.slot b.entries x old_new.slot;
      each = all_map (λ f. ((get x f.name ≡ get n f.name) ⊎ (get x f.name ≡ get (after b.slot x) f.name)) × (is_scratch f.name ≡ false)) (λ f. (get x f.name ≡ get m f.name) ⊎ (get x f.name ≡ get (after b.slot x) f.name)) files
          (λ f h. ⊎_elim (λ old. inl (old ∙ waiting.same f.name h.1)) (λ new. inr new) h.0)
          (both files (each_file b.entries files (λ t. (get x t ≡ get n t) ⊎ (get x t ≡ get (after b.slot x) t)) names old_new.whole) (target_scratch files targets));
      elsewhere = λ q plain slots none. old_new.elsewhere q plain slots (not_target q b.entries files names none) ∙ waiting.same q plain;
    }
  where
    both : (fs : List File) → AllByRecursion (λ f. (get x f.name ≡ get n f.name) ⊎ (get x f.name ≡ get (after b.slot x) f.name)) fs → AllByRecursion (λ f. is_scratch f.name ≡ false) fs
        → AllByRecursion (λ f. ((get x f.name ≡ get n f.name) ⊎ (get x f.name ≡ get (after b.slot x) f.name)) × (is_scratch f.name ≡ false)) fs
    both [] h k = tt
    both (f ∷ fs) h k = ((h.0, k.0), both fs h.1 k.1)

-- a batch that is done has its files in place
pub done_all : (b : Batch) (files : List File) (m n x : Names) → AreTargets files → map (λ e. e.target) b.entries ≡ map (λ f. f.name) files → get m (intent_name b) ≡ None
    → AreWaiting files m n → IsDone b n x → AreInPlace files m x
done_all b files m n x targets names free waiting done = record {
  held = held_of b.entries files n x names done.targets waiting.waits;
  others = λ q plain none. ⊎_elim
      (λ is. let here : q ≡ intent_name b = same_eq q (intent_name b) is in
      ap (λ (t : List ℕ). get x t) here ∙ done.slot ∙ sym free ∙ ap (λ (t : List ℕ). get m t) (sym here))
      (λ other. done.others q (λ here. true_false (sym (ap (λ (t : List ℕ). same_name t (intent_name b)) here ∙ same_refl (intent_name b)) ∙ other))
      (plain_apart q (intent_temp b) plain (temp_scratch (intent_name b))) (away q b.entries plain (not_target q b.entries files names none)) ∙ waiting.same q plain)
      (cases_Bool (same_name q (intent_name b)));
}

-- files that are staged and committed
pub installs : {T E : Type 0} {a x y : Meaning} {result : Result T E} (files : List File) (b : Batch) → AreTargets files → ForSome a.disk (λ d. get (names_now d) (intent_name b) ≡ None)
    → AreStaged files b.entries a x → Commits b x y result → Installs b.slot files a y result
installs {result = result} files b targets free staged commits = record {
  done = on_ok_weaker result (λ ends d told.
      let mid = told_after d staged.quiet told in
      let end = ends mid.0 mid.1 in
      (end.0, end.1, done_all b files (names_now d) (names_now mid.0) end.0 targets staged.names (free d told) (staged.waiting d told mid.0 mid.1) end.2)) commits.done;
  images = leaves_on (weaker staged.quiet (λ d told n same. quiet_all b.slot files (names_now d) n targets (free d told) same)) commits.images (λ d told.
      let mid = told_after d staged.quiet told in
      (mid.0, mid.1, λ n old_new. committed_all b files (names_now d) (names_now mid.0) n targets staged.names (staged.waiting d told mid.0 mid.1) old_new));
  names = λ d told e now.
      let mid = told_after d staged.quiet told in
      committed_all b files (names_now d) (names_now mid.0) (names_now e) targets staged.names (staged.waiting d told mid.0 mid.1) (commits.names mid.0 mid.1 e now);
}

-- a file that fails to be staged
pub fails : {T E : Type 0} {a y : Meaning} {result : Result T E} (slot : Slot) (files : List File) → AreTargets files → ForSome a.disk (λ d. get (names_now d) (slot_name slot) ≡ None)
    → Ends a y result (AreInPlace files) → Leaves a y SameNames → SameFiles a y → Installs slot files a y result
fails {a = a} {y = y} slot files targets free done quiet same = record {
  done = done;
  images = weaker quiet (λ d told n is. quiet_all slot files (names_now d) n targets (free d told) is);
  names = λ d told e now. quiet_all slot files (names_now d) (names_now e) targets (free d told) (same.names (names_now d) (told_names a d told) (names_now e) (told_names y e now));
}

-- a slot that is free where the names are told is free on the disk
pub free_disk : (a : Meaning) (slot : Slot) → ForSome a.names (λ m. get m (slot_name slot) ≡ None) → ForSome a.disk (λ d. get (names_now d) (slot_name slot) ≡ None)
free_disk a slot free d told = free (names_now d) (told_names a d told)

-- in the slot of that name
pub installs_at : {T E : Type 0} {a x y : Meaning} {result : Result T E} (slot : Slot) (files : List File) (b : Batch) → b.slot ≡ slot → AreTargets files → ForSome a.disk (λ d. get (names_now d) (slot_name slot) ≡ None)
    → AreStaged files b.entries a x → Commits b x y result → Installs slot files a y result
installs_at {a = a} {y = y} {result = result} slot files b is targets free staged commits = subst (λ (s : Slot). Installs s files a y result) is
    (installs files b targets (subst (λ (s : Slot). ForSome a.disk (λ d. get (names_now d) (slot_name s) ≡ None)) (sym is) free) staged commits)

-- a file that is staged under the name that is meant changes its temporary alone
pub stage_keeps : {a b : Meaning} {P : List ℕ → Type 0} (target : List ℕ) {name : List ℕ} → name ≡ target → ((n : List ℕ) → P n → n ≢ temp_name target)
    → KeepsNames (λ n. n ≢ temp_name name) a b → KeepsNames P a b
stage_keeps target is apart keeps = keeps_fewer (λ n p same. apart n p (same ∙ ap temp_name is)) keeps

away_of : (n : List ℕ) (es : List Entry) (files : List File) → map (λ e. e.target) es ≡ map (λ f. f.name) files
    → AllByRecursion (λ f. (n ≢ f.name) × (n ≢ temp_name f.name)) files → IsAway n es
away_of n [] files names apart = tt
away_of n (e ∷ es) [] names apart = cc
away_of n (e ∷ es) (f ∷ files) names apart =
    let same = heads e.target f.name (map (λ e. e.target) es) (map (λ f. f.name) files) names in
    ((λ is. apart.0.0 (is ∙ same.0), λ is. apart.0.1 (is ∙ ap temp_name same.0)), away_of n es files same.1 apart.1)

-- a commit changes the names of its files alone
pub commit_keeps : {a b : Meaning} (slot : Slot) (files : List File) (batch : Batch) → batch.slot ≡ slot → map (λ e. e.target) batch.entries ≡ map (λ f. f.name) files
    → KeepsNames (IsOther batch) a b → KeepsNames (IsElsewhere slot files) a b
commit_keeps slot files batch is names keeps = keeps_fewer
    (λ n p. (λ same. p.0 (same ∙ ap slot_name is), λ same. p.1 (same ∙ ap (λ (s : Slot). temp_name (slot_name s)) is), away_of n batch.entries files names p.2)) keeps
