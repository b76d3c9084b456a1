-- A file is staged.
use Rattle.std.proofs.Common.{◌≡◌, ◌≢◌, ◌<◌, ℕ, List, [], ◌∷◌, ◌++◌, length, refl, sym, ap, ◌∙◌, subst, arith, true, false, append_assoc, length-append}
use Rattle.std.specs.Str.{bytes_eq}
use Rattle.std.proofs.lemmas.List.{append-nil, length-take}
use Rattle.std.specs.Prelude.{Option, Some, None, option_map, is_some, not, take, drop}
use Rattle.std.specs.List.{AllByRecursion}
use Rattle.std.specs.FinMap.{get}
use Rattle.sha2.specs.Sha256.{sha256}
use Rattle.kl_base.specs.declared.class.Slot.{Slot}
use Rattle.kl_store.specs.Names.{Names, is_scratch}
use Rattle.kl_store.specs.Disk.{Disk, names_now}
use Rattle.kl_store.specs.Meaning.{Meaning}
use Rattle.kl_store.specs.Images.{Leaves, LeavesOfDisk, Nothing}
use Rattle.kl_store.specs.Files.{SameNames, SameFiles}
use Rattle.kl_store.specs.Calls.{Stays}
use Rattle.std.specs.Option.{ForSome}
use Rattle.kl_store.proofs.Moments.{leaves_on, leaves_still, weaker, same_disk, told_names, told_disk}
use Rattle.kl_store.proofs.Disks.{now_is_image}
use Rattle.kl_intent.specs.declared.intent.Entry.{Entry}
use Rattle.kl_intent.specs.IntentText.{slot_name, IsEntry, is_new, AreDistinct}
use Rattle.kl_install.specs.After.{temp_name, temp_of}
use Rattle.kl_install.specs.Batch.{Each, Batch, batch, IsReady, IsStaged}
use Rattle.kl_store.specs.Files.{KeepsNames}
use Rattle.kl_install.specs.Staging.{IsReadyDisk, Waits, AllQuiet, CanGoOn, Stages}
use Rattle.kl_store.specs.Files.{HasFiles, IsWritten}
use Rattle.kl_store.proofs.KeptNames.{scratch_files}
use Rattle.kl_install.proofs.Named.{plain_apart, temps_apart, temp_scratch, target_plain, slot_plain, differs}
use Rattle.kl_base.proofs.Bools.{and_left, and_right}

-- what is new since a first settle has the files of the names
pub quiet_then : {x y z w : Meaning} → LeavesOfDisk x y Nothing → ForSome x.disk (λ d. IsReadyDisk (names_now d) y.disk) → Stays y z → LeavesOfDisk z w HasFiles → Leaves x w SameNames
quiet_then settled ready still written = leaves_on (weaker (leaves_still settled still.images) (λ d told n none. absurd none)) written (λ d told.
    let r = ready d told in (
      r.now,
      still.disk ∙ r.told,
      λ n has q plain. has.same q plain ∙ r.quiet has.image has.was q plain ∙ ap (λ (m : Names). get m q) r.names,
    ))

-- the images of the disk, once it is ready, have the files of the names at first
pub files_then : {x y z w : Meaning} → LeavesOfDisk x y Nothing → ForSome x.disk (λ d. IsReadyDisk (names_now d) y.disk) → Stays y z → LeavesOfDisk z w HasFiles → LeavesOfDisk x w HasFiles
files_then settled ready still written = leaves_on (weaker (leaves_still settled still.images) (λ d told n none. absurd none)) written (λ d told.
    let r = ready d told in (
      r.now,
      still.disk ∙ r.told,
      λ n has. record {
        image = names_now d;
        was = now_is_image d;
        same = λ q plain. has.same q plain ∙ r.quiet has.image has.was q plain ∙ ap (λ (m : Names). get m q) r.names;
      },
    ))

-- where no name but a temporary changes, the files stay
pub files_kept : {a b : Meaning} (target : List ℕ) → KeepsNames (λ n. n ≢ temp_name target) a b → SameFiles a b
files_kept target kept = scratch_files (temp_name target) (temp_scratch target) kept

pub files_none : {x y : Meaning} → LeavesOfDisk x y Nothing → LeavesOfDisk x y HasFiles
files_none settled = weaker settled (λ d told n none. absurd none)

-- a buffer that is written over has room still
pub kept_room : (n : ℕ) (new old : List ℕ) → length old ≡ n → length new ≡ length old → 0 < length old → 0 < length (take n (new ++ drop (length new) old))
kept_room n new old size same room = omega (arith, size, same, room, length-take n (new ++ drop (length new) old), length-append new (drop (length new) old))

pub each_more : (es : List Entry) (e : Entry) → AllByRecursion IsEntry es → IsEntry e → AllByRecursion IsEntry (es ++ e ∷ [])
each_more [] e each is = (is, tt)
each_more (x ∷ es) e each is = (each.0, each_more es e each.1 is)

pub distinct_more : (before es : List Entry) (e : Entry) → AreDistinct before es → is_new e.target (before ++ es) ≡ true → AreDistinct before (es ++ e ∷ [])
distinct_more before [] e distinct new = (subst (λ (l : List Entry). is_new e.target l ≡ true) (append-nil before) new, tt)
distinct_more before (x ∷ es) e distinct new = (distinct.0, distinct_more (before ++ x ∷ []) es e distinct.1 (subst (λ (l : List Entry). is_new e.target l ≡ true) (sym (append_assoc before (x ∷ []) es)) new))

-- the other files that wait
still_waits : (temp bytes : List ℕ) (m n : Names) (es : List Entry) → IsWritten temp bytes m n → AllByRecursion IsEntry es → Each (λ f. temp_of f ≢ temp) es → is_scratch temp ≡ true → Each (IsReady m) es → Each (IsReady n) es
still_waits temp bytes m n [] written each apart scratch ready = tt
still_waits temp bytes m n (f ∷ es) written each apart scratch ready = (
  record {
    bytes = ready.0.bytes;
    waits = written.others (temp_of f) apart.0 ∙ ready.0.waits;
    new = ready.0.new;
    old = ap (option_map sha256) (written.others f.target (plain_apart f.target temp (target_plain f.target each.0.target) scratch)) ∙ ready.0.old;
  },
  still_waits temp bytes m n es written each.1 apart.1 scratch ready.1,
)

other_temps : (target : List ℕ) (es : List Entry) → is_new target es ≡ true → Each (λ f. temp_of f ≢ temp_name target) es
other_temps target [] new = tt
other_temps target (f ∷ es) new = (temps_apart f.target target (differs f.target target (and_left (not (bytes_eq f.target target)) (is_new target es) new)), other_temps target es (and_right (not (bytes_eq f.target target)) (is_new target es) new))

each_ready : (es : List Entry) (e : Entry) (n : Names) → Each (IsReady n) es → IsReady n e → Each (IsReady n) (es ++ e ∷ [])
each_ready [] e n each is = (is, tt)
each_ready (x ∷ es) e n each is = (each.0, each_ready es e n each.1 is)

-- the batch is staged with one file more
pub staged_more : (slot : Slot) (es : List Entry) (e : Entry) (bytes : List ℕ) (m : Names) (d : Disk) → AllByRecursion IsEntry es → IsEntry e → is_new e.target es ≡ true → get m (slot_name slot) ≡ None → Each (IsReady m) es
    → IsWritten (temp_name e.target) bytes m (names_now d) → AllQuiet d → e.new ≡ sha256 bytes → e.old ≡ option_map sha256 (get m e.target) → IsStaged (batch slot (es ++ e ∷ [])) d
staged_more slot es e bytes m d each is fresh free ready written quiet new old = record {
  free = written.others (slot_name slot) (plain_apart (slot_name slot) (temp_name e.target) (slot_plain slot) (temp_scratch e.target)) ∙ free;
  ready = each_ready es e (names_now d) (still_waits (temp_name e.target) bytes m (names_now d) es written each (other_temps e.target es fresh) (temp_scratch e.target) ready) (record {
    bytes = bytes;
    waits = written.here;
    new = sym new;
    old = ap (option_map sha256) (written.others e.target (plain_apart e.target (temp_name e.target) (target_plain e.target is.target) (temp_scratch e.target))) ∙ sym old;
  });
  quiet = quiet;
}

some_ready : (b : Batch) (d : Disk) → (0 < length b.entries → IsStaged b d) → Each (IsReady (names_now d)) b.entries
some_ready b d staged = go b.entries refl
  where
    go : (es : List Entry) → b.entries ≡ es → Each (IsReady (names_now d)) b.entries
    go [] is = subst (λ (l : List Entry). Each (IsReady (names_now d)) l) (sym is) tt
    go (e ∷ es) is = (staged (subst (λ (l : List Entry). 0 < length l) (sym is) (omega arith))).ready

-- what staging has done
pub stages : {x y : Meaning} (b : Batch) (target bytes : List ℕ) (all : List Entry) (e : Entry) → AllByRecursion IsEntry b.entries → IsEntry e → is_new target b.entries ≡ true → ForSome x.names (λ m. get m (slot_name b.slot) ≡ None) → CanGoOn b x
    → all ≡ b.entries ++ e ∷ [] → e.target ≡ target → e.new ≡ sha256 bytes → ForSome x.disk (λ d. e.old ≡ option_map sha256 (get (names_now d) target)) → ForSome x.disk (λ d. Waits (temp_name target) bytes (names_now d) y.disk)
    → (is_some y.disk ≡ is_some x.disk) → Stages b target bytes all x y
stages {x = x} {y = y} b target bytes all e each is fresh free so_far noted target_is new old waits tells = record {
  entry = e;
  noted = noted;
  target_is = target_is;
  new = new;
  old = old;
  waits = λ d told n now. let w = waits d told in subst (λ (k : Disk). IsWritten (temp_name target) bytes (names_now d) (names_now k)) (same_disk _ _ (sym w.told ∙ now)) w.written;
  ready = λ n now.
      let first = told_start x.disk y.disk n tells now in
      let d = first.0 in
      let w = waits d first.1 in
      let same = same_disk _ _ (sym w.told ∙ now) in
      subst (IsStaged (batch b.slot all)) same (subst (λ (l : List Entry). IsStaged (batch b.slot l) w.now) (sym noted)
      (staged_more b.slot b.entries e bytes (names_now d) w.now each is (subst (λ (t : List ℕ). is_new t b.entries ≡ true) (sym target_is) fresh)
      (free (names_now d) (told_names x d first.1)) (some_ready b d (λ some. so_far some d first.1))
      (subst (λ (t : List ℕ). IsWritten (temp_name t) bytes (names_now d) (names_now w.now)) (sym target_is) w.written) w.quiet new
      (subst (λ (t : List ℕ). e.old ≡ option_map sha256 (get (names_now d) t)) (sym target_is) (old d first.1))));
}
  where
    told_start : (o p : Option Disk) (n : Disk) → is_some p ≡ is_some o → p ≡ Some n → (d : Disk) × (o ≡ Some d)
    told_start None p n tells now = let no : true ≡ false = sym (ap is_some now) ∙ tells in cc
    told_start (Some d) p n tells now = (d, refl)

-- a batch that is staged has a free slot
pub still_free : (y : Meaning) (b : Batch) → ForSome y.disk (IsStaged b) → ForSome y.names (λ m. get m (slot_name b.slot) ≡ None)
still_free y b staged m told = let d = told_disk y m told in ap (λ (k : Names). get k (slot_name b.slot)) (sym d.2) ∙ (staged d.0 d.1).free
