-- Recovery goes through an intent's entries.
use Rattle.std.proofs.Common.{◌≡◌, ◌<◌, ◌≤◌, ◌+◌, ⊎_elim, ℕ, suc, Bool, true, false, cond, ◌&&◌, List, [], ◌∷◌, ◌++◌, length, take, drop, get_or, refl, sym, ap, ◌∙◌, subst, drop-cons, add-one, take-append-drop, is_some}
use Rattle.std.specs.Prelude.{Option, Some, None, Ok, Err, Result, option_map, IsSome, nat_lt}
use Rattle.std.specs.List.{list_all}
use Rattle.std.specs.FinMap.{get, remove}
use Rattle.std.proofs.lemmas.List.{take_more, take_all}
use Rattle.std.proofs.lemmas.Bool.{lt-ltb, cases_Bool, cond-true, cond-false}
use Rattle.sha2.specs.Sha256.{sha256}
use Rattle.kl_base.specs.declared.class.Slot.{Slot}
use Rattle.kl_base.specs.declared.class.Slot.TheVariants.{Kernel, Libs}
use Rattle.kl_store.specs.Names.{Names, Change, Rename, same_name, carried_out, all_carried_out}
use Rattle.kl_store.specs.Disk.{Disk, names_now, joined, AreMoves}
use Rattle.kl_store.specs.Meaning.{Meaning}
use Rattle.kl_store.specs.Calls.{MakesIf}
use Rattle.kl_store.proofs.Disks.{moves_append, names_now-joined}
use Rattle.kl_store.proofs.Moments.{told_joined, told_names}
use Rattle.kl_intent.specs.declared.intent.Entry.{Entry}
use Rattle.kl_intent.specs.IntentText.{slot_name, intent_read, entries_of, AreEntries}
use Rattle.kl_install.specs.declared.recover.Found.{Found}
use Rattle.kl_install.specs.declared.recover.Found.TheVariants.{Nothing, Bad, Batch}
use Rattle.kl_intent.specs.declared.intent.Intent.{Intent}
use Rattle.kl_install.specs.declared.recover.Unsound.{Unsound}
use Rattle.kl_install.specs.After.{digest_at, temp_name, temp_of, is_sound, is_sound_of, moved, all_moved, after, after_text, after_entries, entries_for, entries_in, same_slot}
use Rattle.kl_install.specs.Batch.{Each, IsAway, AreApart}
use Rattle.kl_install.proofs.Named.{is_batch, turned}
use Rattle.kl_install.proofs.Recovered.{each_map, each_both, each_all, all_moved_other, after_sound, after_none}
use Rattle.kl_install.proofs.Moves.{each_append, each_front, each_back}
use Rattle.kl_base.proofs.Bools.{and_left, and_right}
use Rattle.kl_store.proofs.NameMaps.{get-removed, same_refl}
use Rattle.kl_install.specs.Recovery.{first_unsound, IsPartMoved}
use Rattle.kl_install.specs.Finding.{IsFound, HasIntentOf, wrong_line}
use Rattle.kl_install.proofs.Again.{all_moved-append, moved_again, sound_on, sound_same}

-- a sound entry is passed over
pub unsound_step : (m : Names) (es : List Entry) (i : ℕ) (e : Entry) → i < length es → e ≡ get_or es i e → is_sound m e ≡ true → first_unsound m (drop i es) i ≡ first_unsound m (drop (i + 1) es) (i + 1)
unsound_step m es i e less is sound =
    ap (λ (l : List Entry). first_unsound m l i) (drop-cons es i e less ∙ ap (λ (f : Entry). f ∷ drop (suc i) es) (sym is))
    ∙ cond-true (is_sound m e) (first_unsound m (drop (suc i) es) (i + 1)) _ sound ∙ ap (λ (k : ℕ). first_unsound m (drop k es) (i + 1)) (sym (add-one i))

pub sound_found : (m : Names) (e : Entry) (temp : List ℕ) (one two : Option (List ℕ)) (b : Bool) → temp ≡ temp_name e.target → one ≡ option_map sha256 (get m e.target) → two ≡ option_map sha256 (get m temp) → b ≡ is_sound_of e one two → b ≡ true → is_sound m e ≡ true
sound_found m e temp one two b name is it found yes_it =
    sym (ap (λ (o : Option (List ℕ)). is_sound_of e o two) is ∙ ap (λ (o : Option (List ℕ)). is_sound_of e (digest_at m e.target) o) (it ∙ ap (λ (n : List ℕ). digest_at m n) name)) ∙ sym found ∙ yes_it

too_long : (bytes : List ℕ) → 4096 < length bytes → intent_read bytes ≡ Err 0
unfolding intent_read
too_long bytes long = cond-true (nat_lt 4096 (length bytes)) (Err 0) _ (lt-ltb 4096 (length bytes) long)

pub long_found : (slot : Slot) (file : Option (List ℕ)) (size : ℕ) → 4096 < size → Some size ≡ option_map length file → IsFound slot (Bad 0) file
long_found slot None size long is = let no : ◌≡◌ {A = Option ℕ} (Some size) None = is in cc
long_found slot (Some text) size long is = ap (wrong_line slot) (too_long text (subst (λ (n : ℕ). 4096 < n) (same is) long))
  where
    same : ◌≡◌ {A = Option ℕ} (Some size) (Some (length text)) → size ≡ length text
    same p = cc

-- the state before the entry of that number
pub record IsAgainAt (disk : Option Disk) (m : Names) (es : List Entry) (i : ℕ) : Type 0 where
  pub now : Disk
  pub told : disk ≡ Some now
  pub moves : AreMoves now.changes
  pub names : names_now now ≡ all_moved (take i es) m

pub again_first : (disk : Option Disk) (d : Disk) (es : List Entry) → disk ≡ Some d → AreMoves d.changes → IsAgainAt disk (names_now d) es 0
again_first disk d es told moves = record { now = d; told = told; moves = moves; names = refl }

more_moved : (m : Names) (es : List Entry) (i : ℕ) (e : Entry) → i < length es → e ≡ get_or es i e → all_moved (take (i + 1) es) m ≡ moved e (all_moved (take i es) m)
more_moved m es i e less is = ap (λ (l : List Entry). all_moved l m) (take_more es i e less ∙ ap (λ (f : Entry). take i es ++ f ∷ []) (sym is)) ∙ all_moved-append (take i es) (e ∷ []) m

moved_there : (e : Entry) (x : Names) → IsSome (get x (temp_of e)) → moved e x ≡ carried_out (Rename (temp_of e) e.target) x
moved_there e x there = cond-true (is_some (get x (temp_of e))) _ _ there

moved_none : (e : Entry) (x : Names) → (IsSome (get x (temp_of e)) → ⊥) → moved e x ≡ x
moved_none e x none = ⊎_elim (λ some. absurd (none some)) (λ gone. cond-false (is_some (get x (temp_of e))) _ _ gone) (cases_Bool (is_some (get x (temp_of e))))

pub part_moved : (m x : Names) (es : List Entry) (i : ℕ) (e : Entry) → i < length es → e ≡ get_or es i e → x ≡ all_moved (take i es) m → IsSome (get x (temp_of e)) → IsPartMoved es m (carried_out (Rename (temp_of e) e.target) x)
part_moved m x es i e less is names there = record {
  first = take (i + 1) es;
  rest = drop (i + 1) es;
  whole = sym (take-append-drop (i + 1) es);
  names = sym (moved_there e x there) ∙ ap (moved e) names ∙ sym (more_moved m es i e less is);
}

pub again_next : (a b : Meaning) (m : Names) (es : List Entry) (i : ℕ) (e : Entry) (was : Bool) → i < length es → e ≡ get_or es i e → IsAgainAt a.disk m es i → MakesIf (Rename (temp_of e) e.target) a b was → IsAgainAt b.disk m es (i + 1)
again_next a b m es i e true less is at made =
    let names = told_names a at.now at.told in
    record {
      now = joined (Rename (temp_of e) e.target) at.now;
      told = told_joined at.now made at.told;
      moves = moves_append at.now.changes (Rename (temp_of e) e.target) at.moves tt;
      names = names_now-joined at.now (Rename (temp_of e) e.target) ∙ sym (moved_there e (names_now at.now) (made.applies (names_now at.now) names)) ∙ ap (moved e) at.names ∙ sym (more_moved m es i e less is);
    }
again_next a b m es i e false less is at missed =
    let names = told_names a at.now at.told in
    record {
      now = at.now;
      told = missed.disk ∙ at.told;
      moves = at.moves;
      names = sym (moved_none e (names_now at.now) (missed.absent (names_now at.now) names)) ∙ ap (moved e) at.names ∙ sym (more_moved m es i e less is);
    }

pub again_end : (m x : Names) (es : List Entry) (i : ℕ) → length es ≤ i → x ≡ all_moved (take i es) m → x ≡ all_moved es m
again_end m x es i all names = names ∙ ap (λ (l : List Entry). all_moved l m) (take_all i es all)

-- whether all entries are sound
pub sound_first : (b : Bool) (rest : Option Unsound) (u : Unsound) → cond b rest (Some u) ≡ None → (b ≡ true) × (rest ≡ None)
sound_first true rest u e = (refl, e)
sound_first false rest u e = let no : ◌≡◌ {A = Option Unsound} (Some u) None = e in cc

pub all_sound : (m : Names) (es : List Entry) (n : ℕ) → first_unsound m es n ≡ None → list_all (is_sound m) es ≡ true
all_sound m [] n e = refl
all_sound m (x ∷ es) n e =
    let both = sound_first (is_sound m x) (first_unsound m es (n + 1)) _ e in
    ap (λ v. v && list_all (is_sound m) es) both.0 ∙ all_sound m es (n + 1) both.1

some_first : (b : Bool) (rest : Option Unsound) (u v : Unsound) (all : Bool) → cond b rest (Some u) ≡ Some v → (rest ≡ Some v → all ≡ false) → (b && all) ≡ false
some_first true rest u v all e more = more e
some_first false rest u v all e more = refl

pub one_unsound : (m : Names) (es : List Entry) (n : ℕ) (u : Unsound) → first_unsound m es n ≡ Some u → list_all (is_sound m) es ≡ false
one_unsound m [] n u e = let no : ◌≡◌ {A = Option Unsound} None (Some u) = e in cc
one_unsound m (x ∷ es) n u e = some_first (is_sound m x) (first_unsound m es (n + 1)) _ u (list_all (is_sound m) es) e (one_unsound m es (n + 1) u)

same_slots : (s : Slot) (es : List Entry) → entries_for s (Ok (s, es)) ≡ Some es
same_slots Kernel es = refl
same_slots Libs es = refl

entries_read : (slot : Slot) (text : List ℕ) (es : List Entry) → intent_read text ≡ Ok (slot, es) → entries_in slot text ≡ Some es
unfolding entries_in
entries_read slot text es is = ap (entries_for slot) is ∙ same_slots slot es

-- what recovery leaves of names with the intent, where an entry isn't sound
pub foreign_after : (slot : Slot) (es : List Entry) (d : Disk) (u : Unsound) → HasIntentOf slot es d → first_unsound (names_now d) es 0 ≡ Some u → after slot (names_now d) ≡ names_now d
foreign_after slot es d u has is =
    ap (after_text slot (names_now d)) has.stands ∙ ap (after_entries slot (names_now d)) (entries_read slot has.text es has.read) ∙ cond-false (list_all (is_sound (names_now d)) es) _ _ (one_unsound (names_now d) es 0 u is)

-- and where all are
pub sound_after : (slot : Slot) (es : List Entry) (d : Disk) → HasIntentOf slot es d → first_unsound (names_now d) es 0 ≡ None → after slot (names_now d) ≡ remove (all_moved es (names_now d)) (slot_name slot)
sound_after slot es d has is = after_sound slot has.text (names_now d) es has.stands (entries_read slot has.text es has.read) (all_sound (names_now d) es 0 is)

rest_away : (first rest : List Entry) → AreApart (first ++ rest) → Each (λ f. IsAway f.target first × IsAway (temp_of f) first) rest
rest_away [] rest apart = each_all _ rest (λ f. (tt, tt))
rest_away (e ∷ first) rest apart =
    each_map _ _ rest (λ f h. (((turned _ _ h.0.0.0, turned _ _ h.0.1.0), h.1.0), ((turned _ _ h.0.0.1, turned _ _ h.0.1.1), h.1.1)))
    (each_both _ _ rest (each_both _ _ rest (each_back _ first rest apart.1) (each_back _ first rest apart.2)) (rest_away first rest apart.3))

front_apart : (first rest : List Entry) → AreApart (first ++ rest) → AreApart first
front_apart [] rest apart = tt
front_apart (e ∷ first) rest apart = (apart.0, each_front _ first rest apart.1, each_front _ first rest apart.2, front_apart first rest apart.3)

each_true : (test : Entry → Bool) (es : List Entry) → list_all test es ≡ true → Each (λ e. test e ≡ true) es
each_true test [] e = tt
each_true test (x ∷ es) e = (and_left (test x) (list_all test es) e, each_true test es (and_right (test x) (list_all test es) e))

list_true : (test : Entry → Bool) (es : List Entry) → Each (λ e. test e ≡ true) es → list_all test es ≡ true
list_true test [] each = refl
list_true test (x ∷ es) each = ap (λ v. v && list_all test es) each.0 ∙ list_true test es each.1

-- recovery that was stopped among the moves ends alike
pub part_after : (slot : Slot) (es : List Entry) (d : Disk) (x : Names) → AreEntries es → HasIntentOf slot es d → first_unsound (names_now d) es 0 ≡ None → IsPartMoved es (names_now d) x → after slot x ≡ after slot (names_now d)
part_after slot es d x are has none part =
    let m = names_now d in
    let named = is_batch slot es are in
    let apart = subst AreApart part.whole named.apart in
    let away = subst (λ (l : List Entry). IsAway (slot_name slot) l) part.whole named.slot_away in
    let sound = subst (λ (l : List Entry). Each (λ e. is_sound m e ≡ true) l) part.whole (each_true (is_sound m) es (all_sound m es 0 none)) in
    let y = all_moved part.first m in
    let first = sound_on part.first m (front_apart part.first part.rest apart) (each_front _ part.first part.rest sound) in
    let rest = each_map _ _ part.rest (λ f h. sound_same f y m (all_moved_other part.first m f.target h.0.0) (all_moved_other part.first m (temp_of f) h.0.1) ∙ h.1) (each_both _ _ part.rest (rest_away part.first part.rest apart) (each_back _ part.first part.rest sound)) in
    let all : list_all (is_sound y) es ≡ true = subst (λ (l : List Entry). list_all (is_sound y) l ≡ true) (sym part.whole) (list_true (is_sound y) (part.first ++ part.rest) (each_append _ part.first part.rest first rest)) in
    let stands : get y (slot_name slot) ≡ Some has.text = all_moved_other part.first m (slot_name slot) (each_front _ part.first part.rest away) ∙ has.stands in
    ap (after slot) part.names ∙ after_sound slot has.text y es stands (entries_read slot has.text es has.read) all
    ∙ ap (λ (z : Names). remove z (slot_name slot)) (ap (λ (l : List Entry). all_moved l y) part.whole ∙ moved_again part.first part.rest m (front_apart part.first part.rest apart) ∙ ap (λ (l : List Entry). all_moved l m) (sym part.whole))
    ∙ sym (sound_after slot es d has none)

-- and so does one that was stopped when the slot was free
pub removed_after : (slot : Slot) (es : List Entry) (d : Disk) (x : Names) → HasIntentOf slot es d → first_unsound (names_now d) es 0 ≡ None → x ≡ remove (all_moved es (names_now d)) (slot_name slot) → after slot x ≡ after slot (names_now d)
removed_after slot es d x has none is =
    let n = slot_name slot in
    let y = all_moved es (names_now d) in
    let gone : get (remove y n) n ≡ None = get-removed y n n ∙ cond-true (same_name n n) _ _ (same_refl n) in
    ap (after slot) is ∙ after_none slot (remove y n) gone ∙ sym (sound_after slot es d has none)

-- a settled disk is that of its names
pub settled_disk : (d : Disk) → d.changes ≡ [] → d ≡ record { stable = names_now d; changes = [] }
settled_disk d none =
    ap (λ (cs : List Change). record { stable = d.stable; changes = cs }) none
    ∙ ap (λ (m : Names). record { stable = m; changes = [] }) (sym (ap (λ (cs : List Change). all_carried_out cs d.stable) none))

pub slot_there : (slot : Slot) (es : List Entry) (d : Disk) → AreEntries es → HasIntentOf slot es d → IsSome (get (all_moved es (names_now d)) (slot_name slot))
slot_there slot es d are has = ap is_some (all_moved_other es (names_now d) (slot_name slot) (is_batch slot es are).slot_away ∙ has.stands)

-- what is found in a slot
pub found_batch : (slot : Slot) (i : Intent) (file : Option (List ℕ)) → IsFound slot (Batch i) file → (text : List ℕ) × (file ≡ Some text) × (intent_read text ≡ Ok (slot, entries_of i))
found_batch slot i None found = absurd found
found_batch slot i (Some text) found = (text, refl, found.0)

pub batch_found : (slot : Slot) (f : Found) (i : Intent) (d : Disk) → f ≡ Batch i → d.changes ≡ [] → IsFound slot f (get (names_now d) (slot_name slot)) → HasIntentOf slot (entries_of i) d
batch_found slot f i d is settled found =
    let it = found_batch slot i (get (names_now d) (slot_name slot)) (subst (λ (k : Found). IsFound slot k (get (names_now d) (slot_name slot))) is found) in
    record { settled = settled; text = it.0; stands = it.1; read = it.2 }

pub nothing_after : (slot : Slot) (f : Found) (m : Names) → f ≡ Nothing → IsFound slot f (get m (slot_name slot)) → after slot m ≡ m
nothing_after slot f m is found = after_none slot m (subst (λ (k : Found). IsFound slot k (get m (slot_name slot))) is found)

no_entries : (slot : Slot) (line : ℕ) (r : Result (Slot × List Entry) ℕ) → wrong_line slot r ≡ Some line → entries_for slot r ≡ None
no_entries slot line (Err n) e = refl
no_entries slot line (Ok read) e = cases (same_slot read.0 slot) refl
  where
    cases : (b : Bool) → same_slot read.0 slot ≡ b → entries_for slot (Ok read) ≡ None
    cases true is = let no : ◌≡◌ {A = Option ℕ} None (Some line) = sym (cond-true (same_slot read.0 slot) None (Some 2) is) ∙ e in cc
    cases false is = cond-false (same_slot read.0 slot) (Some read.1) None is

bad_text : (slot : Slot) (line : ℕ) (m : Names) (file : Option (List ℕ)) → IsFound slot (Bad line) file → after_text slot m file ≡ m
unfolding entries_in
bad_text slot line m None found = absurd found
bad_text slot line m (Some text) found = ap (after_entries slot m) (no_entries slot line (intent_read text) found)

pub bad_after : (slot : Slot) (f : Found) (line : ℕ) (m : Names) → f ≡ Bad line → IsFound slot f (get m (slot_name slot)) → after slot m ≡ m
bad_after slot f line m is found = bad_text slot line m (get m (slot_name slot)) (subst (λ (k : Found). IsFound slot k (get m (slot_name slot))) is found)
