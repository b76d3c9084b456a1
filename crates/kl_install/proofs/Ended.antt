-- What recovery finds and leaves, for each of its ends.
use Rattle.std.proofs.Common.{◌≡◌, ◌≢◌, ◌+◌, inl, inr, ⊎_elim, ℕ, Bool, true, false, List, [], ◌∷◌, ◌++◌, length, refl, sym, ap, ◌∙◌, subst, arith, is_some}
use Rattle.std.specs.Prelude.{Option, Some, None, Ok, Err, Result, option_map}
use Rattle.std.specs.List.{list_all}
use Rattle.std.specs.FinMap.{get, remove}
use Rattle.sha2.specs.Sha256.{sha256}
use Rattle.std.proofs.lemmas.Bool.{cond-true, cond-false}
use Rattle.kl_base.specs.declared.class.Slot.{Slot}
use Rattle.kl_base.specs.declared.class.Slot.TheVariants.{Kernel, Libs}
use Rattle.kl_base.proofs.Bools.{true_false}
use Rattle.kl_store.specs.Names.{Names, same_name}
use Rattle.kl_store.proofs.NameMaps.{get-removed, same_refl, same_apart}
use Rattle.kl_store.proofs.Disks.{some_or}
use Rattle.kl_intent.specs.declared.intent.Entry.{Entry}
use Rattle.kl_intent.specs.IntentText.{slot_name, intent_text, intent_read, entries_of}
use Rattle.kl_intent.proofs.Grammar.{intent_again, intent_from}
use Rattle.kl_intent.proofs.Outside.{outside, too_long}
use Rattle.kl_intent.specs.declared.intent.Intent.{Intent}
use Rattle.kl_install.specs.declared.recover.Found.{Found}
use Rattle.kl_install.specs.declared.recover.Found.TheVariants.{Batch}
use Rattle.kl_install.specs.declared.recover.SlotEnd.{SlotEnd}
use Rattle.kl_install.specs.Finding.{IsFound}
use Rattle.kl_install.specs.declared.recover.Unsound.{Unsound}
use Rattle.kl_install.specs.After.{digest_at, is_sound, moved, all_moved, after, after_text, after_entries, entries_for, entries_in, same_slot, temp_of}
use Rattle.kl_install.specs.Batch.{Each, AreApart}
use Rattle.kl_install.specs.Recovery.{first_unsound, checked_end, entries_end, read_end, text_end, slot_end}
use Rattle.kl_install.specs.Standing.{Stands, IsSound}
use Rattle.kl_install.specs.Recovered.{IsCompleted, IsForeign, Recovers}
use Rattle.kl_install.proofs.Named.{is_batch, turned}
use Rattle.kl_install.proofs.Recovered.{each_map, each_both, moved_other, all_moved_other, renamed_to}
use Rattle.kl_install.proofs.Sounds.{sound_is, is_unsound, each_sound}
use Rattle.kl_install.proofs.Again.{all_gone}
use Rattle.kl_install.proofs.Redone.{all_sound, one_unsound, found_batch}

-- a sound entry is new when its file has moved
moved_new : (m : Names) (e : Entry) → IsSound m e → digest_at (moved e m) e.target ≡ Some e.new
moved_new m e sound = ⊎_elim
    (λ some. ap (λ (x : Names). digest_at x e.target) (cond-true (is_some (get m (temp_of e))) _ _ (ap is_some some.1)) ∙ ap (option_map sha256) (renamed_to m (temp_of e) e.target) ∙ waiting some.0 some.1 sound)
    (λ none. ap (λ (x : Names). digest_at x e.target) (cond-false (is_some (get m (temp_of e))) _ _ (ap is_some none)) ∙ placed none sound)
    (some_or (get m (temp_of e)))
  where
    some_none : {P : Type 0} (x : List ℕ) → ◌≡◌ {A = Option (List ℕ)} None (Some x) → P
    some_none x p = cc

    waiting : (b : List ℕ) → get m (temp_of e) ≡ Some b → IsSound m e → digest_at m (temp_of e) ≡ Some e.new
    waiting b is (inl new) = ⊎_elim (λ none. some_none b (sym none ∙ is)) (λ some. some) new.temp
    waiting b is (inr old) = old.temp

    placed : get m (temp_of e) ≡ None → IsSound m e → digest_at m e.target ≡ Some e.new
    placed none (inl new) = new.target
    placed none (inr old) = some_none e.new (sym (ap (option_map sha256) none) ∙ old.temp)

sound_kept : (e f : Entry) (m x : Names) → get x e.target ≡ get m e.target → get x (temp_of e) ≡ get m (temp_of e) → IsSound m e → IsSound x e
sound_kept e f m x p q (inl new) = inl (record { target = ap (option_map sha256) p ∙ new.target; temp = ⊎_elim (λ none. inl (q ∙ none)) (λ some. inr (ap (option_map sha256) q ∙ some)) new.temp })
sound_kept e f m x p q (inr old) = inr (record { target = ap (option_map sha256) p ∙ old.target; temp = ap (option_map sha256) q ∙ old.temp })

all_new : (es : List Entry) (m : Names) → AreApart es → Each (IsSound m) es → Each (λ e. digest_at (all_moved es m) e.target ≡ Some e.new) es
all_new [] m apart sound = tt
all_new (e ∷ es) m apart sound = (
  ap (option_map sha256) (all_moved_other es (moved e m) e.target apart.1) ∙ moved_new m e sound.0,
  all_new es (moved e m) apart.3
      (each_map _ _ es (λ f h. sound_kept f e m (moved e m) (moved_other e m f.target (turned _ _ h.0.0.0) (turned _ _ h.0.1.0)) (moved_other e m (temp_of f) (turned _ _ h.0.0.1) (turned _ _ h.0.1.1)) h.1)
      (each_both _ _ es (each_both _ _ es apart.1 apart.2) sound.1)),
)

-- all entries are sound
completed : (slot : Slot) (es : List Entry) (m : Names) → Stands slot es m → list_all (is_sound m) es ≡ true → IsCompleted slot (length es) m (remove (all_moved es m) (slot_name slot))
completed slot es m stands all =
    let named = is_batch slot es stands.are in
    let n = slot_name slot in
    let y = all_moved es m in
    let at : (q : List ℕ) → q ≢ n → get (remove y n) q ≡ get y q = λ q p. get-removed y n q ∙ cond-false (same_name q n) _ _ (same_apart q n p) in
    record {
      entries = es;
      stands = stands;
      sound = each_sound m es all;
      count = refl;
      targets = each_map _ _ es (λ e h. ap (option_map sha256) (at e.target (turned _ _ h.0.0)) ∙ h.1) (each_both _ _ es named.slot_away (all_new es m named.apart (each_sound m es all)));
      temps = each_map _ _ es (λ e h. at (temp_of e) (turned _ _ h.0.1) ∙ h.1) (each_both _ _ es named.slot_away (all_gone es m named.apart));
      free = get-removed y n n ∙ cond-true (same_name n n) _ _ (same_refl n);
      others = λ q p away. at q p ∙ all_moved_other es m q away;
    }

-- the first entry that isn't sound, among those behind others that are
record IsFirst (m : Names) (es : List Entry) (n : ℕ) (u : Unsound) : Type 0 where
  pub before : List Entry
  pub entry : Entry
  pub behind : List Entry
  pub whole : es ≡ before ++ entry ∷ behind
  pub count : u.entry ≡ n + length before
  pub sound : Each (IsSound m) before
  pub unsound : ¬ IsSound m entry
  pub target : u.target ≡ digest_at m entry.target
  pub temp : u.temp ≡ digest_at m (temp_of entry)

same_unsound : (u v : Unsound) → ◌≡◌ {A = Option Unsound} (Some u) (Some v) → u ≡ v
same_unsound u v e = cc

is_first : (m : Names) (es : List Entry) (n : ℕ) (u : Unsound) → first_unsound m es n ≡ Some u → IsFirst m es n u
is_first m [] n u e = let no : ◌≡◌ {A = Option Unsound} None (Some u) = e in cc
is_first m (x ∷ es) n u e = go (is_sound m x) refl (is_first m es (n + 1) u)
  where
    here : Unsound
    here = record { entry = n; target = digest_at m x.target; temp = digest_at m (temp_of x) }

    go : (b : Bool) → is_sound m x ≡ b → (first_unsound m es (n + 1) ≡ Some u → IsFirst m es (n + 1) u) → IsFirst m (x ∷ es) n u
    go true is more =
        let rest = more (sym (cond-true (is_sound m x) (first_unsound m es (n + 1)) (Some here) is) ∙ e) in
        record {
          before = x ∷ rest.before;
          entry = rest.entry;
          behind = rest.behind;
          whole = ap (λ (l : List Entry). x ∷ l) rest.whole;
          count = omega (arith, rest.count);
          sound = (sound_is m x is, rest.sound);
          unsound = rest.unsound;
          target = rest.target;
          temp = rest.temp;
        }
    go false is more =
        let same : here ≡ u = same_unsound here u (sym (cond-false (is_sound m x) (first_unsound m es (n + 1)) (Some here) is) ∙ e) in
        record {
          before = [];
          entry = x;
          behind = es;
          whole = refl;
          count = omega (arith, ap (λ (v : Unsound). v.entry) same);
          sound = tt;
          unsound = is_unsound m x is;
          target = ap (λ (v : Unsound). v.target) (sym same);
          temp = ap (λ (v : Unsound). v.temp) (sym same);
        }

foreign : (slot : Slot) (es : List Entry) (m : Names) (u : Unsound) → Stands slot es m → first_unsound m es 0 ≡ Some u → IsForeign slot u.entry u.target u.temp m
foreign slot es m u stands is =
    let first = is_first m es 0 u is in
    record {
      before = first.before;
      entry = first.entry;
      behind = first.behind;
      stands = subst (λ (l : List Entry). Stands slot l m) first.whole stands;
      count = omega (arith, first.count);
      sound = first.sound;
      unsound = first.unsound;
      target_is = first.target;
      temp_is = first.temp;
    }

-- an intent of the slot stands there
ends_of_entries : (slot : Slot) (es : List Entry) (m : Names) → Stands slot es m → Recovers slot (entries_end m es) m (after_entries slot m (Some es))
ends_of_entries slot es m stands = cases (first_unsound m es 0) refl
  where
    cases : (o : Option Unsound) → first_unsound m es 0 ≡ o → Recovers slot (checked_end es (first_unsound m es 0)) m (after_entries slot m (Some es))
    cases None is =
        let all = all_sound m es 0 is in
        rw (is) (subst (λ (x : Names). IsCompleted slot (length es) m x) (sym (cond-true (list_all (is_sound m) es) (remove (all_moved es m) (slot_name slot)) m all)) (completed slot es m stands all))
    cases (Some u) is = rw (is) (foreign slot es m u stands is, cond-false (list_all (is_sound m) es) (remove (all_moved es m) (slot_name slot)) m (one_unsound m es 0 u is))

slots_same : (s t : Slot) → same_slot s t ≡ true → s ≡ t
slots_same Kernel Kernel e = refl
slots_same Kernel Libs e = cc
slots_same Libs Kernel e = cc
slots_same Libs Libs e = refl

slots_differ : (s t : Slot) → same_slot s t ≡ false → s ≢ t
slots_differ s t differ is = true_false (sym (own t) ∙ ap (λ (q : Slot). same_slot q t) (sym is) ∙ differ)
  where
    own : (q : Slot) → same_slot q q ≡ true
    own Kernel = refl
    own Libs = refl

err_ok : {P : Type 0} (line : ℕ) (x : Slot × List Entry) → ◌≡◌ {A = Result (Slot × List Entry) ℕ} (Err line) (Ok x) → P
err_ok line x e = cc

-- by what the slot's text is read as
ends_of_text : (slot : Slot) (text : List ℕ) (m : Names) → get m (slot_name slot) ≡ Some text → (r : Result (Slot × List Entry) ℕ) → intent_read text ≡ r → Recovers slot (read_end slot m r) m (after_entries slot m (entries_for slot r))
ends_of_text slot text m stands (Err line) is = (
  record {
    text = text;
    stands = stands;
    bad = inl (record {
      none = λ other es are same. err_ok line (other, es) (sym is ∙ ap intent_read same ∙ intent_again other es are);
      long = λ long. too_long text line long is;
      outside = λ few. outside text line few is;
    });
  },
  refl,
)
ends_of_text slot text m stands (Ok (other, es)) is = cases (same_slot other slot) refl
  where
    cases : (b : Bool) → same_slot other slot ≡ b → Recovers slot (read_end slot m (Ok (other, es))) m (after_entries slot m (entries_for slot (Ok (other, es))))
    cases true same =
        let from = intent_from text other es is in
        let own = slots_same other slot same in
        rw (same) (ends_of_entries slot es m (record { are = from.entries; text = stands ∙ ap (λ (t : List ℕ). Some t) from.text ∙ ap (λ (s : Slot). Some (intent_text s es)) own }))
    cases false differ =
        let from = intent_from text other es is in
        rw (differ) (record { text = text; stands = stands; bad = inr (record { other = other; entries = es; differs = slots_differ other slot differ; are = from.entries; text_is = from.text; second = refl }) }, refl)

ends_of_file : (slot : Slot) (m : Names) (file : Option (List ℕ)) → get m (slot_name slot) ≡ file → Recovers slot (text_end slot m file) m (after_text slot m file)
unfolding entries_in
ends_of_file slot m None is = (is, refl)
ends_of_file slot m (Some text) is = ends_of_text slot text m is (intent_read text) refl

-- each end is what the names say, and the names after it are those that it leaves
ends_so : (slot : Slot) (m : Names) → Recovers slot (slot_end slot m) m (after slot m)
ends_so slot m = ends_of_file slot m (get m (slot_name slot)) refl

pub ended : (slot : Slot) (m x : Names) (end : SlotEnd) → end ≡ slot_end slot m → x ≡ after slot m → Recovers slot end m x
ended slot m x end is names = subst (λ (e : SlotEnd). Recovers slot e m x) (sym is) (subst (λ (y : Names). Recovers slot (slot_end slot m) m y) (sym names) (ends_so slot m))

-- an intent that is found stands in the slot
pub stands_found : (slot : Slot) (f : Found) (i : Intent) (m : Names) → f ≡ Batch i → IsFound slot f (get m (slot_name slot)) → Stands slot (entries_of i) m
stands_found slot f i m is found =
    let it = found_batch slot i (get m (slot_name slot)) (subst (λ (k : Found). IsFound slot k (get m (slot_name slot))) is found) in
    let from = intent_from it.0 slot (entries_of i) it.2 in
    record { are = from.entries; text = it.1 ∙ ap (λ (t : List ℕ). Some t) from.text }
