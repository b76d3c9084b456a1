-- The names of a batch.
use Rattle.std.proofs.Common.{◌≡◌, ◌≢◌, ◌-◌, ◌≤◌, ℕ, true, false, not, ◌&&◌, List, [], ◌∷◌, ◌++◌, length, drop, refl, sym, ap, ◌∙◌, subst, arith, length-append, append_assoc}
use Rattle.std.specs.Prelude.{Some, Ok, codes, nat_eq, nat_le, is_none}
use Rattle.std.specs.List.{ends_with, AllByRecursion}
use Rattle.std.specs.Str.{bytes_eq}
use Rattle.std.specs.Cmp.Lexicographic.{pointwise}
use Rattle.std.proofs.lemmas.List.{append_cancel_right, drop_at}
use Rattle.std.proofs.lemmas.Bool.{leb-true, not-true}
use Rattle.kl_base.specs.Names.{name_fault}
use Rattle.kl_base.specs.declared.class.Slot.{Slot}
use Rattle.kl_base.specs.declared.class.Slot.TheVariants.{Kernel, Libs}
use Rattle.kl_store.specs.Names.{is_scratch}
use Rattle.kl_base.proofs.Bools.{and_left, and_right, true_false, same_bytes}
use Rattle.kl_intent.specs.declared.intent.Entry.{Entry}
use Rattle.kl_intent.specs.IntentText.{slot_name, intent_text, is_target, is_new, AreDistinct, IsEntry, AreEntries}
use Rattle.kl_intent.proofs.Grammar.{intent_again}
use Rattle.kl_install.specs.After.{temp_name, temp_of, entries_for, entries_in}
use Rattle.kl_install.specs.Batch.{Batch, batch, intent_name, intent_temp, Each, IsAway, AreApart}

-- the batch's names differ, and its text is its entries'
pub record IsBatch (b : Batch) : Type 0 where
  pub are : AreEntries b.entries
  pub apart : AreApart b.entries
  pub slot_away : IsAway (intent_name b) b.entries
  pub temp_away : IsAway (intent_temp b) b.entries
  pub plain : is_scratch (intent_name b) ≡ false
  pub scratch : is_scratch (intent_temp b) ≡ true
  pub targets : Each (λ e. (is_scratch e.target ≡ false) × (is_scratch (temp_of e) ≡ true)) b.entries
  pub intent : entries_in b.slot (intent_text b.slot b.entries) ≡ Some b.entries

suffix : List ℕ
suffix = codes ".relink"

-- a temporary is a scratch name
pub temp_scratch : (name : List ℕ) → is_scratch (temp_name name) ≡ true
temp_scratch name =
    let s = codes ".relink" in
    let size : length (name ++ s) - length s ≡ length name = omega (arith, length-append name s) in
    ap (λ (n : ℕ). pointwise nat_eq s (drop n (name ++ s))) size ∙ ap (pointwise nat_eq s) (drop_at name s (length name) refl) ∙ same_bytes s

pub plain_apart : (n p : List ℕ) → is_scratch n ≡ false → is_scratch p ≡ true → n ≢ p
plain_apart n p plain scratch e = true_false (sym scratch ∙ ap is_scratch (sym e) ∙ plain)

pub turned : (a b : List ℕ) → a ≢ b → b ≢ a
turned a b p e = p (sym e)

-- names that differ have temporaries that differ
pub temps_apart : (a b : List ℕ) → a ≢ b → temp_name a ≢ temp_name b
temps_apart a b differ same = differ (append_cancel_right a b (codes ".relink") same)

-- the parts of what a target's name isn't
pub record IsTarget (t : List ℕ) : Type 0 where
  pub fault : is_none (name_fault t) ≡ true
  pub short : nat_le (length t) 248 ≡ true
  pub plain : is_scratch t ≡ false
  pub kernel : not (bytes_eq t (slot_name Kernel)) ≡ true
  pub libs : not (bytes_eq t (slot_name Libs)) ≡ true

pub is_target_parts : (t : List ℕ) → is_target t ≡ true → IsTarget t
is_target_parts t is =
    let k = not (bytes_eq t (slot_name Kernel)) in
    let l = not (bytes_eq t (slot_name Libs)) in
    let s = not (ends_with nat_eq t (codes ".relink")) in
    let n = nat_le (length t) 248 in
    let one = and_right (is_none (name_fault t)) (n && (s && (k && l))) is in
    let two = and_right n (s && (k && l)) one in
    let three = and_right s (k && l) two in
    record {
      fault = and_left (is_none (name_fault t)) (n && (s && (k && l))) is;
      short = and_left n (s && (k && l)) one;
      plain = not-true (is_scratch t) (and_left s (k && l) two);
      kernel = and_left k l three;
      libs = and_right k l three;
    }

pub target_plain : (t : List ℕ) → is_target t ≡ true → is_scratch t ≡ false
target_plain t is = (is_target_parts t is).plain

pub differs : (a b : List ℕ) → not (bytes_eq a b) ≡ true → a ≢ b
differs a b no_eq same = true_false (sym (ap (bytes_eq a) (sym same) ∙ same_bytes a) ∙ not-true (bytes_eq a b) no_eq)

pub target_no_slot : (t : List ℕ) (s : Slot) → is_target t ≡ true → slot_name s ≢ t
target_no_slot t Kernel is same = differs t (slot_name Kernel) (is_target_parts t is).kernel (sym same)
target_no_slot t Libs is same = differs t (slot_name Libs) (is_target_parts t is).libs (sym same)

pub slot_plain : (s : Slot) → is_scratch (slot_name s) ≡ false
slot_plain Kernel = refl
slot_plain Libs = refl

-- a target among those before is another than each of those behind
pub others : (a b es : List Entry) (e : Entry) → AreDistinct (a ++ (e ∷ b)) es → Each (λ f. e.target ≢ f.target) es
others a b [] e distinct = tt
others a b (f ∷ es) e distinct = (
  differs e.target f.target (here a b f distinct.0),
  others a (b ++ f ∷ []) es e (subst (λ (l : List Entry). AreDistinct l es) (append_assoc a (e ∷ b) (f ∷ [])) distinct.1),
)
  where
    here : (a b : List Entry) (f : Entry) → is_new f.target (a ++ (e ∷ b)) ≡ true → not (bytes_eq e.target f.target) ≡ true
    here [] b f new = and_left (not (bytes_eq e.target f.target)) (is_new f.target b) new
    here (x ∷ a) b f new = here a b f (and_right (not (bytes_eq x.target f.target)) (is_new f.target (a ++ (e ∷ b))) new)

each_other : (e : Entry) (es : List Entry) → is_target e.target ≡ true → AllByRecursion IsEntry es → Each (λ f. e.target ≢ f.target) es → IsAway e.target es
each_other e [] is each apart = tt
each_other e (f ∷ es) is each apart = ((apart.0, plain_apart e.target (temp_of f) (target_plain e.target is) (temp_scratch f.target)), each_other e es is each.1 apart.1)

each_temp : (e : Entry) (es : List Entry) → AllByRecursion IsEntry es → Each (λ f. e.target ≢ f.target) es → IsAway (temp_of e) es
each_temp e [] each apart = tt
each_temp e (f ∷ es) each apart = ((turned _ _ (plain_apart f.target (temp_of e) (target_plain f.target each.0.target) (temp_scratch e.target)), temps_apart e.target f.target apart.0), each_temp e es each.1 apart.1)

pub apart_from : (before es : List Entry) → AllByRecursion IsEntry es → AreDistinct before es → AreApart es
apart_from before [] each distinct = tt
apart_from before (e ∷ es) each distinct =
    let other = others before [] es e distinct.1 in
    (plain_apart e.target (temp_of e) (target_plain e.target each.0.target) (temp_scratch e.target), each_other e es each.0.target each.1 other, each_temp e es each.1 other, apart_from (before ++ e ∷ []) es each.1 distinct.1)

pub slot_away : (s : Slot) (es : List Entry) → AllByRecursion IsEntry es → IsAway (slot_name s) es
slot_away s [] each = tt
slot_away s (e ∷ es) each = ((target_no_slot e.target s each.0.target, plain_apart (slot_name s) (temp_of e) (slot_plain s) (temp_scratch e.target)), slot_away s es each.1)

slot_temp_away : (s : Slot) (es : List Entry) → AllByRecursion IsEntry es → IsAway (temp_name (slot_name s)) es
slot_temp_away s [] each = tt
slot_temp_away s (e ∷ es) each = (
  (turned _ _ (plain_apart e.target (temp_name (slot_name s)) (target_plain e.target each.0.target) (temp_scratch (slot_name s))), temps_apart (slot_name s) e.target (target_no_slot e.target s each.0.target)),
  slot_temp_away s es each.1,
)

all_plain : (es : List Entry) → AllByRecursion IsEntry es → Each (λ e. (is_scratch e.target ≡ false) × (is_scratch (temp_of e) ≡ true)) es
all_plain [] each = tt
all_plain (e ∷ es) each = ((target_plain e.target each.0.target, temp_scratch e.target), all_plain es each.1)

same_slots : (s : Slot) (es : List Entry) → entries_for s (Ok (s, es)) ≡ Some es
same_slots Kernel es = refl
same_slots Libs es = refl

reads_own : (s : Slot) (es : List Entry) → AreEntries es → entries_in s (intent_text s es) ≡ Some es
unfolding entries_in
reads_own s es are = ap (entries_for s) (intent_again s es are) ∙ same_slots s es

pub is_batch : (s : Slot) (es : List Entry) → AreEntries es → IsBatch (batch s es)
is_batch s es are = record {
  are = are;
  apart = apart_from [] es are.each are.distinct;
  slot_away = slot_away s es are.each;
  temp_away = slot_temp_away s es are.each;
  plain = slot_plain s;
  scratch = temp_scratch (slot_name s);
  targets = all_plain es are.each;
  intent = reads_own s es are;
}

pub target_short : (t : List ℕ) → is_target t ≡ true → length t ≤ 248
target_short t is = leb-true (length t) 248 (is_target_parts t is).short
