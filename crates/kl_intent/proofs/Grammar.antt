-- What is printed is read, and what is read was printed so.
use Rattle.std.proofs.Common.{◌≡◌, ◌≢◌, ◌≤◌, ◌<◌, ◌+◌, ◌*◌, ℕ, zero, suc, Bool, true, false, not, cond, List, [], ◌∷◌, ◌++◌, length, refl, sym, ap, ◌∙◌, subst, arith, append_assoc, length-append, get_or, Option}
use Rattle.std.specs.Prelude.{Some, None, Ok, Err, Result, IfOk, OnErr, nat_lt, nat_le, is_none, codes}
use Rattle.std.specs.Option.{option_and_then}
use Rattle.std.specs.Str.{bytes_eq}
use Rattle.std.specs.List.{list_all, flat_map, AllByRecursion}
use Rattle.std.proofs.lemmas.List.{append-nil}
use Rattle.std.proofs.lemmas.Option.{option_and_then_some}
use Rattle.std.proofs.lemmas.Bool.{leb-true, le-ltb}
use Rattle.hex.specs.Hex.{encode_lower}
use Rattle.kl_base.specs.Names.{name_fault}
use Rattle.kl_base.specs.declared.class.Slot.{Slot}
use Rattle.kl_base.specs.declared.class.Slot.TheVariants.{Kernel, Libs}
use Rattle.kl_intent.specs.declared.intent.Entry.{Entry}
use Rattle.kl_intent.specs.declared.intent.Intent.{Intent}
use Rattle.kl_intent.specs.declared.read.IntentFault.{IntentFault}
use Rattle.kl_intent.specs.Reading.{Reads}
use Rattle.kl_intent.specs.IntentText.{is_target, is_target_name, IsOld, old_word, slot_word, entry_line, intent_text, is_new, AreDistinct, IsEntry, AreEntries, digest_of, old_of, target_of, entry_of_words, entry_of, wrong_line, end_of, is_empty, is_last, next_entry, next_line, entries_from, with_slot, read_libs, read_slot, read_head, intent_read, entries_of}
use Rattle.kl_base.proofs.Bools.{and_left, and_right, chosen, equal_bytes}
use Rattle.kl_text.specs.Lines.{line, cut, after_prefix}
use Rattle.kl_text.proofs.Cuts.{cut-append, append-cut, after_prefix-append, append-after_prefix, path-lacks}
use Rattle.kl_intent.proofs.Spelled.{digits_path, digits_count, old_path, target_path, digest_again, digest_from, old_again, old_from}

-- the words of an entry's line
abbrev pub behind : Entry → List ℕ
behind e = old_word e.old ++ (32 ∷ encode_lower e.new)

abbrev pub entry_text : Entry → List ℕ
entry_text e = codes "entry " ++ (e.target ++ (32 ∷ behind e))

words_again : (e : Entry) → IsEntry e → entry_of_words e.target (old_word e.old) (encode_lower e.new) ≡ Some e
unfolding entry_of_words
words_again e is =
    ap (λ q. option_and_then (λ t. option_and_then (λ o. option_and_then (λ n. Some (record { target = t; old = o; new = n })) (digest_of (encode_lower e.new))) (old_of (old_word e.old))) q) (ap (λ b. cond b (Some e.target) None) is.target)
    ∙ ap (λ q. option_and_then (λ o. option_and_then (λ n. Some (record { target = e.target; old = o; new = n })) (digest_of (encode_lower e.new))) q) (old_again e.old is.old)
    ∙ ap (λ q. option_and_then (λ n. Some (record { target = e.target; old = e.old; new = n })) q) (digest_again e.new is.new)

pub entry_again : (e : Entry) → IsEntry e → entry_of (entry_text e) ≡ Some e
unfolding entry_of
entry_again e is =
    let rest = λ (r : List ℕ). option_and_then (λ (t, u). option_and_then (λ (o, n). entry_of_words t o n) (cut 32 u)) (cut 32 r) in
    ap (λ q. option_and_then rest q) (after_prefix-append (codes "entry ") (e.target ++ (32 ∷ behind e)))
    ∙ ap (λ q. option_and_then (λ (t, u). option_and_then (λ (o, n). entry_of_words t o n) (cut 32 u)) q) (cut-append 32 e.target (behind e) (path-lacks 32 e.target (omega arith) (target_path e.target is.target)))
    ∙ ap (λ q. option_and_then (λ (o, n). entry_of_words e.target o n) q) (cut-append 32 (old_word e.old) (encode_lower e.new) (path-lacks 32 (old_word e.old) (omega arith) (old_path e.old is.old)))
    ∙ words_again e is

-- what a line that is read was printed from
pub record IsFrom (text : List ℕ) (e : Entry) : Type 0 where
  pub text_is : text ≡ entry_text e
  pub entry : IsEntry e

same_entry : (x y : Entry) → ◌≡◌ {A = Option Entry} (Some x) (Some y) → x ≡ y
same_entry x y e = cc

pub record AreWords (t o n : List ℕ) (e : Entry) : Type 0 where
  pub target : t ≡ e.target
  pub old : o ≡ old_word e.old
  pub new : n ≡ encode_lower e.new
  pub entry : IsEntry e

words_from : (t o n : List ℕ) (e : Entry) → entry_of_words t o n ≡ Some e → AreWords t o n e
unfolding entry_of_words
words_from t o n e is =
    option_and_then_some (λ x. option_and_then (λ y. option_and_then (λ z. Some (record { target = x; old = y; new = z })) (digest_of n)) (old_of o)) (target_of t) e is (λ x target more.
    option_and_then_some (λ y. option_and_then (λ z. Some (record { target = x; old = y; new = z })) (digest_of n)) (old_of o) e more (λ y old most.
    option_and_then_some (λ z. Some (record { target = x; old = y; new = z })) (digest_of n) e most (λ z new all.
    let made : record { target = x; old = y; new = z } ≡ e = same_entry (record { target = x; old = y; new = z }) e all in
    let t_is = chosen (is_target t) t x target in
    let o_is = old_from o y old in
    let n_is = digest_from n z new in
    subst (AreWords t o n) made (record { target = t_is.1; old = o_is.0; new = n_is.0; entry = record { target = ap is_target (sym t_is.1) ∙ t_is.0; old = o_is.1; new = n_is.1 } }))))

pub entry_from : (text : List ℕ) (e : Entry) → entry_of text ≡ Some e → IsFrom text e
unfolding entry_of
entry_from text e is =
    option_and_then_some (λ r. option_and_then (λ (t, u). option_and_then (λ (o, n). entry_of_words t o n) (cut 32 u)) (cut 32 r)) (after_prefix (codes "entry ") text) e is (λ r first more.
    option_and_then_some (λ (t, u). option_and_then (λ (o, n). entry_of_words t o n) (cut 32 u)) (cut 32 r) e more (λ p second most.
    option_and_then_some (λ (o, n). entry_of_words p.0 o n) (cut 32 p.1) e most (λ q third all.
    let words = words_from p.0 q.0 q.1 e all in
    record {
      text_is = append-after_prefix (codes "entry ") text r first
          ∙ ap (λ (l : List ℕ). codes "entry " ++ l) (append-cut 32 r p.0 p.1 second ∙ ap (λ (l : List ℕ). p.0 ++ (32 ∷ l)) (append-cut 32 p.1 q.0 q.1 third)
          ∙ ap (λ (l : List ℕ). l ++ (32 ∷ (q.0 ++ (32 ∷ q.1)))) words.target ∙ ap (λ (l : List ℕ). e.target ++ (32 ∷ (l ++ (32 ∷ q.1)))) words.old ∙ ap (λ (l : List ℕ). e.target ++ (32 ∷ (old_word e.old ++ (32 ∷ l)))) words.new);
      entry = words.entry;
    })))

both_all : (a b : List ℕ) (test : ℕ → Bool) → list_all test a ≡ true → list_all test b ≡ true → list_all test (a ++ b) ≡ true
both_all [] b test p q = q
both_all (x ∷ a) b test p q = rw (and_left (test x) (list_all test a) p, both_all a b test (and_right (test x) (list_all test a) p) q) refl

-- an entry's line ends where it is cut
pub entry_cut : (e : Entry) (rest : List ℕ) → IsEntry e → cut 10 (entry_line e ++ rest) ≡ Some (entry_text e, rest)
entry_cut e rest is =
    ap (cut 10) (append_assoc (entry_text e) (10 ∷ []) rest)
    ∙ cut-append 10 (entry_text e) rest (both_all (codes "entry ") (e.target ++ (32 ∷ behind e)) _ refl
    (both_all e.target (32 ∷ behind e) _ (path-lacks 10 e.target (omega arith) (target_path e.target is.target))
    (both_all (old_word e.old) (32 ∷ encode_lower e.new) _ (path-lacks 10 (old_word e.old) (omega arith) (old_path e.old is.old)) (path-lacks 10 (encode_lower e.new) (omega arith) (digits_path e.new is.new)))))

not_last : (before : List Entry) (e : Entry) → is_last before (entry_text e) ≡ false
not_last [] e = refl
not_last (x ∷ before) e = refl

with_end : (es : List Entry) → List ℕ
with_end es = flat_map entry_line es ++ line (codes "end")

-- the printed entries are read
pub entries_again : (es before : List Entry) (left : ℕ) → AllByRecursion IsEntry es → AreDistinct before es → length es ≤ left → 0 < length before + length es → entries_from left before (flat_map entry_line es ++ line (codes "end")) ≡ Ok (before ++ es)
unfolding entries_from
entries_again [] [] left each distinct few some = absurd (omega (arith, some))
entries_again [] (x ∷ before) zero each distinct few some = ap (λ (l : List Entry). Ok l) (sym (append-nil (x ∷ before)))
entries_again [] (x ∷ before) (suc left) each distinct few some = ap (λ (l : List Entry). Ok l) (sym (append-nil (x ∷ before)))
entries_again (e ∷ es) before zero each distinct few some = absurd (omega (arith, few))
entries_again (e ∷ es) before (suc left) each distinct few some =
    let more = λ (x : Entry) (rest : List ℕ). entries_from left (before ++ x ∷ []) rest in
    let rest = flat_map entry_line es ++ line (codes "end") in
    ap (λ (l : List ℕ). next_line before (cut 10 l) more) (append_assoc (entry_line e) (flat_map entry_line es) (line (codes "end")))
    ∙ ap (λ o. next_line before o more) (entry_cut e rest each.0)
    ∙ ap (λ b. cond b (end_of before rest) (next_entry before (entry_of (entry_text e)) (λ x. more x rest))) (not_last before e)
    ∙ ap (λ o. next_entry before o (λ x. more x rest)) (entry_again e each.0)
    ∙ ap (λ b. cond b (more e rest) (wrong_line before)) distinct.0
    ∙ entries_again es (before ++ e ∷ []) left each.1 distinct.1 (omega (arith, few)) (omega (arith, length-append before (e ∷ [])))
    ∙ ap (λ (l : List Entry). Ok l) (append_assoc before (e ∷ []) es)

-- what is read of the entries
pub record AreFrom (before : List Entry) (left : ℕ) (text : List ℕ) (all : List Entry) : Type 0 where
  pub entries : List Entry
  pub all_is : all ≡ before ++ entries
  pub text_is : text ≡ flat_map entry_line entries ++ line (codes "end")
  pub each : AllByRecursion IsEntry entries
  pub distinct : AreDistinct before entries
  pub few : length entries ≤ left
  pub some : 0 < length all

wrong : {A P : Type 0} (n : ℕ) (x : A) → ◌≡◌ {A = Result A ℕ} (Err n) (Ok x) → P
wrong n x e = cc

not_empty : (before : List Entry) → not (is_empty before) ≡ true → 0 < length before
not_empty [] e = cc
not_empty (x ∷ before) e = omega arith

ended : (before : List Entry) (left : ℕ) (text l rest : List ℕ) (all : List Entry) → cut 10 text ≡ Some (l, rest) → is_last before l ≡ true → end_of before rest ≡ Ok all → AreFrom before left text all
ended before left text l [] all cuts last is =
    let same : before ≡ all = ok_same before all is in
    record {
      entries = [];
      all_is = sym same ∙ sym (append-nil before);
      text_is = append-cut 10 text l [] cuts ∙ ap (λ (w : List ℕ). w ++ 10 ∷ []) (equal_bytes l (codes "end") (and_right (not (is_empty before)) (bytes_eq l (codes "end")) last));
      each = tt;
      distinct = tt;
      few = omega arith;
      some = subst (λ (l : List Entry). 0 < length l) same (not_empty before (and_left (not (is_empty before)) (bytes_eq l (codes "end")) last));
    }
  where
    ok_same : (x y : List Entry) → ◌≡◌ {A = Result (List Entry) ℕ} (Ok x) (Ok y) → x ≡ y
    ok_same x y e = cc
ended before left text l (b ∷ rest) all cuts last is = wrong (length before + 4) all is

-- one entry and those behind it
joined : (before : List Entry) (left : ℕ) (text l rest : List ℕ) (e : Entry) (all : List Entry) → cut 10 text ≡ Some (l, rest) → entry_of l ≡ Some e → is_new e.target before ≡ true → AreFrom (before ++ e ∷ []) left rest all → AreFrom before (suc left) text all
joined before left text l rest e all cuts is new more =
    let from = entry_from l e is in
    record {
      entries = e ∷ more.entries;
      all_is = more.all_is ∙ append_assoc before (e ∷ []) more.entries;
      text_is = append-cut 10 text l rest cuts ∙ ap (λ (w : List ℕ). w ++ 10 ∷ rest) from.text_is ∙ ap (λ (w : List ℕ). entry_text e ++ 10 ∷ w) more.text_is
          ∙ sym (append_assoc (entry_text e) (10 ∷ []) (flat_map entry_line more.entries ++ line (codes "end"))) ∙ sym (append_assoc (entry_line e) (flat_map entry_line more.entries) (line (codes "end")));
      each = (from.entry, more.each);
      distinct = (new, more.distinct);
      few = omega (arith, more.few);
      some = more.some;
    }

-- the cases of a line that isn't the last
line_from : (before : List Entry) (o : Option Entry) (left : ℕ) (text l rest : List ℕ) (all : List Entry) (more : Entry → List ℕ → Result (List Entry) ℕ) → cut 10 text ≡ Some (l, rest) → entry_of l ≡ o
    → next_entry before o (λ x. more x rest) ≡ Ok all → ((e : Entry) → more e rest ≡ Ok all → AreFrom (before ++ e ∷ []) left rest all) → AreFrom before (suc left) text all
line_from before None left text l rest all more cuts is reads go = wrong (length before + 3) all reads
line_from before (Some e) left text l rest all more cuts is reads go = cases (is_new e.target before) refl
  where
    cases : (b : Bool) → is_new e.target before ≡ b → AreFrom before (suc left) text all
    cases true new = joined before left text l rest e all cuts is new (go e (sym (ap (λ b. cond b (more e rest) (wrong_line before)) new) ∙ reads))
    cases false old = wrong (length before + 3) all (sym (ap (λ b. cond b (more e rest) (wrong_line before)) old) ∙ reads)

next_from : (before : List Entry) (o : Option (List ℕ × List ℕ)) (left : ℕ) (text : List ℕ) (all : List Entry) (more : Entry → List ℕ → Result (List Entry) ℕ) → cut 10 text ≡ o → next_line before o more ≡ Ok all
    → ((e : Entry) (rest : List ℕ) → more e rest ≡ Ok all → AreFrom (before ++ e ∷ []) left rest all) → AreFrom before (suc left) text all
next_from before None left text all more cuts reads go = wrong (length before + 3) all reads
next_from before (Some (l, rest)) left text all more cuts reads go = cases (is_last before l) refl
  where
    cases : (b : Bool) → is_last before l ≡ b → AreFrom before (suc left) text all
    cases true last = ended before (suc left) text l rest all cuts last (sym (ap (λ b. cond b (end_of before rest) (next_entry before (entry_of l) (λ x. more x rest))) last) ∙ reads)
    cases false more_lines = line_from before (entry_of l) left text l rest all more cuts refl (sym (ap (λ b. cond b (end_of before rest) (next_entry before (entry_of l) (λ x. more x rest))) more_lines) ∙ reads) (λ e. go e rest)

pub none_left : (before : List Entry) (o : Option Entry) (rest : List ℕ) (all : List Entry) → next_entry before o (λ x. wrong_line before) ≡ Ok all → ⊥
none_left before None rest all e = wrong (length before + 3) all e
none_left before (Some x) rest all e = cases (is_new x.target before) refl
  where
    cases : (b : Bool) → is_new x.target before ≡ b → ⊥
    cases true is = wrong (length before + 3) all (sym (ap (λ b. cond b (wrong_line before) (wrong_line before)) is) ∙ e)
    cases false is = wrong (length before + 3) all (sym (ap (λ b. cond b (wrong_line before) (wrong_line before)) is) ∙ e)

last_from : (before : List Entry) (o : Option (List ℕ × List ℕ)) (text : List ℕ) (all : List Entry) → cut 10 text ≡ o → next_line before o (λ e rest. wrong_line before) ≡ Ok all → AreFrom before 0 text all
last_from before None text all cuts reads = wrong (length before + 3) all reads
last_from before (Some (l, rest)) text all cuts reads = cases (is_last before l) refl
  where
    cases : (b : Bool) → is_last before l ≡ b → AreFrom before 0 text all
    cases true last = ended before 0 text l rest all cuts last (sym (ap (λ b. cond b (end_of before rest) (next_entry before (entry_of l) (λ x. wrong_line before))) last) ∙ reads)
    cases false other = absurd (none_left before (entry_of l) rest all (sym (ap (λ b. cond b (end_of before rest) (next_entry before (entry_of l) (λ x. wrong_line before))) other) ∙ reads))

pub entries_from_text : (left : ℕ) (before : List Entry) (text : List ℕ) (all : List Entry) → entries_from left before text ≡ Ok all → AreFrom before left text all
unfolding entries_from
entries_from_text zero before text all reads = last_from before (cut 10 text) text all refl reads
entries_from_text (suc left) before text all reads = next_from before (cut 10 text) left text all (λ x rest. entries_from left (before ++ x ∷ []) rest) refl reads (λ e rest. entries_from_text left (before ++ e ∷ []) rest all)

-- how long the lines are
pub entry_length : (e : Entry) → IsEntry e → length (entry_line e) ≤ 385
entry_length e is =
    let target = leb-true (length e.target) 248 (and_left (nat_le (length e.target) 248) _ (and_right (is_none (name_fault e.target)) (is_target_name e.target) is.target)) in
    let old = old_length e.old is.old in
    omega (arith, target, old, digits_count e.new is.new, length-append (entry_text e) (10 ∷ []), length-append (codes "entry ") (e.target ++ (32 ∷ behind e)), length-append e.target (32 ∷ behind e), length-append (old_word e.old) (32 ∷ encode_lower e.new))
  where
    old_length : (o : Option (List ℕ)) → IsOld o → length (old_word o) ≤ 64
    old_length None is = omega arith
    old_length (Some d) is = omega (arith, digits_count d is)

pub entries_length : (es : List Entry) → AllByRecursion IsEntry es → length (flat_map entry_line es) ≤ 385 * length es
entries_length [] each = omega arith
entries_length (e ∷ es) each = omega (arith, entry_length e each.0, entries_length es each.1, length-append (entry_line e) (flat_map entry_line es))

slot_length : (slot : Slot) → length (line (codes "batch " ++ slot_word slot)) ≤ 13
slot_length Kernel = omega arith
slot_length Libs = omega arith

pub text_length : (slot : Slot) (es : List Entry) → AllByRecursion IsEntry es → length es ≤ 8 → length (intent_text slot es) ≤ 4096
text_length slot es each few =
    let tail = flat_map entry_line es ++ line (codes "end") in
    omega (arith, few, entries_length es each, slot_length slot, length-append (line (codes "relink intent 1")) (line (codes "batch " ++ slot_word slot) ++ tail), length-append (line (codes "batch " ++ slot_word slot)) tail, length-append (flat_map entry_line es) (line (codes "end")))

slot_again : (slot : Slot) (es : List Entry) → AreEntries es → read_slot (line (codes "batch " ++ slot_word slot) ++ (flat_map entry_line es ++ line (codes "end"))) (after_prefix (line (codes "batch kernel")) (line (codes "batch " ++ slot_word slot) ++ (flat_map entry_line es ++ line (codes "end")))) ≡ Ok (slot, es)
slot_again Kernel es are =
    let tail = flat_map entry_line es ++ line (codes "end") in
    ap (read_slot (line (codes "batch kernel") ++ tail)) (after_prefix-append (line (codes "batch kernel")) tail) ∙ ap (with_slot Kernel) (entries_again es [] 8 are.each are.distinct are.few (omega (arith, are.some)))
slot_again Libs es are =
    let tail = flat_map entry_line es ++ line (codes "end") in
    ap (λ o. read_libs o) (after_prefix-append (line (codes "batch libs")) tail) ∙ ap (with_slot Libs) (entries_again es [] 8 are.each are.distinct are.few (omega (arith, are.some)))

-- the text of an intent is read as that intent
pub intent_again : (slot : Slot) (es : List Entry) → AreEntries es → intent_read (intent_text slot es) ≡ Ok (slot, es)
unfolding intent_read
intent_again slot es are =
    let rest = line (codes "batch " ++ slot_word slot) ++ (flat_map entry_line es ++ line (codes "end")) in
    ap (λ b. cond b (Err 0) (read_head (after_prefix (line (codes "relink intent 1")) (intent_text slot es)))) (le-ltb 4096 (length (intent_text slot es)) (text_length slot es are.each are.few))
    ∙ ap read_head (after_prefix-append (line (codes "relink intent 1")) rest) ∙ slot_again slot es are

-- what an intent is read from
pub record IsIntentOf (bytes : List ℕ) (slot : Slot) (es : List Entry) : Type 0 where
  pub entries : AreEntries es
  pub text : bytes ≡ intent_text slot es

wrong_pair : {P : Type 0} (n : ℕ) (x : Slot × List Entry) → ◌≡◌ {A = Result (Slot × List Entry) ℕ} (Err n) (Ok x) → P
wrong_pair n x e = cc

abbrev ok_of : List Entry → Result (List Entry) ℕ
ok_of es = Ok es

pub with_slot_ok : (s slot : Slot) (r : Result (List Entry) ℕ) (es : List Entry) → with_slot s r ≡ Ok (slot, es) → (s ≡ slot) × (r ≡ Ok es)
with_slot_ok s slot (Ok xs) es e = (ap (λ (p : Slot × List Entry). p.0) (pair e), ap (λ (p : Slot × List Entry). ok_of p.1) (pair e))
  where
    pair : ◌≡◌ {A = Result (Slot × List Entry) ℕ} (Ok (s, xs)) (Ok (slot, es)) → ◌≡◌ {A = Slot × List Entry} (s, xs) (slot, es)
    pair p = cc
with_slot_ok s slot (Err n) es e = wrong_pair n (slot, es) e

entries_are : (rest : List ℕ) (es : List Entry) → entries_from 8 [] rest ≡ Ok es → AreEntries es × (rest ≡ flat_map entry_line es ++ line (codes "end"))
entries_are rest es is =
    let from = entries_from_text 8 [] rest es is in
    let all : es ≡ from.entries = from.all_is in (
      record {
        some = from.some;
        few = omega (arith, ap length all, from.few);
        each = subst (AllByRecursion IsEntry) (sym all) from.each;
        distinct = subst (AreDistinct []) (sym all) from.distinct;
      },
      from.text_is ∙ ap (λ (l : List Entry). flat_map entry_line l ++ line (codes "end")) (sym all),
    )

slot_from : (text : List ℕ) (o : Option (List ℕ)) (slot : Slot) (es : List Entry) → after_prefix (line (codes "batch kernel")) text ≡ o → read_slot text o ≡ Ok (slot, es)
    → AreEntries es × (text ≡ line (codes "batch " ++ slot_word slot) ++ (flat_map entry_line es ++ line (codes "end")))
slot_from text (Some rest) slot es found is =
    let both = with_slot_ok Kernel slot (entries_from 8 [] rest) es is in
    let are = entries_are rest es both.1 in
    (are.0, append-after_prefix (line (codes "batch kernel")) text rest found ∙ ap (λ (l : List ℕ). line (codes "batch kernel") ++ l) are.1 ∙ ap (λ (s : Slot). line (codes "batch " ++ slot_word s) ++ (flat_map entry_line es ++ line (codes "end"))) both.0)
slot_from text None slot es found is = libs (after_prefix (line (codes "batch libs")) text) refl is
  where
    libs : (o : Option (List ℕ)) → after_prefix (line (codes "batch libs")) text ≡ o → read_libs o ≡ Ok (slot, es) → AreEntries es × (text ≡ line (codes "batch " ++ slot_word slot) ++ (flat_map entry_line es ++ line (codes "end")))
    libs None none e = wrong_pair 2 (slot, es) e
    libs (Some rest) some e =
        let both = with_slot_ok Libs slot (entries_from 8 [] rest) es e in
        let are = entries_are rest es both.1 in
        (are.0, append-after_prefix (line (codes "batch libs")) text rest some ∙ ap (λ (l : List ℕ). line (codes "batch libs") ++ l) are.1 ∙ ap (λ (s : Slot). line (codes "batch " ++ slot_word s) ++ (flat_map entry_line es ++ line (codes "end"))) both.0)

head_from : (bytes : List ℕ) (o : Option (List ℕ)) (slot : Slot) (es : List Entry) → after_prefix (line (codes "relink intent 1")) bytes ≡ o → read_head o ≡ Ok (slot, es) → IsIntentOf bytes slot es
head_from bytes None slot es found is = wrong_pair 1 (slot, es) is
head_from bytes (Some rest) slot es found is =
    let parts = slot_from rest (after_prefix (line (codes "batch kernel")) rest) slot es refl is in
    record { entries = parts.0; text = append-after_prefix (line (codes "relink intent 1")) bytes rest found ∙ ap (λ (l : List ℕ). line (codes "relink intent 1") ++ l) parts.1 }

pub short : (b : Bool) (r : Result (Slot × List Entry) ℕ) (x : Slot × List Entry) → cond b (Err 0) r ≡ Ok x → r ≡ Ok x
short true r x e = wrong_pair 0 x e
short false r x e = e

pub intent_from : (bytes : List ℕ) (slot : Slot) (es : List Entry) → intent_read bytes ≡ Ok (slot, es) → IsIntentOf bytes slot es
unfolding intent_read
intent_from bytes slot es is =
    head_from bytes (after_prefix (line (codes "relink intent 1")) bytes) slot es refl (short (nat_lt 4096 (length bytes)) (read_head (after_prefix (line (codes "relink intent 1")) bytes)) (slot, es) is)

-- an entry among those of an intent
pub entry_at : (es : List Entry) (i : ℕ) (e : Entry) → AllByRecursion IsEntry es → i < length es → e ≡ get_or es i e → IsEntry e
entry_at [] i e each less is = absurd (omega (arith, less))
entry_at (x ∷ es) zero e each less is = subst IsEntry (sym is) each.0
entry_at (x ∷ es) (suc i) e each less is = entry_at es i e each.1 (omega arith) is

-- what the reader's answer says of its text
pub entries_read : (bytes : List ℕ) (r : Result Intent IntentFault) → Reads r (intent_read bytes) → IfOk r (λ i. AreEntries (entries_of i))
entries_read bytes (Ok i) reads = (intent_from bytes i.slot (entries_of i) reads.0).entries
entries_read bytes (Err f) reads = tt

pub text_read : (bytes : List ℕ) (r : Result Intent IntentFault) → Reads r (intent_read bytes) → IfOk r (λ i. bytes ≡ intent_text i.slot (entries_of i))
text_read bytes (Ok i) reads = (intent_from bytes i.slot (entries_of i) reads.0).text
text_read bytes (Err f) reads = tt

pub refused_text : (bytes : List ℕ) (r : Result Intent IntentFault) → Reads r (intent_read bytes) → OnErr r ((slot : Slot) (es : List Entry) → AreEntries es → bytes ≢ intent_text slot es)
refused_text bytes (Ok i) reads = tt
refused_text bytes (Err f) reads = λ slot es are same. wrong_pair f.line (slot, es) (sym reads ∙ ap intent_read same ∙ intent_again slot es are)

same_pair : (x y : Slot × List Entry) → ◌≡◌ {A = Result (Slot × List Entry) ℕ} (Ok x) (Ok y) → x ≡ y
same_pair x y e = cc

-- what was printed is given back
pub pair_back : (bytes : List ℕ) (i : Intent) → Reads (Ok i) (intent_read bytes) → (slot : Slot) (es : List Entry) → AreEntries es → bytes ≡ intent_text slot es → ◌≡◌ {A = Slot × List Entry} (i.slot, entries_of i) (slot, es)
pair_back bytes i reads slot es are same = same_pair (i.slot, entries_of i) (slot, es) (sym reads.0 ∙ ap intent_read same ∙ intent_again slot es are)

pub slot_back : (bytes : List ℕ) (r : Result Intent IntentFault) → Reads r (intent_read bytes) → IfOk r (λ i. (slot : Slot) (es : List Entry) → AreEntries es → bytes ≡ intent_text slot es → i.slot ≡ slot)
slot_back bytes (Ok i) reads = λ slot es are same. ap (λ (p : Slot × List Entry). p.0) (pair_back bytes i reads slot es are same)
slot_back bytes (Err f) reads = tt

pub entries_back : (bytes : List ℕ) (r : Result Intent IntentFault) → Reads r (intent_read bytes) → IfOk r (λ i. (slot : Slot) (es : List Entry) → AreEntries es → bytes ≡ intent_text slot es → entries_of i ≡ es)
entries_back bytes (Ok i) reads = λ slot es are same. ap (λ (p : Slot × List Entry). p.1) (pair_back bytes i reads slot es are same)
entries_back bytes (Err f) reads = tt
