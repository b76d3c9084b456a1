-- The line that the reader tells is the first one outside the grammar.
use Rattle.std.proofs.Common.{◌≡◌, ◌≤◌, ◌<◌, ◌+◌, ℕ, zero, suc, Bool, true, false, cond, List, [], ◌∷◌, ◌++◌, length, drop, refl, sym, ap, ◌∙◌, subst, arith, append_assoc, length-append, Option}
use Rattle.std.specs.Prelude.{Some, None, Ok, Err, Result, IfErr, nat_lt, codes}
use Rattle.std.specs.List.{flat_map, slice_index, AllByRecursion}
use Rattle.std.proofs.lemmas.List.{append-nil}
use Rattle.std.proofs.lemmas.Bool.{lt-ltb, le-ltb}
use Rattle.kl_base.specs.declared.class.Slot.{Slot}
use Rattle.kl_base.specs.declared.class.Slot.TheVariants.{Kernel, Libs}
use Rattle.kl_intent.specs.declared.intent.Entry.{Entry}
use Rattle.kl_intent.specs.declared.intent.Intent.{Intent}
use Rattle.kl_intent.specs.declared.read.IntentFault.{IntentFault}
use Rattle.kl_intent.specs.Reading.{Reads}
use Rattle.kl_intent.specs.Outside.{IsFirstOutside}
use Rattle.kl_intent.specs.IntentText.{slot_word, entry_line, intent_text, is_new, AreDistinct, IsEntry, AreEntries, entry_of, wrong_line, end_of, is_last, next_entry, next_line, entries_from, with_slot, read_libs, read_slot, read_head, intent_read}
use Rattle.kl_base.proofs.Bools.{equal_bytes}
use Rattle.kl_text.specs.Lines.{line, IsLine, cut, after_prefix}
use Rattle.kl_text.proofs.Cuts.{line_cut, same_line, append-cut, cut-line, after_prefix-append, append-after_prefix}
use Rattle.kl_intent.proofs.Grammar.{entry_from, intent_again, short, with_slot_ok}

cut_first : (l m rest more : List ℕ) → ◌≡◌ {A = Option (List ℕ × List ℕ)} (Some (l, rest)) (Some (m, more)) → l ≡ m
cut_first l m rest more e = let p : (l, rest) ≡ (m, more) = cc in ap (λ (q : List ℕ × List ℕ). q.0) p

-- an entry, for a text to go on with
abbrev zeros : ℕ → List ℕ
zeros zero = []
zeros (suc n) = 0 ∷ zeros n

zeros_bytes : (n i : ℕ) → slice_index (zeros n) i < 256
zeros_bytes zero i = omega arith
zeros_bytes (suc n) zero = omega arith
zeros_bytes (suc n) (suc i) = zeros_bytes n i

abbrev sample : Entry
sample = record { target = codes "/a"; old = None; new = zeros 32 }

sample_is : IsEntry sample
sample_is = record { target = refl; old = tt; new = record { count = refl; bytes = zeros_bytes 32 } }

-- the entries behind these, of which so many may come, with the last line, begin so
record GoesOn (left : ℕ) (before : List Entry) (start : List ℕ) : Type 0 where
  pub entries : List Entry
  pub rest : List ℕ
  pub each : AllByRecursion IsEntry entries
  pub distinct : AreDistinct before entries
  pub few : length entries ≤ left
  pub some : 0 < length before + length entries
  pub text : flat_map entry_line entries ++ line (codes "end") ≡ start ++ rest

goes_on : (left : ℕ) (before : List Entry) → 0 < length before + left → GoesOn left before []
goes_on left (e ∷ before) some = record { entries = []; rest = line (codes "end"); each = tt; distinct = tt; few = omega arith; some = omega arith; text = refl }
goes_on zero [] some = absurd (omega (arith, some))
goes_on (suc left) [] some =
    record { entries = sample ∷ []; rest = flat_map entry_line (sample ∷ []) ++ line (codes "end"); each = (sample_is, tt); distinct = (refl, tt); few = omega arith; some = omega arith; text = refl }

-- where the reader of entries stops
record IsStuck (left : ℕ) (before : List Entry) (bytes : List ℕ) (n : ℕ) : Type 0 where
  pub lines : List (List ℕ)
  pub rest : List ℕ
  pub each : AllByRecursion IsLine lines
  pub count : n ≡ length before + 3 + length lines
  pub text : bytes ≡ flat_map line lines ++ rest
  pub goes : GoesOn left before (flat_map line lines)
  pub stops : (next more end : List ℕ) (all : List Entry) → IsLine next → rest ≡ line next ++ more → entries_from left before (flat_map line lines ++ (line next ++ end)) ≡ Ok all → ⊥

wrong_here : (left : ℕ) (before : List Entry) (bytes : List ℕ) (n : ℕ) → length before + 3 ≡ n → 0 < length before + left
    → ((next more end : List ℕ) (all : List Entry) → IsLine next → bytes ≡ line next ++ more → entries_from left before (line next ++ end) ≡ Ok all → ⊥) → IsStuck left before bytes n
wrong_here left before bytes n is some stops =
    record { lines = []; rest = bytes; each = tt; count = omega (arith, is); text = refl; goes = goes_on left before some; stops = stops }

same_number : {A : Type 0} (n m : ℕ) → ◌≡◌ {A = Result A ℕ} (Err n) (Err m) → n ≡ m
same_number n m e = cc

ok_err : {A P : Type 0} (x : A) (n : ℕ) → ◌≡◌ {A = Result A ℕ} (Ok x) (Err n) → P
ok_err x n e = cc

some_none : {A P : Type 0} (x : A) → ◌≡◌ {A = Option A} (Some x) None → P
some_none x e = cc

-- what the lines of a reader are, with what it does behind an entry
abbrev Reader : ℕ → List Entry → (Entry → List ℕ → Result (List Entry) ℕ) → Type 0
Reader left before more = (text : List ℕ) → entries_from left before text ≡ next_line before (cut 10 text) more

-- behind the last line
behind_last : (left : ℕ) (before : List Entry) (bytes l rest : List ℕ) (n : ℕ) (more : Entry → List ℕ → Result (List Entry) ℕ) → Reader left before more → cut 10 bytes ≡ Some (l, rest) → is_last before l ≡ true
    → 0 < length before + left → end_of before rest ≡ Err n → IsStuck left before bytes n
behind_last left before bytes l [] n more reads cuts last some is = ok_err before n is
behind_last left (e ∷ before) bytes l (b ∷ rest) n more reads cuts last some is = record {
  lines = l ∷ [];
  rest = b ∷ rest;
  each = (cut-line 10 bytes l (b ∷ rest) cuts, tt);
  count = omega (arith, same_number (length (e ∷ before) + 4) n is);
  text = append-cut 10 bytes l (b ∷ rest) cuts ∙ sym (append_assoc l (10 ∷ []) (b ∷ rest)) ∙ ap (λ (w : List ℕ). w ++ b ∷ rest) (sym (append-nil (line l)));
  goes = record { entries = []; rest = []; each = tt; distinct = tt; few = omega arith; some = omega arith; text = ends };
  stops = λ next more end all is here ok. never next end all (sym (read_end next end) ∙ ok);
}
  where
    ends : line (codes "end") ≡ (line l ++ []) ++ []
    ends = sym (ap (λ (w : List ℕ). (line w ++ []) ++ []) (equal_bytes l (codes "end") last))

    read_end : (next end : List ℕ) → entries_from left (e ∷ before) ((line l ++ []) ++ (line next ++ end)) ≡ end_of (e ∷ before) (line next ++ end)
    read_end next end =
        let after = line next ++ end in
        reads ((line l ++ []) ++ after)
        ∙ ap (λ o. next_line (e ∷ before) o more) (ap (λ (w : List ℕ). cut 10 (w ++ after)) (append-nil (line l)) ∙ line_cut l after (cut-line 10 bytes l (b ∷ rest) cuts))
        ∙ ap (λ t. cond t (end_of (e ∷ before) after) (next_entry (e ∷ before) (entry_of l) (λ x. more x after))) last

    never : (next end : List ℕ) (all : List Entry) → end_of (e ∷ before) (line next ++ end) ≡ Ok all → ⊥
    never [] end all ok = ok_err all (length (e ∷ before) + 4) (sym ok)
    never (x ∷ next) end all ok = ok_err all (length (e ∷ before) + 4) (sym ok)
behind_last left [] bytes l (b ∷ rest) n more reads cuts last some is = let no : false ≡ true = last in cc

-- no line behind this one makes it an entry
never : (left : ℕ) (before : List Entry) (l next end : List ℕ) (all : List Entry) (more : Entry → List ℕ → Result (List Entry) ℕ) → Reader left before more → IsLine next → l ≡ next → is_last before l ≡ false
    → ((e : Entry) → entry_of l ≡ Some e → is_new e.target before ≡ true → more e end ≡ Ok all → ⊥) → entries_from left before (line next ++ end) ≡ Ok all → ⊥
never left before l next end all more reads is same last none ok =
    let at : entries_from left before (line next ++ end) ≡ next_entry before (entry_of l) (λ e. more e end) =
    reads (line next ++ end) ∙ ap (λ o. next_line before o more) (line_cut next end is ∙ ap (λ (w : List ℕ). Some (w, end)) (sym same))
    ∙ ap (λ t. cond t (end_of before end) (next_entry before (entry_of l) (λ e. more e end))) last in
    cases (entry_of l) refl (sym at ∙ ok)
  where
    cases : (o : Option Entry) → entry_of l ≡ o → next_entry before o (λ e. more e end) ≡ Ok all → ⊥
    cases None is_none e = ok_err all (length before + 3) (sym e)
    cases (Some x) is_some e = either (is_new x.target before) refl
      where
        either : (b : Bool) → is_new x.target before ≡ b → ⊥
        either true new = none x is_some new (sym (ap (λ t. cond t (more x end) (wrong_line before)) new) ∙ e)
        either false old = ok_err all (length before + 3) (sym e ∙ ap (λ t. cond t (more x end) (wrong_line before)) old)

-- the cases of a line
next_stuck : (left : ℕ) (before : List Entry) (o : Option (List ℕ × List ℕ)) (bytes : List ℕ) (n : ℕ) (more : Entry → List ℕ → Result (List Entry) ℕ) → Reader left before more → cut 10 bytes ≡ o → 0 < length before + left → next_line before o more ≡ Err n
    → ((l rest : List ℕ) (e : Entry) → cut 10 bytes ≡ Some (l, rest) → is_last before l ≡ false → entry_of l ≡ Some e → is_new e.target before ≡ true → more e rest ≡ Err n → IsStuck left before bytes n) → IsStuck left before bytes n
next_stuck left before None bytes n more reads cuts some wrong go =
    wrong_here left before bytes n (same_number (length before + 3) n wrong) some (λ next rest end all is here ok. some_none (next, rest) (sym (line_cut next rest is) ∙ ap (cut 10) (sym here) ∙ cuts))
next_stuck left before (Some (l, rest)) bytes n more reads cuts some wrong go = last_or (is_last before l) refl
  where
    not_entry : is_last before l ≡ false → length before + 3 ≡ n → ((e : Entry) → entry_of l ≡ Some e → is_new e.target before ≡ true → ⊥) → IsStuck left before bytes n
    not_entry last number none =
        wrong_here left before bytes n number some (λ next after end all is here ok.
        never left before l next end all more reads is (cut_first l next rest after (sym cuts ∙ ap (cut 10) here ∙ line_cut next after is)) last (λ e entry new same. none e entry new) ok)

    entry_or : (o : Option Entry) → entry_of l ≡ o → is_last before l ≡ false → next_entry before o (λ e. more e rest) ≡ Err n → IsStuck left before bytes n
    entry_or None entry last e = not_entry last (same_number (length before + 3) n e) (λ x is new. some_none x (sym is ∙ entry))
    entry_or (Some x) entry last e = new_or (is_new x.target before) refl
      where
        one : (y : Entry) → ◌≡◌ {A = Option Entry} (Some x) (Some y) → x ≡ y
        one y p = cc

        new_or : (b : Bool) → is_new x.target before ≡ b → IsStuck left before bytes n
        new_or true new = go l rest x cuts last entry new (sym (ap (λ t. cond t (more x rest) (wrong_line before)) new) ∙ e)
        new_or false old =
            not_entry last (same_number (length before + 3) n (sym (ap (λ t. cond t (more x rest) (wrong_line before)) old) ∙ e)) (λ y is new.
            let no : false ≡ true = sym old ∙ ap (λ (z : Entry). is_new z.target before) (one y (sym entry ∙ is)) ∙ new in cc)

    last_or : (b : Bool) → is_last before l ≡ b → IsStuck left before bytes n
    last_or true last = behind_last left before bytes l rest n more reads cuts last some (sym (ap (λ t. cond t (end_of before rest) (next_entry before (entry_of l) (λ x. more x rest))) last) ∙ wrong)
    last_or false last = entry_or (entry_of l) refl last (sym (ap (λ t. cond t (end_of before rest) (next_entry before (entry_of l) (λ x. more x rest))) last) ∙ wrong)

-- one entry more is read
one_more : (left : ℕ) (before : List Entry) (l rest : List ℕ) (e : Entry) → IsLine l → is_last before l ≡ false → entry_of l ≡ Some e → is_new e.target before ≡ true → entries_from (suc left) before (line l ++ rest) ≡ entries_from left (before ++ e ∷ []) rest
unfolding entries_from
one_more left before l rest e is last entry new =
    let more = λ (x : Entry) (after : List ℕ). entries_from left (before ++ x ∷ []) after in
    ap (λ o. next_line before o more) (line_cut l rest is)
    ∙ ap (λ b. cond b (end_of before rest) (next_entry before (entry_of l) (λ x. more x rest))) last
    ∙ ap (λ o. next_entry before o (λ x. more x rest)) entry
    ∙ ap (λ b. cond b (more e rest) (wrong_line before)) new

-- an entry, and where the reader stops behind it
join : (left : ℕ) (before : List Entry) (bytes l rest : List ℕ) (e : Entry) (n : ℕ) → cut 10 bytes ≡ Some (l, rest) → is_last before l ≡ false → entry_of l ≡ Some e → is_new e.target before ≡ true → IsStuck left (before ++ e ∷ []) rest n → IsStuck (suc left) before bytes n
join left before bytes l rest e n cuts last entry new stuck =
    let from = entry_from l e entry in
    let is = cut-line 10 bytes l rest cuts in
    let begun = flat_map line stuck.lines in
    let goes = stuck.goes in
    record {
      lines = l ∷ stuck.lines;
      rest = stuck.rest;
      each = (is, stuck.each);
      count = omega (arith, stuck.count, length-append before (e ∷ []));
      text = append-cut 10 bytes l rest cuts ∙ sym (append_assoc l (10 ∷ []) rest) ∙ ap (λ (w : List ℕ). line l ++ w) stuck.text ∙ sym (append_assoc (line l) begun stuck.rest);
      goes = record {
        entries = e ∷ goes.entries;
        rest = goes.rest;
        each = (from.entry, goes.each);
        distinct = (new, goes.distinct);
        few = omega (arith, goes.few);
        some = omega arith;
        text = append_assoc (entry_line e) (flat_map entry_line goes.entries) (line (codes "end")) ∙ ap (λ (w : List ℕ). entry_line e ++ w) goes.text
            ∙ ap (λ (w : List ℕ). line w ++ (begun ++ goes.rest)) (sym from.text_is) ∙ sym (append_assoc (line l) begun goes.rest);
      };
      stops = λ next more end all next_is here ok. stuck.stops next more end all next_is here
          (sym (one_more left before l (begun ++ (line next ++ end)) e is last entry new) ∙ ap (entries_from (suc left) before) (sym (append_assoc (line l) begun (line next ++ end))) ∙ ok);
    }

stuck_at : (left : ℕ) (before : List Entry) (bytes : List ℕ) (n : ℕ) → 0 < length before + left → entries_from left before bytes ≡ Err n → IsStuck left before bytes n
unfolding entries_from
stuck_at zero before bytes n some wrong =
    next_stuck 0 before (cut 10 bytes) bytes n (λ e rest. wrong_line before) (λ text. refl) refl some wrong (λ l rest e cuts last entry new same.
    wrong_here 0 before bytes n (same_number (length before + 3) n same) some (λ next after end all is here ok.
    never 0 before l next end all (λ x more. wrong_line before) (λ text. refl) is (cut_first l next rest after (sym cuts ∙ ap (cut 10) here ∙ line_cut next after is)) last (λ x one fresh more. ok_err all (length before + 3) (sym more)) ok))
stuck_at (suc left) before bytes n some wrong =
    next_stuck (suc left) before (cut 10 bytes) bytes n (λ e rest. entries_from left (before ++ e ∷ []) rest) (λ text. refl) refl some wrong (λ l rest e cuts last entry new same.
    join left before bytes l rest e n cuts last entry new (stuck_at left (before ++ e ∷ []) rest n (omega (arith, length-append before (e ∷ []))) same))

-- the first two lines
abbrev first : List ℕ
first = codes "relink intent 1"

abbrev second : Slot → List ℕ
second slot = codes "batch " ++ slot_word slot

second_is : (slot : Slot) → IsLine (second slot)
second_is Kernel = refl
second_is Libs = refl

one_entry : AreEntries (sample ∷ [])
one_entry = record { some = omega arith; few = omega arith; each = (sample_is, tt); distinct = (refl, tt) }

-- the entries of a text that is read
entries_read : (slot : Slot) (rest : List ℕ) (s : Slot) (es : List Entry) → read_slot (line (second slot) ++ rest) (after_prefix (line (codes "batch kernel")) (line (second slot) ++ rest)) ≡ Ok (s, es) → entries_from 8 [] rest ≡ Ok es
entries_read Kernel rest s es is =
    (with_slot_ok Kernel s (entries_from 8 [] rest) es (sym (ap (read_slot (line (codes "batch kernel") ++ rest)) (after_prefix-append (line (codes "batch kernel")) rest)) ∙ is)).1
entries_read Libs rest s es is = (with_slot_ok Libs s (entries_from 8 [] rest) es (sym (ap (λ o. read_libs o) (after_prefix-append (line (codes "batch libs")) rest)) ∙ is)).1

text_entries : (slot : Slot) (rest : List ℕ) (s : Slot) (es : List Entry) → intent_read (line first ++ (line (second slot) ++ rest)) ≡ Ok (s, es) → entries_from 8 [] rest ≡ Ok es
unfolding intent_read
text_entries slot rest s es is =
    let text = line first ++ (line (second slot) ++ rest) in
    entries_read slot rest s es
    (sym (ap read_head (after_prefix-append (line first) (line (second slot) ++ rest))) ∙ short (nat_lt 4096 (length text)) (read_head (after_prefix (line first) text)) (s, es) is)

-- a text whose first line is another
first_outside : (bytes : List ℕ) → after_prefix (line first) bytes ≡ None → IsFirstOutside bytes 1
first_outside bytes none = record {
  lines = [];
  rest = bytes;
  each = tt;
  count = refl;
  text = refl;
  begins = record { slot = Kernel; entries = sample ∷ []; rest = intent_text Kernel (sample ∷ []); are = one_entry; text = refl };
  stops = λ next more is here begins.
      let same = same_line first next (line (second begins.slot) ++ (flat_map entry_line begins.entries ++ line (codes "end"))) begins.rest refl is begins.text in
      some_none more (sym (after_prefix-append (line first) more) ∙ ap (λ (w : List ℕ). after_prefix (line first) (line w ++ more)) same ∙ ap (after_prefix (line first)) (sym here) ∙ none);
}

-- a text whose second line is another
second_outside : (bytes rest : List ℕ) → bytes ≡ line first ++ rest → after_prefix (line (codes "batch kernel")) rest ≡ None → after_prefix (line (codes "batch libs")) rest ≡ None → IsFirstOutside bytes 2
second_outside bytes rest text kernel libs = record {
  lines = first ∷ [];
  rest = rest;
  each = (refl, tt);
  count = refl;
  text = text;
  begins = record { slot = Kernel; entries = sample ∷ []; rest = line (second Kernel) ++ (flat_map entry_line (sample ∷ []) ++ line (codes "end")); are = one_entry; text = refl };
  stops = λ next more is here begins.
      let ends = flat_map entry_line begins.entries ++ line (codes "end") in
      let same = same_line (second begins.slot) next ends begins.rest (second_is begins.slot) is (ap (λ (w : List ℕ). drop 16 w) begins.text) in
      neither begins.slot more (here ∙ ap (λ (w : List ℕ). line w ++ more) (sym same));
}
  where
    neither : (slot : Slot) (more : List ℕ) → rest ≡ line (second slot) ++ more → ⊥
    neither Kernel more here = some_none more (sym (after_prefix-append (line (second Kernel)) more) ∙ ap (after_prefix (line (second Kernel))) (sym here) ∙ kernel)
    neither Libs more here = some_none more (sym (after_prefix-append (line (second Libs)) more) ∙ ap (after_prefix (line (second Libs))) (sym here) ∙ libs)

-- a text that goes wrong behind them
entries_outside : (slot : Slot) (bytes rest : List ℕ) (n : ℕ) → bytes ≡ line first ++ (line (second slot) ++ rest) → entries_from 8 [] rest ≡ Err n → IsFirstOutside bytes n
entries_outside slot bytes rest n text wrong =
    let stuck = stuck_at 8 [] rest n (omega arith) wrong in
    let begun = flat_map line stuck.lines in
    let goes = stuck.goes in
    record {
      lines = first ∷ second slot ∷ stuck.lines;
      rest = stuck.rest;
      each = (refl, (second_is slot, stuck.each));
      count = omega (arith, stuck.count);
      text = text ∙ ap (λ (w : List ℕ). line first ++ (line (second slot) ++ w)) stuck.text ∙ ap (λ (w : List ℕ). line first ++ w) (sym (append_assoc (line (second slot)) begun stuck.rest));
      begins = record {
        slot = slot;
        entries = goes.entries;
        rest = goes.rest;
        are = record { some = omega (arith, goes.some); few = goes.few; each = goes.each; distinct = goes.distinct };
        text = ap (λ (w : List ℕ). line first ++ (line (second slot) ++ w)) goes.text ∙ ap (λ (w : List ℕ). line first ++ w) (sym (append_assoc (line (second slot)) begun goes.rest));
      };
      stops = λ next more is here begins.
          let after = line next ++ begins.rest in
          let same : intent_text begins.slot begins.entries ≡ line first ++ (line (second slot) ++ (begun ++ after)) =
          begins.text ∙ ap (λ (w : List ℕ). line first ++ w) (append_assoc (line (second slot) ++ begun) (line next) begins.rest ∙ append_assoc (line (second slot)) begun after) in
          stuck.stops next more begins.rest begins.entries is here
          (text_entries slot (begun ++ after) begins.slot begins.entries (ap intent_read (sym same) ∙ intent_again begins.slot begins.entries begins.are));
    }

with_slot_err : (slot : Slot) (r : Result (List Entry) ℕ) (n : ℕ) → with_slot slot r ≡ Err n → r ≡ Err n
with_slot_err slot (Ok es) n e = ok_err (slot, es) n e
with_slot_err slot (Err m) n e = subst (λ (k : ℕ). ◌≡◌ {A = Result (List Entry) ℕ} (Err m) (Err k)) (same_number m n e) refl

slot_outside : (bytes rest : List ℕ) (o : Option (List ℕ)) (n : ℕ) → bytes ≡ line first ++ rest → after_prefix (line (codes "batch kernel")) rest ≡ o → read_slot rest o ≡ Err n → IsFirstOutside bytes n
slot_outside bytes rest (Some more) n text found wrong =
    entries_outside Kernel bytes more n (text ∙ ap (λ (w : List ℕ). line first ++ w) (append-after_prefix (line (second Kernel)) rest more found)) (with_slot_err Kernel (entries_from 8 [] more) n wrong)
slot_outside bytes rest None n text found wrong = libs (after_prefix (line (codes "batch libs")) rest) refl wrong
  where
    libs : (o : Option (List ℕ)) → after_prefix (line (codes "batch libs")) rest ≡ o → read_libs o ≡ Err n → IsFirstOutside bytes n
    libs None none e = subst (IsFirstOutside bytes) (same_number 2 n e) (second_outside bytes rest text found none)
    libs (Some more) some e = entries_outside Libs bytes more n (text ∙ ap (λ (w : List ℕ). line first ++ w) (append-after_prefix (line (second Libs)) rest more some)) (with_slot_err Libs (entries_from 8 [] more) n e)

head_outside : (bytes : List ℕ) (o : Option (List ℕ)) (n : ℕ) → after_prefix (line first) bytes ≡ o → read_head o ≡ Err n → IsFirstOutside bytes n
head_outside bytes None n found wrong = subst (IsFirstOutside bytes) (same_number 1 n wrong) (first_outside bytes found)
head_outside bytes (Some rest) n found wrong = slot_outside bytes rest (after_prefix (line (codes "batch kernel")) rest) n (append-after_prefix (line first) bytes rest found) refl wrong

pub outside : (bytes : List ℕ) (n : ℕ) → length bytes ≤ 4096 → intent_read bytes ≡ Err n → IsFirstOutside bytes n
unfolding intent_read
outside bytes n few wrong =
    let head = after_prefix (line first) bytes in
    head_outside bytes head n refl (sym (ap (λ t. cond t (Err 0) (read_head head)) (le-ltb 4096 (length bytes) few)) ∙ wrong)

pub too_long : (bytes : List ℕ) (n : ℕ) → 4096 < length bytes → intent_read bytes ≡ Err n → n ≡ 0
unfolding intent_read
too_long bytes n long wrong =
    same_number n 0 (sym wrong ∙ ap (λ t. cond t (Err 0) (read_head (after_prefix (line first) bytes))) (lt-ltb 4096 (length bytes) long))

-- what the reader's fault says of its text
pub long_read : (bytes : List ℕ) (r : Result Intent IntentFault) → Reads r (intent_read bytes) → IfErr r (λ f. 4096 < length bytes → f.line ≡ 0)
long_read bytes (Ok i) reads = tt
long_read bytes (Err f) reads = λ long. too_long bytes f.line long reads

pub outside_read : (bytes : List ℕ) (r : Result Intent IntentFault) → Reads r (intent_read bytes) → IfErr r (λ f. length bytes ≤ 4096 → IsFirstOutside bytes f.line)
outside_read bytes (Ok i) reads = tt
outside_read bytes (Err f) reads = λ few. outside bytes f.line few reads
