-- The entries that a reader has so far.
use Rattle.std.proofs.Common.{◌≡◌, ◌<◌, ◌-◌, ℕ, zero, suc, Bool, true, false, cond, List, [], ◌∷◌, ◌++◌, length, refl, sym, ap, ◌∙◌, arith, length-append, Option}
use Rattle.std.specs.Prelude.{Some, None, Ok, Err, Result, nat_lt}
use Rattle.std.proofs.lemmas.Bool.{ltb-true, lt-ltb}
use Rattle.kl_base.specs.declared.class.Slot.{Slot}
use Rattle.kl_intent.specs.declared.intent.Entry.{Entry}
use Rattle.kl_intent.specs.declared.intent.Intent.{Intent}
use Rattle.kl_intent.specs.declared.read.IntentFault.{IntentFault}
use Rattle.kl_text.specs.Lines.{cut}
use Rattle.kl_intent.specs.Reading.{ReadsEntries}
use Rattle.kl_intent.specs.IntentText.{is_last, end_of, wrong_line, next_line, next_entry, fresh, fresh_entry, entry_of, entries_from, is_new}

-- no line more
pub no_line : (left : ℕ) (before : List Entry) (text : List ℕ) → cut 10 text ≡ None → entries_from left before text ≡ wrong_line before
unfolding entries_from
no_line zero before text e = ap (λ o. next_line before o (λ e rest. wrong_line before)) e
no_line (suc left) before text e = ap (λ o. next_line before o (λ e rest. entries_from left (before ++ e ∷ []) rest)) e

-- the last line
pub last_line : (left : ℕ) (before : List Entry) (text l rest : List ℕ) → cut 10 text ≡ Some (l, rest) → is_last before l ≡ true → entries_from left before text ≡ end_of before rest
unfolding entries_from
last_line zero before text l rest e last =
    ap (λ o. next_line before o (λ e rest. wrong_line before)) e ∙ ap (λ b. cond b (end_of before rest) (next_entry before (entry_of l) (λ e. wrong_line before))) last
last_line (suc left) before text l rest e last =
    ap (λ o. next_line before o (λ e rest. entries_from left (before ++ e ∷ []) rest)) e
    ∙ ap (λ b. cond b (end_of before rest) (next_entry before (entry_of l) (λ e. entries_from left (before ++ e ∷ []) rest))) last

same_either : {A : Type 0} (b : Bool) (x : A) → cond b x x ≡ x
same_either true x = refl
same_either false x = refl

all_wrong : (before : List Entry) (o : Option Entry) → next_entry before o (λ e. wrong_line before) ≡ wrong_line before
all_wrong before None = refl
all_wrong before (Some e) = same_either (is_new e.target before) (wrong_line before)

not_some : {A P : Type 0} (x : A) → ◌≡◌ {A = Option A} (Some x) None → P
not_some x e = cc

none_fresh : (before : List Entry) (o : Option Entry) (more : Entry → Result (List Entry) ℕ) → fresh before o ≡ None → next_entry before o more ≡ wrong_line before
none_fresh before None more e = refl
none_fresh before (Some x) more e = cases (is_new x.target before) refl
  where
    cases : (b : Bool) → is_new x.target before ≡ b → cond (is_new x.target before) (more x) (wrong_line before) ≡ wrong_line before
    cases true is = not_some x (sym (ap (λ b. cond b (Some x) None) is) ∙ e)
    cases false is = ap (λ b. cond b (more x) (wrong_line before)) is

one_fresh : (before : List Entry) (o : Option Entry) (e : Entry) (more : Entry → Result (List Entry) ℕ) → fresh before o ≡ Some e → next_entry before o more ≡ more e
one_fresh before None e more is = let no : ◌≡◌ {A = Option Entry} None (Some e) = is in cc
one_fresh before (Some x) e more is = cases (is_new x.target before) refl
  where
    same : ◌≡◌ {A = Option Entry} (Some x) (Some e) → x ≡ e
    same p = cc

    cases : (b : Bool) → is_new x.target before ≡ b → cond (is_new x.target before) (more x) (wrong_line before) ≡ more e
    cases true new = ap (λ b. cond b (more x) (wrong_line before)) new ∙ ap more (same (sym (ap (λ b. cond b (Some x) None) new) ∙ is))
    cases false new = let no : ◌≡◌ {A = Option Entry} None (Some e) = sym (ap (λ b. cond b (Some x) None) new) ∙ is in cc

room : (before : List Entry) (l : List ℕ) → length before < 8 → fresh_entry before l ≡ fresh before (entry_of l)
room before l less = ap (λ b. cond b (fresh before (entry_of l)) None) (lt-ltb (length before) 8 less)

-- a line that is no entry, or one too many
pub wrong_entry : (left : ℕ) (before : List Entry) (text l rest : List ℕ) → left ≡ 8 - length before → cut 10 text ≡ Some (l, rest) → is_last before l ≡ false → fresh_entry before l ≡ None → entries_from left before text ≡ wrong_line before
unfolding entries_from
wrong_entry zero before text l rest is e last none =
    ap (λ o. next_line before o (λ e rest. wrong_line before)) e ∙ ap (λ b. cond b (end_of before rest) (next_entry before (entry_of l) (λ e. wrong_line before))) last ∙ all_wrong before (entry_of l)
wrong_entry (suc left) before text l rest is e last none =
    ap (λ o. next_line before o (λ e rest. entries_from left (before ++ e ∷ []) rest)) e
    ∙ ap (λ b. cond b (end_of before rest) (next_entry before (entry_of l) (λ e. entries_from left (before ++ e ∷ []) rest))) last
    ∙ none_fresh before (entry_of l) (λ e. entries_from left (before ++ e ∷ []) rest) (sym (room before l (omega arith)) ∙ none)

has_room : (before : List Entry) (l : List ℕ) (e : Entry) → fresh_entry before l ≡ Some e → length before < 8
has_room before l e is = cases (nat_lt (length before) 8) refl
  where
    cases : (b : Bool) → nat_lt (length before) 8 ≡ b → length before < 8
    cases true less = ltb-true (length before) 8 less
    cases false not_less = let no : ◌≡◌ {A = Option Entry} None (Some e) = sym (ap (λ b. cond b (fresh before (entry_of l)) None) not_less) ∙ is in cc

pub fresh_room : (before : List Entry) (l : List ℕ) (e : Entry) → fresh_entry before l ≡ Some e → length before < 8
fresh_room before l e is = has_room before l e is

-- one entry more
pub more_entry : (left : ℕ) (before : List Entry) (text l rest : List ℕ) (e : Entry) → left ≡ 8 - length before → cut 10 text ≡ Some (l, rest) → is_last before l ≡ false → fresh_entry before l ≡ Some e
    → entries_from left before text ≡ entries_from (8 - length (before ++ e ∷ [])) (before ++ e ∷ []) rest
unfolding entries_from
more_entry zero before text l rest e is cuts last some = absurd (let less = has_room before l e some in omega (arith, less))
more_entry (suc left) before text l rest e is cuts last some =
    let next : left ≡ 8 - length (before ++ e ∷ []) = omega (arith, length-append before (e ∷ [])) in
    ap (λ o. next_line before o (λ e rest. entries_from left (before ++ e ∷ []) rest)) cuts
    ∙ ap (λ b. cond b (end_of before rest) (next_entry before (entry_of l) (λ e. entries_from left (before ++ e ∷ []) rest))) last
    ∙ one_fresh before (entry_of l) e (λ e. entries_from left (before ++ e ∷ []) rest) (sym (room before l (has_room before l e some)) ∙ some)
    ∙ ap (λ (n : ℕ). entries_from n (before ++ e ∷ []) rest) next

-- the same answer, of another text that reads alike
pub reads_same : (s t : Slot) (r : Result Intent IntentFault) (a b : Result (List Entry) ℕ) → s ≡ t → b ≡ a → ReadsEntries s r a → ReadsEntries t r b
reads_same s t (Ok i) a b same is reads = (is ∙ reads.0, reads.1 ∙ same, reads.2)
reads_same s t (Err f) a b same is reads = is ∙ reads
