-- What the lines of a text without a fault say.
use Rattle.std.proofs.Common.{◌≡◌, ℕ, suc, ◌+◌, ◌-◌, Bool, true, false, not, List, [], ◌∷◌, ◌++◌, length, take, refl, sym, ap, subst, ◌∙◌, arith, append_assoc, Option}
use Rattle.std.specs.Prelude.{Some, None, ◌==◌, map, flat_map, option_to_list}
use Rattle.std.specs.Option.{option_map_or}
use Rattle.std.specs.List.{list_all}
use Rattle.std.proofs.lemmas.List.{append-nil, take_at, length-append}
use Rattle.kl_base.proofs.Bools.{and_left, and_right}
use Rattle.kl_text.specs.Lines.{lines, words}
use Rattle.kl_model.specs.Lists.{each_from, only_if}
use Rattle.kl_model.proofs.Each.{each_push, none_left, none_right}
use Rattle.kl_kit.specs.Keywords.{keyword_of, word_count}
use Rattle.kl_kit.specs.Keys.{comes_again, keys_of, line_keys}
use Rattle.kl_kit.specs.KitLines.{KitLine, is_text_byte, line_of, said, statement_of, statements}
use Rattle.kl_kit.specs.KitTexts.{is_in_place, is_one_too_many, kind_said, kit_faults, missing, missing_faults, one, output_faults, place_faults, said_faults, statement_faults}
use Rattle.kl_kit.specs.TextFaults.{SaidFaults, bytes_faults, text_faults}
use Rattle.kl_kit.specs.declared.fault.KitFault.{KitFault}
use Rattle.kl_kit.specs.declared.fault.KitFault.TheVariants as fault
use Rattle.kl_kit.specs.declared.keyword.Keyword.{Keyword}
use Rattle.kl_kit.specs.declared.statement.Statement.{Statement}
use Rattle.kl_kit.proofs.KernelKits.{not_told}
use Rattle.kl_kit.proofs.Reading.{faults_by}

pub not_false : (t : Bool) → not t ≡ false → t ≡ true
not_false true e = refl
not_false false e = cc

-- no line has a fault behind those before it
abbrev pub AreSoundBy : SaidFaults → List KitLine → List KitLine → Type 0
AreSoundBy faults done [] = Unit {0}
AreSoundBy faults done (l ∷ ls) = (faults done l ≡ []) × AreSoundBy faults (done ++ l ∷ []) ls

abbrev pub AreSound : List KitLine → List KitLine → Type 0
AreSound done ls = AreSoundBy said_faults done ls

-- the lines that say something, of lines that are numbered from n
abbrev numbered : ℕ → List (List ℕ) → List KitLine
numbered n ls = each_from n (λ k l. option_to_list (line_of k (words l))) ls

module _ (faults : SaidFaults) (pre : List (List ℕ)) (l : List ℕ) (rest : List (List ℕ)) (done : List KitLine) (n : ℕ) (read : said pre ≡ done) (number : n ≡ suc (length pre)) where
  whole : (pre ++ l ∷ []) ++ rest ≡ pre ++ l ∷ rest
  whole = append_assoc pre (l ∷ []) rest

  here_is : faults_by faults (pre ++ l ∷ rest) n l ≡ bytes_faults faults done n l
  here_is =
      let place : length pre ≡ n - 1 = omega (arith, number) in
      ap (λ (x : List (List ℕ)). bytes_faults faults (said x) n l) (take_at pre (l ∷ rest) (n - 1) place) ∙ ap (λ (x : List KitLine). bytes_faults faults x n l) read

  next_read : said (pre ++ l ∷ []) ≡ done ++ option_to_list (line_of n (words l))
  next_read =
      let one_more : 1 + length pre ≡ n = omega (arith, number) in
      each_push 1 (λ k x. option_to_list (line_of k (words x))) pre l
      ∙ ap (λ (x : List KitLine). x ++ option_to_list (line_of (1 + length pre) (words l))) read
      ∙ ap (λ k. done ++ option_to_list (line_of k (words l))) one_more

  next_number : suc n ≡ suc (length (pre ++ l ∷ []))
  next_number = let split = length-append pre (l ∷ []) in omega (arith, split, number)

sound_lines : (faults : SaidFaults) (pre rest : List (List ℕ)) (done : List KitLine) (n : ℕ) → said pre ≡ done → n ≡ suc (length pre) → each_from n (faults_by faults (pre ++ rest)) rest ≡ []
    → AreSoundBy faults done (numbered n rest)
sound_lines faults pre [] done n read number none = tt
sound_lines faults pre (l ∷ rest) done n read number none =
    let all = pre ++ l ∷ rest in
    let here : bytes_faults faults done n l ≡ [] = sym (here_is faults pre l rest done n read number) ∙ none_left (faults_by faults all n l) (each_from (suc n) (faults_by faults all) rest) none in
    let more : each_from (suc n) (faults_by faults ((pre ++ l ∷ []) ++ rest)) rest ≡ [] =
    ap (λ (x : List (List ℕ)). each_from (suc n) (faults_by faults x) rest) (whole faults pre l rest done n read number) ∙ none_right (faults_by faults all n l) (each_from (suc n) (faults_by faults all) rest) none in
    put (line_of n (words l))
    (none_right (only_if (not (list_all is_text_byte l)) (fault.Byte n)) (option_map_or (faults done) (line_of n (words l)) []) here)
    (sound_lines faults (pre ++ l ∷ []) rest (done ++ option_to_list (line_of n (words l))) (suc n) (next_read faults pre l rest done n read number) (next_number faults pre l rest done n read number) more)
  where
    put : (o : Option KitLine) → option_map_or (faults done) o [] ≡ [] → AreSoundBy faults (done ++ option_to_list o) (numbered (suc n) rest) → AreSoundBy faults done (option_to_list o ++ numbered (suc n) rest)
    put None here more = subst (λ (x : List KitLine). AreSoundBy faults x (numbered (suc n) rest)) (append-nil done) more
    put (Some x) here more = (here, more)

pub lines_sound : (faults : SaidFaults) (last : List KitLine → List KitFault) (text : List ℕ) → text_faults faults last text ≡ [] → AreSoundBy faults [] (said (lines text))
lines_sound faults last text none =
    let ls = lines text in
    sound_lines faults [] ls [] 1 refl refl (none_left (each_from 1 (faults_by faults ls) ls) (last (said ls)) none)

pub lines_whole : (faults : SaidFaults) (last : List KitLine → List KitFault) (text : List ℕ) → text_faults faults last text ≡ [] → last (said (lines text)) ≡ []
lines_whole faults last text none = let ls = lines text in none_right (each_from 1 (faults_by faults ls) ls) (last (said ls)) none

-- and each byte of the lines is one of a text
pub lines_text : (faults : SaidFaults) (last : List KitLine → List KitFault) (text : List ℕ) → text_faults faults last text ≡ [] → list_all (λ line. list_all is_text_byte line) (lines text) ≡ true
lines_text faults last text none = let ls = lines text in go 1 (λ n. said (take (n - 1) ls)) ls (none_left (each_from 1 (faults_by faults ls) ls) (last (said ls)) none)
  where
    go : (n : ℕ) (before : ℕ → List KitLine) (ls : List (List ℕ)) → each_from n (λ n l. bytes_faults faults (before n) n l) ls ≡ [] → list_all (λ line. list_all is_text_byte line) ls ≡ true
    go n before [] none = refl
    go n before (l ∷ ls) none =
        let first = none_left (bytes_faults faults (before n) n l) (each_from (suc n) (λ n l. bytes_faults faults (before n) n l) ls) none in
        let rest = none_right (bytes_faults faults (before n) n l) (each_from (suc n) (λ n l. bytes_faults faults (before n) n l) ls) none in
        let here = not_false (list_all is_text_byte l) (not_told (not (list_all is_text_byte l)) (fault.Byte n) (none_left (only_if (not (list_all is_text_byte l)) (fault.Byte n)) (option_map_or (faults (before n)) (line_of n (words l)) []) first)) in
        rw (here, go (suc n) before ls rest) refl

-- A TEXT HAS NO FAULT where its bytes are a text's, no line has one behind those before it, and nothing is missing.
none_in : (faults : SaidFaults) (pre rest : List (List ℕ)) (done : List KitLine) (n : ℕ) → said pre ≡ done → n ≡ suc (length pre) → list_all (λ line. list_all is_text_byte line) rest ≡ true
    → AreSoundBy faults done (numbered n rest) → each_from n (faults_by faults (pre ++ rest)) rest ≡ []
none_in faults pre [] done n read number bytes are = refl
none_in faults pre (l ∷ rest) done n read number bytes are =
    let all = pre ++ l ∷ rest in
    let text : list_all is_text_byte l ≡ true = and_left (list_all is_text_byte l) (list_all (λ line. list_all is_text_byte line) rest) bytes in
    let texts = and_right (list_all is_text_byte l) (list_all (λ line. list_all is_text_byte line) rest) bytes in
    let both = part (line_of n (words l)) are in
    let here : faults_by faults all n l ≡ [] = here_is faults pre l rest done n read number ∙ rw (text, both.0) refl in
    let more = none_in faults (pre ++ l ∷ []) rest (done ++ option_to_list (line_of n (words l))) (suc n) (next_read faults pre l rest done n read number) (next_number faults pre l rest done n read number) texts both.1 in
    rw here (ap (λ (x : List (List ℕ)). each_from (suc n) (faults_by faults x) rest) (sym (whole faults pre l rest done n read number)) ∙ more)
  where
    part : (o : Option KitLine) → AreSoundBy faults done (option_to_list o ++ numbered (suc n) rest)
        → (option_map_or (faults done) o [] ≡ []) × AreSoundBy faults (done ++ option_to_list o) (numbered (suc n) rest)
    part None are = (refl, subst (λ (x : List KitLine). AreSoundBy faults x (numbered (suc n) rest)) (sym (append-nil done)) are)
    part (Some x) are = are

pub none_of_lines : (faults : SaidFaults) (last : List KitLine → List KitFault) (text : List ℕ) → list_all (λ line. list_all is_text_byte line) (lines text) ≡ true
    → AreSoundBy faults [] (said (lines text)) → last (said (lines text)) ≡ [] → text_faults faults last text ≡ []
none_of_lines faults last text bytes are end = rw (none_in faults [] (lines text) [] 1 refl refl bytes are) end

pub text_sound : (text : List ℕ) → kit_faults text ≡ [] → AreSound [] (said (lines text))
unfolding kit_faults
text_sound text none = lines_sound said_faults missing_faults text none

pub text_whole : (text : List ℕ) → kit_faults text ≡ [] → missing (statements (said (lines text))) ≡ []
unfolding kit_faults
text_whole text none = go fault.Missing (missing (statements (said (lines text)))) (lines_whole said_faults missing_faults text none)
  where
    go : {X Y : Type 0} (f : X → Y) (xs : List X) → map f xs ≡ [] → xs ≡ []
    go f [] e = refl
    go f (x ∷ xs) e = cc

-- a line without a fault
pub record IsSoundLine (done : List KitLine) (l : KitLine) (k : Keyword) (s : Statement) : Type 0 where
  pub keyword : keyword_of l.keyword ≡ Some k
  pub place : is_in_place done k ≡ true
  pub says : statement_of k l.number l.words ≡ Some s
  pub output : output_faults (one kind_said (statements done)) l.number s ≡ []
  pub once : comes_again (flat_map line_keys done) (keys_of k l.words) ≡ false
  pub room : is_one_too_many (statements done) s ≡ false

pub sound_line : (done : List KitLine) (l : KitLine) (Q : Type 0) → said_faults done l ≡ [] → ((k : Keyword) (s : Statement) → IsSoundLine done l k s → Q) → Q
sound_line done l Q none give = by_keyword (keyword_of l.keyword) refl none
  where
    by_statement : (k : Keyword) → keyword_of l.keyword ≡ Some k → is_in_place done k ≡ true → (o : Option Statement) → statement_of k l.number l.words ≡ o
        → option_map_or (statement_faults done l k) o (fault.Value l.number ∷ []) ≡ [] → Q
    by_statement k word place None is none = cc
    by_statement k word place (Some s) is none =
        let a = output_faults (one kind_said (statements done)) l.number s in
        let b = only_if (comes_again (flat_map line_keys done) (keys_of k l.words)) (fault.Twice l.number) in
        let d = only_if (is_one_too_many (statements done) s) (fault.Limit l.number) in
        give k s (record {
          keyword = word;
          place = place;
          says = is;
          output = none_left a b (none_left (a ++ b) d none);
          once = not_told (comes_again (flat_map line_keys done) (keys_of k l.words)) (fault.Twice l.number) (none_right a b (none_left (a ++ b) d none));
          room = not_told (is_one_too_many (statements done) s) (fault.Limit l.number) (none_right (a ++ b) d none);
        })

    by_keyword : (o : Option Keyword) → keyword_of l.keyword ≡ o
        → option_map_or (λ k. place_faults (is_in_place done k) l k ++ option_map_or (statement_faults done l k) (statement_of k l.number l.words) (fault.Value l.number ∷ [])) o (fault.Keyword l.number ∷ []) ≡ [] → Q
    by_keyword None is none = cc
    by_keyword (Some k) is none =
        let a = only_if (not (is_in_place done k)) (fault.Misplaced l.number) in
        let b = only_if (not (length l.words == word_count k)) (fault.Count l.number) in
        let rest = option_map_or (statement_faults done l k) (statement_of k l.number l.words) (fault.Value l.number ∷ []) in
        by_statement k is (not_false (is_in_place done k) (not_told (not (is_in_place done k)) (fault.Misplaced l.number) (none_left a b (none_left (a ++ b) rest none)))) (statement_of k l.number l.words) refl (none_right (a ++ b) rest none)
