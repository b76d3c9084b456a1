-- No fault stands in the lines of what is said.
use Rattle.std.proofs.Common.{◌≡◌, ℕ, suc, ◌+◌, ◌-◌, ◌≤◌, Bool, true, false, not, cond, ◌&&◌, ◌||◌, List, [], ◌∷◌, ◌++◌, length, take, refl, sym, ap, ◌∙◌, arith, append_assoc, Option}
use Rattle.std.specs.Prelude.{Some, None, ◌==◌, nat_le, map, is_some, option_to_list}
use Rattle.std.specs.Option.{option_and_then, option_map_or, option_or}
use Rattle.std.specs.List.{list_all, flat_map, join_with_byte, cons_option, AllByRecursion}
use Rattle.std.proofs.lemmas.Bool.{leb-true, le-leb, lt-leb}
use Rattle.std.proofs.lemmas.List.{append-nil, length-append, take_at}
use Rattle.std.proofs.lemmas.List.Elements.{filter_map-append}
use Rattle.std.proofs.lemmas.List.Folds.{list_all-append}
use Rattle.std.proofs.lemmas.Grind.{flat_map-append}
use Rattle.kl_base.specs.Names.{is_path_byte}
use Rattle.kl_base.specs.declared.limits.TheConstants.{INPUT_COUNT_LIMIT}
use Rattle.kl_base.proofs.Bools.{and_left, and_right}
use Rattle.kl_text.specs.Lines.{words}
use Rattle.kl_text.proofs.Printed.{words-join}
use Rattle.kl_model.specs.Kits.{is_empty}
use Rattle.kl_model.specs.Lists.{each_from, only_if}
use Rattle.kl_model.specs.declared.kit.KitKind.{KitKind}
use Rattle.kl_model.proofs.Each.{each_push}
use Rattle.kl_kit.specs.Keywords.{keyword_word}
use Rattle.kl_kit.specs.Keys.{Key, comes_again, has_key, keys_of, line_keys}
use Rattle.kl_kit.specs.KitLines.{KitLine, is_text_byte, line_of, line_statement, said, statement_of, statements}
use Rattle.kl_kit.specs.KitTexts.{input_said, is_in_place, is_kind, is_one_too_many, kind_said, line_faults, many, one, output_faults, place_faults, said_faults, statement_faults}
use Rattle.kl_kit.specs.declared.fault.KitFault.{KitFault}
use Rattle.kl_kit.specs.declared.fault.KitFault.TheVariants as fault
use Rattle.kl_kit.specs.declared.keyword.Keyword.{Keyword}
use Rattle.kl_kit.specs.declared.statement.Statement.{Statement}
use Rattle.kl_kit.specs.declared.statement.Statement.TheVariants as says
use Rattle.kl_kit.proofs.PrintedRows.{IsPrintable, all_one, keyword_again, keyword_printable, no_comment, row_words}
use Rattle.kl_kit.proofs.PrintedStatements.{IsSaid, at, row_of}
use Rattle.kl_kit.proofs.Reading.{faults_at}
use Rattle.kl_kit.proofs.Said.{many-push, one-push}

-- the bytes of a line, and the line that is read of them
abbrev pub bytes_of : Statement → List ℕ
bytes_of s = join_with_byte 32 (row_words (row_of s))

abbrev pub line_at : ℕ → Statement → KitLine
line_at n s = record { number = n; keyword = keyword_word (row_of s).keyword; words = (row_of s).words }

-- what a line has that may come once
abbrev pub said_keys : Statement → List Key
said_keys s = keys_of (row_of s).keyword (row_of s).words

text_byte : (b : ℕ) → is_path_byte b ≡ true → is_text_byte b ≡ true
text_byte b e =
    let above = leb-true 33 b (and_left (nat_le 33 b) (nat_le b 126) e) in
    let below = leb-true b 126 (and_right (nat_le 33 b) (nat_le b 126) e) in
    rw (le-leb 32 b (omega (arith, above)), le-leb b 126 below) (or_true (b == 9))
  where
    or_true : (t : Bool) → (t || true) ≡ true
    or_true true = refl
    or_true false = refl

text_bytes : (w : List ℕ) → list_all is_path_byte w ≡ true → list_all is_text_byte w ≡ true
text_bytes [] e = refl
text_bytes (b ∷ w) e = rw (text_byte b (and_left (is_path_byte b) (list_all is_path_byte w) e), text_bytes w (and_right (is_path_byte b) (list_all is_path_byte w) e)) refl

joined_text : (ws : List (List ℕ)) → AllByRecursion IsPrintable ws → list_all is_text_byte (join_with_byte 32 ws) ≡ true
joined_text [] are = refl
joined_text (w ∷ []) are = text_bytes w are.0.bytes
joined_text (w ∷ v ∷ ws) are =
    list_all-append is_text_byte w (32 ∷ join_with_byte 32 (v ∷ ws))
    ∙ rw (text_bytes w are.0.bytes, joined_text (v ∷ ws) are.1) refl

-- the line that is read
pub line_read : (n : ℕ) (s : Statement) → AllByRecursion IsPrintable (row_of s).words → line_of n (words (bytes_of s)) ≡ Some (line_at n s)
line_read n s are =
    ap (line_of n) (words-join (row_words (row_of s)) (all_one (row_words (row_of s)) (keyword_printable (row_of s).keyword, are)))
    ∙ ap (λ t. cond {A = Option KitLine} t None (Some (line_at n s))) (no_comment (row_of s).keyword)

pub keys_read : (n : ℕ) (s : Statement) → line_keys (line_at n s) ≡ said_keys s
keys_read n s = ap (λ (o : Option Keyword). option_map_or (λ k. keys_of k (row_of s).words) o []) (keyword_again (row_of s).keyword)

pub statement_read : (n : ℕ) (s : Statement) → statement_of (row_of s).keyword n (row_of s).words ≡ Some (at n s) → line_statement (line_at n s) ≡ Some (at n s)
statement_read n s e = ap (λ (o : Option Keyword). option_and_then (λ k. statement_of k n (row_of s).words) o) (keyword_again (row_of s).keyword) ∙ e

-- of keys in two lists none comes again
pub comes-append : (before xs ys : List Key) → comes_again before (xs ++ ys) ≡ (comes_again before xs || comes_again (before ++ xs) ys)
comes-append before [] ys = ap (λ (l : List Key). comes_again l ys) (sym (append-nil before))
comes-append before (x ∷ xs) ys =
    ap (λ t. has_key before x || t) (comes-append (before ++ x ∷ []) xs ys)
    ∙ ap (λ (l : List Key). has_key before x || (comes_again (before ++ x ∷ []) xs || comes_again l ys)) (append_assoc before (x ∷ []) xs)
    ∙ grouped (has_key before x) (comes_again (before ++ x ∷ []) xs) (comes_again (before ++ x ∷ xs) ys)
  where
    grouped : (a b d : Bool) → (a || (b || d)) ≡ ((a || b) || d)
    grouped true b d = refl
    grouped false b d = refl

pub or_left : (a b : Bool) → (a || b) ≡ false → a ≡ false
or_left true b e = cc
or_left false b e = refl

pub or_right : (a b : Bool) → (a || b) ≡ false → b ≡ false
or_right true b e = cc
or_right false b e = e

no_kind : (s : Statement) (n : ℕ) → is_kind (row_of s).keyword ≡ false → kind_said (at n s) ≡ None
no_kind (says.Kind kind) n e = cc
no_kind (says.Output name) n e = refl
no_kind (says.Base b) n e = refl
no_kind (says.Entry symbol) n e = refl
no_kind (says.Input input) n e = refl
no_kind (says.Run run) n e = refl
no_kind (says.Edge edge) n e = refl
no_kind (says.Drop section) n e = refl
no_kind (says.Soname text) n e = refl
no_kind (says.Needed text) n e = refl
no_kind (says.Export symbol) n e = refl
no_kind says.Symbolic n e = refl
no_kind (says.Undefined refuse) n e = refl

-- room for the inputs that are left
limit_here : (s : Statement) (n so_far left : ℕ) → so_far + length (cons_option (input_said s) []) + left ≤ INPUT_COUNT_LIMIT → (is_some (input_said (at n s)) && nat_le INPUT_COUNT_LIMIT so_far) ≡ false
limit_here (says.Input input) n so_far left h = lt-leb INPUT_COUNT_LIMIT so_far (omega (arith, h))
limit_here (says.Kind kind) n so_far left h = refl
limit_here (says.Output name) n so_far left h = refl
limit_here (says.Base b) n so_far left h = refl
limit_here (says.Entry symbol) n so_far left h = refl
limit_here (says.Run run) n so_far left h = refl
limit_here (says.Edge edge) n so_far left h = refl
limit_here (says.Drop section) n so_far left h = refl
limit_here (says.Soname text) n so_far left h = refl
limit_here (says.Needed text) n so_far left h = refl
limit_here (says.Export symbol) n so_far left h = refl
limit_here says.Symbolic n so_far left h = refl
limit_here (says.Undefined refuse) n so_far left h = refl

same_count : (s : Statement) (n : ℕ) → length (cons_option (input_said (at n s)) []) ≡ length (cons_option (input_said s) [])
same_count (says.Input input) n = refl
same_count (says.Kind kind) n = refl
same_count (says.Output name) n = refl
same_count (says.Base b) n = refl
same_count (says.Entry symbol) n = refl
same_count (says.Run run) n = refl
same_count (says.Edge edge) n = refl
same_count (says.Drop section) n = refl
same_count (says.Soname text) n = refl
same_count (says.Needed text) n = refl
same_count (says.Export symbol) n = refl
same_count says.Symbolic n = refl
same_count (says.Undefined refuse) n = refl

-- behind these lines those that are left have no fault
pub record IsClear (kind : KitKind) (done : List KitLine) (ss : List Statement) : Type 0 where
  pub some : is_empty done ≡ false
  pub known : one kind_said (statements done) ≡ Some kind
  pub are : AllByRecursion (IsSaid kind) ss
  pub once : comes_again (flat_map line_keys done) (flat_map said_keys ss) ≡ false
  pub room : length (many input_said (statements done)) + length (many input_said ss) ≤ INPUT_COUNT_LIMIT

first_count : (s : Statement) (ss : List Statement) → length (many input_said (s ∷ ss)) ≡ length (cons_option (input_said s) []) + length (many input_said ss)
first_count s ss = go (many input_said ss) (input_said s)
  where
    go : {X : Type 0} (xs : List X) (o : Option X) → length (cons_option o xs) ≡ length (cons_option o []) + length xs
    go xs None = omega arith
    go xs (Some x) = omega arith

module _ (kind : KitKind) (done : List KitLine) (s : Statement) (ss : List Statement) (n : ℕ) (is : IsClear kind done (s ∷ ss)) where
  word : Keyword
  word = (row_of s).keyword

  here_once : comes_again (flat_map line_keys done) (said_keys s) ≡ false
  here_once = or_left (comes_again (flat_map line_keys done) (said_keys s)) (comes_again (flat_map line_keys done ++ said_keys s) (flat_map said_keys ss))
      (sym (comes-append (flat_map line_keys done) (said_keys s) (flat_map said_keys ss)) ∙ is.once)

  more_once : comes_again (flat_map line_keys done ++ said_keys s) (flat_map said_keys ss) ≡ false
  more_once = or_right (comes_again (flat_map line_keys done) (said_keys s)) (comes_again (flat_map line_keys done ++ said_keys s) (flat_map said_keys ss))
      (sym (comes-append (flat_map line_keys done) (said_keys s) (flat_map said_keys ss)) ∙ is.once)

  room : length (many input_said (statements done)) + length (cons_option (input_said s) []) + length (many input_said ss) ≤ INPUT_COUNT_LIMIT
  room = let h = is.room in omega (arith, h, first_count s ss)

  in_place : is_in_place done (row_of s).keyword ≡ true
  in_place = rw (is.some, is.are.0.no_kind, is.known, is.are.0.of_kind) refl

  place_clear : place_faults (is_in_place done (row_of s).keyword) (line_at n s) (row_of s).keyword ≡ []
  place_clear = rw (in_place, is.are.0.count) refl

  statement_clear : statement_faults done (line_at n s) (row_of s).keyword (at n s) ≡ []
  statement_clear =
      ap (λ (o : Option KitKind). output_faults o n (at n s)
      ++ only_if (comes_again (flat_map line_keys done) (said_keys s)) (fault.Twice n)
      ++ only_if (is_one_too_many (statements done) (at n s)) (fault.Limit n)) is.known
      ∙ rw (is.are.0.output n, here_once, limit_here s n (length (many input_said (statements done))) (length (many input_said ss)) room) refl

  said_clear : said_faults done (line_at n s) ≡ []
  said_clear =
      ap (λ (o : Option Keyword). option_map_or (λ k.
      place_faults (is_in_place done k) (line_at n s) k
      ++ option_map_or (statement_faults done (line_at n s) k) (statement_of k n (row_of s).words) (fault.Value n ∷ []))
      o (fault.Keyword n ∷ [])) (keyword_again (row_of s).keyword)
      ∙ ap (λ (l : List KitFault). l ++ option_map_or (statement_faults done (line_at n s) (row_of s).keyword) (statement_of (row_of s).keyword n (row_of s).words) (fault.Value n ∷ [])) place_clear
      ∙ ap (λ (o : Option Statement). option_map_or (statement_faults done (line_at n s) (row_of s).keyword) o (fault.Value n ∷ [])) (is.are.0.read n)
      ∙ statement_clear

  line_clear : line_faults done n (bytes_of s) ≡ []
  line_clear =
      ap (λ t. only_if (not t) (fault.Byte n) ++ option_map_or (said_faults done) (line_of n (words (bytes_of s))) []) (joined_text (row_words (row_of s)) (keyword_printable (row_of s).keyword, is.are.0.printable))
      ∙ ap (λ (o : Option KitLine). option_map_or (said_faults done) o []) (line_read n s is.are.0.printable)
      ∙ said_clear

  statements_more : statements (done ++ line_at n s ∷ []) ≡ statements done ++ at n s ∷ []
  statements_more = filter_map-append line_statement done (line_at n s ∷ []) ∙ ap (λ (o : Option Statement). statements done ++ cons_option o []) (statement_read n s (is.are.0.read n))

  clear_more : IsClear kind (done ++ line_at n s ∷ []) ss
  clear_more = record {
    some = not_empty done;
    known = ap (one kind_said) statements_more ∙ one-push kind_said (statements done) (at n s) ∙ ap (λ (o : Option KitKind). option_or o (one kind_said (statements done))) (no_kind s n is.are.0.no_kind) ∙ is.known;
    are = is.are.1;
    once = ap (λ (l : List Key). comes_again l (flat_map said_keys ss)) (flat_map-append line_keys done (line_at n s ∷ []) ∙ ap (λ (l : List Key). flat_map line_keys done ++ l) (append-nil (line_keys (line_at n s)) ∙ keys_read n s)) ∙ more_once;
    room = (let count = ap length (ap (many input_said) statements_more ∙ many-push input_said (statements done) (at n s)) in
        let split = length-append (many input_said (statements done)) (cons_option (input_said (at n s)) []) in
        let same = same_count s n in
        let h = room in
        omega (arith, count, split, same, h));
  }
    where
      not_empty : (ls : List KitLine) → is_empty (ls ++ line_at n s ∷ []) ≡ false
      not_empty [] = refl
      not_empty (l ∷ ls) = refl

-- THE LINES OF WHAT IS SAID HAVE NO FAULT, behind lines that are read
pub none_after : (kind : KitKind) (pre : List (List ℕ)) (done : List KitLine) (ss : List Statement) (n : ℕ) → said pre ≡ done → n ≡ suc (length pre) → IsClear kind done ss
    → each_from n (faults_at (pre ++ map bytes_of ss)) (map bytes_of ss) ≡ []
none_after kind pre done [] n read number is = refl
none_after kind pre done (s ∷ ss) n read number is =
    let all = pre ++ bytes_of s ∷ map bytes_of ss in
    let place : length pre ≡ n - 1 = omega (arith, number) in
    let before : take (n - 1) all ≡ pre = take_at pre (bytes_of s ∷ map bytes_of ss) (n - 1) place in
    let here : faults_at all n (bytes_of s) ≡ [] = ap (λ (l : List (List ℕ)). line_faults (said l) n (bytes_of s)) before ∙ ap (λ (l : List KitLine). line_faults l n (bytes_of s)) read ∙ line_clear kind done s ss n is in
    let one_more : 1 + length pre ≡ n = omega (arith, number) in
    let next : said (pre ++ bytes_of s ∷ []) ≡ done ++ line_at n s ∷ [] =
    each_push 1 (λ k l. option_to_list (line_of k (words l))) pre (bytes_of s)
    ∙ ap (λ (l : List KitLine). l ++ option_to_list (line_of (1 + length pre) (words (bytes_of s)))) read
    ∙ ap (λ k. done ++ option_to_list (line_of k (words (bytes_of s)))) one_more
    ∙ ap (λ (o : Option KitLine). done ++ option_to_list o) (line_read n s is.are.0.printable) in
    let count : suc n ≡ suc (length (pre ++ bytes_of s ∷ [])) = (let split = length-append pre (bytes_of s ∷ []) in omega (arith, split, number)) in
    let whole : (pre ++ bytes_of s ∷ []) ++ map bytes_of ss ≡ all = append_assoc pre (bytes_of s ∷ []) (map bytes_of ss) in
    let rest : each_from (suc n) (faults_at all) (map bytes_of ss) ≡ [] =
    ap (λ (l : List (List ℕ)). each_from (suc n) (faults_at l) (map bytes_of ss)) (sym whole)
    ∙ none_after kind (pre ++ bytes_of s ∷ []) (done ++ line_at n s ∷ []) ss (suc n) next count (clear_more kind done s ss n is) in
    rw (here, rest) refl
