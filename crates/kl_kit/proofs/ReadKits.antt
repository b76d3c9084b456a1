-- EVERY KIT THAT IS READ IS ONE THAT A TEXT CAN SAY.
use Rattle.std.proofs.Common.{◌≡◌, ℕ, ◌+◌, ◌<◌, ◌≤◌, Bool, true, false, not, cond, ◌&&◌, List, [], ◌∷◌, ◌++◌, length, refl, sym, ap, subst, ◌∙◌, arith, append_assoc, Option}
use Rattle.std.specs.Prelude.{Result, Ok, Err, IfOk, OnOk, Some, None, nat_le, flat_map, is_some, is_none, option_to_list, unwrap_or}
use Rattle.std.specs.Option.{option_and_then, option_map_or, option_or}
use Rattle.std.specs.List.{cons_option, AllByRecursion}
use Rattle.std.proofs.lemmas.Bool.{leb-false}
use Rattle.std.proofs.lemmas.List.{append-nil, length-append}
use Rattle.std.proofs.lemmas.List.Elements.{filter_map-append}
use Rattle.std.proofs.lemmas.Grind.{flat_map-append}
use Rattle.kl_base.specs.declared.limits.TheConstants.{INPUT_COUNT_LIMIT}
use Rattle.kl_text.specs.Lines.{lines}
use Rattle.kl_model.specs.Kits.{is_empty}
use Rattle.kl_model.specs.declared.kit.Kit.{Kit}
use Rattle.kl_model.specs.declared.kit.KitKind.{KitKind}
use Rattle.kl_model.specs.declared.kit.KitKind.TheVariants.{Kernel, Library}
use Rattle.kl_model.proofs.Each.{none_left, none_right}
use Rattle.kl_kit.specs.Keywords.{has_lines, keyword_of}
use Rattle.kl_kit.specs.Keys.{Key, comes_again, keys_of, line_keys}
use Rattle.kl_kit.specs.KitLines.{KitLine, line_statement, said, statement_of, statements}
use Rattle.kl_kit.specs.KitTexts.{base_said, default_base, drop_said, edge_said, entry_said, export_said, has_line, input_said, is_in_place, is_kind, kind_said, kit_faults, kit_of, kit_of_statements, last, many, missing, needed_said, one, output_faults, output_said, refuse_said, run_said, soname_said, symbolic_said}
use Rattle.kl_kit.specs.ReadableKits.{HasEdgeWords, HasRunWords, IsOfKind, IsReadable, IsWord, kit_keys}
use Rattle.kl_kit.specs.declared.fault.KitError.{KitError}
use Rattle.kl_kit.specs.declared.fault.Needed.TheVariants as needed
use Rattle.kl_kit.specs.declared.keyword.Keyword.{Keyword}
use Rattle.kl_kit.specs.declared.keyword.Keyword.TheVariants as keyword
use Rattle.kl_kit.specs.declared.statement.Statement.{Statement}
use Rattle.kl_kit.specs.declared.statement.Statement.TheVariants as says
use Rattle.kl_kit.proofs.CountedKeys.{count-append, kit_count, never_twice, none_again}
use Rattle.kl_kit.proofs.FormedStatements.{IsFormed, IsOutputOf, OfLibrary, OutputFits, count, each_part, formed, keys_among, kind_line, listed_keys, no_kind_said}
use Rattle.kl_kit.proofs.InputFiles.{inputs_have}
use Rattle.kl_kit.proofs.KernelKits.{kernel_is, not_told}
use Rattle.kl_kit.proofs.PrintedFaults.{comes-append}
use Rattle.kl_kit.proofs.Said.{many-push, one-push}
use Rattle.kl_kit.proofs.SoundLines.{AreSound, IsSoundLine, sound_line, text_sound, text_whole}

-- what is known behind lines without a fault, the first of which says the kind
record SoFar (kind : KitKind) (done : List KitLine) : Type 0 where
  pub some : is_empty done ≡ false
  pub known : one kind_said (statements done) ≡ Some kind
  pub formed : AllByRecursion (IsFormed kind) (statements done)
  pub once : comes_again [] (flat_map line_keys done) ≡ false
  pub among : (q : Key) → count q (flat_map listed_keys (statements done)) ≤ count q (flat_map line_keys done)
  pub room : length (many input_said (statements done)) ≤ INPUT_COUNT_LIMIT

line_says : (l : KitLine) (k : Keyword) (s : Statement) → keyword_of l.keyword ≡ Some k → statement_of k l.number l.words ≡ Some s → line_statement l ≡ Some s
line_says l k s word read = ap (λ (o : Option Keyword). option_and_then (λ k. statement_of k l.number l.words) o) word ∙ read

line_has : (l : KitLine) (k : Keyword) → keyword_of l.keyword ≡ Some k → line_keys l ≡ keys_of k l.words
line_has l k word = ap (λ (o : Option Keyword). option_map_or (λ k. keys_of k l.words) o []) word

one_formed : (kind : KitKind) (xs : List Statement) (s : Statement) → AllByRecursion (IsFormed kind) xs → IsFormed kind s → AllByRecursion (IsFormed kind) (xs ++ s ∷ [])
one_formed kind [] s are is = (is, tt)
one_formed kind (x ∷ xs) s are is = (are.0, one_formed kind xs s are.1 is)

both_true : (kind : KitKind) (k : Keyword) → (not (is_kind k) && has_lines kind k) ≡ true → (is_kind k ≡ false) × (has_lines kind k ≡ true)
both_true kind k e = go (is_kind k) e
  where
    go : (t : Bool) → (not t && has_lines kind k) ≡ true → (t ≡ false) × (has_lines kind k ≡ true)
    go true e = cc
    go false e = (refl, e)

in_place : (kind : KitKind) (done : List KitLine) (k : Keyword) → SoFar kind done → is_in_place done k ≡ true → (is_kind k ≡ false) × (has_lines kind k ≡ true)
in_place kind done k so_far place =
    both_true kind k (
    sym (ap (λ t. cond t (is_kind k) (not (is_kind k) && has_line (one kind_said (statements done)) k)) so_far.some
    ∙ ap (λ (o : Option KitKind). not (is_kind k) && has_line o k) so_far.known)
    ∙ place)

room_more : (s : Statement) (xs : ℕ) → xs ≤ INPUT_COUNT_LIMIT → (is_some (input_said s) && nat_le INPUT_COUNT_LIMIT xs) ≡ false → xs + length (cons_option (input_said s) []) ≤ INPUT_COUNT_LIMIT
room_more s xs most free = go (input_said s) free
  where
    go : {X : Type 0} (o : Option X) → (is_some o && nat_le INPUT_COUNT_LIMIT xs) ≡ false → xs + length (cons_option o []) ≤ INPUT_COUNT_LIMIT
    go None e = omega (arith, most)
    go (Some x) e = (let h = leb-false INPUT_COUNT_LIMIT xs e in omega (arith, h))

line_more : (kind : KitKind) (done : List KitLine) (l : KitLine) (k : Keyword) (s : Statement) → SoFar kind done → IsSoundLine done l k s → SoFar kind (done ++ l ∷ [])
line_more kind done l k s so_far is =
    let at = in_place kind done k so_far is.place in
    let free : output_faults (Some kind) l.number s ≡ [] = ap (λ (o : Option KitKind). output_faults o l.number s) (sym so_far.known) ∙ is.output in
    let said_one : statements (done ++ l ∷ []) ≡ statements done ++ s ∷ [] =
    filter_map-append line_statement done (l ∷ []) ∙ ap (λ (o : Option Statement). statements done ++ cons_option o []) (line_says l k s is.keyword is.says) in
    let keys : flat_map line_keys (done ++ l ∷ []) ≡ flat_map line_keys done ++ keys_of k l.words =
    flat_map-append line_keys done (l ∷ []) ∙ ap (λ (x : List Key). flat_map line_keys done ++ x) (append-nil (line_keys l) ∙ line_has l k is.keyword) in
    record {
      some = not_empty done;
      known = ap (one kind_said) said_one ∙ one-push kind_said (statements done) s ∙ ap (λ (o : Option KitKind). option_or o (one kind_said (statements done))) (no_kind_said k l.number l.words s at.0 is.says) ∙ so_far.known;
      formed = subst (λ (x : List Statement). AllByRecursion (IsFormed kind) x) (sym said_one) (one_formed kind (statements done) s so_far.formed (formed kind k l.number l.words s at.1 is.says free));
      once = ap (comes_again []) keys ∙ comes-append [] (flat_map line_keys done) (keys_of k l.words) ∙ rw (so_far.once, is.once) refl;
      among = λ q.
          (let before = so_far.among q in
          let here = keys_among k l.number l.words s is.says q in
          let lines_count = ap (count q) keys ∙ count-append q (flat_map line_keys done) (keys_of k l.words) in
          let said_count = ap (λ (x : List Statement). count q (flat_map listed_keys x)) said_one ∙ ap (count q) (flat_map-append listed_keys (statements done) (s ∷ [])) ∙ count-append q (flat_map listed_keys (statements done)) (listed_keys s ++ []) ∙ ap (λ (x : List Key). count q (flat_map listed_keys (statements done)) + count q x) (append-nil (listed_keys s)) in
          omega (arith, before, here, lines_count, said_count));
      room = (let total = ap length (ap (many input_said) said_one ∙ many-push input_said (statements done) s) in
          let split = length-append (many input_said (statements done)) (cons_option (input_said s) []) in
          let more = room_more s (length (many input_said (statements done))) so_far.room is.room in
          omega (arith, total, split, more));
    }
  where
    not_empty : (ls : List KitLine) → is_empty (ls ++ l ∷ []) ≡ false
    not_empty [] = refl
    not_empty (x ∷ ls) = refl

lines_more : (kind : KitKind) (done ls : List KitLine) → SoFar kind done → AreSound done ls → SoFar kind (done ++ ls)
lines_more kind done [] so_far are = subst (SoFar kind) (sym (append-nil done)) so_far
lines_more kind done (l ∷ ls) so_far are =
    let rest = lines_more kind (done ++ l ∷ []) ls in
    sound_line done l (SoFar kind (done ++ l ∷ ls)) are.0 (λ k s is. subst (SoFar kind) (append_assoc done (l ∷ []) ls) (rest (line_more kind done l k s so_far is) are.1))

-- the first line
first_keyword : (k : Keyword) → is_kind k ≡ true → k ≡ keyword.Kind
first_keyword keyword.Kind e = refl
first_keyword keyword.Output e = cc
first_keyword keyword.Base e = cc
first_keyword keyword.Entry e = cc
first_keyword keyword.Head e = cc
first_keyword keyword.Object e = cc
first_keyword keyword.Tail e = cc
first_keyword keyword.Run e = cc
first_keyword keyword.Edge e = cc
first_keyword keyword.Drop e = cc
first_keyword keyword.Soname e = cc
first_keyword keyword.Needed e = cc
first_keyword keyword.Export e = cc
first_keyword keyword.Symbolic e = cc
first_keyword keyword.Undefined e = cc

kind_first : (l : KitLine) (kind : KitKind) → keyword_of l.keyword ≡ Some keyword.Kind → statement_of keyword.Kind l.number l.words ≡ Some (says.Kind kind) → SoFar kind (l ∷ [])
kind_first l kind word read =
    let statement = line_says l keyword.Kind (says.Kind kind) word read in
    let said_one : statements (l ∷ []) ≡ says.Kind kind ∷ [] = ap (λ (o : Option Statement). cons_option o []) statement in
    let keys : flat_map line_keys (l ∷ []) ≡ keys_of keyword.Kind l.words = append-nil (line_keys l) ∙ line_has l keyword.Kind word in
    record {
      some = refl;
      known = ap (one kind_said) said_one;
      formed = subst (λ (x : List Statement). AllByRecursion (IsFormed kind) x) (sym said_one) (record { outputs = tt; bases = tt; entries = tt; runs = tt; edges = tt; drops = tt; sonames = tt; needed = tt; exports = tt; symbolics = tt; refuses = tt }, tt);
      once = ap (comes_again []) keys;
      among = λ q. (let none = ap (λ (x : List Statement). count q (flat_map listed_keys x)) said_one in omega (arith, none));
      room = (let none = ap (λ (x : List Statement). length (many input_said x)) said_one in omega (arith, none));
    }

first_more : (l : KitLine) (ls : List KitLine) (Q : Type 0) → AreSound [] (l ∷ ls) → ((kind : KitKind) → SoFar kind (l ∷ ls) → Q) → Q
first_more l ls Q are give = sound_line [] l Q are.0 by
  where
    by : (k : Keyword) (s : Statement) → IsSoundLine [] l k s → Q
    by k s is =
        let first = first_keyword k is.place in
        let word : keyword_of l.keyword ≡ Some keyword.Kind = is.keyword ∙ ap (λ (x : Keyword). Some x) first in
        let says : statement_of keyword.Kind l.number l.words ≡ Some s = ap (λ (x : Keyword). statement_of x l.number l.words) (sym first) ∙ is.says in
        kind_line l.number l.words s (λ (x : Statement). statement_of keyword.Kind l.number l.words ≡ Some x → Q) says
        (λ kind. λ e. give kind (lines_more kind (l ∷ []) ls (kind_first l kind word e) are.1))
        says

-- of the last of several
last_each : {X : Type 0} (P : X → Type 0) (xs : List X) → AllByRecursion P xs → AllByRecursion P (option_to_list (last xs))
last_each P [] are = tt
last_each P (x ∷ []) are = are
last_each P (x ∷ y ∷ xs) are = last_each P (y ∷ xs) are.1

none_of : {X : Type 0} (P : X → Type 0) (xs : List X) → ((x : X) → P x → ⊥) → AllByRecursion P xs → xs ≡ []
none_of P [] never are = refl
none_of P (x ∷ xs) never are = absurd (never x are.0)

second_each : (kind : KitKind) (xs : List (List ℕ)) → AllByRecursion (OfLibrary kind) xs → AllByRecursion IsWord xs
second_each kind [] are = tt
second_each kind (x ∷ xs) are = (are.0.1, second_each kind xs are.1)

some_output : (o : Option (List ℕ)) (P : List ℕ → Type 0) → is_none o ≡ false → AllByRecursion P (option_to_list o) → P (unwrap_or o [])
some_output None P e are = cc
some_output (Some x) P e are = are.0

some_items : {X : Type 0} (xs : List X) → is_empty xs ≡ false → 0 < length xs
some_items [] e = cc
some_items (x ∷ xs) e = omega arith

module _ (kind : KitKind) (ls : List KitLine) (so_far : SoFar kind ls) (whole : missing (statements ls) ≡ []) where
  kit_kind : (kit_of_statements (statements ls)).kind ≡ kind
  kit_kind = ap (λ (o : Option KitKind). unwrap_or o Kernel) so_far.known

  output_fits : OutputFits kind (kit_of_statements (statements ls)).output
  output_fits =
      let none = none_right _ _ (none_left _ _ (none_left _ _ whole)) in
      some_output (one output_said (statements ls)) (OutputFits kind) (not_told (is_none (one output_said (statements ls))) needed.Output none)
      (last_each (OutputFits kind) (many output_said (statements ls)) (each_part output_said (OutputFits kind) kind (statements ls) (λ s f. f.outputs) so_far.formed))

  some_input : 0 < length (many input_said (statements ls))
  some_input = some_items (many input_said (statements ls)) (not_told (is_empty (many input_said (statements ls))) needed.Input (none_right _ _ whole))

  needed_words : AllByRecursion (OfLibrary kind) (many needed_said (statements ls))
  needed_words = each_part needed_said (OfLibrary kind) kind (statements ls) (λ s f. f.needed) so_far.formed

  export_words : AllByRecursion (OfLibrary kind) (many export_said (statements ls))
  export_words = each_part export_said (OfLibrary kind) kind (statements ls) (λ s f. f.exports) so_far.formed

  soname_words : AllByRecursion (OfLibrary kind) (many soname_said (statements ls))
  soname_words = each_part soname_said (OfLibrary kind) kind (statements ls) (λ s f. f.sonames) so_far.formed

  keys_once : comes_again [] (kit_keys (kit_of_statements (statements ls))) ≡ false
  keys_once = none_again [] (kit_keys (kit_of_statements (statements ls))) (λ q.
      (let same = kit_count q (statements ls) in
      let fewer = so_far.among q in
      let most = never_twice [] (flat_map line_keys ls) (λ k. omega arith) so_far.once q in
      omega (arith, same, fewer, most)))

  -- a kernel has nothing that a library alone has
  of_kind : (other : KitKind) → kind ≡ other → IsOfKind other (kit_of_statements (statements ls))
  of_kind Kernel is = record {
    kernel = kernel_is ls whole (kit_kind ∙ is);
    output = subst (λ (x : KitKind). IsOutputOf x (kit_of_statements (statements ls)).output) is output_fits.1;
    soname = ap last (none_of (OfLibrary kind) (many soname_said (statements ls)) (λ x f. never (sym is ∙ f.0)) soname_words);
    needed = none_of (OfLibrary kind) (many needed_said (statements ls)) (λ x f. never (sym is ∙ f.0)) needed_words;
    exports = none_of (OfLibrary kind) (many export_said (statements ls)) (λ x f. never (sym is ∙ f.0)) export_words;
    symbolic = ap (λ (x : List Bool). unwrap_or (last x) false) (none_of (λ t. kind ≡ Library) (many symbolic_said (statements ls)) (λ x f. never (sym is ∙ f)) (each_part symbolic_said (λ t. kind ≡ Library) kind (statements ls) (λ s f. f.symbolics) so_far.formed));
    refuse = ap (λ (x : List Bool). unwrap_or (last x) false) (none_of (λ t. kind ≡ Library) (many refuse_said (statements ls)) (λ x f. never (sym is ∙ f)) (each_part refuse_said (λ t. kind ≡ Library) kind (statements ls) (λ s f. f.refuses) so_far.formed));
  }
    where
      never : Kernel ≡ Library → ⊥
      never e = cc
  of_kind Library is = record {
    output = subst (λ (x : KitKind). IsOutputOf x (kit_of_statements (statements ls)).output) is output_fits.1;
    base =
        ap (λ (x : List ℕ). unwrap_or (last x) (default_base (kit_of_statements (statements ls)).kind)) (none_of (λ n. kind ≡ Kernel) (many base_said (statements ls)) (λ x f. never (sym is ∙ f)) (each_part base_said (λ n. kind ≡ Kernel) kind (statements ls) (λ s f. f.bases) so_far.formed))
        ∙ ap default_base (kit_kind ∙ is);
  }
    where
      never : Library ≡ Kernel → ⊥
      never e = cc

  lines_readable : IsReadable (kit_of_statements (statements ls))
  lines_readable = record {
    kind = of_kind (kit_of_statements (statements ls)).kind (sym kit_kind);
    output = output_fits.0;
    entry = last_each IsWord (many entry_said (statements ls)) (each_part entry_said IsWord kind (statements ls) (λ s f. f.entries) so_far.formed);
    some_input = some_input;
    inputs = inputs_have ls;
    count = so_far.room;
    runs = each_part run_said HasRunWords kind (statements ls) (λ s f. f.runs) so_far.formed;
    edges = each_part edge_said HasEdgeWords kind (statements ls) (λ s f. f.edges) so_far.formed;
    drops = each_part drop_said IsWord kind (statements ls) (λ s f. f.drops) so_far.formed;
    soname = last_each IsWord (many soname_said (statements ls)) (second_each kind (many soname_said (statements ls)) soname_words);
    needed = second_each kind (many needed_said (statements ls)) needed_words;
    exports = second_each kind (many export_said (statements ls)) export_words;
    once = keys_once;
  }

pub all_readable : (ls : List KitLine) → AreSound [] ls → missing (statements ls) ≡ [] → IsReadable (kit_of_statements (statements ls))
all_readable [] are whole = cc
all_readable (l ∷ ls) are whole = first_more l ls (IsReadable (kit_of_statements (statements (l ∷ ls)))) are (λ kind so_far. lines_readable kind (l ∷ ls) so_far whole)

text_readable : (text : List ℕ) → kit_faults text ≡ [] → IsReadable (kit_of text)
unfolding kit_of
text_readable text none = all_readable (said (lines text)) (text_sound text none) (text_whole text none)

pub readable_read : (text : List ℕ) (result : Result Kit KitError) → IfOk result (λ kit. kit ≡ kit_of text) → OnOk result (kit_faults text ≡ []) → IfOk result IsReadable
readable_read text (Ok kit) is none = subst IsReadable (sym is) (text_readable text none)
readable_read text (Err e) is none = tt
