-- THE TEXT OF A KIT READS AS THAT KIT.
use Rattle.std.proofs.Common.{◌≡◌, ℕ, suc, ◌+◌, ◌<◌, ◌≤◌, Bool, true, false, ◌&&◌, List, [], ◌∷◌, ◌++◌, length, refl, sym, ap, ◌∙◌, arith, Option}
use Rattle.std.specs.Prelude.{Some, None, IsSome, map, fold, is_none, option_to_list, unwrap_or, if◌then◌else◌}
use Rattle.std.specs.Option.{option_map_or}
use Rattle.std.specs.List.{flat_map, join_with_byte, AllByRecursion}
use Rattle.std.proofs.lemmas.List.{map-append}
use Rattle.kl_base.specs.declared.limits.TheConstants.{INPUT_COUNT_LIMIT}
use Rattle.kl_text.specs.Lines.{lines, words, words_line}
use Rattle.kl_model.specs.Kits.{is_empty, is_kernel}
use Rattle.kl_model.specs.Lists.{each_from, only_if}
use Rattle.kl_model.specs.declared.kit.KitInput.{KitInput}
use Rattle.kl_model.specs.declared.kit.EdgeLine.{EdgeLine}
use Rattle.kl_model.specs.declared.kit.Run.{Run}
use Rattle.kl_model.specs.declared.kit.Kit.{Kit}
use Rattle.kl_model.specs.declared.kit.KitKind.{KitKind}
use Rattle.kl_model.specs.declared.kit.KitKind.TheVariants.{Kernel, Library}
use Rattle.kl_kit.specs.Forms.{HasFile}
use Rattle.kl_kit.specs.Keywords.{keyword_of}
use Rattle.kl_kit.specs.Keys.{comes_again, line_keys}
use Rattle.kl_kit.specs.KitLines.{line_of, line_statement, said, statements}
use Rattle.kl_kit.specs.KitPrints.{kit_text}
use Rattle.kl_kit.specs.KitTexts.{default_base, input_said, kit_faults, kit_of, kit_of_statements, kind_said, line_faults, many, missing, one, output_faults}
use Rattle.kl_kit.specs.Readers.{also, parts_of}
use Rattle.kl_kit.specs.ReadableKits.{HasEdgeWords, HasRunWords, IsOfKind, IsReadable, IsWord, SameKit, unnumbered, unnumbered_edge, unnumbered_input, unnumbered_run}
use Rattle.kl_kit.specs.declared.fault.KitFault.{KitFault}
use Rattle.kl_kit.specs.declared.fault.KitFault.TheVariants as fault
use Rattle.kl_kit.specs.declared.fault.Needed.{Needed}
use Rattle.kl_kit.specs.declared.fault.Needed.TheVariants as needed
use Rattle.kl_kit.specs.declared.parts.Parts.{Parts}
use Rattle.kl_kit.specs.declared.statement.Statement.{Statement}
use Rattle.kl_kit.specs.declared.statement.Statement.TheVariants as says
use Rattle.kl_kit.proofs.KitStatements.{all_said, base_said, kit_said, library_said, line_text, more_said, parts-fold, parts_said, whole_parts, base_put}
use Rattle.kl_kit.proofs.PrintedFaults.{IsClear, bytes_of, line_at, line_read, none_after, said_keys, statement_read}
use Rattle.kl_kit.proofs.PrintedKeys.{keys_once}
use Rattle.kl_kit.proofs.PrintedRows.{IsPrintable, ArePrintable, lines_again, row_words}
use Rattle.kl_kit.proofs.PrintedStatements.{IsSaid, at, row_of, said_base, said_drop, said_edge, said_entry, said_export, said_input, said_needed, said_output, said_refuse, said_run, said_soname, said_symbolic}
use Rattle.kl_kit.proofs.Reading.{faults_at}

-- each thing that is said is read
both : (kind : KitKind) (xs ys : List Statement) → AllByRecursion (IsSaid kind) xs → AllByRecursion (IsSaid kind) ys → AllByRecursion (IsSaid kind) (xs ++ ys)
both kind [] ys first second = second
both kind (x ∷ xs) ys first second = (first.0, both kind xs ys first.1 second)

of_each : {X : Type 0} (P : X → Type 0) (kind : KitKind) (say : X → Statement) (xs : List X) → ((x : X) → P x → IsSaid kind (say x)) → AllByRecursion P xs → AllByRecursion (IsSaid kind) (map say xs)
of_each P kind say [] gives are = tt
of_each P kind say (x ∷ xs) gives are = (gives x are.0, of_each P kind say xs gives are.1)

are_base : (kind : KitKind) (kit : Kit) → IsOfKind kind kit → AllByRecursion (IsSaid kind) (base_said kind kit.base)
are_base Kernel kit is = (said_base kit.base is.kernel.base_page is.kernel.base_limit, tt)
are_base Library kit is = tt

are_library : (kind : KitKind) (kit : Kit) → AllByRecursion IsWord (option_to_list kit.soname) → AllByRecursion IsWord kit.needed → AllByRecursion IsWord kit.exports → AllByRecursion (IsSaid kind) (library_said kind kit)
are_library Kernel kit soname names exports = tt
are_library Library kit soname names exports =
    both Library (map (λ w. says.Soname w) (option_to_list kit.soname) ++ map (λ w. says.Needed w) kit.needed ++ map (λ w. says.Export w) kit.exports ++ (if kit.symbolic then says.Symbolic ∷ [] else [])) (if kit.refuse then says.Undefined true ∷ [] else [])
    (both Library (map (λ w. says.Soname w) (option_to_list kit.soname) ++ map (λ w. says.Needed w) kit.needed ++ map (λ w. says.Export w) kit.exports) (if kit.symbolic then says.Symbolic ∷ [] else [])
    (both Library (map (λ w. says.Soname w) (option_to_list kit.soname) ++ map (λ w. says.Needed w) kit.needed) (map (λ w. says.Export w) kit.exports)
    (both Library (map (λ w. says.Soname w) (option_to_list kit.soname)) (map (λ w. says.Needed w) kit.needed)
    (of_each IsWord Library (λ w. says.Soname w) (option_to_list kit.soname) said_soname soname)
    (of_each IsWord Library (λ w. says.Needed w) kit.needed said_needed names))
    (of_each IsWord Library (λ w. says.Export w) kit.exports said_export exports))
    (symbolic kit.symbolic))
    (refuse kit.refuse)
  where
    symbolic : (t : Bool) → AllByRecursion (IsSaid Library) (if t then says.Symbolic ∷ [] else [])
    symbolic true = (said_symbolic, tt)
    symbolic false = tt

    refuse : (t : Bool) → AllByRecursion (IsSaid Library) (if t then says.Undefined true ∷ [] else [])
    refuse true = (said_refuse, tt)
    refuse false = tt

free_output : (kind : KitKind) (kit : Kit) → IsOfKind kind kit → (n : ℕ) → output_faults (Some kind) n (says.Output kit.output) ≡ []
free_output Kernel kit is n = rw is.output refl
free_output Library kit is n = rw is.output refl

pub are_said : (kit : Kit) → IsReadable kit → AllByRecursion (IsSaid kit.kind) (more_said kit)
are_said kit is =
    let kind = kit.kind in
    let a = (says.Output kit.output ∷ []) in
    let b = base_said kind kit.base in
    let d = map (λ w. says.Entry w) (option_to_list kit.entry) in
    let e = map (λ i. says.Input i) kit.inputs in
    let f = map (λ r. says.Run r) kit.runs in
    let g = map (λ x. says.Edge x) kit.edges in
    let h = map (λ w. says.Drop w) kit.drops in
    both kind (a ++ b ++ d ++ e ++ f ++ g ++ h) (library_said kind kit)
    (both kind (a ++ b ++ d ++ e ++ f ++ g) h
    (both kind (a ++ b ++ d ++ e ++ f) g
    (both kind (a ++ b ++ d ++ e) f
    (both kind (a ++ b ++ d) e
    (both kind (a ++ b) d
    (both kind a b
    (said_output kind kit.output is.output (free_output kind kit is.kind), tt)
    (are_base kind kit is.kind))
    (of_each IsWord kind (λ w. says.Entry w) (option_to_list kit.entry) (said_entry kind) is.entry))
    (of_each HasFile kind (λ i. says.Input i) kit.inputs (said_input kind) is.inputs))
    (of_each HasRunWords kind (λ r. says.Run r) kit.runs (said_run kind) is.runs))
    (of_each HasEdgeWords kind (λ x. says.Edge x) kit.edges (said_edge kind) is.edges))
    (of_each IsWord kind (λ w. says.Drop w) kit.drops (said_drop kind) is.drops))
    (are_library kind kit is.soname is.needed is.exports)

-- what lines say that are numbered from n
abbrev numbered : ℕ → List Statement → List Statement
numbered n [] = []
numbered n (s ∷ ss) = at n s ∷ numbered (suc n) ss

-- a line that is read back, whatever its number
record IsBack (s : Statement) : Type 0 where
  pub printable : AllByRecursion IsPrintable (row_of s).words
  pub read : (n : ℕ) → line_statement (line_at n s) ≡ Some (at n s)

back : (kind : KitKind) (s : Statement) → IsSaid kind s → IsBack s
back kind s is = record { printable = is.printable; read = λ n. statement_read n s (is.read n) }

back_kind : (kind : KitKind) → IsBack (says.Kind kind)
unfolding keyword_of
back_kind Kernel = record { printable = (record { some = omega arith; bytes = refl }, tt); read = λ n. refl }
back_kind Library = record { printable = (record { some = omega arith; bytes = refl }, tt); read = λ n. refl }

all_back : (kind : KitKind) (ss : List Statement) → AllByRecursion (IsSaid kind) ss → AllByRecursion IsBack ss
all_back kind [] are = tt
all_back kind (s ∷ ss) are = (back kind s are.0, all_back kind ss are.1)

lines_back : (ss : List Statement) → AllByRecursion IsBack ss → lines (flat_map line_text ss) ≡ map bytes_of ss
lines_back ss are = ap lines (same ss) ∙ lines_again (map row_of ss) (printable ss are) ∙ rows ss
  where
    same : (ss : List Statement) → flat_map line_text ss ≡ flat_map (λ r. words_line (row_words r)) (map row_of ss)
    same [] = refl
    same (s ∷ ss) = ap (λ (l : List ℕ). line_text s ++ l) (same ss)

    printable : (ss : List Statement) → AllByRecursion IsBack ss → ArePrintable (map row_of ss)
    printable [] are = tt
    printable (s ∷ ss) are = (are.0.printable, printable ss are.1)

    rows : (ss : List Statement) → map (λ r. join_with_byte 32 (row_words r)) (map row_of ss) ≡ map bytes_of ss
    rows [] = refl
    rows (s ∷ ss) = ap (λ (l : List (List ℕ)). bytes_of s ∷ l) (rows ss)

statements_back : (n : ℕ) (ss : List Statement) → AllByRecursion IsBack ss → statements (each_from n (λ k l. option_to_list (line_of k (words l))) (map bytes_of ss)) ≡ numbered n ss
statements_back n [] are = refl
statements_back n (s ∷ ss) are =
    rw (line_read n s are.0.printable, are.0.read n) (ap (λ (l : List Statement). at n s ∷ l) (statements_back (suc n) ss are.1))

-- parts without the numbers of lines
abbrev plain : Parts → Parts
plain p = record p { inputs = map unnumbered_input p.inputs; runs = map unnumbered_run p.runs; edges = map unnumbered_edge p.edges }

plain_also : (p : Parts) (s : Statement) → also (plain p) (at 0 s) ≡ plain (also p s)
plain_also p (says.Input input) = ap (λ (l : List KitInput). record (plain p) { inputs = l }) (sym (map-append unnumbered_input p.inputs (input ∷ [])))
plain_also p (says.Run run) = ap (λ (l : List Run). record (plain p) { runs = l }) (sym (map-append unnumbered_run p.runs (run ∷ [])))
plain_also p (says.Edge edge) = ap (λ (l : List EdgeLine). record (plain p) { edges = l }) (sym (map-append unnumbered_edge p.edges (edge ∷ [])))
plain_also p (says.Kind kind) = refl
plain_also p (says.Output name) = refl
plain_also p (says.Base b) = refl
plain_also p (says.Entry symbol) = refl
plain_also p (says.Drop section) = refl
plain_also p (says.Soname text) = refl
plain_also p (says.Needed text) = refl
plain_also p (says.Export symbol) = refl
plain_also p says.Symbolic = refl
plain_also p (says.Undefined refuse) = refl

plain_fold : (p : Parts) (ss : List Statement) → fold also (plain p) (map (at 0) ss) ≡ plain (fold also p ss)
plain_fold p [] = refl
plain_fold p (s ∷ ss) = ap (λ (q : Parts). fold also q (map (at 0) ss)) (plain_also p s) ∙ plain_fold (also p s) ss

plain_parts : (ss : List Statement) → parts_of (map (at 0) ss) ≡ plain (parts_of ss)
plain_parts ss = sym (parts-fold [] (map (at 0) ss)) ∙ plain_fold (parts_of []) ss ∙ ap plain (parts-fold [] ss)

at_at : (n : ℕ) (s : Statement) → at 0 (at n s) ≡ at 0 s
at_at n (says.Input input) = refl
at_at n (says.Run run) = refl
at_at n (says.Edge edge) = refl
at_at n (says.Kind kind) = refl
at_at n (says.Output name) = refl
at_at n (says.Base b) = refl
at_at n (says.Entry symbol) = refl
at_at n (says.Drop section) = refl
at_at n (says.Soname text) = refl
at_at n (says.Needed text) = refl
at_at n (says.Export symbol) = refl
at_at n says.Symbolic = refl
at_at n (says.Undefined refuse) = refl

numbers_aside : (n : ℕ) (ss : List Statement) → map (at 0) (numbered n ss) ≡ map (at 0) ss
numbers_aside n [] = refl
numbers_aside n (s ∷ ss) = rw (at_at n s, numbers_aside (suc n) ss) refl

-- the parts of what is read are those of the kit
parts_back : (kit : Kit) → IsReadable kit → (n : ℕ) → plain (parts_of (numbered n (all_said kit))) ≡ plain (whole_parts kit)
parts_back kit is n =
    sym (plain_parts (numbered n (all_said kit)))
    ∙ ap parts_of (numbers_aside n (all_said kit))
    ∙ plain_parts (all_said kit)
    ∙ ap plain (parts_said kit is)

-- the kit of parts
abbrev kit_of_parts : Parts → Kit
kit_of_parts p =
    let kind = unwrap_or p.kind Kernel in
    record {
      kind = kind;
      output = unwrap_or p.output [];
      base = unwrap_or p.base (default_base kind);
      entry = p.entry;
      inputs = p.inputs;
      runs = p.runs;
      edges = p.edges;
      drops = p.drops;
      needed = p.needed;
      exports = p.exports;
      soname = p.soname;
      symbolic = p.symbolic;
      refuse = p.refuse;
    }

whole_kit : (kit : Kit) → IsReadable kit → kit_of_parts (whole_parts kit) ≡ kit
whole_kit kit is = ap (λ (b : ℕ). record kit { base = b }) (base kit.kind is.kind)
  where
    base : (kind : KitKind) → IsOfKind kind kit → unwrap_or (base_put kind kit.base) (default_base kind) ≡ kit.base
    base Kernel of = refl
    base Library of = sym of.base

kit_back : (kit : Kit) → IsReadable kit → (n : ℕ) → SameKit (kit_of_statements (numbered n (all_said kit))) kit
kit_back kit is n = ap kit_of_parts (parts_back kit is n) ∙ ap unnumbered (whole_kit kit is)

-- nothing is missing
abbrev missing_parts : Parts → List Needed
missing_parts p =
    only_if (is_none p.kind) needed.Kind
    ++ only_if (is_none p.output) needed.Output
    ++ only_if (option_map_or is_kernel p.kind false && is_none p.entry) needed.Entry
    ++ only_if (is_empty p.inputs) needed.Input

plain_missing : (p : Parts) → missing_parts p ≡ missing_parts (plain p)
plain_missing p = rw (same p.inputs) refl
  where
    same : (xs : List KitInput) → is_empty (map unnumbered_input xs) ≡ is_empty xs
    same [] = refl
    same (x ∷ xs) = refl

whole_missing : (kit : Kit) → IsReadable kit → missing_parts (whole_parts kit) ≡ []
whole_missing kit is = rw (entry kit.kind kit.entry (of kit.kind is.kind), inputs kit.inputs is.some_input) refl
  where
    of : (kind : KitKind) → IsOfKind kind kit → kind ≡ Kernel → IsSome kit.entry
    of Kernel is e = is.kernel.entry
    of Library is e = cc

    entry : (kind : KitKind) (o : Option (List ℕ)) → (kind ≡ Kernel → IsSome o) → (is_kernel kind && is_none o) ≡ false
    entry Kernel (Some w) given = refl
    entry Kernel None given = (let e = given refl in cc)
    entry Library o given = refl

    inputs : (xs : List KitInput) → 0 < length xs → is_empty xs ≡ false
    inputs [] h = absurd (omega (arith, h))
    inputs (x ∷ xs) h = refl

none_missing : (kit : Kit) → IsReadable kit → (n : ℕ) → missing (numbered n (all_said kit)) ≡ []
none_missing kit is n =
    plain_missing (parts_of (numbered n (all_said kit)))
    ∙ ap missing_parts (parts_back kit is n)
    ∙ sym (plain_missing (whole_parts kit))
    ∙ whole_missing kit is

-- THE TEXT OF A KIT has no fault, and reads as that kit, the numbers of lines aside
first_clear : (kind : KitKind) → line_faults [] 1 (bytes_of (says.Kind kind)) ≡ []
unfolding keyword_of
first_clear Kernel = refl
first_clear Library = refl

first_said : (kind : KitKind) → said (bytes_of (says.Kind kind) ∷ []) ≡ line_at 1 (says.Kind kind) ∷ []
first_said Kernel = refl
first_said Library = refl

clear : (kit : Kit) → IsReadable kit → IsClear kit.kind (line_at 1 (says.Kind kit.kind) ∷ []) (more_said kit)
unfolding keyword_of
clear kit is = record {
  some = refl;
  known = known kit.kind;
  are = are_said kit is;
  once = keys kit.kind;
  room = room;
}
  where
    known : (kind : KitKind) → one kind_said (statements (line_at 1 (says.Kind kind) ∷ [])) ≡ Some kind
    known Kernel = refl
    known Library = refl

    keys : (kind : KitKind) → comes_again (flat_map line_keys (line_at 1 (says.Kind kind) ∷ [])) (flat_map said_keys (more_said kit)) ≡ false
    keys kind = keys_once kit is

    none : (kind : KitKind) → length (many input_said (statements (line_at 1 (says.Kind kind) ∷ []))) ≡ 0
    none Kernel = refl
    none Library = refl

    room : length (many input_said (statements (line_at 1 (says.Kind kit.kind) ∷ []))) + length (many input_said (more_said kit)) ≤ INPUT_COUNT_LIMIT
    room =
        let inputs : many input_said (more_said kit) ≡ kit.inputs = ap (λ (p : Parts). p.inputs) (parts_said kit is) in
        let count = ap length inputs in
        let most = is.count in
        let before = none kit.kind in
        omega (arith, count, most, before)

text_lines : (kit : Kit) → IsReadable kit → lines (kit_text kit) ≡ map bytes_of (all_said kit)
text_lines kit is = ap lines (sym (kit_said kit)) ∙ lines_back (all_said kit) (back_kind kit.kind, all_back kit.kind (more_said kit) (are_said kit is))

text_statements : (kit : Kit) → IsReadable kit → statements (said (lines (kit_text kit))) ≡ numbered 1 (all_said kit)
text_statements kit is = ap (λ (l : List (List ℕ)). statements (said l)) (text_lines kit is) ∙ statements_back 1 (all_said kit) (back_kind kit.kind, all_back kit.kind (more_said kit) (are_said kit is))

lines_clear : (kit : Kit) → IsReadable kit → each_from 1 (faults_at (map bytes_of (all_said kit))) (map bytes_of (all_said kit)) ≡ []
lines_clear kit is =
    rw (first_clear kit.kind) (none_after kit.kind (bytes_of (says.Kind kit.kind) ∷ []) (line_at 1 (says.Kind kit.kind) ∷ []) (more_said kit) 2 (first_said kit.kind) refl (clear kit is))

pub text_clear : (kit : Kit) → IsReadable kit → kit_faults (kit_text kit) ≡ []
unfolding kit_faults
text_clear kit is =
    ap (λ (l : List (List ℕ)). each_from 1 (faults_at l) l ++ map fault.Missing (missing (statements (said (lines (kit_text kit)))))) (text_lines kit is)
    ∙ ap (λ (l : List KitFault). l ++ map fault.Missing (missing (statements (said (lines (kit_text kit)))))) (lines_clear kit is)
    ∙ ap (λ (ss : List Statement). map fault.Missing (missing ss)) (text_statements kit is)
    ∙ ap (map fault.Missing) (none_missing kit is 1)

pub text_reads : (kit : Kit) → IsReadable kit → SameKit (kit_of (kit_text kit)) kit
unfolding kit_of
text_reads kit is = ap (λ (ss : List Statement). unnumbered (kit_of_statements ss)) (text_statements kit is) ∙ kit_back kit is 1
