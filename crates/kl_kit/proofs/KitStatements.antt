-- What the text of a kit says, line by line, and the kit that this says.
use Rattle.std.proofs.Common.{◌≡◌, ℕ, Bool, true, false, List, [], ◌∷◌, ◌++◌, refl, sym, ap, ◌∙◌, append_assoc, Option}
use Rattle.std.specs.Prelude.{Some, None, map, fold, option_to_list, if◌then◌else◌, codes}
use Rattle.std.specs.Option.{option_map_or}
use Rattle.std.specs.List.{flat_map}
use Rattle.std.proofs.lemmas.List.{append-nil}
use Rattle.std.proofs.lemmas.Grind.{flat_map-append}
use Rattle.kl_text.specs.Lines.{words_line}
use Rattle.kl_model.specs.declared.kit.KitInput.{KitInput}
use Rattle.kl_model.specs.declared.kit.EdgeLine.{EdgeLine}
use Rattle.kl_model.specs.declared.kit.Run.{Run}
use Rattle.kl_model.specs.declared.kit.Kit.{Kit}
use Rattle.kl_model.specs.declared.kit.KitKind.{KitKind}
use Rattle.kl_model.specs.declared.kit.KitKind.TheVariants.{Kernel, Library}
use Rattle.kl_kit.specs.KitPrints.{base_line, edge_line, input_line, kind_word, kit_text, library_lines, run_line, word_line}
use Rattle.kl_kit.specs.Readers.{also, parts_of}
use Rattle.kl_kit.specs.ReadableKits.{IsOfKind, IsReadable}
use Rattle.kl_kit.specs.declared.keyword.Keyword.TheVariants as keyword
use Rattle.kl_kit.specs.declared.parts.Parts.{Parts}
use Rattle.kl_kit.specs.declared.statement.Statement.{Statement}
use Rattle.kl_kit.specs.declared.statement.Statement.TheVariants as says
use Rattle.kl_kit.proofs.PrintedRows.{row_words}
use Rattle.kl_kit.proofs.PrintedStatements.{row_of}
use Rattle.kl_kit.proofs.Said.{also-parts}

abbrev pub base_said : KitKind → ℕ → List Statement
base_said Kernel base = says.Base base ∷ []
base_said Library base = []

abbrev pub library_said : KitKind → Kit → List Statement
library_said Kernel kit = []
library_said Library kit =
    map (λ w. says.Soname w) (option_to_list kit.soname)
    ++ map (λ w. says.Needed w) kit.needed
    ++ map (λ w. says.Export w) kit.exports
    ++ (if kit.symbolic then says.Symbolic ∷ [] else [])
    ++ (if kit.refuse then says.Undefined true ∷ [] else [])

-- what is said behind the first line
abbrev pub more_said : Kit → List Statement
more_said kit =
    (says.Output kit.output ∷ [])
    ++ base_said kit.kind kit.base
    ++ map (λ w. says.Entry w) (option_to_list kit.entry)
    ++ map (λ i. says.Input i) kit.inputs
    ++ map (λ r. says.Run r) kit.runs
    ++ map (λ e. says.Edge e) kit.edges
    ++ map (λ w. says.Drop w) kit.drops
    ++ library_said kit.kind kit

abbrev pub all_said : Kit → List Statement
all_said kit = says.Kind kit.kind ∷ more_said kit

-- the line of what is said
abbrev pub line_text : Statement → List ℕ
line_text s = words_line (row_words (row_of s))

lines_of : {X : Type 0} (say : X → Statement) (line : X → List ℕ) (xs : List X) → ((x : X) → line_text (say x) ≡ line x) → flat_map line_text (map say xs) ≡ flat_map line xs
lines_of say line [] same = refl
lines_of say line (x ∷ xs) same = rw (same x, lines_of say line xs same) refl

line_of_option : {X : Type 0} (say : X → Statement) (line : X → List ℕ) (o : Option X) → ((x : X) → line_text (say x) ≡ line x) → flat_map line_text (map say (option_to_list o)) ≡ option_map_or line o []
line_of_option say line None same = refl
line_of_option say line (Some x) same = append-nil (line_text (say x)) ∙ same x

symbolic_line : (t : Bool) → flat_map line_text (if t then says.Symbolic ∷ [] else []) ≡ (if t then words_line (codes "symbolic" ∷ []) else [])
symbolic_line true = refl
symbolic_line false = refl

refuse_line : (t : Bool) → flat_map line_text (if t then says.Undefined true ∷ [] else []) ≡ (if t then word_line keyword.Undefined (codes "refuse") else [])
refuse_line true = refl
refuse_line false = refl

library_text : (kind : KitKind) (kit : Kit) → flat_map line_text (library_said kind kit) ≡ library_lines kind kit
library_text Kernel kit = refl
library_text Library kit =
    let a = map (λ w. says.Soname w) (option_to_list kit.soname) in
    let b = map (λ w. says.Needed w) kit.needed in
    let d = map (λ w. says.Export w) kit.exports in
    let e = (if kit.symbolic then says.Symbolic ∷ [] else []) in
    let f = (if kit.refuse then says.Undefined true ∷ [] else []) in
    flat_map-append line_text (a ++ b ++ d ++ e) f
    ∙ rw (
      flat_map-append line_text (a ++ b ++ d) e,
      flat_map-append line_text (a ++ b) d,
      flat_map-append line_text a b,
      line_of_option (λ w. says.Soname w) (word_line keyword.Soname) kit.soname (λ w. refl),
      lines_of (λ w. says.Needed w) (word_line keyword.Needed) kit.needed (λ w. refl),
      lines_of (λ w. says.Export w) (word_line keyword.Export) kit.exports (λ w. refl),
      symbolic_line kit.symbolic,
      refuse_line kit.refuse,
    ) refl

base_text : (kind : KitKind) (base : ℕ) → flat_map line_text (base_said kind base) ≡ base_line kind base
base_text Kernel base = append-nil (line_text (says.Base base))
base_text Library base = refl

-- lines whose text is this
record Print (xs : List Statement) (text : List ℕ) : Type 0 where
  pub same : flat_map line_text xs ≡ text

joined : {xs : List Statement} {a : List ℕ} → Print xs a → (ys : List Statement) {b : List ℕ} → flat_map line_text ys ≡ b → Print (xs ++ ys) (a ++ b)
joined {xs} {a} first ys second = record { same = flat_map-append line_text xs ys ∙ rw (first.same, second) refl }

first_lines : (kind : KitKind) (name : List ℕ) → flat_map line_text (says.Kind kind ∷ says.Output name ∷ []) ≡ word_line keyword.Kind (kind_word kind) ++ word_line keyword.Output name
first_lines kind name = ap (λ (l : List ℕ). word_line keyword.Kind (kind_word kind) ++ l) (append-nil (word_line keyword.Output name))

-- the text of a kit is that of what it says
pub kit_said : (kit : Kit) → flat_map line_text (all_said kit) ≡ kit_text kit
unfolding kit_text
kit_said kit =
    let start : Print (says.Kind kit.kind ∷ says.Output kit.output ∷ []) _ = record { same = first_lines kit.kind kit.output } in
    let base = joined start (base_said kit.kind kit.base) (base_text kit.kind kit.base) in
    let entry = joined base (map (λ w. says.Entry w) (option_to_list kit.entry)) (line_of_option (λ w. says.Entry w) (word_line keyword.Entry) kit.entry (λ w. refl)) in
    let inputs = joined entry (map (λ i. says.Input i) kit.inputs) (lines_of (λ i. says.Input i) input_line kit.inputs (λ i. refl)) in
    let runs = joined inputs (map (λ r. says.Run r) kit.runs) (lines_of (λ r. says.Run r) run_line kit.runs (λ r. refl)) in
    let edges = joined runs (map (λ e. says.Edge e) kit.edges) (lines_of (λ e. says.Edge e) edge_line kit.edges (λ e. refl)) in
    let drops = joined edges (map (λ w. says.Drop w) kit.drops) (lines_of (λ w. says.Drop w) (word_line keyword.Drop) kit.drops (λ w. refl)) in
    (joined drops (library_said kit.kind kit) (library_text kit.kind kit)).same

-- THE PARTS OF A KIT that lines say, one after the other
pub parts-fold : (before ss : List Statement) → fold also (parts_of before) ss ≡ parts_of (before ++ ss)
parts-fold before [] = ap parts_of (sym (append-nil before))
parts-fold before (s ∷ ss) =
    ap (λ (p : Parts). fold also p ss) (also-parts before s)
    ∙ parts-fold (before ++ s ∷ []) ss
    ∙ ap parts_of (append_assoc before (s ∷ []) ss)

fold-append : (p : Parts) (xs ys : List Statement) → fold also p (xs ++ ys) ≡ fold also (fold also p xs) ys
fold-append p [] ys = refl
fold-append p (x ∷ xs) ys = fold-append (also p x) xs ys

inputs_put : (p : Parts) (xs : List KitInput) → fold also p (map (λ i. says.Input i) xs) ≡ record p { inputs = p.inputs ++ xs }
inputs_put p [] = ap (λ (l : List KitInput). record p { inputs = l }) (sym (append-nil p.inputs))
inputs_put p (x ∷ xs) = inputs_put (record p { inputs = p.inputs ++ x ∷ [] }) xs ∙ ap (λ (l : List KitInput). record p { inputs = l }) (append_assoc p.inputs (x ∷ []) xs)

runs_put : (p : Parts) (xs : List Run) → fold also p (map (λ r. says.Run r) xs) ≡ record p { runs = p.runs ++ xs }
runs_put p [] = ap (λ (l : List Run). record p { runs = l }) (sym (append-nil p.runs))
runs_put p (x ∷ xs) = runs_put (record p { runs = p.runs ++ x ∷ [] }) xs ∙ ap (λ (l : List Run). record p { runs = l }) (append_assoc p.runs (x ∷ []) xs)

edges_put : (p : Parts) (xs : List EdgeLine) → fold also p (map (λ e. says.Edge e) xs) ≡ record p { edges = p.edges ++ xs }
edges_put p [] = ap (λ (l : List EdgeLine). record p { edges = l }) (sym (append-nil p.edges))
edges_put p (x ∷ xs) = edges_put (record p { edges = p.edges ++ x ∷ [] }) xs ∙ ap (λ (l : List EdgeLine). record p { edges = l }) (append_assoc p.edges (x ∷ []) xs)

drops_put : (p : Parts) (xs : List (List ℕ)) → fold also p (map (λ w. says.Drop w) xs) ≡ record p { drops = p.drops ++ xs }
drops_put p [] = ap (λ (l : List (List ℕ)). record p { drops = l }) (sym (append-nil p.drops))
drops_put p (x ∷ xs) = drops_put (record p { drops = p.drops ++ x ∷ [] }) xs ∙ ap (λ (l : List (List ℕ)). record p { drops = l }) (append_assoc p.drops (x ∷ []) xs)

needed_put : (p : Parts) (xs : List (List ℕ)) → fold also p (map (λ w. says.Needed w) xs) ≡ record p { needed = p.needed ++ xs }
needed_put p [] = ap (λ (l : List (List ℕ)). record p { needed = l }) (sym (append-nil p.needed))
needed_put p (x ∷ xs) = needed_put (record p { needed = p.needed ++ x ∷ [] }) xs ∙ ap (λ (l : List (List ℕ)). record p { needed = l }) (append_assoc p.needed (x ∷ []) xs)

exports_put : (p : Parts) (xs : List (List ℕ)) → fold also p (map (λ w. says.Export w) xs) ≡ record p { exports = p.exports ++ xs }
exports_put p [] = ap (λ (l : List (List ℕ)). record p { exports = l }) (sym (append-nil p.exports))
exports_put p (x ∷ xs) = exports_put (record p { exports = p.exports ++ x ∷ [] }) xs ∙ ap (λ (l : List (List ℕ)). record p { exports = l }) (append_assoc p.exports (x ∷ []) xs)

entry_put : (p : Parts) (o : Option (List ℕ)) → p.entry ≡ None → fold also p (map (λ w. says.Entry w) (option_to_list o)) ≡ record p { entry = o }
entry_put p None e = ap (λ (o : Option (List ℕ)). record p { entry = o }) e
entry_put p (Some w) e = refl

soname_put : (p : Parts) (o : Option (List ℕ)) → p.soname ≡ None → fold also p (map (λ w. says.Soname w) (option_to_list o)) ≡ record p { soname = o }
soname_put p None e = ap (λ (o : Option (List ℕ)). record p { soname = o }) e
soname_put p (Some w) e = refl

symbolic_put : (p : Parts) (t : Bool) → p.symbolic ≡ false → fold also p (if t then says.Symbolic ∷ [] else []) ≡ record p { symbolic = t }
symbolic_put p true e = refl
symbolic_put p false e = ap (λ (t : Bool). record p { symbolic = t }) e

refuse_put : (p : Parts) (t : Bool) → p.refuse ≡ false → fold also p (if t then says.Undefined true ∷ [] else []) ≡ record p { refuse = t }
refuse_put p true e = refl
refuse_put p false e = ap (λ (t : Bool). record p { refuse = t }) e

-- the base that is said
abbrev pub base_put : KitKind → ℕ → Option ℕ
base_put Kernel base = Some base
base_put Library base = None

base_is_put : (p : Parts) (kind : KitKind) (base : ℕ) → p.base ≡ None → fold also p (base_said kind base) ≡ record p { base = base_put kind base }
base_is_put p Kernel base e = refl
base_is_put p Library base e = ap (λ (o : Option ℕ). record p { base = o }) e

-- the parts of what is said but for what a library alone says
abbrev pub common_parts : Kit → Parts
common_parts kit = record {
  kind = Some kit.kind;
  output = Some kit.output;
  base = base_put kit.kind kit.base;
  entry = kit.entry;
  inputs = kit.inputs;
  runs = kit.runs;
  edges = kit.edges;
  drops = kit.drops;
  needed = [];
  exports = [];
  soname = None;
  symbolic = false;
  refuse = false;
}

-- the parts with what lines say
record Put (p : Parts) (xs : List Statement) (q : Parts) : Type 0 where
  pub same : fold also p xs ≡ q

then_put : {p q : Parts} {xs : List Statement} → Put p xs q → (ys : List Statement) {r : Parts} → fold also q ys ≡ r → Put p (xs ++ ys) r
then_put {p} {q} {xs} first ys second = record { same = fold-append p xs ys ∙ ap (λ (x : Parts). fold also x ys) first.same ∙ second }

common_put : (kit : Kit) → Put (parts_of [])
    ((says.Kind kit.kind ∷ says.Output kit.output ∷ [])
    ++ base_said kit.kind kit.base
    ++ map (λ w. says.Entry w) (option_to_list kit.entry)
    ++ map (λ i. says.Input i) kit.inputs
    ++ map (λ r. says.Run r) kit.runs
    ++ map (λ e. says.Edge e) kit.edges
    ++ map (λ w. says.Drop w) kit.drops)
    (common_parts kit)
common_put kit =
    let start : Put (parts_of []) (says.Kind kit.kind ∷ says.Output kit.output ∷ []) (record (parts_of []) { kind = Some kit.kind; output = Some kit.output }) = record { same = refl } in
    let base = then_put start (base_said kit.kind kit.base) (base_is_put _ kit.kind kit.base refl) in
    let entry = then_put base (map (λ w. says.Entry w) (option_to_list kit.entry)) (entry_put _ kit.entry refl) in
    let inputs = then_put entry (map (λ i. says.Input i) kit.inputs) (inputs_put _ kit.inputs) in
    let runs = then_put inputs (map (λ r. says.Run r) kit.runs) (runs_put _ kit.runs) in
    let edges = then_put runs (map (λ e. says.Edge e) kit.edges) (edges_put _ kit.edges) in
    then_put edges (map (λ w. says.Drop w) kit.drops) (drops_put _ kit.drops)

abbrev pub whole_parts : Kit → Parts
whole_parts kit = record (common_parts kit) { needed = kit.needed; exports = kit.exports; soname = kit.soname; symbolic = kit.symbolic; refuse = kit.refuse }

library_put : (kind : KitKind) (kit : Kit) → IsOfKind kind kit → fold also (common_parts kit) (library_said kind kit) ≡ whole_parts kit
library_put Kernel kit is = rw (is.soname, is.needed, is.exports, is.symbolic, is.refuse) refl
library_put Library kit is =
    let soname : Put (common_parts kit) (map (λ w. says.Soname w) (option_to_list kit.soname)) (record (common_parts kit) { soname = kit.soname }) = record { same = soname_put _ kit.soname refl } in
    let needed = then_put soname (map (λ w. says.Needed w) kit.needed) (needed_put _ kit.needed) in
    let exports = then_put needed (map (λ w. says.Export w) kit.exports) (exports_put _ kit.exports) in
    let symbolic = then_put exports (if kit.symbolic then says.Symbolic ∷ [] else []) (symbolic_put _ kit.symbolic refl) in
    (then_put symbolic (if kit.refuse then says.Undefined true ∷ [] else []) (refuse_put _ kit.refuse refl)).same

-- the parts of what a kit says are its own
pub parts_said : (kit : Kit) → IsReadable kit → parts_of (all_said kit) ≡ whole_parts kit
parts_said kit is = sym (parts-fold [] (all_said kit)) ∙ (then_put (common_put kit) (library_said kit.kind kit) (library_put kit.kind kit is.kind)).same
