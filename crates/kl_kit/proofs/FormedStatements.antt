-- What lines say is in its form.
use Rattle.std.proofs.Common.{◌≡◌, ℕ, ◌≤◌, Bool, true, false, not, cond, ◌&&◌, List, [], ◌∷◌, length, refl, sym, ap, subst, ◌∙◌, arith, Option}
use Rattle.std.specs.Prelude.{Some, None, filter, find, is_none, option_to_list, codes}
use Rattle.std.specs.Option.{option_and_then, option_map}
use Rattle.std.specs.Str.{bytes_eq}
use Rattle.std.specs.List.{cons_option, AllByRecursion}
use Rattle.kl_base.specs.Names.{name_fault}
use Rattle.kl_base.specs.declared.class.Class.{Class}
use Rattle.kl_base.specs.declared.class.Class.TheVariants.{Text, Rodata, Rwdata, Bss}
use Rattle.kl_base.proofs.Bools.{and_left, chosen, equal_bytes}
use Rattle.kl_model.specs.Areas.{Area, areas, may_have_edge}
use Rattle.kl_model.specs.declared.object.Part.TheVariants.{Head, Drawn, Tail}
use Rattle.kl_model.specs.declared.kit.EdgeLine.{EdgeLine}
use Rattle.kl_model.specs.declared.kit.KitKind.{KitKind}
use Rattle.kl_model.specs.declared.kit.KitKind.TheVariants.{Kernel, Library}
use Rattle.kl_model.specs.declared.kit.Run.{Run}
use Rattle.kl_model.proofs.Each.{none_left}
use Rattle.kl_kit.specs.Forms.{area_of, base_of, class_of, end_of, file_of, is_file, is_kernel_output, is_reserved, is_word, kind_of, name_of, refuse_of, word_of}
use Rattle.kl_kit.specs.Keywords.{has_lines}
use Rattle.kl_kit.specs.Keys.{Key, edge_key, input_key, keys_of, run_keys, same_key}
use Rattle.kl_kit.specs.KitLines.{edge_of, run_of, statement_of, word_at}
use Rattle.kl_kit.specs.KitPrints.{class_word}
use Rattle.kl_kit.specs.KitTexts.{base_said, drop_said, edge_said, entry_said, export_said, is_kind, kind_said, many, needed_said, output_faults, output_said, refuse_said, run_said, soname_said, symbolic_said}
use Rattle.kl_kit.specs.ReadableKits.{HasEdgeWords, HasRunWords, IsWord}
use Rattle.kl_kit.specs.declared.fault.KitFault.TheVariants as fault
use Rattle.kl_kit.specs.declared.keyword.Keyword.{Keyword}
use Rattle.kl_kit.specs.declared.keyword.Keyword.TheVariants as keyword
use Rattle.kl_kit.specs.declared.statement.Statement.{Statement}
use Rattle.kl_kit.specs.declared.statement.Statement.TheVariants as says
use Rattle.kl_kit.proofs.KernelKits.{not_told}

-- an output that a kit of the kind may have
abbrev pub IsOutputOf : KitKind → List ℕ → Type 0
IsOutputOf Kernel name = is_kernel_output name ≡ true
IsOutputOf Library name = is_reserved name ≡ false

abbrev pub OutputFits : KitKind → List ℕ → Type 0
OutputFits kind name = (is_none (name_fault name) ≡ true) × IsOutputOf kind name

-- a word that a library alone has
abbrev pub OfLibrary : KitKind → List ℕ → Type 0
OfLibrary kind w = (kind ≡ Library) × IsWord w

-- what a line says, in its form
pub record IsFormed (kind : KitKind) (s : Statement) : Type 0 where
  pub outputs : AllByRecursion (OutputFits kind) (option_to_list (output_said s))
  pub bases : AllByRecursion (λ n. kind ≡ Kernel) (option_to_list (base_said s))
  pub entries : AllByRecursion (IsWord) (option_to_list (entry_said s))
  pub runs : AllByRecursion (HasRunWords) (option_to_list (run_said s))
  pub edges : AllByRecursion (HasEdgeWords) (option_to_list (edge_said s))
  pub drops : AllByRecursion (IsWord) (option_to_list (drop_said s))
  pub sonames : AllByRecursion (OfLibrary kind) (option_to_list (soname_said s))
  pub needed : AllByRecursion (OfLibrary kind) (option_to_list (needed_said s))
  pub exports : AllByRecursion (OfLibrary kind) (option_to_list (export_said s))
  pub symbolics : AllByRecursion (λ t. kind ≡ Library) (option_to_list (symbolic_said s))
  pub refuses : AllByRecursion (λ t. kind ≡ Library) (option_to_list (refuse_said s))

-- what is made of a word
from_map : {X : Type 0} (say : X → Statement) (o : Option X) (s : Statement) (Q : Statement → Type 0) → option_map say o ≡ Some s → ((x : X) → o ≡ Some x → Q (say x)) → Q s
from_map say None s Q e give = cc
from_map say (Some x) s Q e give = let same : say x ≡ s = cc in subst Q same (give x refl)

word_is : (w x : List ℕ) → word_of w ≡ Some x → IsWord x
word_is w x e = let both = chosen (is_word w) w x e in subst IsWord both.1 both.0

name_is : (w x : List ℕ) → name_of w ≡ Some x → is_none (name_fault x) ≡ true
name_is w x e = let both = chosen (is_none (name_fault w)) w x e in subst (λ (y : List ℕ). is_none (name_fault y) ≡ true) both.1 both.0

-- the words of a run, and those of an edge
pub record RunIs (ws : List (List ℕ)) (run : Run) : Type 0 where
  pub section : word_of (word_at ws 0) ≡ Some run.section
  pub class : class_of (word_at ws 1) ≡ Some run.class
  pub start : word_of (word_at ws 2) ≡ Some run.start
  pub end : word_of (word_at ws 3) ≡ Some run.end

pub record EdgeIs (ws : List (List ℕ)) (edge : EdgeLine) : Type 0 where
  pub symbol : word_of (word_at ws 0) ≡ Some edge.symbol
  pub area : area_of (word_at ws 1) ≡ Some edge.area

run_is : (n : ℕ) (ws : List (List ℕ)) (run : Run) → run_of n ws ≡ Some run → RunIs ws run
run_is n ws run e = go (word_of (word_at ws 0)) (class_of (word_at ws 1)) (word_of (word_at ws 2)) (word_of (word_at ws 3)) refl refl refl refl e
  where
    go : (a : Option (List ℕ)) (b : Option Class) (d f : Option (List ℕ)) → word_of (word_at ws 0) ≡ a → class_of (word_at ws 1) ≡ b → word_of (word_at ws 2) ≡ d → word_of (word_at ws 3) ≡ f
        → option_and_then (λ section. option_and_then (λ class. option_and_then (λ start. option_map (λ end. record { section = section; class = class; start = start; end = end; line = n }) f) d) b) a ≡ Some run → RunIs ws run
    go None b d f is class start end e = cc
    go (Some x) None d f is class start end e = cc
    go (Some x) (Some y) None f is class start end e = cc
    go (Some x) (Some y) (Some z) None is class start end e = cc
    go (Some x) (Some y) (Some z) (Some w) is class start end e =
        let same : record { section = x; class = y; start = z; end = w; line = n } ≡ run = cc in
        subst (RunIs ws) same (record { section = is; class = class; start = start; end = end })

edge_is : (n : ℕ) (ws : List (List ℕ)) (edge : EdgeLine) → edge_of n ws ≡ Some edge → EdgeIs ws edge
edge_is n ws edge e = go (word_of (word_at ws 0)) (area_of (word_at ws 1)) (end_of (word_at ws 2)) refl refl e
  where
    go : (a : Option (List ℕ)) (b : Option ℕ) (d : Option Bool) → word_of (word_at ws 0) ≡ a → area_of (word_at ws 1) ≡ b
        → option_and_then (λ symbol. option_and_then (λ area. option_map (λ end. record { symbol = symbol; area = area; end = end; line = n }) d) b) a ≡ Some edge → EdgeIs ws edge
    go None b d is area e = cc
    go (Some x) None d is area e = cc
    go (Some x) (Some y) None is area e = cc
    go (Some x) (Some y) (Some z) is area e =
        let same : record { symbol = x; area = y; end = z; line = n } ≡ edge = cc in
        subst (EdgeIs ws) same (record { symbol = is; area = area })

-- an area that is found is one that an edge may name
found : (p : Area → Bool) (xs : List Area) (x : Area) → AllByRecursion (λ a. may_have_edge a.number ≡ a.edge) xs → find p xs ≡ Some x → (may_have_edge x.number ≡ x.edge) × (p x ≡ true)
found p [] x are e = cc
found p (y ∷ ys) x are e = go (found p ys x are.1) (p y) refl e
  where
    go : (find p ys ≡ Some x → (may_have_edge x.number ≡ x.edge) × (p x ≡ true)) → (t : Bool) → p y ≡ t → cond t (Some y) (find p ys) ≡ Some x → (may_have_edge x.number ≡ x.edge) × (p x ≡ true)
    go more true is e = let same : y ≡ x = cc in subst (λ (a : Area). (may_have_edge a.number ≡ a.edge) × (p a ≡ true)) same (are.0, is)
    go more false is e = more e

area_is : (w : List ℕ) (n : ℕ) → area_of w ≡ Some n → may_have_edge n ≡ true
unfolding area_of
area_is w n e = go (find (λ area. area.edge && bytes_eq w area.name) areas) refl e
  where
    rows : AllByRecursion (λ a. may_have_edge a.number ≡ a.edge) areas
    rows = (refl, (refl, (refl, (refl, (refl, (refl, (refl, (refl, (refl, (refl, (refl, (refl, (refl, (refl, (refl, tt)))))))))))))))

    go : (o : Option Area) → find (λ area. area.edge && bytes_eq w area.name) areas ≡ o → option_map (λ area. area.number) o ≡ Some n → may_have_edge n ≡ true
    go None is e = cc
    go (Some x) is e =
        let same : x.number ≡ n = cc in
        let both = found (λ area. area.edge && bytes_eq w area.name) areas x rows is in
        subst (λ k. may_have_edge k ≡ true) same (both.0 ∙ and_left x.edge (bytes_eq w x.name) both.1)

-- the lines that one kind has
of_library : (kind : KitKind) (k : Keyword) → has_lines Kernel k ≡ false → has_lines kind k ≡ true → kind ≡ Library
of_library Kernel k not_there there = cc
of_library Library k not_there there = refl

of_kernel : (kind : KitKind) → has_lines kind keyword.Base ≡ true → kind ≡ Kernel
of_kernel Kernel there = refl
of_kernel Library there = cc

output_is : (kind : KitKind) (n : ℕ) (name : List ℕ) → output_faults (Some kind) n (says.Output name) ≡ [] → IsOutputOf kind name
output_is Kernel n name e = not_false (is_kernel_output name) (not_told (not (is_kernel_output name)) (fault.Value n) (none_left _ _ e))
  where
    not_false : (t : Bool) → not t ≡ false → t ≡ true
    not_false true e = refl
    not_false false e = cc
output_is Library n name e = not_told (is_reserved name) (fault.Reserved n) e

pub formed : (kind : KitKind) (k : Keyword) (n : ℕ) (ws : List (List ℕ)) (s : Statement) → has_lines kind k ≡ true → statement_of k n ws ≡ Some s → output_faults (Some kind) n s ≡ [] → IsFormed kind s
formed kind keyword.Kind n ws s has e free = from_map {X = KitKind} (λ x. says.Kind x) (kind_of (word_at ws 0)) s (IsFormed kind) e (λ x is. record { outputs = tt; bases = tt; entries = tt; runs = tt; edges = tt; drops = tt; sonames = tt; needed = tt; exports = tt; symbolics = tt; refuses = tt })
formed kind keyword.Output n ws s has e free = from_map {X = List ℕ} (λ x. says.Output x) (name_of (word_at ws 0)) s (λ s. output_faults (Some kind) n s ≡ [] → IsFormed kind s) e
    (λ x is free. record { outputs = ((name_is (word_at ws 0) x is, output_is kind n x free), tt); bases = tt; entries = tt; runs = tt; edges = tt; drops = tt; sonames = tt; needed = tt; exports = tt; symbolics = tt; refuses = tt }) free
formed kind keyword.Base n ws s has e free = from_map {X = ℕ} (λ x. says.Base x) (base_of (word_at ws 0)) s (IsFormed kind) e (λ x is. record { outputs = tt; bases = (of_kernel kind has, tt); entries = tt; runs = tt; edges = tt; drops = tt; sonames = tt; needed = tt; exports = tt; symbolics = tt; refuses = tt })
formed kind keyword.Entry n ws s has e free = from_map {X = List ℕ} (λ x. says.Entry x) (word_of (word_at ws 0)) s (IsFormed kind) e (λ x is. record { outputs = tt; bases = tt; entries = (word_is (word_at ws 0) x is, tt); runs = tt; edges = tt; drops = tt; sonames = tt; needed = tt; exports = tt; symbolics = tt; refuses = tt })
formed kind keyword.Head n ws s has e free = from_map {X = List ℕ} (λ x. says.Input (record { place = Head; file = x; line = n })) (file_of (word_at ws 0)) s (IsFormed kind) e (λ x is. record { outputs = tt; bases = tt; entries = tt; runs = tt; edges = tt; drops = tt; sonames = tt; needed = tt; exports = tt; symbolics = tt; refuses = tt })
formed kind keyword.Object n ws s has e free = from_map {X = List ℕ} (λ x. says.Input (record { place = Drawn; file = x; line = n })) (file_of (word_at ws 0)) s (IsFormed kind) e (λ x is. record { outputs = tt; bases = tt; entries = tt; runs = tt; edges = tt; drops = tt; sonames = tt; needed = tt; exports = tt; symbolics = tt; refuses = tt })
formed kind keyword.Tail n ws s has e free = from_map {X = List ℕ} (λ x. says.Input (record { place = Tail; file = x; line = n })) (file_of (word_at ws 0)) s (IsFormed kind) e (λ x is. record { outputs = tt; bases = tt; entries = tt; runs = tt; edges = tt; drops = tt; sonames = tt; needed = tt; exports = tt; symbolics = tt; refuses = tt })
formed kind keyword.Run n ws s has e free = from_map {X = Run} (λ x. says.Run x) (run_of n ws) s (IsFormed kind) e (λ x is. let r = run_is n ws x is in record { outputs = tt; bases = tt; entries = tt; runs = (record { section = word_is (word_at ws 0) x.section r.section; start = word_is (word_at ws 2) x.start r.start; end = word_is (word_at ws 3) x.end r.end }, tt); edges = tt; drops = tt; sonames = tt; needed = tt; exports = tt; symbolics = tt; refuses = tt })
formed kind keyword.Edge n ws s has e free = from_map {X = EdgeLine} (λ x. says.Edge x) (edge_of n ws) s (IsFormed kind) e (λ x is. let r = edge_is n ws x is in record { outputs = tt; bases = tt; entries = tt; runs = tt; edges = (record { symbol = word_is (word_at ws 0) x.symbol r.symbol; area = area_is (word_at ws 1) x.area r.area }, tt); drops = tt; sonames = tt; needed = tt; exports = tt; symbolics = tt; refuses = tt })
formed kind keyword.Drop n ws s has e free = from_map {X = List ℕ} (λ x. says.Drop x) (word_of (word_at ws 0)) s (IsFormed kind) e (λ x is. record { outputs = tt; bases = tt; entries = tt; runs = tt; edges = tt; drops = (word_is (word_at ws 0) x is, tt); sonames = tt; needed = tt; exports = tt; symbolics = tt; refuses = tt })
formed kind keyword.Soname n ws s has e free = from_map {X = List ℕ} (λ x. says.Soname x) (word_of (word_at ws 0)) s (IsFormed kind) e (λ x is. record { outputs = tt; bases = tt; entries = tt; runs = tt; edges = tt; drops = tt; sonames = ((of_library kind keyword.Soname refl has, word_is (word_at ws 0) x is), tt); needed = tt; exports = tt; symbolics = tt; refuses = tt })
formed kind keyword.Needed n ws s has e free = from_map {X = List ℕ} (λ x. says.Needed x) (word_of (word_at ws 0)) s (IsFormed kind) e (λ x is. record { outputs = tt; bases = tt; entries = tt; runs = tt; edges = tt; drops = tt; sonames = tt; needed = ((of_library kind keyword.Needed refl has, word_is (word_at ws 0) x is), tt); exports = tt; symbolics = tt; refuses = tt })
formed kind keyword.Export n ws s has e free = from_map {X = List ℕ} (λ x. says.Export x) (word_of (word_at ws 0)) s (IsFormed kind) e (λ x is. record { outputs = tt; bases = tt; entries = tt; runs = tt; edges = tt; drops = tt; sonames = tt; needed = tt; exports = ((of_library kind keyword.Export refl has, word_is (word_at ws 0) x is), tt); symbolics = tt; refuses = tt })
formed kind keyword.Symbolic n ws s has e free = let same : says.Symbolic ≡ s = cc in subst (IsFormed kind) same (record { outputs = tt; bases = tt; entries = tt; runs = tt; edges = tt; drops = tt; sonames = tt; needed = tt; exports = tt; symbolics = (of_library kind keyword.Symbolic refl has, tt); refuses = tt })
formed kind keyword.Undefined n ws s has e free = from_map {X = Bool} (λ x. says.Undefined x) (refuse_of (word_at ws 0)) s (IsFormed kind) e (λ x is. record { outputs = tt; bases = tt; entries = tt; runs = tt; edges = tt; drops = tt; sonames = tt; needed = tt; exports = tt; symbolics = tt; refuses = (of_library kind keyword.Undefined refl has, tt) })

-- what several lines say of one part
pub each_part : {X : Type 0} (part : Statement → Option X) (P : X → Type 0) (kind : KitKind) (ss : List Statement) → ((s : Statement) → IsFormed kind s → AllByRecursion P (option_to_list (part s)))
    → AllByRecursion (IsFormed kind) ss → AllByRecursion P (many part ss)
each_part {X = X} part P kind [] gives are = tt
each_part {X = X} part P kind (s ∷ ss) gives are = put (part s) (gives s are.0) (each_part part P kind ss gives are.1)
  where
    put : (o : Option X) → AllByRecursion P (option_to_list o) → AllByRecursion P (many part ss) → AllByRecursion P (cons_option o (many part ss))
    put None here rest = rest
    put (Some x) here rest = (here.0, rest)

-- HOW OFTEN A KEY STANDS among keys
abbrev pub count : Key → List Key → ℕ
count q ks = length (filter (λ x. same_key x q) ks)

-- what is said that may come once, of what a kit may have several
abbrev pub listed_keys : Statement → List Key
listed_keys (says.Input input) = input_key input.file ∷ []
listed_keys (says.Run run) = run_keys run.section (class_word run.class) run.start run.end
listed_keys (says.Edge edge) = edge_key edge.symbol ∷ []
listed_keys (says.Drop section) = (codes "drop", section, []) ∷ []
listed_keys (says.Needed text) = (codes "needed", text, []) ∷ []
listed_keys (says.Export symbol) = (codes "export", symbol, []) ∷ []
listed_keys s = []

same_word : (w x : List ℕ) → word_of w ≡ Some x → w ≡ x
same_word w x e = (chosen (is_word w) w x e).1

same_file : (w x : List ℕ) → file_of w ≡ Some x → w ≡ x
same_file w x e = (chosen (is_file w) w x e).1

same_class : (w : List ℕ) (c : Class) → class_of w ≡ Some c → w ≡ class_word c
same_class w c e = go (bytes_eq w (codes "text")) (bytes_eq w (codes "rodata")) (bytes_eq w (codes "data")) (bytes_eq w (codes "bss")) (equal_bytes w (codes "text")) (equal_bytes w (codes "rodata")) (equal_bytes w (codes "data")) (equal_bytes w (codes "bss")) e
  where
    go : (a b d f : Bool) → (a ≡ true → w ≡ codes "text") → (b ≡ true → w ≡ codes "rodata") → (d ≡ true → w ≡ codes "data") → (f ≡ true → w ≡ codes "bss")
        → cond {A = Option Class} a (Some Text) (cond b (Some Rodata) (cond d (Some Rwdata) (cond f (Some Bss) None))) ≡ Some c → w ≡ class_word c
    go true b d f text rodata data_ bss e = let same : Text ≡ c = cc in text refl ∙ ap class_word same
    go false true d f text rodata data_ bss e = let same : Rodata ≡ c = cc in rodata refl ∙ ap class_word same
    go false false true f text rodata data_ bss e = let same : Rwdata ≡ c = cc in data_ refl ∙ ap class_word same
    go false false false true text rodata data_ bss e = let same : Bss ≡ c = cc in bss refl ∙ ap class_word same
    go false false false false text rodata data_ bss e = cc

-- they are among the keys of the line
abbrev AreAmong : List Key → Statement → Type 0
AreAmong ks s = (q : Key) → count q (listed_keys s) ≤ count q ks

same_keys : (s : Statement) (ks : List Key) → ks ≡ listed_keys s → AreAmong ks s
same_keys s ks e q = subst (λ (l : List Key). count q (listed_keys s) ≤ count q l) (sym e) (omega arith)

pub keys_among : (k : Keyword) (n : ℕ) (ws : List (List ℕ)) (s : Statement) → statement_of k n ws ≡ Some s → AreAmong (keys_of k ws) s
keys_among keyword.Kind n ws s e = from_map {X = KitKind} (λ x. says.Kind x) (kind_of (word_at ws 0)) s (AreAmong (keys_of keyword.Kind ws)) e (λ x is. λ q. omega arith)
keys_among keyword.Output n ws s e = from_map {X = List ℕ} (λ x. says.Output x) (name_of (word_at ws 0)) s (AreAmong (keys_of keyword.Output ws)) e (λ x is. λ q. omega arith)
keys_among keyword.Base n ws s e = from_map {X = ℕ} (λ x. says.Base x) (base_of (word_at ws 0)) s (AreAmong (keys_of keyword.Base ws)) e (λ x is. λ q. omega arith)
keys_among keyword.Entry n ws s e = from_map {X = List ℕ} (λ x. says.Entry x) (word_of (word_at ws 0)) s (AreAmong (keys_of keyword.Entry ws)) e (λ x is. λ q. omega arith)
keys_among keyword.Head n ws s e = from_map {X = List ℕ} (λ x. says.Input (record { place = Head; file = x; line = n })) (file_of (word_at ws 0)) s (AreAmong (keys_of keyword.Head ws)) e (λ x is. same_keys (says.Input (record { place = Head; file = x; line = n })) (keys_of keyword.Head ws) (ap (λ (w : List ℕ). input_key w ∷ []) (same_file (word_at ws 0) x is)))
keys_among keyword.Object n ws s e = from_map {X = List ℕ} (λ x. says.Input (record { place = Drawn; file = x; line = n })) (file_of (word_at ws 0)) s (AreAmong (keys_of keyword.Object ws)) e (λ x is. same_keys (says.Input (record { place = Drawn; file = x; line = n })) (keys_of keyword.Object ws) (ap (λ (w : List ℕ). input_key w ∷ []) (same_file (word_at ws 0) x is)))
keys_among keyword.Tail n ws s e = from_map {X = List ℕ} (λ x. says.Input (record { place = Tail; file = x; line = n })) (file_of (word_at ws 0)) s (AreAmong (keys_of keyword.Tail ws)) e (λ x is. same_keys (says.Input (record { place = Tail; file = x; line = n })) (keys_of keyword.Tail ws) (ap (λ (w : List ℕ). input_key w ∷ []) (same_file (word_at ws 0) x is)))
keys_among keyword.Run n ws s e = from_map {X = Run} (λ x. says.Run x) (run_of n ws) s (AreAmong (keys_of keyword.Run ws)) e (λ x is. let r = run_is n ws x is in same_keys (says.Run x) (keys_of keyword.Run ws) (rw (same_word (word_at ws 0) x.section r.section, same_class (word_at ws 1) x.class r.class, same_word (word_at ws 2) x.start r.start, same_word (word_at ws 3) x.end r.end) refl))
keys_among keyword.Edge n ws s e = from_map {X = EdgeLine} (λ x. says.Edge x) (edge_of n ws) s (AreAmong (keys_of keyword.Edge ws)) e (λ x is. let r = edge_is n ws x is in same_keys (says.Edge x) (keys_of keyword.Edge ws) (ap (λ (w : List ℕ). edge_key w ∷ []) (same_word (word_at ws 0) x.symbol r.symbol)))
keys_among keyword.Drop n ws s e = from_map {X = List ℕ} (λ x. says.Drop x) (word_of (word_at ws 0)) s (AreAmong (keys_of keyword.Drop ws)) e (λ x is. same_keys (says.Drop x) (keys_of keyword.Drop ws) (ap (λ (w : List ℕ). (codes "drop", w, []) ∷ []) (same_word (word_at ws 0) x is)))
keys_among keyword.Needed n ws s e = from_map {X = List ℕ} (λ x. says.Needed x) (word_of (word_at ws 0)) s (AreAmong (keys_of keyword.Needed ws)) e (λ x is. same_keys (says.Needed x) (keys_of keyword.Needed ws) (ap (λ (w : List ℕ). (codes "needed", w, []) ∷ []) (same_word (word_at ws 0) x is)))
keys_among keyword.Export n ws s e = from_map {X = List ℕ} (λ x. says.Export x) (word_of (word_at ws 0)) s (AreAmong (keys_of keyword.Export ws)) e (λ x is. same_keys (says.Export x) (keys_of keyword.Export ws) (ap (λ (w : List ℕ). (codes "export", w, []) ∷ []) (same_word (word_at ws 0) x is)))
keys_among keyword.Soname n ws s e = from_map {X = List ℕ} (λ x. says.Soname x) (word_of (word_at ws 0)) s (AreAmong (keys_of keyword.Soname ws)) e (λ x is. λ q. omega arith)
keys_among keyword.Symbolic n ws s e = let same : says.Symbolic ≡ s = cc in subst (AreAmong (keys_of keyword.Symbolic ws)) same (λ q. omega arith)
keys_among keyword.Undefined n ws s e = from_map {X = Bool} (λ x. says.Undefined x) (refuse_of (word_at ws 0)) s (AreAmong (keys_of keyword.Undefined ws)) e (λ x is. λ q. omega arith)

abbrev SaysNoKind : Statement → Type 0
SaysNoKind s = kind_said s ≡ None

-- the line of a kind alone says one
pub no_kind_said : (k : Keyword) (n : ℕ) (ws : List (List ℕ)) (s : Statement) → is_kind k ≡ false → statement_of k n ws ≡ Some s → kind_said s ≡ None
no_kind_said keyword.Kind n ws s other e = cc
no_kind_said keyword.Output n ws s other e = from_map {X = List ℕ} (λ x. says.Output x) (name_of (word_at ws 0)) s SaysNoKind e (λ x is. refl)
no_kind_said keyword.Base n ws s other e = from_map {X = ℕ} (λ x. says.Base x) (base_of (word_at ws 0)) s SaysNoKind e (λ x is. refl)
no_kind_said keyword.Entry n ws s other e = from_map {X = List ℕ} (λ x. says.Entry x) (word_of (word_at ws 0)) s SaysNoKind e (λ x is. refl)
no_kind_said keyword.Head n ws s other e = from_map {X = List ℕ} (λ x. says.Input (record { place = Head; file = x; line = n })) (file_of (word_at ws 0)) s SaysNoKind e (λ x is. refl)
no_kind_said keyword.Object n ws s other e = from_map {X = List ℕ} (λ x. says.Input (record { place = Drawn; file = x; line = n })) (file_of (word_at ws 0)) s SaysNoKind e (λ x is. refl)
no_kind_said keyword.Tail n ws s other e = from_map {X = List ℕ} (λ x. says.Input (record { place = Tail; file = x; line = n })) (file_of (word_at ws 0)) s SaysNoKind e (λ x is. refl)
no_kind_said keyword.Run n ws s other e = from_map {X = Run} (λ x. says.Run x) (run_of n ws) s SaysNoKind e (λ x is. refl)
no_kind_said keyword.Edge n ws s other e = from_map {X = EdgeLine} (λ x. says.Edge x) (edge_of n ws) s SaysNoKind e (λ x is. refl)
no_kind_said keyword.Drop n ws s other e = from_map {X = List ℕ} (λ x. says.Drop x) (word_of (word_at ws 0)) s SaysNoKind e (λ x is. refl)
no_kind_said keyword.Soname n ws s other e = from_map {X = List ℕ} (λ x. says.Soname x) (word_of (word_at ws 0)) s SaysNoKind e (λ x is. refl)
no_kind_said keyword.Needed n ws s other e = from_map {X = List ℕ} (λ x. says.Needed x) (word_of (word_at ws 0)) s SaysNoKind e (λ x is. refl)
no_kind_said keyword.Export n ws s other e = from_map {X = List ℕ} (λ x. says.Export x) (word_of (word_at ws 0)) s SaysNoKind e (λ x is. refl)
no_kind_said keyword.Symbolic n ws s other e = let same : says.Symbolic ≡ s = cc in subst SaysNoKind same refl
no_kind_said keyword.Undefined n ws s other e = from_map {X = Bool} (λ x. says.Undefined x) (refuse_of (word_at ws 0)) s SaysNoKind e (λ x is. refl)

-- the first line says the kind
pub kind_line : (n : ℕ) (ws : List (List ℕ)) (s : Statement) (Q : Statement → Type 0) → statement_of keyword.Kind n ws ≡ Some s → ((kind : KitKind) → Q (says.Kind kind)) → Q s
kind_line n ws s Q e give = from_map {X = KitKind} (λ x. says.Kind x) (kind_of (word_at ws 0)) s Q e (λ x is. give x)
