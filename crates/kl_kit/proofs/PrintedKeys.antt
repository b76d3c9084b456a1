-- In the text of a kit nothing comes again that may not.
use Rattle.std.proofs.Common.{◌≡◌, ℕ, Bool, true, false, not, cond, ◌&&◌, ◌||◌, List, [], ◌∷◌, ◌++◌, refl, sym, ap, ◌∙◌, append_assoc, Option}
use Rattle.std.specs.Prelude.{Some, None, map, filter, option_to_list, if◌then◌else◌, codes}
use Rattle.std.specs.Str.{bytes_eq}
use Rattle.std.specs.List.{list_all, flat_map}
use Rattle.std.proofs.lemmas.List.{append-nil}
use Rattle.std.proofs.lemmas.List.Elements.{filter-append}
use Rattle.std.proofs.lemmas.Grind.{flat_map-append}
use Rattle.kl_base.proofs.Bools.{and_left, and_right, equal_bytes}
use Rattle.kl_model.specs.declared.object.Part.{Part}
use Rattle.kl_model.specs.declared.object.Part.TheVariants.{Head, Drawn, Tail}
use Rattle.kl_model.specs.declared.kit.KitInput.{KitInput}
use Rattle.kl_model.specs.declared.kit.EdgeLine.{EdgeLine}
use Rattle.kl_model.specs.declared.kit.Run.{Run}
use Rattle.kl_model.specs.declared.kit.Kit.{Kit}
use Rattle.kl_model.specs.declared.kit.KitKind.{KitKind}
use Rattle.kl_model.specs.declared.kit.KitKind.TheVariants.{Kernel, Library}
use Rattle.kl_kit.specs.Keys.{Key, comes_again, edge_key, has_key, input_key, run_keys, same_key}
use Rattle.kl_kit.specs.KitPrints.{class_word}
use Rattle.kl_kit.specs.ReadableKits.{IsOfKind, IsReadable, kit_keys}
use Rattle.kl_kit.specs.declared.statement.Statement.{Statement}
use Rattle.kl_kit.specs.declared.statement.Statement.TheVariants as says
use Rattle.kl_kit.proofs.KitStatements.{all_said, base_said, library_said}
use Rattle.kl_kit.proofs.PrintedFaults.{or_left, or_right, said_keys}

-- a key of which a kit may have several
abbrev is_listed : List ℕ → Bool
is_listed what =
    bytes_eq what (codes "object") || bytes_eq what (codes "run") || bytes_eq what (codes "edge")
    || bytes_eq what (codes "drop") || bytes_eq what (codes "needed") || bytes_eq what (codes "export")

abbrev listed : Key → Bool
listed k = is_listed k.0

abbrev single : Key → Bool
single k = not (listed k)

-- a test that keys of one name pass together
abbrev Respects : (Key → Bool) → Type 0
Respects p = (y x : Key) → same_key y x ≡ true → p y ≡ p x

same_what : (y x : Key) → same_key y x ≡ true → y.0 ≡ x.0
same_what y x e = equal_bytes y.0 x.0 (and_left (bytes_eq y.0 x.0) (bytes_eq y.1 x.1 && bytes_eq y.2 x.2) e)

listed_respects : Respects listed
listed_respects y x e = ap is_listed (same_what y x e)

single_respects : Respects single
single_respects y x e = ap (λ w. not (is_listed w)) (same_what y x e)

-- a key stands among all where it stands among those that pass the test with it
kept : (p : Key → Bool) → Respects p → (before : List Key) (x : Key) → p x ≡ true → has_key before x ≡ has_key (filter p before) x
kept p respects [] x passes = refl
kept p respects (y ∷ before) x passes = go (kept p respects before x passes) (p y) refl
  where
    other : (t : Bool) → same_key y x ≡ t → p y ≡ false → t ≡ false
    other true same fails = (let e : true ≡ false = sym passes ∙ sym (respects y x same) ∙ fails in cc)
    other false same fails = refl

    go : has_key before x ≡ has_key (filter p before) x → (t : Bool) → p y ≡ t → has_key (y ∷ before) x ≡ has_key (cond t (y ∷ filter p before) (filter p before)) x
    go rest true is = ap (λ t. same_key y x || t) rest
    go rest false is = ap (λ t. t || has_key before x) (other (same_key y x) refl is) ∙ rest

-- the test passes, or its opposite does
passed : (p : Key → Bool) (xs : List Key) → list_all p xs ≡ true → filter p xs ≡ xs
passed p [] e = refl
passed p (x ∷ xs) e = rw (and_left (p x) (list_all p xs) e, passed p xs (and_right (p x) (list_all p xs) e)) refl

failed : (p : Key → Bool) (xs : List Key) → list_all (λ k. not (p k)) xs ≡ true → filter p xs ≡ []
failed p [] e = refl
failed p (x ∷ xs) e = rw (not_true (p x) (and_left (not (p x)) (list_all (λ k. not (p k)) xs) e), failed p xs (and_right (not (p x)) (list_all (λ k. not (p k)) xs) e)) refl
  where
    not_true : (t : Bool) → not t ≡ true → t ≡ false
    not_true true e = cc
    not_true false e = refl

-- no key comes again where none does among those that are listed, and none among the others
parted : (before xs : List Key) → comes_again (filter listed before) (filter listed xs) ≡ false → comes_again (filter single before) (filter single xs) ≡ false → comes_again before xs ≡ false
parted before [] first second = refl
parted before (x ∷ xs) first second = go (parted (before ++ x ∷ []) xs) (listed x) refl first second
  where
    next : has_key before x ≡ false → comes_again (before ++ x ∷ []) xs ≡ false → (has_key before x || comes_again (before ++ x ∷ []) xs) ≡ false
    next here more = rw (here, more) refl

    go : (comes_again (filter listed (before ++ x ∷ [])) (filter listed xs) ≡ false → comes_again (filter single (before ++ x ∷ [])) (filter single xs) ≡ false → comes_again (before ++ x ∷ []) xs ≡ false)
        → (t : Bool) → listed x ≡ t
        → comes_again (filter listed before) (cond t (x ∷ filter listed xs) (filter listed xs)) ≡ false
        → comes_again (filter single before) (cond (not t) (x ∷ filter single xs) (filter single xs)) ≡ false
        → (has_key before x || comes_again (before ++ x ∷ []) xs) ≡ false
    go rest true is first second =
        let a = has_key (filter listed before) x in
        let b = comes_again (filter listed before ++ x ∷ []) (filter listed xs) in
        let with_it : filter listed (before ++ x ∷ []) ≡ filter listed before ++ x ∷ [] = filter-append listed before (x ∷ []) ∙ ap (λ t. filter listed before ++ cond t (x ∷ []) []) is in
        let without : filter single (before ++ x ∷ []) ≡ filter single before = filter-append single before (x ∷ []) ∙ ap (λ t. filter single before ++ cond (not t) (x ∷ []) []) is ∙ append-nil (filter single before) in
        next (kept listed listed_respects before x is ∙ or_left a b first)
        (rest
        (ap (λ (l : List Key). comes_again l (filter listed xs)) with_it ∙ or_right a b first)
        (ap (λ (l : List Key). comes_again l (filter single xs)) without ∙ second))
    go rest false is first second =
        let a = has_key (filter single before) x in
        let b = comes_again (filter single before ++ x ∷ []) (filter single xs) in
        let passes : single x ≡ true = ap not is in
        let with_it : filter single (before ++ x ∷ []) ≡ filter single before ++ x ∷ [] = filter-append single before (x ∷ []) ∙ ap (λ t. filter single before ++ cond (not t) (x ∷ []) []) is in
        let without : filter listed (before ++ x ∷ []) ≡ filter listed before = filter-append listed before (x ∷ []) ∙ ap (λ t. filter listed before ++ cond t (x ∷ []) []) is ∙ append-nil (filter listed before) in
        next (kept single single_respects before x passes ∙ or_left a b second)
        (rest
        (ap (λ (l : List Key). comes_again l (filter listed xs)) without ∙ first)
        (ap (λ (l : List Key). comes_again l (filter single xs)) with_it ∙ or_right a b second))

-- what lines have of both
record Keyed (ss : List Statement) (many others : List Key) : Type 0 where
  pub listed : filter listed (flat_map said_keys ss) ≡ many
  pub single : filter single (flat_map said_keys ss) ≡ others

then_keyed : {xs : List Statement} {m s : List Key} → Keyed xs m s → {ys : List Statement} {n t : List Key} → Keyed ys n t → Keyed (xs ++ ys) (m ++ n) (s ++ t)
then_keyed {xs} {m} {s} first {ys} {n} {t} second =
    let split = flat_map-append said_keys xs ys in
    record {
      listed = ap (filter listed) split ∙ filter-append listed (flat_map said_keys xs) (flat_map said_keys ys) ∙ rw (first.listed, second.listed) refl;
      single = ap (filter single) split ∙ filter-append single (flat_map said_keys xs) (flat_map said_keys ys) ∙ rw (first.single, second.single) refl;
    }

all_listed : (ss : List Statement) (ks : List Key) → flat_map said_keys ss ≡ ks → list_all listed ks ≡ true → Keyed ss ks []
all_listed ss ks is are = record { listed = ap (filter listed) is ∙ passed listed ks are; single = ap (filter single) is ∙ failed single ks (twice ks are) }
  where
    not_not : (t : Bool) → t ≡ true → not (not t) ≡ true
    not_not true e = refl
    not_not false e = cc

    twice : (ks : List Key) → list_all listed ks ≡ true → list_all (λ k. not (single k)) ks ≡ true
    twice [] are = refl
    twice (k ∷ ks) are = rw (not_not (listed k) (and_left (listed k) (list_all listed ks) are), twice ks (and_right (listed k) (list_all listed ks) are)) refl

-- lists of lines of which each has one key
one_each : {X : Type 0} (say : X → Statement) (key : X → Key) (xs : List X) → ((x : X) → said_keys (say x) ≡ key x ∷ []) → flat_map said_keys (map say xs) ≡ map key xs
one_each say key [] same = refl
one_each say key (x ∷ xs) same = rw (same x, one_each say key xs same) refl

each_listed : {X : Type 0} (key : X → Key) (xs : List X) → ((x : X) → listed (key x) ≡ true) → list_all listed (map key xs) ≡ true
each_listed key [] are = refl
each_listed key (x ∷ xs) are = rw (are x, each_listed key xs are) refl

inputs_keyed : (xs : List KitInput) → Keyed (map (λ i. says.Input i) xs) (map (λ i. input_key i.file) xs) []
inputs_keyed xs = all_listed _ (map (λ i. input_key i.file) xs) (one_each (λ i. says.Input i) (λ i. input_key i.file) xs (λ i. by i.place i)) (each_listed (λ i. input_key i.file) xs (λ i. refl))
  where
    by : (part : Part) (i : KitInput) → said_keys (says.Input (record i { place = part })) ≡ input_key i.file ∷ []
    by Head i = refl
    by Drawn i = refl
    by Tail i = refl

runs_keyed : (xs : List Run) → Keyed (map (λ r. says.Run r) xs) (flat_map (λ r. run_keys r.section (class_word r.class) r.start r.end) xs) []
runs_keyed xs = all_listed _ (flat_map (λ r. run_keys r.section (class_word r.class) r.start r.end) xs) (same xs) (are xs)
  where
    same : (xs : List Run) → flat_map said_keys (map (λ r. says.Run r) xs) ≡ flat_map (λ r. run_keys r.section (class_word r.class) r.start r.end) xs
    same [] = refl
    same (r ∷ xs) = ap (λ (l : List Key). run_keys r.section (class_word r.class) r.start r.end ++ l) (same xs)

    are : (xs : List Run) → list_all listed (flat_map (λ r. run_keys r.section (class_word r.class) r.start r.end) xs) ≡ true
    are [] = refl
    are (r ∷ xs) = are xs

edges_keyed : (xs : List EdgeLine) → Keyed (map (λ e. says.Edge e) xs) (map (λ e. edge_key e.symbol) xs) []
edges_keyed xs = all_listed _ (map (λ e. edge_key e.symbol) xs) (one_each (λ e. says.Edge e) (λ e. edge_key e.symbol) xs (λ e. refl)) (each_listed (λ e. edge_key e.symbol) xs (λ e. refl))

drops_keyed : (xs : List (List ℕ)) → Keyed (map (λ w. says.Drop w) xs) (map (λ w. (codes "drop", w, [])) xs) []
drops_keyed xs = all_listed _ (map (λ w. (codes "drop", w, [])) xs) (one_each (λ w. says.Drop w) (λ w. (codes "drop", w, [])) xs (λ w. refl)) (each_listed (λ w. (codes "drop", w, [])) xs (λ w. refl))

needed_keyed : (xs : List (List ℕ)) → Keyed (map (λ w. says.Needed w) xs) (map (λ w. (codes "needed", w, [])) xs) []
needed_keyed xs = all_listed _ (map (λ w. (codes "needed", w, [])) xs) (one_each (λ w. says.Needed w) (λ w. (codes "needed", w, [])) xs (λ w. refl)) (each_listed (λ w. (codes "needed", w, [])) xs (λ w. refl))

exports_keyed : (xs : List (List ℕ)) → Keyed (map (λ w. says.Export w) xs) (map (λ w. (codes "export", w, [])) xs) []
exports_keyed xs = all_listed _ (map (λ w. (codes "export", w, [])) xs) (one_each (λ w. says.Export w) (λ w. (codes "export", w, [])) xs (λ w. refl)) (each_listed (λ w. (codes "export", w, [])) xs (λ w. refl))

-- keys of lines that come once
abbrev once_key : List ℕ → Key
once_key word = (word, [], [])

abbrev if_some : Option (List ℕ) → List ℕ → List Key
if_some None word = []
if_some (Some w) word = once_key word ∷ []

abbrev if_true : Bool → List ℕ → List Key
if_true t word = if t then once_key word ∷ [] else []

abbrev base_keys : KitKind → List Key
base_keys Kernel = once_key (codes "base") ∷ []
base_keys Library = []

abbrev library_keys : KitKind → Option (List ℕ) → Bool → Bool → List Key
library_keys Kernel soname symbolic refuse = []
library_keys Library soname symbolic refuse = if_some soname (codes "soname") ++ if_true symbolic (codes "symbolic") ++ if_true refuse (codes "undefined")

base_keyed : (kind : KitKind) (base : ℕ) → Keyed (base_said kind base) [] (base_keys kind)
base_keyed Kernel base = record { listed = refl; single = refl }
base_keyed Library base = record { listed = refl; single = refl }

entry_keyed : (o : Option (List ℕ)) → Keyed (map (λ w. says.Entry w) (option_to_list o)) [] (if_some o (codes "entry"))
entry_keyed None = record { listed = refl; single = refl }
entry_keyed (Some w) = record { listed = refl; single = refl }

soname_keyed : (o : Option (List ℕ)) → Keyed (map (λ w. says.Soname w) (option_to_list o)) [] (if_some o (codes "soname"))
soname_keyed None = record { listed = refl; single = refl }
soname_keyed (Some w) = record { listed = refl; single = refl }

symbolic_keyed : (t : Bool) → Keyed (if t then says.Symbolic ∷ [] else []) [] (if_true t (codes "symbolic"))
symbolic_keyed true = record { listed = refl; single = refl }
symbolic_keyed false = record { listed = refl; single = refl }

refuse_keyed : (t : Bool) → Keyed (if t then says.Undefined true ∷ [] else []) [] (if_true t (codes "undefined"))
refuse_keyed true = record { listed = refl; single = refl }
refuse_keyed false = record { listed = refl; single = refl }

library_keyed : (kind : KitKind) (kit : Kit) → IsOfKind kind kit
    → Keyed (library_said kind kit) (map (λ w. (codes "needed", w, [])) kit.needed ++ map (λ w. (codes "export", w, [])) kit.exports) (library_keys kind kit.soname kit.symbolic kit.refuse)
library_keyed Kernel kit is = record { listed = rw (is.needed, is.exports) refl; single = refl }
library_keyed Library kit is =
    let soname = soname_keyed kit.soname in
    let needed = then_keyed soname (needed_keyed kit.needed) in
    let exports = then_keyed needed (exports_keyed kit.exports) in
    let symbolic = then_keyed exports (symbolic_keyed kit.symbolic) in
    let whole = then_keyed symbolic (refuse_keyed kit.refuse) in
    let names = map (λ w. (codes "needed", w, [])) kit.needed ++ map (λ w. (codes "export", w, [])) kit.exports in
    let soname_keys = if_some kit.soname (codes "soname") in
    record {
      listed = whole.listed ∙ append-nil (names ++ []) ∙ append-nil names;
      single = whole.single ∙ ap (λ (l : List Key). l ++ if_true kit.symbolic (codes "symbolic") ++ if_true kit.refuse (codes "undefined")) (append-nil (soname_keys ++ []) ∙ append-nil soname_keys);
    }

-- no line comes again that comes once
singles_once : (kind : KitKind) (entry soname : Option (List ℕ)) (symbolic refuse : Bool)
    → comes_again [] ((once_key (codes "kind") ∷ once_key (codes "output") ∷ []) ++ base_keys kind ++ if_some entry (codes "entry") ++ library_keys kind soname symbolic refuse) ≡ false
singles_once Kernel None soname symbolic refuse = refl
singles_once Kernel (Some e) soname symbolic refuse = refl
singles_once Library None None true true = refl
singles_once Library None None true false = refl
singles_once Library None None false true = refl
singles_once Library None None false false = refl
singles_once Library None (Some s) true true = refl
singles_once Library None (Some s) true false = refl
singles_once Library None (Some s) false true = refl
singles_once Library None (Some s) false false = refl
singles_once Library (Some e) None true true = refl
singles_once Library (Some e) None true false = refl
singles_once Library (Some e) None false true = refl
singles_once Library (Some e) None false false = refl
singles_once Library (Some e) (Some s) true true = refl
singles_once Library (Some e) (Some s) true false = refl
singles_once Library (Some e) (Some s) false true = refl
singles_once Library (Some e) (Some s) false false = refl

kit_keyed : (kit : Kit) → IsReadable kit → Keyed (all_said kit) (kit_keys kit)
    ((once_key (codes "kind") ∷ once_key (codes "output") ∷ []) ++ base_keys kit.kind ++ if_some kit.entry (codes "entry") ++ library_keys kit.kind kit.soname kit.symbolic kit.refuse)
kit_keyed kit is =
    let start : Keyed (says.Kind kit.kind ∷ says.Output kit.output ∷ []) [] (once_key (codes "kind") ∷ once_key (codes "output") ∷ []) = record { listed = refl; single = refl } in
    let base = then_keyed start (base_keyed kit.kind kit.base) in
    let entry = then_keyed base (entry_keyed kit.entry) in
    let inputs = then_keyed entry (inputs_keyed kit.inputs) in
    let runs = then_keyed inputs (runs_keyed kit.runs) in
    let edges = then_keyed runs (edges_keyed kit.edges) in
    let drops = then_keyed edges (drops_keyed kit.drops) in
    let whole = then_keyed drops (library_keyed kit.kind kit is.kind) in
    let head = (once_key (codes "kind") ∷ once_key (codes "output") ∷ []) ++ base_keys kit.kind ++ if_some kit.entry (codes "entry") in
    let before = map (λ i. input_key i.file) kit.inputs ++ flat_map (λ r. run_keys r.section (class_word r.class) r.start r.end) kit.runs ++ map (λ e. edge_key e.symbol) kit.edges ++ map (λ w. (codes "drop", w, [])) kit.drops in
    record {
      listed = whole.listed ∙ sym (append_assoc before (map (λ w. (codes "needed", w, [])) kit.needed) (map (λ w. (codes "export", w, [])) kit.exports));
      single = whole.single ∙ ap (λ (l : List Key). l ++ library_keys kit.kind kit.soname kit.symbolic kit.refuse) (append-nil (head ++ [] ++ [] ++ []) ∙ append-nil (head ++ [] ++ []) ∙ append-nil (head ++ []) ∙ append-nil head);
    }

pub keys_once : (kit : Kit) → IsReadable kit → comes_again [] (flat_map said_keys (all_said kit)) ≡ false
keys_once kit is =
    let keyed = kit_keyed kit is in
    parted [] (flat_map said_keys (all_said kit)) (ap (comes_again []) keyed.listed ∙ is.once) (ap (comes_again []) keyed.single ∙ singles_once kit.kind kit.entry kit.soname kit.symbolic kit.refuse)
