-- No key comes again where none stands twice, in whichever order they are.
use Rattle.std.proofs.Common.{◌≡◌, ℕ, ◌+◌, ◌≤◌, Bool, true, false, cond, ◌&&◌, ◌||◌, List, [], ◌∷◌, ◌++◌, length, refl, sym, ap, subst, ◌∙◌, arith, append_assoc}
use Rattle.std.specs.Prelude.{filter, map, flat_map, codes}
use Rattle.std.specs.Str.{bytes_eq}
use Rattle.std.proofs.lemmas.List.{append-nil, length-append}
use Rattle.std.proofs.lemmas.List.Elements.{filter-append}
use Rattle.kl_base.proofs.Bools.{and_left, and_right, equal_bytes, same_bytes}
use Rattle.kl_kit.specs.Keys.{Key, comes_again, edge_key, has_key, input_key, run_keys, same_key}
use Rattle.kl_kit.specs.KitPrints.{class_word}
use Rattle.kl_kit.specs.KitTexts.{drop_said, edge_said, export_said, input_said, kit_of_statements, many, needed_said, run_said}
use Rattle.kl_kit.specs.ReadableKits.{kit_keys}
use Rattle.kl_kit.specs.declared.statement.Statement.{Statement}
use Rattle.kl_kit.specs.declared.statement.Statement.TheVariants as says
use Rattle.kl_kit.proofs.FormedStatements.{count, listed_keys}
use Rattle.kl_kit.proofs.PrintedFaults.{or_left, or_right}

pub count-append : (q : Key) (xs ys : List Key) → count q (xs ++ ys) ≡ count q xs + count q ys
count-append q xs ys = ap length (filter-append (λ x. same_key x q) xs ys) ∙ length-append (filter (λ x. same_key x q) xs) (filter (λ x. same_key x q) ys)

count-cons : (q x : Key) (xs : List Key) → count q (x ∷ xs) ≡ count q (x ∷ []) + count q xs
count-cons q x xs = count-append q (x ∷ []) xs

-- a key is told by its three parts
key_is : (x q : Key) → same_key x q ≡ true → x ≡ q
key_is x q e =
    let first = equal_bytes x.0 q.0 (and_left (bytes_eq x.0 q.0) (bytes_eq x.1 q.1 && bytes_eq x.2 q.2) e) in
    let more = and_right (bytes_eq x.0 q.0) (bytes_eq x.1 q.1 && bytes_eq x.2 q.2) e in
    let second = equal_bytes x.1 q.1 (and_left (bytes_eq x.1 q.1) (bytes_eq x.2 q.2) more) in
    let third = equal_bytes x.2 q.2 (and_right (bytes_eq x.1 q.1) (bytes_eq x.2 q.2) more) in
    ap (λ (a : List ℕ). (a, x.1, x.2)) first ∙ ap (λ (a : List ℕ). (q.0, a, x.2)) second ∙ ap (λ (a : List ℕ). (q.0, q.1, a)) third

self_key : (q : Key) → same_key q q ≡ true
self_key q = rw (same_bytes q.0, same_bytes q.1, same_bytes q.2) refl

count_none : (ks : List Key) (q : Key) → has_key ks q ≡ false → count q ks ≡ 0
count_none [] q e = refl
count_none (x ∷ ks) q e = go (same_key x q) (count_none ks q) e
  where
    go : (t : Bool) → (has_key ks q ≡ false → count q ks ≡ 0) → (t || has_key ks q) ≡ false → length (cond t (x ∷ filter (λ y. same_key y q) ks) (filter (λ y. same_key y q) ks)) ≡ 0
    go true rest e = cc
    go false rest e = rest e

count_some : (ks : List Key) (q : Key) → has_key ks q ≡ true → 1 ≤ count q ks
count_some [] q e = cc
count_some (x ∷ ks) q e = go (same_key x q) (count_some ks q) e
  where
    go : (t : Bool) → (has_key ks q ≡ true → 1 ≤ count q ks) → (t || has_key ks q) ≡ true → 1 ≤ length (cond t (x ∷ filter (λ y. same_key y q) ks) (filter (λ y. same_key y q) ks))
    go true rest e = omega arith
    go false rest e = rest e

count_one : (x q : Key) → count q (x ∷ []) ≤ 1
count_one x q = go (same_key x q)
  where
    go : (t : Bool) → length (cond t (x ∷ []) []) ≤ 1
    go true = omega arith
    go false = omega arith

-- a key more that isn't there
one_more : (before : List Key) (x q : Key) → has_key before x ≡ false → count q before ≤ 1 → count q (before ++ x ∷ []) ≤ 1
one_more before x q absent most =
    let split = count-append q before (x ∷ []) in
    let h = go (same_key x q) refl in
    omega (arith, split, h)
  where
    go : (t : Bool) → same_key x q ≡ t → count q before + length (cond t (x ∷ []) []) ≤ 1
    go true is = (let none = subst (λ (y : Key). count y before ≡ 0) (key_is x q is) (count_none before x absent) in omega (arith, none))
    go false is = omega (arith, most)

-- where none comes again, none stands twice ..
pub never_twice : (before xs : List Key) → ((q : Key) → count q before ≤ 1) → comes_again before xs ≡ false → (q : Key) → count q (before ++ xs) ≤ 1
never_twice before [] most e q = subst (λ (l : List Key). count q l ≤ 1) (sym (append-nil before)) (most q)
never_twice before (x ∷ xs) most e q =
    let here = or_left (has_key before x) (comes_again (before ++ x ∷ []) xs) e in
    let more = or_right (has_key before x) (comes_again (before ++ x ∷ []) xs) e in
    subst (λ (l : List Key). count q l ≤ 1) (append_assoc before (x ∷ []) xs) (never_twice (before ++ x ∷ []) xs (λ k. one_more before x k here (most k)) more q)

-- .. and the other way round
pub none_again : (before xs : List Key) → ((q : Key) → count q (before ++ xs) ≤ 1) → comes_again before xs ≡ false
none_again before [] most = refl
none_again before (x ∷ xs) most =
    let whole = append_assoc before (x ∷ []) xs in
    let rest = none_again (before ++ x ∷ []) xs (λ q. subst (λ (l : List Key). count q l ≤ 1) (sym whole) (most q)) in
    rw (go (has_key before x) refl, rest) refl
  where
    go : (t : Bool) → has_key before x ≡ t → t ≡ false
    go false is = refl
    go true is =
        let split = count-append x before (x ∷ xs) in
        let here = count_some before x is in
        let again = count_some (x ∷ xs) x (ap (λ t. t || has_key xs x) (self_key x)) in
        let h = most x in
        absurd (omega (arith, split, here, again, h))

-- how often a key stands in what statements say, one part after the other
abbrev total : Key → List Statement → ℕ
total q ss =
    count q (map (λ i. input_key i.file) (many input_said ss))
    + count q (flat_map (λ r. run_keys r.section (class_word r.class) r.start r.end) (many run_said ss))
    + count q (map (λ e. edge_key e.symbol) (many edge_said ss))
    + count q (map (λ w. (codes "drop", w, [])) (many drop_said ss))
    + count q (map (λ w. (codes "needed", w, [])) (many needed_said ss))
    + count q (map (λ w. (codes "export", w, [])) (many export_said ss))

six_counts : (q : Key) (a b d e f g : List Key) → count q (a ++ b ++ d ++ e ++ f ++ g) ≡ count q a + count q b + count q d + count q e + count q f + count q g
six_counts q a b d e f g =
    let five = count-append q (a ++ b ++ d ++ e ++ f) g in
    let four = count-append q (a ++ b ++ d ++ e) f in
    let three = count-append q (a ++ b ++ d) e in
    let two = count-append q (a ++ b) d in
    let one = count-append q a b in
    omega (arith, five, four, three, two, one)

total_is : (q : Key) (ss : List Statement) → count q (kit_keys (kit_of_statements ss)) ≡ total q ss
total_is q ss =
    six_counts q
    (map (λ i. input_key i.file) (many input_said ss))
    (flat_map (λ r. run_keys r.section (class_word r.class) r.start r.end) (many run_said ss))
    (map (λ e. edge_key e.symbol) (many edge_said ss))
    (map (λ w. (codes "drop", w, [])) (many drop_said ss))
    (map (λ w. (codes "needed", w, [])) (many needed_said ss))
    (map (λ w. (codes "export", w, [])) (many export_said ss))

first_total : (q : Key) (s : Statement) (ss : List Statement) → total q (s ∷ ss) ≡ count q (listed_keys s) + total q ss
first_total q (says.Input input) ss = let h = count-cons q (input_key input.file) (map (λ i. input_key i.file) (many input_said ss)) in omega (arith, h)
first_total q (says.Run run) ss = let h = count-append q (run_keys run.section (class_word run.class) run.start run.end) (flat_map (λ r. run_keys r.section (class_word r.class) r.start r.end) (many run_said ss)) in omega (arith, h)
first_total q (says.Edge edge) ss = let h = count-cons q (edge_key edge.symbol) (map (λ e. edge_key e.symbol) (many edge_said ss)) in omega (arith, h)
first_total q (says.Drop section) ss = let h = count-cons q (codes "drop", section, []) (map (λ w. (codes "drop", w, [])) (many drop_said ss)) in omega (arith, h)
first_total q (says.Needed text) ss = let h = count-cons q (codes "needed", text, []) (map (λ w. (codes "needed", w, [])) (many needed_said ss)) in omega (arith, h)
first_total q (says.Export symbol) ss = let h = count-cons q (codes "export", symbol, []) (map (λ w. (codes "export", w, [])) (many export_said ss)) in omega (arith, h)
first_total q (says.Kind kind) ss = omega arith
first_total q (says.Output name) ss = omega arith
first_total q (says.Base b) ss = omega arith
first_total q (says.Entry symbol) ss = omega arith
first_total q (says.Soname text) ss = omega arith
first_total q says.Symbolic ss = omega arith
first_total q (says.Undefined refuse) ss = omega arith

-- the keys of a kit are those of what is said
pub kit_count : (q : Key) (ss : List Statement) → count q (kit_keys (kit_of_statements ss)) ≡ count q (flat_map listed_keys ss)
kit_count q ss = total_is q ss ∙ go ss
  where
    go : (ss : List Statement) → total q ss ≡ count q (flat_map listed_keys ss)
    go [] = refl
    go (s ∷ ss) = (let here = first_total q s ss in let split = count-append q (listed_keys s) (flat_map listed_keys ss) in let rest = go ss in omega (arith, here, split, rest))
