-- Lines in order: those of runs and those of edges, each of which ascend.
use Rattle.std.proofs.Common.{ℕ, zero, suc, ◌≡◌, ◌+◌, ◌<◌, ◌≤◌, ◌∙◌, List, [], ◌∷◌, ◌++◌, length, get_or, take, drop, append_assoc, refl, ap, sym, Bool, true, false, arith}
use Rattle.std.specs.Prelude.{⊤, All, AllPairs, flat_map, fold, map, nat_lt}
use Rattle.std.proofs.lemmas.List.{map-append, take_more}
use Rattle.std.proofs.lemmas.List.Elements.{All-append}
use Rattle.std.proofs.lemmas.List.Sums.{fold-append}
use Rattle.std.proofs.lemmas.Grind.{flat_map-append}
use Rattle.kl_model.specs.declared.area.TheConstants as area
use Rattle.kl_model.specs.Lists.{each_from, in_order, put_in}
use Rattle.kl_model.specs.Names.{edge_lines, edge_names}
use Rattle.kl_model.specs.declared.kit.EdgeLine.{EdgeLine}
use Rattle.kl_model.specs.declared.kit.Run.{Run}
use Rattle.kl_model.specs.declared.kit.Kit.{Kit}
use Rattle.kl_model.specs.declared.graph.Target.{Target}
use Rattle.kl_model.specs.declared.graph.Target.TheVariants.{Edge}
use Rattle.kl_names.specs.EdgeLines.{AreEdgeLines, name_given, names_given}
use Rattle.kl_names.specs.Edges.{named_edge, shown}
use Rattle.kl_names.specs.declared.edges.EdgeName.{EdgeName}

-- a line and the names that it gives
abbrev pub Given : Type 0
Given = ℕ × List (List ℕ × Target)

abbrev pub earlier_line : Given → Given → Bool
earlier_line x y = nat_lt x.0 y.0

abbrev pub put_all : List Given → List Given → List Given
put_all zs ys = fold (λ l y. put_in earlier_line y l) zs ys

-- no line of a list comes before one
abbrev pub NoneBefore : Given → List Given → Type 0
NoneBefore x [] = ⊤
NoneBefore x (y ∷ ys) = (earlier_line y x ≡ false) × NoneBefore x ys

abbrev pub Ascends : List Given → Type 0
Ascends [] = ⊤
Ascends (x ∷ xs) = NoneBefore x xs × Ascends xs

pub put-past : (x : Given) (zs ys : List Given) → NoneBefore x ys → put_all (x ∷ zs) ys ≡ x ∷ put_all zs ys
put-past x zs [] h = refl
put-past x zs (y ∷ ys) h = let e = h.0 in rw e (put-past x (put_in earlier_line y zs) ys h.1)

put-none : (ys : List Given) → Ascends ys → put_all [] ys ≡ ys
put-none [] h = refl
put-none (y ∷ ys) h = put-past y [] ys h.0 ∙ ap (λ l. y ∷ l) (put-none ys h.1)

-- the lines of edges before that of a run come first
pub put-before : (r : Given) (zs es fs : List Given) → All (λ e. earlier_line e r ≡ true) es → Ascends (es ++ fs) → put_all (r ∷ zs) (es ++ fs) ≡ es ++ put_all (r ∷ zs) fs
put-before r zs [] fs before up = refl
put-before r zs (e ∷ es) fs before up =
    let first : earlier_line e r ≡ true = before 0 e (omega arith) in
    let step : put_in earlier_line e (r ∷ zs) ≡ e ∷ r ∷ zs = rw first refl in
    ap (λ l. put_all l (es ++ fs)) step ∙ (put-past e (r ∷ zs) (es ++ fs) up.0 ∙ ap (λ l. e ∷ l) (put-before r zs es fs (λ k d h. before (suc k) d (omega arith)) up.1))

not_before : (a b : ℕ) → b ≤ a → nat_lt a b ≡ false
not_before a b h = search (arith, h)

is_before : (a b : ℕ) → a < b → nat_lt a b ≡ true
is_before a b h = search (arith, h)

-- the lines of runs, and those of edges
abbrev pub run_line : ℕ → Run → List Given
run_line k r = (r.line, (r.start, Edge k false) ∷ (r.end, Edge k true) ∷ []) ∷ []

abbrev pub edge_line : EdgeLine → Given
edge_line e = (e.line, name_given e ∷ [])

abbrev pub run_lines : ℕ → List Run → List Given
run_lines k rs = each_from k run_line rs

abbrev pub edges_given : List EdgeLine → List Given
edges_given es = map edge_line es

abbrev pub names_in_lines : List Given → List (List ℕ × Target)
names_in_lines ls = flat_map (λ x. x.1) ls

pub names-of-edges : (es : List EdgeLine) → names_in_lines (edges_given es) ≡ names_given es
names-of-edges [] = refl
names-of-edges (e ∷ es) = ap (λ l. name_given e ∷ l) (names-of-edges es)

tail-pairs : {X : Type 0} (R : X → X → Type 0) (x : X) (xs : List X) → AllPairs R (x ∷ xs) → AllPairs R xs
tail-pairs R x xs all i j d h l = all (suc i) (suc j) d (omega arith) (omega arith)

none-before-edges : (n : ℕ) (ns : List (List ℕ × Target)) (es : List EdgeLine) → All (λ e. n ≤ e.line) es → NoneBefore (n, ns) (edges_given es)
none-before-edges n ns [] all = tt
none-before-edges n ns (e ∷ es) all = (not_before e.line n (all 0 e (omega arith)), none-before-edges n ns es (λ k d h. all (suc k) d (omega arith)))

pub ascends-edges : (es : List EdgeLine) → AllPairs (λ d e. d.line ≤ e.line) es → Ascends (edges_given es)
ascends-edges [] all = tt
ascends-edges (e ∷ es) all =
    (none-before-edges e.line (name_given e ∷ []) es (λ k d h. all 0 (suc k) d (omega arith) (omega arith)), ascends-edges es (tail-pairs (λ d e. d.line ≤ e.line) e es all))

none-before-runs : (n k : ℕ) (ns : List (List ℕ × Target)) (rs : List Run) → All (λ r. n ≤ r.line) rs → NoneBefore (n, ns) (run_lines k rs)
none-before-runs n k ns [] all = tt
none-before-runs n k ns (r ∷ rs) all = (not_before r.line n (all 0 r (omega arith)), none-before-runs n (suc k) ns rs (λ j d h. all (suc j) d (omega arith)))

ascends-runs : (k : ℕ) (rs : List Run) → AllPairs (λ r s. r.line ≤ s.line) rs → Ascends (run_lines k rs)
ascends-runs k [] all = tt
ascends-runs k (r ∷ rs) all =
    (none-before-runs r.line (suc k) ((r.start, Edge k false) ∷ (r.end, Edge k true) ∷ []) rs (λ j d h. all 0 (suc j) d (omega arith) (omega arith)), ascends-runs (suc k) rs (tail-pairs (λ r s. r.line ≤ s.line) r rs all))

-- all names: those of runs from one on with those of some edges put among them
abbrev pub names_left : ℕ → List Run → List EdgeLine → List (List ℕ × Target)
names_left k rs es = names_in_lines (put_all (run_lines k rs) (edges_given es))

pub names-all : (kit : Kit) → AreEdgeLines kit → names_left area.FIRST_RUN kit.runs kit.edges ≡ edge_names kit
names-all kit h =
    let whole : in_order earlier_line (edge_lines kit) ≡ put_all (run_lines area.FIRST_RUN kit.runs) (edges_given kit.edges) =
    fold-append (λ l y. put_in earlier_line y l) [] (run_lines area.FIRST_RUN kit.runs) (edges_given kit.edges)
    ∙ ap (λ l. put_all l (edges_given kit.edges)) (put-none (run_lines area.FIRST_RUN kit.runs) (ascends-runs area.FIRST_RUN kit.runs h.runs)) in
    ap names_in_lines (sym whole)

pub names-end : (k : ℕ) (es : List EdgeLine) → AllPairs (λ d e. d.line ≤ e.line) es → names_left k [] es ≡ names_given es
names-end k es up = ap names_in_lines (put-none (edges_given es) (ascends-edges es up)) ∙ names-of-edges es

-- the edges before a run's line, and the run
pub names-run : (k : ℕ) (r : Run) (rs : List Run) (before after : List EdgeLine) → All (λ e. e.line < r.line) before → All (λ e. r.line ≤ e.line) after
    → AllPairs (λ d e. d.line ≤ e.line) (before ++ after)
    → names_left k (r ∷ rs) (before ++ after) ≡ names_given before ++ ((r.start, Edge k false) ∷ (r.end, Edge k true) ∷ names_left (suc k) rs after)
names-run k r rs before after lower upper up =
    let first = run_lines (suc k) rs in
    let line : Given = (r.line, (r.start, Edge k false) ∷ (r.end, Edge k true) ∷ []) in
    let cut : edges_given (before ++ after) ≡ edges_given before ++ edges_given after = map-append edge_line before after in
    let up_given : Ascends (edges_given before ++ edges_given after) = rw cut at (ascends-edges (before ++ after) up) in
    ap (λ l. names_in_lines (put_all (line ∷ first) l)) cut
    ∙ (ap names_in_lines (put-before line first (edges_given before) (edges_given after) (given before lower) up_given
    ∙ ap (λ l. edges_given before ++ l) (put-past line first (edges_given after) (none-before-edges r.line ((r.start, Edge k false) ∷ (r.end, Edge k true) ∷ []) after upper)))
    ∙ (flat_map-append (λ x. x.1) (edges_given before) (line ∷ put_all first (edges_given after))
    ∙ ap (λ l. l ++ names_in_lines (line ∷ put_all first (edges_given after))) (names-of-edges before)))
  where
    given : (es : List EdgeLine) → All (λ e. e.line < r.line) es → All (λ e. earlier_line e (r.line, (r.start, Edge k false) ∷ (r.end, Edge k true) ∷ []) ≡ true) (edges_given es)
    given [] all j d h = absurd (omega arith)
    given (e ∷ es) all zero d h = is_before e.line r.line (all 0 e (omega arith))
    given (e ∷ es) all (suc j) d h = given es (λ i c l. all (suc i) c (omega arith)) j d (omega arith)

-- all lines from the first that isn't before a number on aren't
pub rest-after : (n : ℕ) (es : List EdgeLine) → AllPairs (λ d e. d.line ≤ e.line) es → ((d : EdgeLine) → 0 < length es → n ≤ (get_or es 0 d).line) → All (λ e. n ≤ e.line) es
rest-after n es up first zero d h = first d h
rest-after n es up first (suc k) d h = let low = first d (omega arith) in let next = up 0 (suc k) d (omega arith) h in omega arith

-- one item more that has a property
pub all-more : {X : Type 0} (P : X → Type 0) (n : ℕ) (xs : List X) (d : X) → n < length xs → All P (take n xs) → P (get_or xs n d) → All P (take (n + 1) xs)
all-more P n xs d h all last = rw (take_more xs n d h) (All-append P (take n xs) (get_or xs n d ∷ []) all one)
  where
    one : All P (get_or xs n d ∷ [])
    one zero c l = last
    one (suc k) c l = absurd (omega arith)

pub drop-at : {X : Type 0} (k : ℕ) (xs : List X) (d : X) → k < length xs → drop k xs ≡ get_or xs k d ∷ drop (suc k) xs
drop-at k [] d h = absurd (omega arith)
drop-at zero (x ∷ xs) d h = refl
drop-at (suc k) (x ∷ xs) d h = drop-at k xs d (omega arith)

pub joined : {X : Type 0} (a b : List X) (s e : X) (rest : List X) → (((a ++ b) ++ s ∷ []) ++ e ∷ []) ++ rest ≡ a ++ (b ++ (s ∷ e ∷ rest))
joined a b s e rest =
    append_assoc ((a ++ b) ++ s ∷ []) (e ∷ []) rest ∙ (append_assoc (a ++ b) (s ∷ []) (e ∷ rest) ∙ append_assoc a b (s ∷ e ∷ rest))

-- what ascends does so from some item on
pub pairs-drop : {X : Type 0} (R : X → X → Type 0) (n : ℕ) (xs : List X) → AllPairs R xs → AllPairs R (drop n xs)
pairs-drop R zero xs all = all
pairs-drop R (suc n) [] all = all
pairs-drop R (suc n) (x ∷ xs) all = pairs-drop R n xs (tail-pairs R x xs all)

pub get-drop : {X : Type 0} (n : ℕ) (xs : List X) (d : X) → get_or (drop n xs) 0 d ≡ get_or xs n d
get-drop zero xs d = refl
get-drop (suc n) [] d = refl
get-drop (suc n) (x ∷ xs) d = get-drop n xs d

pub length-drop : {X : Type 0} (n : ℕ) (xs : List X) → 0 < length (drop n xs) → n < length xs
length-drop zero xs h = h
length-drop (suc n) [] h = absurd (omega arith)
length-drop (suc n) (x ∷ xs) h = let r = length-drop n xs h in omega arith

pub drop-past : {X : Type 0} (k : ℕ) (xs : List X) → length xs ≤ k → drop k xs ≡ []
drop-past zero [] h = refl
drop-past zero (x ∷ xs) h = absurd (omega arith)
drop-past (suc k) [] h = refl
drop-past (suc k) (x ∷ xs) h = drop-past k xs (omega arith)

pub shown-push : (es : List EdgeName) (e : EdgeName) → shown (es ++ e ∷ []) ≡ shown es ++ named_edge e ∷ []
shown-push es e = map-append named_edge es (e ∷ [])
