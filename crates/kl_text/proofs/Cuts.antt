-- Where a text is cut, and what the parts are.
use Rattle.std.proofs.Common.{◌≡◌, ℕ, suc, ◌+◌, ◌<◌, Bool, true, false, not, cond, List, [], ◌∷◌, ◌++◌, length, take, drop, refl, sym, ap, ◌∙◌, arith, append_assoc, Option}
use Rattle.std.specs.Prelude.{Some, None, ◌==◌, nat_le, IfSome, IfNone}
use Rattle.std.specs.Option.{option_map}
use Rattle.std.specs.Str.{bytes_eq}
use Rattle.std.specs.List.{list_all, position_from}
use Rattle.std.proofs.lemmas.List.{take_at, drop_at, take-append-drop}
use Rattle.std.proofs.lemmas.Bool.{eqb-true, leb-true, not-true}
use Rattle.std.proofs.lemmas.Bool.Decides.{Decides-eqb}
use Rattle.kl_base.specs.Names.{is_path_byte}
use Rattle.kl_base.proofs.Bools.{and_left, and_right, chosen, same_bytes, equal_bytes}
use Rattle.kl_text.specs.Lines.{line, IsLine, lacks, cut, after_prefix}

-- a prefix is found where the text begins so, and nowhere else
pub after_prefix-append : (p xs : List ℕ) → after_prefix p (p ++ xs) ≡ Some xs
after_prefix-append p xs = rw (take_at p xs (length p) refl, same_bytes p, drop_at p xs (length p) refl) refl

pub append-after_prefix : (p text xs : List ℕ) → after_prefix p text ≡ Some xs → text ≡ p ++ xs
append-after_prefix p text xs e =
    let r = chosen (bytes_eq (take (length p) text) p) (drop (length p) text) xs e in
    sym (take-append-drop (length p) text) ∙ rw (equal_bytes (take (length p) text) p r.0, r.1) refl

-- bytes without the value are found up to it
pub cut-append : (value : ℕ) (l rest : List ℕ) → lacks value l ≡ true → cut value (l ++ value ∷ rest) ≡ Some (l, rest)
cut-append value [] rest e = ap (λ t. cond t (Some ([], rest)) (option_map (λ (x, y). (value ∷ x, y)) (cut value rest))) (same value)
  where
    same : (n : ℕ) → (n == n) ≡ true
    same n = (Decides-eqb n n).1 refl
cut-append value (b ∷ l) rest e =
    let here = and_left (not (b == value)) (lacks value l) e in
    let there = and_right (not (b == value)) (lacks value l) e in
    rw (not-true (b == value) here, cut-append value l rest there) refl

-- what a byte more gives
longer : (b : ℕ) (o : Option (List ℕ × List ℕ)) (l rest : List ℕ) → option_map {U = List ℕ × List ℕ} (λ (x, y). (b ∷ x, y)) o ≡ Some (l, rest)
    → (x : List ℕ) × (o ≡ Some (x, rest)) × (l ≡ b ∷ x)
longer b None l rest e = cc
longer b (Some (x, y)) l rest e =
    let p : (b ∷ x, y) ≡ (l, rest) = cc in
    (x, ap (λ (q : List ℕ). Some (x, q)) (ap (λ (q : List ℕ × List ℕ). q.1) p), sym (ap (λ (q : List ℕ × List ℕ). q.0) p))

pub append-cut : (value : ℕ) (text l rest : List ℕ) → cut value text ≡ Some (l, rest) → text ≡ l ++ value ∷ rest
append-cut value [] l rest e = cc
append-cut value (b ∷ text) l rest e = go (b == value) refl e (append-cut value text)
  where
    go : (t : Bool) → (b == value) ≡ t → cond {A = Option (List ℕ × List ℕ)} t (Some ([], text)) (option_map {U = List ℕ × List ℕ} (λ (x, y). (b ∷ x, y)) (cut value text)) ≡ Some (l, rest)
        → ((x y : List ℕ) → cut value text ≡ Some (x, y) → text ≡ x ++ value ∷ y) → b ∷ text ≡ l ++ value ∷ rest
    go true n e more =
        let p : ([], text) ≡ (l, rest) = cc in
        let none : [] ≡ l = ap (λ (q : List ℕ × List ℕ). q.0) p in
        let same : text ≡ rest = ap (λ (q : List ℕ × List ℕ). q.1) p in
        let it : b ≡ value = eqb-true b value n in
        rw (← none, ← same, it) refl
    go false n e more =
        let r = longer b (cut value text) l rest e in
        rw r.2 (ap (λ (t : List ℕ). b ∷ t) (more r.0 rest r.1))

-- the first part is without the value
pub cut-line : (value : ℕ) (text l rest : List ℕ) → cut value text ≡ Some (l, rest) → lacks value l ≡ true
cut-line value [] l rest e = cc
cut-line value (b ∷ text) l rest e = go (b == value) refl e (cut-line value text)
  where
    go : (t : Bool) → (b == value) ≡ t → cond {A = Option (List ℕ × List ℕ)} t (Some ([], text)) (option_map {U = List ℕ × List ℕ} (λ (x, y). (b ∷ x, y)) (cut value text)) ≡ Some (l, rest)
        → ((x y : List ℕ) → cut value text ≡ Some (x, y) → lacks value x ≡ true) → lacks value l ≡ true
    go true is p more =
        let same : ([], text) ≡ (l, rest) = cc in
        let none : [] ≡ l = ap (λ (q : List ℕ × List ℕ). q.0) same in
        rw (← none) refl
    go false is p more =
        let r = longer b (cut value text) l rest p in
        rw (r.2, is) (more r.0 rest r.1)

-- the parts end where the value stands first
pub cut-none : (value : ℕ) (text : List ℕ) (k : ℕ) → position_from (λ b. b == value) k text ≡ None → cut value text ≡ None
cut-none value [] k e = refl
cut-none value (b ∷ text) k e = go (b == value) refl e (cut-none value text (k + 1))
  where
    go : (t : Bool) → (b == value) ≡ t → cond t (Some k) (position_from (λ c. c == value) (k + 1) text) ≡ None
        → (position_from (λ c. c == value) (k + 1) text ≡ None → cut value text ≡ None) → cut value (b ∷ text) ≡ None
    go true n e more = cc
    go false n e more = rw (n, more e) refl

pub cut-some : (value : ℕ) (text : List ℕ) (k n : ℕ) → position_from (λ b. b == value) k text ≡ Some n
    → (m : ℕ) × (n ≡ k + m) × (cut value text ≡ Some (take m text, drop (m + 1) text))
cut-some value [] k n e = cc
cut-some value (b ∷ text) k n e = go (b == value) refl e (cut-some value text (k + 1) n)
  where
    go : (t : Bool) → (b == value) ≡ t → cond t (Some k) (position_from (λ c. c == value) (k + 1) text) ≡ Some n
        → (position_from (λ c. c == value) (k + 1) text ≡ Some n → (m : ℕ) × (n ≡ k + 1 + m) × (cut value text ≡ Some (take m text, drop (m + 1) text)))
        → (m : ℕ) × (n ≡ k + m) × (cut value (b ∷ text) ≡ Some (take m (b ∷ text), drop (m + 1) (b ∷ text)))
    go true is e more = (0, (let s : k ≡ n = cc in omega arith), rw is refl)
    go false is e more =
        let r = more e in
        let next : suc r.0 + 1 ≡ suc (r.0 + 1) = omega arith in
        (suc r.0, (let s = r.1 in omega arith), rw (is, r.2, next) refl)

-- where nothing is cut the value is lacking
pub none-cut : (value : ℕ) (text : List ℕ) → cut value text ≡ None → lacks value text ≡ true
none-cut value [] e = refl
none-cut value (b ∷ text) e = go (b == value) refl e (none-cut value text)
  where
    none : (o : Option (List ℕ × List ℕ)) → option_map {U = List ℕ × List ℕ} (λ (x, y). (b ∷ x, y)) o ≡ None → o ≡ None
    none None p = refl
    none (Some x) p = cc

    go : (t : Bool) → (b == value) ≡ t → cond {A = Option (List ℕ × List ℕ)} t (Some ([], text)) (option_map {U = List ℕ × List ℕ} (λ (x, y). (b ∷ x, y)) (cut value text)) ≡ None
        → (cut value text ≡ None → lacks value text ≡ true) → lacks value (b ∷ text) ≡ true
    go true is p more = cc
    go false is p more = rw (is, more (none (cut value text) p)) refl

-- two texts that are cut at one value have one first part and one rest
pub same_cut : (value : ℕ) (xs ys a b : List ℕ) → lacks value xs ≡ true → lacks value ys ≡ true → xs ++ value ∷ a ≡ ys ++ value ∷ b → (xs ≡ ys) × (a ≡ b)
same_cut value xs ys a b first second e =
    let same : ◌≡◌ {A = Option (List ℕ × List ℕ)} (Some (xs, a)) (Some (ys, b)) = sym (cut-append value xs a first) ∙ ap (cut value) e ∙ cut-append value ys b second in
    let parts : (xs, a) ≡ (ys, b) = cc in
    (ap (λ (q : List ℕ × List ℕ). q.0) parts, ap (λ (q : List ℕ × List ℕ). q.1) parts)

-- a line is cut where it ends
pub line_cut : (bytes rest : List ℕ) → IsLine bytes → cut 10 (line bytes ++ rest) ≡ Some (bytes, rest)
line_cut bytes rest is = ap (cut 10) (append_assoc bytes (10 ∷ []) rest) ∙ cut-append 10 bytes rest is

-- two texts that begin with a line begin with the same one
pub same_line : (l m rest more : List ℕ) → IsLine l → IsLine m → line l ++ rest ≡ line m ++ more → l ≡ m
same_line l m rest more first second same =
    (same_cut 10 l m rest more first second (sym (append_assoc l (10 ∷ []) rest) ∙ same ∙ append_assoc m (10 ∷ []) more)).0

-- words of printable bytes have no space and no newline
not_same : (b value : ℕ) → is_path_byte b ≡ true → value < 33 → not (b == value) ≡ true
not_same b value e less = cases (b == value) refl
  where
    cases : (t : Bool) → (b == value) ≡ t → not (b == value) ≡ true
    cases true is = let above = leb-true 33 b (and_left (nat_le 33 b) (nat_le b 126) e) in let same = eqb-true b value is in absurd (omega (arith, above, same, less))
    cases false is = ap not is

pub path-lacks : (value : ℕ) (w : List ℕ) → value < 33 → list_all is_path_byte w ≡ true → lacks value w ≡ true
path-lacks value [] less e = refl
path-lacks value (b ∷ w) less e =
    rw (not_same b value (and_left (is_path_byte b) (list_all is_path_byte w) e) less, path-lacks value w less (and_right (is_path_byte b) (list_all is_path_byte w) e)) refl

-- what is known where a text was cut, and where it wasn't
pub parts_are : {R : Type 0} (front back : R → List ℕ) (value : ℕ) (text : List ℕ) (o : Option R) → option_map (λ x. (front x, back x)) o ≡ cut value text → IfSome o (λ x. text ≡ front x ++ value ∷ back x)
parts_are front back value text None e = tt
parts_are front back value text (Some x) e = append-cut value text (front x) (back x) (sym e)

pub front_lacks : {R : Type 0} (front back : R → List ℕ) (value : ℕ) (text : List ℕ) (o : Option R) → option_map (λ x. (front x, back x)) o ≡ cut value text → IfSome o (λ x. lacks value (front x) ≡ true)
front_lacks front back value text None e = tt
front_lacks front back value text (Some x) e = cut-line value text (front x) (back x) (sym e)

pub none_lacks : {R : Type 0} (front back : R → List ℕ) (value : ℕ) (text : List ℕ) (o : Option R) → option_map (λ x. (front x, back x)) o ≡ cut value text → IfNone o (lacks value text ≡ true)
none_lacks front back value text None e = none-cut value text (sym e)
none_lacks front back value text (Some x) e = tt
