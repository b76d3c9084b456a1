-- One group more, of the sections that are left out.
use Rattle.std.proofs.Common.{ℕ, zero, suc, ◌≡◌, ◌+◌, ◌<◌, ◌≤◌, ◌∙◌, List, [], ◌∷◌, ◌++◌, length, get_or, slice_set, take, refl, ap, sym, Bool, true, false, not, ◌&&◌, ◌||◌, inl, inr, arith, append_assoc}
use Rattle.std.specs.Prelude.{flat_map, replicate, ◌==◌}
use Rattle.std.specs.Str.{bytes_eq}
use Rattle.std.specs.List.{list_any}
use Rattle.std.specs.Borrow.{Bor}
use Rattle.std.specs.HashSet.{HashSet, Updates}
use Rattle.std.proofs.lemmas.Bool.{cases_Bool, eqb-true}
use Rattle.std.proofs.lemmas.List.{append-nil, take_more, take_all}
use Rattle.std.proofs.lemmas.List.Folds.{list_any-append}
use Rattle.kl_model.specs.Lists.{among, each, each_from, number_in, only_if}
use Rattle.kl_model.specs.Texts.{text_at}
use Rattle.kl_model.specs.Kept.{earlier, input_at, is_repeated, no_input, no_section, signatures}
use Rattle.kl_model.specs.declared.object.Group.{Group}
use Rattle.kl_model.specs.declared.object.Section.{Section}
use Rattle.kl_model.specs.declared.object.Input.{Input}
use Rattle.kl_model.proofs.Each.{each_more, each_all}
use Rattle.kl_names.proofs.NameLists.{other_way, same_self, same_text}
use Rattle.kl_names.specs.Removed.{Sees, marked, repeated_table}

or_false : (b : Bool) → (b || false) ≡ b
or_false true = refl
or_false false = refl

-- a set with one text more
pub sees-more : {S : Type 0} (old new : HashSet (Bor (List ℕ)) S) (t : Bor (List ℕ)) (texts : List (List ℕ)) → Updates (λ x y. bytes_eq x.now y.now) old new t true
    → Sees old texts → Sees new (texts ++ t.now ∷ [])
sees-more old new t texts changed before q =
    changed.0 (record { ref_ptr = t.ref_ptr; now = q })
    ∙ (elim (cases_Bool (bytes_eq t.now q)) [
      | inl a ↦
          let back : bytes_eq q t.now ≡ true = (let s = same_text t.now q a in rw s (same_self q)) in
          rw (a, list_any-append (bytes_eq q) texts (t.now ∷ []), back) (sym (or_true (among texts q)))
      | inr a ↦ rw (a, list_any-append (bytes_eq q) texts (t.now ∷ []), other_way t.now q a, or_false (among texts q)) (before q)
    ])
  where
    or_true : (b : Bool) → (b || true) ≡ true
    or_true true = refl
    or_true false = refl

pub not_false : (b : Bool) → not b ≡ false → b ≡ true
not_false true e = refl
not_false false e = cc

pub not_true : (b : Bool) → not b ≡ true → b ≡ false
not_true true e = cc
not_true false e = refl

number_in-more : (ms : List ℕ) (m s : ℕ) → number_in (ms ++ m ∷ []) s ≡ (number_in ms s || (m == s))
number_in-more ms m s = list_any-append (λ k. k == s) ms (m ∷ []) ∙ ap (λ b. number_in ms s || b) (or_false (m == s))

not_same : (m s : ℕ) → m < s → (m == s) ≡ false
not_same m s h = elim (cases_Bool (m == s)) [
  | inl a ↦ let e : m ≡ s = eqb-true m s a in absurd (omega arith)
  | inr a ↦ a
]

not_same_back : (m s : ℕ) → s < m → (m == s) ≡ false
not_same_back m s h = elim (cases_Bool (m == s)) [
  | inl a ↦ let e : m ≡ s = eqb-true m s a in absurd (omega arith)
  | inr a ↦ a
]

-- one mark more
marks_past : (n m : ℕ) (bs : List Bool) (ms : List ℕ) → m < n
    → each_from n (λ s b. (b || number_in ms s) ∷ []) bs ≡ each_from n (λ s b. (b || number_in (ms ++ m ∷ []) s) ∷ []) bs
marks_past n m [] ms h = refl
marks_past n m (b ∷ bs) ms h = rw (number_in-more ms m n, not_same m n h, or_false (number_in ms n), marks_past (suc n) m bs ms (omega arith)) refl

mark-at : (n k m : ℕ) (bs : List Bool) (ms : List ℕ) → n + k ≡ m → k < length bs
    → slice_set (each_from n (λ s b. (b || number_in ms s) ∷ []) bs) k true ≡ each_from n (λ s b. (b || number_in (ms ++ m ∷ []) s) ∷ []) bs
mark-at n k m [] ms e h = absurd (omega arith)
mark-at n zero m (b ∷ bs) ms e h =
    let here : m ≡ n = omega arith in
    let self : (n == n) ≡ true = same n in
    let last : (b || (number_in ms n || true)) ≡ true = go b (number_in ms n) in
    rw (here, number_in-more ms n n, self, last, marks_past (suc n) n bs ms (omega arith)) refl
  where
    same : (k : ℕ) → (k == k) ≡ true
    same k = search arith

    go : (a b : Bool) → (a || (b || true)) ≡ true
    go true b = refl
    go false true = refl
    go false false = refl
mark-at n (suc k) m (b ∷ bs) ms e h =
    rw (number_in-more ms m n, not_same_back m n (omega arith), or_false (number_in ms n), mark-at (suc n) k m bs ms (omega arith) (omega arith)) refl

pub mark-more : (bs : List Bool) (ms : List ℕ) (m : ℕ) → m < length bs → slice_set (marked bs ms) m true ≡ marked bs (ms ++ m ∷ [])
mark-more bs ms m h = mark-at 0 m m bs ms (omega arith) h

marks_none : (n : ℕ) (bs : List Bool) → each_from n (λ s b. (b || number_in [] s) ∷ []) bs ≡ bs
marks_none n [] = refl
marks_none n (b ∷ bs) = rw (or_false b, marks_none (suc n) bs) refl

pub mark-none : (bs : List Bool) → marked bs [] ≡ bs
mark-none bs = marks_none 0 bs

pub length-marked : (bs : List Bool) (ms : List ℕ) → length (marked bs ms) ≡ length bs
length-marked bs ms = go 0 bs
  where
    go : (n : ℕ) (bs : List Bool) → length (each_from n (λ s b. (b || number_in ms s) ∷ []) bs) ≡ length bs
    go n [] = refl
    go n (b ∷ bs) = ap suc (go (suc n) bs)

-- a test of each section number
abbrev pub told : (ℕ → Bool) → List Section → List Bool
told f ys = each ys (λ s y. f s ∷ [])

told-marked : (f : ℕ → Bool) (ms : List ℕ) (n : ℕ) (ys : List Section)
    → each_from n (λ s b. (b || number_in ms s) ∷ []) (each_from n (λ s y. f s ∷ []) ys) ≡ each_from n (λ s y. (f s || number_in ms s) ∷ []) ys
told-marked f ms n [] = refl
told-marked f ms n (y ∷ ys) = rw (told-marked f ms (suc n) ys) refl

told-same : (f g : ℕ → Bool) (n : ℕ) (ys : List Section) → ((s : ℕ) → f s ≡ g s) → each_from n (λ s y. f s ∷ []) ys ≡ each_from n (λ s y. g s ∷ []) ys
told-same f g n [] same = refl
told-same f g n (y ∷ ys) same = rw (same n, told-same f g (suc n) ys same) refl

length-told : (f : ℕ → Bool) (n : ℕ) (ys : List Section) → length (each_from n (λ s y. f s ∷ []) ys) ≡ length ys
length-told f n [] = refl
length-told f n (y ∷ ys) = ap suc (length-told f (suc n) ys)

told-false : (n : ℕ) (ys : List Section) → replicate (length ys) false ≡ each_from n (λ s y. false ∷ []) ys
told-false n [] = refl
told-false n (y ∷ ys) = ap (λ l. false ∷ l) (told-false (suc n) ys)

module _ (inputs : List Input) (i : ℕ) where
  abbrev pub x : Input
  x = input_at inputs i

  -- section s is in a group before group k that an earlier one stands for
  abbrev in_repeated : ℕ → ℕ → Group → List Bool
  in_repeated s k g = (g.comdat && (number_in g.members s && among (earlier inputs i k) (text_at x.bytes g.signature))) ∷ []

  abbrev pub is_repeated_by : ℕ → ℕ → Bool
  is_repeated_by k s = list_any (λ b. b) (each (take k x.object.groups) (in_repeated s))

  abbrev pub told_by : ℕ → List Bool
  told_by k = told (is_repeated_by k) (no_section ∷ x.object.sections)

  pub length-told_by : (k : ℕ) → length (told_by k) ≡ suc (length x.object.sections)
  length-told_by k = length-told (is_repeated_by k) 0 (no_section ∷ x.object.sections)

  pub told_by-none : replicate (suc (length x.object.sections)) false ≡ told_by 0
  told_by-none = told-false 0 (no_section ∷ x.object.sections)

  pub told_by-all : (k : ℕ) → length x.object.groups ≤ k → told_by k ≡ repeated_table inputs i
  told_by-all k h = told-same (is_repeated_by k) (is_repeated inputs i) 0 (no_section ∷ x.object.sections) (λ s. ap (list_any (λ b. b)) (each_all (in_repeated s) x.object.groups k h))

  module _ (k : ℕ) (d : Group) (h : k < length x.object.groups) where
    abbrev pub g : Group
    g = get_or x.object.groups k d

    repeated_more : (s : ℕ) → is_repeated_by (k + 1) s ≡ (is_repeated_by k s || (g.comdat && (number_in g.members s && among (earlier inputs i k) (text_at x.bytes g.signature))))
    repeated_more s =
        ap (list_any (λ b. b)) (each_more (in_repeated s) x.object.groups k d h)
        ∙ (list_any-append (λ b. b) (each (take k x.object.groups) (in_repeated s)) (in_repeated s k g) ∙ ap (λ b. is_repeated_by k s || b) (or_false _))

    -- a group that is no COMDAT group, or is the first of its signature
    pub told_by-other : (g.comdat && among (earlier inputs i k) (text_at x.bytes g.signature)) ≡ false → told_by (k + 1) ≡ told_by k
    told_by-other e = told-same (is_repeated_by (k + 1)) (is_repeated_by k) 0 (no_section ∷ x.object.sections) (λ s. repeated_more s ∙ (ap (λ b. is_repeated_by k s || b) (none s) ∙ or_false _))
      where
        go : (a b c : Bool) → (a && c) ≡ false → (a && (b && c)) ≡ false
        go true true c e = e
        go true false c e = refl
        go false b c e = refl

        none : (s : ℕ) → (g.comdat && (number_in g.members s && among (earlier inputs i k) (text_at x.bytes g.signature))) ≡ false
        none s = go g.comdat (number_in g.members s) (among (earlier inputs i k) (text_at x.bytes g.signature)) e

    pub told_by-more : g.comdat ≡ true → among (earlier inputs i k) (text_at x.bytes g.signature) ≡ true → told_by (k + 1) ≡ marked (told_by k) g.members
    told_by-more comdat known =
        told-same (is_repeated_by (k + 1)) (λ s. is_repeated_by k s || number_in g.members s) 0 (no_section ∷ x.object.sections) (λ s. repeated_more s ∙ ap (λ b. is_repeated_by k s || b) (all s))
        ∙ sym (told-marked (is_repeated_by k) g.members 0 (no_section ∷ x.object.sections))
      where
        go : (b : Bool) → (b && true) ≡ b
        go true = refl
        go false = refl

        all : (s : ℕ) → (g.comdat && (number_in g.members s && among (earlier inputs i k) (text_at x.bytes g.signature))) ≡ number_in g.members s
        all s = rw (comdat, known) (go (number_in g.members s))

    -- the signatures with that of the group
    pub earlier-more : earlier inputs i (k + 1) ≡ earlier inputs i k ++ only_if g.comdat (text_at x.bytes g.signature)
    earlier-more =
        ap (λ l. flat_map (λ x. signatures x.bytes x.object.groups) (take i inputs) ++ signatures x.bytes l) (take_more x.object.groups k d h)
        ∙ (ap (λ l. flat_map (λ x. signatures x.bytes x.object.groups) (take i inputs) ++ l) (joined (take k x.object.groups))
        ∙ sym (append_assoc (flat_map (λ x. signatures x.bytes x.object.groups) (take i inputs)) (signatures x.bytes (take k x.object.groups)) (only_if g.comdat (text_at x.bytes g.signature))))
      where
        joined : (gs : List Group) → signatures x.bytes (gs ++ g ∷ []) ≡ signatures x.bytes gs ++ only_if g.comdat (text_at x.bytes g.signature)
        joined [] = append-nil _
        joined (y ∷ gs) = ap (λ l. only_if y.comdat (text_at x.bytes y.signature) ++ l) (joined gs) ∙ sym (append_assoc (only_if y.comdat (text_at x.bytes y.signature)) _ _)

  -- the signatures of all inputs up to this one
  pub earlier-all : (k : ℕ) → i < length inputs → length x.object.groups ≤ k → earlier inputs i k ≡ earlier inputs (i + 1) 0
  earlier-all k h past =
      ap (λ l. flat_map (λ x. signatures x.bytes x.object.groups) (take i inputs) ++ signatures x.bytes l) (take_all k x.object.groups past)
      ∙ (sym (joined (take i inputs)) ∙ (ap (flat_map (λ x. signatures x.bytes x.object.groups)) (sym (take_more inputs i no_input h)) ∙ sym (append-nil _)))
    where
      joined : (xs : List Input) → flat_map (λ x. signatures x.bytes x.object.groups) (xs ++ x ∷ []) ≡ flat_map (λ x. signatures x.bytes x.object.groups) xs ++ signatures x.bytes x.object.groups
      joined [] = append-nil _
      joined (y ∷ xs) = ap (λ l. signatures y.bytes y.object.groups ++ l) (joined xs) ∙ sym (append_assoc (signatures y.bytes y.object.groups) _ _)
