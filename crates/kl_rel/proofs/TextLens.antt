-- The lengths of texts in a string table.
use Rattle.std.proofs.Common.{ℕ, zero, suc, ◌≡◌, ◌+◌, ◌-◌, ◌<◌, ◌≤◌, ◌∙◌, Bool, true, false, cond, not, List, [], ◌∷◌, length, take, drop, min, refl, ap, sym, arith, ◌≢◌, le-ltb, lt-ltb, length-drop}
use Rattle.std.specs.Prelude.{◌==◌, nat_lt, position, slice_range, unwrap_or, Some, None}
use Rattle.std.specs.Option.{option_map}
use Rattle.std.specs.List.{position_or_len}
use Rattle.std.proofs.lemmas.Bool.{ltb-true, ltb-false}
use Rattle.std.proofs.lemmas.List.{length-take, drop-take}
use Rattle.std.proofs.lemmas.List.Sums.{prefix_len-drop_all, prefix_len-le-length}
use Rattle.std.proofs.Math.ListN.{drop_of_length-le}
use Rattle.kl_elf.specs.declared.records.Shdr.{Shdr}
use Rattle.kl_rel.specs.Headers.{string_in}
use Rattle.kl_rel.specs.StringTables.{table_bytes, text_len}

abbrev len_of : List ℕ → ℕ
len_of xs = position_or_len (λ c. c == 0) xs

-- a zero byte among the first m bytes, or none
found : (xs : List ℕ) (m : ℕ) → len_of (take m xs) < length (take m xs) → len_of xs ≡ len_of (take m xs)
found xs zero h = absurd (omega arith)
found [] (suc m) h = absurd (omega arith)
found (x ∷ xs) (suc m) h = go (x == 0) h (λ l. found xs m l)
  where
    go : (z : Bool) → cond (not z) (1 + len_of (take m xs)) 0 < suc (length (take m xs)) → (len_of (take m xs) < length (take m xs) → len_of xs ≡ len_of (take m xs))
        → cond (not z) (1 + len_of xs) 0 ≡ cond (not z) (1 + len_of (take m xs)) 0
    go true h rest = refl
    go false h rest = ap (λ n. 1 + n) (rest (omega arith))

passed : (xs : List ℕ) (m : ℕ) → length (take m xs) ≤ len_of (take m xs) → len_of xs ≡ length (take m xs) + len_of (drop m xs)
passed xs zero h = omega arith
passed [] (suc m) h = omega arith
passed (x ∷ xs) (suc m) h = go (x == 0) h (λ l. passed xs m l)
  where
    go : (z : Bool) → suc (length (take m xs)) ≤ cond (not z) (1 + len_of (take m xs)) 0 → (length (take m xs) ≤ len_of (take m xs) → len_of xs ≡ length (take m xs) + len_of (drop m xs))
        → cond (not z) (1 + len_of xs) 0 ≡ suc (length (take m xs)) + len_of (drop m xs)
    go true h rest = absurd (omega arith)
    go false h rest = let step = rest (omega arith) in omega (arith, step)

pub drop-again : (k m : ℕ) (xs : List ℕ) → drop m (drop k xs) ≡ drop (k + m) xs
drop-again zero m xs = let e : zero + m ≡ m = omega arith in rw e refl
drop-again (suc k) m [] = drop_of_length-le [] (omega arith) ∙ sym (drop_of_length-le [] (omega arith))
drop-again (suc k) m (x ∷ xs) = let e : suc k + m ≡ suc (k + m) = omega arith in rw e (drop-again k m xs)

-- the length of a text by the part of it up to a block's end, or the table's
part : (t : List ℕ) (place end : ℕ) → place ≤ end → end ≤ length t → length (take (end - place) (drop place t)) ≡ end - place
part t place end low high = simp (length-take, length-drop) (omega arith)

past : (t : List ℕ) (block end : ℕ) → end ≡ min block (length t) → text_len t end ≡ text_len t block
past t block end e = go (nat_lt block (length t)) refl
  where
    go : (x : Bool) → nat_lt block (length t) ≡ x → text_len t end ≡ text_len t block
    go true lt = let below = ltb-true block (length t) lt in let same : end ≡ block = omega (arith, below, e) in rw same refl
    go false lt =
        let above = ltb-false block (length t) lt in
        prefix_len-drop_all (λ c. not (c == 0)) t end (omega (arith, above, e)) ∙ sym (prefix_len-drop_all (λ c. not (c == 0)) t block above)

pub len_found : (t : List ℕ) (place end : ℕ) → place ≤ end → end ≤ length t → len_of (slice_range t place end) < end - place → text_len t place ≡ len_of (slice_range t place end)
len_found t place end low high h = found (drop place t) (end - place) (rw (part t place end low high) h)

pub len_passed : (t : List ℕ) (place end block : ℕ) → place ≤ end → end ≡ min block (length t) → end - place ≤ len_of (slice_range t place end)
    → text_len t place ≡ (end - place) + text_len t block
len_passed t place end block low e h =
    let high : end ≤ length t = omega (arith, e) in
    let long = part t place end low high in
    let f : place + (end - place) ≡ end = omega arith in
    let again = rw f at (drop-again place (end - place) t) in
    let whole = passed (drop place t) (end - place) (rw long h) in
    whole ∙ rw (long, again, past t block end e) refl

-- the string at a place by the length of the text there
pub string_past : (b : List ℕ) (s : Shdr) (p : ℕ) → s.size ≤ p → string_in b s p ≡ None
unfolding string_in
string_past b s p h = let e : s.offset + s.size - (s.offset + p) ≡ 0 = omega arith in rw e refl

rest_is : (b : List ℕ) (s : Shdr) (p : ℕ) → p ≤ s.size → slice_range b (s.offset + p) (s.offset + s.size) ≡ drop p (table_bytes b s)
rest_is b s p h =
    let e : s.offset + s.size - s.offset ≡ p + (s.size - p) = omega arith in
    let f : s.offset + s.size - (s.offset + p) ≡ s.size - p = omega arith in
    let again = drop-again s.offset p b in
    rw (e, f, ← again) (sym (drop-take p (s.size - p) (drop s.offset b)))

rest_long : (b : List ℕ) (s : Shdr) (p : ℕ) → s.offset + s.size ≤ length b → length (drop p (table_bytes b s)) ≡ s.size - p
rest_long b s p lies = simp (length-drop, length-take) (omega arith)

pub table_long : (b : List ℕ) (s : Shdr) → s.offset + s.size ≤ length b → length (table_bytes b s) ≡ s.size
table_long b s lies = simp (length-take, length-drop) (omega arith)

string_by : (b : List ℕ) (s : Shdr) (p : ℕ) → p ≤ s.size → s.offset + s.size ≤ length b
    → string_in b s p ≡ option_map (λ len. record { at = s.offset + p; len = len }) (cond (nat_lt (text_len (table_bytes b s) p) (s.size - p)) (Some (text_len (table_bytes b s) p)) None)
unfolding string_in
string_by b s p h lies = rw (rest_is b s p h, rest_long b s p lies) refl

pub len_bound : (b : List ℕ) (s : Shdr) (p : ℕ) → s.offset + s.size ≤ length b → text_len (table_bytes b s) p ≤ s.size - p
len_bound b s p lies =
    let bound = prefix_len-le-length (λ c. not (c == 0)) (drop p (table_bytes b s)) in
    rw rest_long at bound

pub string_none : (b : List ℕ) (s : Shdr) (p : ℕ) → p < s.size → s.offset + s.size ≤ length b → p + text_len (table_bytes b s) p ≡ s.size → string_in b s p ≡ None
string_none b s p h lies e =
    let test : nat_lt (text_len (table_bytes b s) p) (s.size - p) ≡ false = le-ltb (text_len (table_bytes b s) p) (s.size - p) (omega (arith, e)) in
    string_by b s p (omega arith) lies ∙ rw test refl

pub string_some : (b : List ℕ) (s : Shdr) (p : ℕ) → p < s.size → s.offset + s.size ≤ length b → p + text_len (table_bytes b s) p ≢ s.size
    → string_in b s p ≡ Some (record { at = s.offset + p; len = text_len (table_bytes b s) p })
string_some b s p h lies e =
    let bound = len_bound b s p lies in
    let test : nat_lt (text_len (table_bytes b s) p) (s.size - p) ≡ true = lt-ltb (text_len (table_bytes b s) p) (s.size - p) (omega (arith, bound, e)) in
    string_by b s p (omega arith) lies ∙ rw test refl

-- no text is left past the end
pub none_left : (t : List ℕ) (k : ℕ) → length t ≤ k → text_len t k ≡ 0
none_left t k h = prefix_len-drop_all (λ c. not (c == 0)) t k h

pub or_len : (xs : List ℕ) → unwrap_or (position (λ c. c == 0) xs) (length xs) ≡ position_or_len (λ c. c == 0) xs
or_len xs = go (nat_lt (len_of xs) (length xs)) refl
  where
    go : (x : Bool) → nat_lt (len_of xs) (length xs) ≡ x → unwrap_or (cond x (Some (len_of xs)) None) (length xs) ≡ len_of xs
    go true e = refl
    go false e =
        let far = ltb-false (len_of xs) (length xs) e in
        let near = prefix_len-le-length (λ c. not (c == 0)) xs in
        omega (arith, far, near)

pub zeros_bound : (t : List ℕ) (k : ℕ) → text_len t k ≤ length t
zeros_bound t k = let bound = prefix_len-le-length (λ c. not (c == 0)) (drop k t) in let long = rw length-drop at bound in omega (arith, long)

pub part_bound : (t : List ℕ) (place end : ℕ) → len_of (slice_range t place end) ≤ end - place
part_bound t place end =
    let bound = prefix_len-le-length (λ c. not (c == 0)) (slice_range t place end) in
    let long = rw length-take at bound in
    omega (arith, long)
