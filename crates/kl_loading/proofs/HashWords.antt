-- The words of a hash table in bytes: how many buckets, the first symbol of each bucket, the next symbol of each symbol.
use Rattle.std.proofs.Common.{ℕ, zero, suc, ◌≡◌, ◌+◌, ◌*◌, ◌^◌, ◌<◌, ◌≤◌, ◌∙◌, List, [], ◌∷◌, ◌++◌, length, get_or, map, refl, ap, arith, Bool, true, false, length-append}
use Rattle.std.specs.Prelude.{◌==◌, cond, flat_map}
use Rattle.std.specs.List.{range_with_len}
use Rattle.std.proofs.lemmas.List.{get_or_append_left, get_or-append-add, length-map}
use Rattle.std.proofs.lemmas.List.FromFn.{length-range_with_len}
use Rattle.kl_le.specs.Bytes.{num}
use Rattle.kl_model.specs.Sizes.{bucket_count, symbol_count}
use Rattle.kl_model.specs.Tables.{buckets_of, chains_from, first_in, hash_words}
use Rattle.kl_model.specs.Written.{bytes_of}
use Rattle.kl_model.specs.declared.graph.Graph.{Graph}
use Rattle.kl_model.specs.declared.object.Input.{Input}
use Rattle.kl_model.proofs.ImageBytes.{length-bytes_of}
use Rattle.kl_write.proofs.ReadHeaders.{HasAt, has_left, has_num, has_right}
use Rattle.kl_loading.proofs.TableParts.{length-chains}

-- word k of words in a row
pub read_word : (b : List ℕ) (at k : ℕ) (ws : List ℕ) → k < length ws → HasAt b at (flat_map (bytes_of 4) ws) → get_or ws k 0 < 2 ^ 32 → num b (at + 4 * k) 4 ≡ get_or ws k 0
read_word b at k [] l h s = absurd (omega (arith, l))
read_word b at zero (w ∷ ws) l h s =
    let z : at + 4 * 0 ≡ at = omega arith in
    rw z (has_num b at 4 w (has_left b at (bytes_of 4 w) (flat_map (bytes_of 4) ws) h) s)
read_word b at (suc k) (w ∷ ws) l h s =
    let z : at + 4 * suc k ≡ at + 4 + 4 * k = omega arith in
    rw z (read_word b (at + 4) k ws (omega (arith, l)) (has_right b at (at + 4) (bytes_of 4 w) (flat_map (bytes_of 4) ws) (omega (arith, length-bytes_of 4 w)) h) s)

-- the first symbol of a bucket is no later than the last symbol
pub first_low : (k n : ℕ) (xs : List ℕ) → first_in k n xs ≤ n + length xs
first_low k n [] = omega arith
first_low k n (x ∷ xs) = go (x == k) (first_low k (suc n) xs)
  where
    go : (t : Bool) → first_in k (suc n) xs ≤ suc n + length xs → cond t n (first_in k (suc n) xs) ≤ n + suc (length xs)
    go true h = omega arith
    go false h = omega (arith, h)

pub chains_low : (n : ℕ) (xs : List ℕ) (j : ℕ) → get_or (chains_from n xs) j 0 ≤ n + length xs
chains_low n [] j = none j
  where
    none : (j : ℕ) → get_or [] j 0 ≤ n + 0
    none zero = omega arith
    none (suc j) = omega arith
chains_low n (x ∷ xs) zero = omega (arith, first_low x (suc n) xs)
chains_low n (x ∷ xs) (suc j) = omega (arith, chains_low (suc n) xs j)

-- item j of the numbers from n on, mapped
mapped_range : (f : ℕ → ℕ) (n m j : ℕ) → j < m → get_or (map f (range_with_len n m)) j 0 ≡ f (n + j)
mapped_range f n zero j l = absurd (omega (arith, l))
mapped_range f n (suc m) zero l = let z : n + 0 ≡ n = omega arith in rw z refl
mapped_range f n (suc m) (suc j) l = let z : n + suc j ≡ n + 1 + j = omega arith in rw z (mapped_range f (n + 1) m j (omega (arith, l)))

-- the words of a graph's names in bytes
module _ (inputs : List Input) (g : Graph) (b : List ℕ) (at : ℕ) (few : length g.names < 2 ^ 31) (h : HasAt b at (flat_map (bytes_of 4) (hash_words inputs g))) where
  abbrev buckets : List ℕ
  buckets = buckets_of inputs g

  abbrev count : ℕ
  count = bucket_count g

  abbrev firsts : List ℕ
  firsts = map (λ k. first_in k 1 buckets) (range_with_len 0 count)

  abbrev rest : List ℕ
  rest = 0 ∷ chains_from 1 buckets

  length-buckets : length buckets ≡ length g.names
  length-buckets = length-map g.names _

  length-firsts : length firsts ≡ count
  length-firsts = length-map (range_with_len 0 count) (λ k. first_in k 1 buckets) ∙ length-range_with_len 0 count

  length-rest : length rest ≡ suc (length g.names)
  length-rest = omega (arith, length-chains 1 buckets, length-buckets)

  word_is : (k v : ℕ) → k < 2 + (count + suc (length g.names)) → get_or (hash_words inputs g) k 0 ≡ v → v < 2 ^ 32 → num b (at + 4 * k) 4 ≡ v
  word_is k v l e s = read_word b at k (hash_words inputs g) (omega (arith, l, length-append firsts rest, length-firsts, length-rest)) h (rw e s) ∙ e

  pub counted : num b at 4 ≡ count
  counted = let z : at + 4 * 0 ≡ at = omega arith in rw z at (word_is 0 count (omega arith) refl (omega (arith, few)))

  pub symbols_counted : num b (at + 4) 4 ≡ symbol_count g
  symbols_counted = let z : at + 4 * 1 ≡ at + 4 = omega arith in rw z at (word_is 1 (symbol_count g) (omega arith) refl (omega (arith, few)))

  -- the first symbol of a bucket
  pub first_word : (k : ℕ) → k < count → num b (at + (8 + 4 * k)) 4 ≡ first_in k 1 buckets
  first_word k l =
      let z : at + 4 * suc (suc k) ≡ at + (8 + 4 * k) = omega arith in
      let none : 0 + k ≡ k = omega arith in
      let is : get_or (firsts ++ rest) k 0 ≡ first_in k 1 buckets =
      get_or_append_left firsts rest 0 k (omega (arith, l, length-firsts)) ∙ (mapped_range (λ k. first_in k 1 buckets) 0 count k l ∙ ap (λ n. first_in n 1 buckets) none) in
      rw z at (word_is (suc (suc k)) (first_in k 1 buckets) (omega (arith, l)) is (omega (arith, few, first_low k 1 buckets, length-buckets)))

  -- the next symbol of each
  pub chain_word : (j : ℕ) → j < length g.names → num b (at + (8 + 4 * (num b at 4 + (1 + j)))) 4 ≡ get_or (chains_from 1 buckets) j 0
  chain_word j l =
      let z : at + 4 * suc (suc (count + suc j)) ≡ at + (8 + 4 * (count + (1 + j))) = omega arith in
      let place : count + suc j ≡ length firsts + suc j = omega (arith, length-firsts) in
      let is : get_or (firsts ++ rest) (count + suc j) 0 ≡ get_or (chains_from 1 buckets) j 0 =
      ap (λ n. get_or (firsts ++ rest) n 0) place ∙ get_or-append-add firsts rest (suc j) 0 in
      ap (λ c. num b (at + (8 + 4 * (c + (1 + j)))) 4) counted
      ∙ rw z at (word_is (suc (suc (count + suc j))) (get_or (chains_from 1 buckets) j 0) (omega (arith, l)) is (omega (arith, few, chains_low 1 buckets j, length-buckets)))
