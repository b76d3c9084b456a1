use Rattle.std.proofs.Common.{ℕ, ◌≡◌, ◌∙◌, ◌++◌, List, ◌∷◌, ap, append_assoc, map, sym}
use Rattle.std.proofs.lemmas.List.Concat.{flat_map-append}
use Rattle.std.specs.List.{range_with_len}
use Rattle.std.specs.Prelude.{OnOk, Result, Ok, Err, flat_map}
use Rattle.kl_model.specs.Sizes.{bucket_count, symbol_count}
use Rattle.kl_model.specs.Tables.{buckets_of, chains_from, first_in}
use Rattle.kl_model.specs.Written.{bytes_of}
use Rattle.kl_dyn.proofs.table.push_hash.Goals as goal

word : ℕ → List ℕ
word n = bytes_of 4 n

pushed : {T E : Type 0} (count symbols : ℕ) (firsts nexts : List ℕ) (old first second third fourth : List ℕ)
    → first ≡ old ++ word count → second ≡ first ++ word symbols → third ≡ second ++ flat_map word firsts → fourth ≡ third ++ word 0
    → (r : Result T E) (fifth : List ℕ) → OnOk r (fifth ≡ fourth ++ flat_map word nexts) → OnOk r (fifth ≡ old ++ flat_map word (count ∷ symbols ∷ (firsts ++ 0 ∷ nexts)))
pushed count symbols firsts nexts old first second third fourth one two three four (Ok x) fifth five =
    let heads = word count ++ word symbols in
    five
    ∙ (ap (λ l. l ++ flat_map word nexts) (four ∙ ap (λ l. l ++ word 0) (three ∙ ap (λ l. l ++ flat_map word firsts) (two ∙ (ap (λ l. l ++ word symbols) one ∙ append_assoc old (word count) (word symbols)))))
    ∙ (ap (λ l. l ++ flat_map word nexts) (append_assoc (old ++ heads) (flat_map word firsts) (word 0))
    ∙ (append_assoc (old ++ heads) (flat_map word firsts ++ word 0) (flat_map word nexts)
    ∙ (append_assoc old heads ((flat_map word firsts ++ word 0) ++ flat_map word nexts)
    ∙ ap (λ l. old ++ l)
    (append_assoc (word count) (word symbols) ((flat_map word firsts ++ word 0) ++ flat_map word nexts)
    ∙ ap (λ l. word count ++ (word symbols ++ l)) (append_assoc (flat_map word firsts) (word 0) (flat_map word nexts) ∙ sym (flat_map-append word firsts (0 ∷ nexts))))))))
pushed count symbols firsts nexts old first second third fourth one two three four (Err x) fifth five = tt

pub returns : goal.returns
unfolding word
returns c =
    let g = c.args.graph.now in
    let buckets = buckets_of c.args.inputs.now g in
    let given = c.deref.ensures.value ∙ c.in_ok-buckets.ensures.buckets in
    let count = c.bucket_count-count.ensures in
    let firsts =
    c.deref-2.ensures.value ∙ (c.in_ok-chains.ensures.firsts
    ∙ (ap (λ n. map (λ b. first_in b 1 c.deref.result.now) (range_with_len 0 n)) count ∙ ap (λ xs. map (λ b. first_in b 1 xs) (range_with_len 0 (bucket_count g))) given)) in
    let nexts = c.deref-3.ensures.value ∙ (c.in_ok-chains.ensures.nexts ∙ ap (chains_from 1) given) in
    pushed (bucket_count g) (symbol_count g) (map (λ b. first_in b 1 buckets) (range_with_len 0 (bucket_count g))) (chains_from 1 buckets) c.args.bytes.now.items _ _ _ _
    (rw count at c.in_ok-push_word.ensures) (rw c.symbol_count.ensures at c.in_ok-push_word-2.ensures) (rw firsts at c.in_ok-push_words.ensures) c.in_ok-push_word-3.ensures
    c.push_words-2.result _ (rw nexts at c.push_words-2.ensures)
