-- The chains of a hash table, made from the last symbol to the first.
use Rattle.std.proofs.Common.{ℕ, suc, ◌≡◌, ◌≢◌, ◌+◌, ◌<◌, ◌∙◌, List, ◌∷◌, drop, get_or, length, ap, sym, refl, arith, inl, inr, nat_eq, set, true, false}
use Rattle.std.proofs.lemmas.Bool.{cases_Bool, eq-eqb, eqb-true}
use Rattle.std.proofs.lemmas.List.{drop-set, get_or-set_other, get_or-set_same}
use Rattle.std.proofs.Math.Seq.{drop-cons}
use Rattle.std.specs.Prelude.{cond}
use Rattle.kl_model.specs.Tables.{chains_from, first_in}

module _ (xs : List ℕ) (k rest : ℕ) (is : rest ≡ suc k) (h : k < length xs) where
  -- the first symbol of a bucket, from a symbol on
  first_step : (b : ℕ) → first_in b (suc k) (drop k xs) ≡ cond (nat_eq (get_or xs k 0) b) rest (first_in b (suc rest) (drop rest xs))
  first_step b = ap (first_in b (suc k)) (drop-cons xs k 0 h) ∙ rw is refl

  -- the symbol becomes the first of its bucket
  pub firsts_step : (firsts : List ℕ) (b : ℕ) → b < length firsts → get_or firsts b 0 ≡ first_in b (suc rest) (drop rest xs)
      → get_or (set firsts (get_or xs k 0) rest) b 0 ≡ first_in b (suc k) (drop k xs)
  firsts_step firsts b inside e = elim (cases_Bool (nat_eq (get_or xs k 0) b)) [
    | inl a ↦
        ap (λ i. get_or (set firsts i rest) b 0) (eqb-true (get_or xs k 0) b a)
        ∙ (get_or-set_same firsts b rest 0 inside
        ∙ sym (first_step b ∙ ap (λ t. cond t rest (first_in b (suc rest) (drop rest xs))) a))
    | inr a ↦
        let other : b ≢ get_or xs k 0 = λ q. let same = eq-eqb (get_or xs k 0) b (sym q) in let no : true ≡ false = sym same ∙ a in absurd (cc) in
        get_or-set_other firsts (get_or xs k 0) b rest 0 other
        ∙ (e ∙ sym (first_step b ∙ ap (λ t. cond t rest (first_in b (suc rest) (drop rest xs))) a))
  ]

  -- the first of its bucket behind it is the next symbol
  pub nexts_step : (nexts : List ℕ) (next : ℕ) → k < length nexts → next ≡ first_in (get_or xs k 0) (suc rest) (drop rest xs)
      → drop rest nexts ≡ chains_from (suc rest) (drop rest xs) → drop k (set nexts k next) ≡ chains_from (suc k) (drop k xs)
  nexts_step nexts next inside e more =
      let end : k + 1 ≡ rest = omega (arith, is) in
      drop-set nexts k next inside
      ∙ (ap (λ m. next ∷ drop m nexts) end
      ∙ (ap (λ l. next ∷ l) more
      ∙ (ap (λ f. f ∷ chains_from (suc rest) (drop rest xs)) e
      ∙ sym (ap (chains_from (suc k)) (drop-cons xs k 0 h) ∙ rw is refl))))
