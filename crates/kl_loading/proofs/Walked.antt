-- A walk along the chain of a bucket meets the names of that bucket, and no other, in their order.
use Rattle.std.proofs.Common.{ℕ, zero, suc, ◌≡◌, ◌+◌, ◌*◌, ◌<◌, ◌≤◌, ◌∙◌, List, [], ◌∷◌, length, get_or, map, refl, ap, sym, arith, Bool, true, false, not, ◌&&◌, bytes_eq, inl, inr}
use Rattle.std.specs.Prelude.{Option, Some, None, find, ◌==◌, cond, if◌then◌else◌, option_map}
use Rattle.std.proofs.lemmas.Bool.{cases_Bool, eq-eqb, eqb-true, ne_eqb}
use Rattle.kl_le.specs.Bytes.{num, text}
use Rattle.kl_elf.specs.Records.{sym_at}
use Rattle.kl_elf.specs.declared.records.Sym.{Sym}
use Rattle.kl_model.specs.Found.{walk}
use Rattle.kl_model.specs.Tables.{chains_from, dyn_text, first_in, no_dyn, sym_of}
use Rattle.kl_model.specs.declared.graph.DynName.{DynName}
use Rattle.kl_model.specs.declared.graph.Graph.{Graph}
use Rattle.kl_model.specs.declared.object.Input.{Input}
use Rattle.kl_model.specs.declared.place.Placement.{Placement}
use Rattle.kl_loading.specs.ExportsFound.{export_value, is_export}
use Rattle.kl_loading.proofs.Strings.{text_place}

-- bytes with a hash table, symbols and strings at places
module _ (inputs : List Input) (p : Placement) (g : Graph) (b : List ℕ) (hash symbols strings : ℕ) where
  -- symbol n is that of a name whose text stands at a place of the strings
  pub record Reads (n at : ℕ) (d : DynName) : Type 0 where
    pub symbol : sym_at b (symbols + 24 * n) ≡ sym_of p g at d
    pub text_is : text b (strings + at) ≡ dyn_text inputs d

  -- the next symbol of a chain
  abbrev pub next : ℕ → ℕ
  next n = num b (hash + (8 + 4 * (num b hash 4 + n))) 4

  -- names have buckets
  module _ (bucket : DynName → ℕ) (name : List ℕ) (k : ℕ) (only : (d : DynName) → is_export inputs g name d ≡ true → bucket d ≡ k) where
    abbrev meets : ℕ → ℕ → Option ℕ
    meets = walk b hash symbols strings name

    abbrev first_of : List DynName → Option ℕ
    first_of ds = option_map (export_value p g) (find (is_export inputs g name) ds)

    -- one step
    abbrev turn : Bool → Sym → Option ℕ → Option ℕ
    turn z here rest = if z then None else if not (here.shndx == 0) && bytes_eq (text b (strings + here.name)) name then Some here.value else rest

    abbrev pick : Bool → ℕ → Option ℕ → Option ℕ
    pick t v rest = if t then Some v else rest

    one_step : (steps n at : ℕ) (d : DynName) → 0 < n → Reads n at d → meets (suc steps) n ≡ pick (is_export inputs g name d) (export_value p g d) (meets steps (next n))
    one_step steps n at d some r =
        ap (λ z. turn z (sym_at b (symbols + 24 * n)) (meets steps (next n))) (ne_eqb n 0 (λ e. omega (arith, e, some)))
        ∙ (ap (λ here. turn false here (meets steps (next n))) r.symbol
        ∙ ap (λ t. pick (not ((sym_of p g at d).shndx == 0) && bytes_eq t name) (export_value p g d) (meets steps (next n))) r.text_is)

    goes_on : (d : DynName) (ds : List DynName) (rest : Option ℕ) → rest ≡ first_of ds → pick (is_export inputs g name d) (export_value p g d) rest ≡ first_of (d ∷ ds)
    goes_on d ds rest e = go (is_export inputs g name d)
      where
        go : (t : Bool) → pick t (export_value p g d) rest ≡ option_map (export_value p g) (cond t (Some d) (find (is_export inputs g name) ds))
        go true = refl
        go false = e

    pub walked : (n at steps : ℕ) (ds : List DynName) → 0 < n → length ds ≤ steps
        → ((j : ℕ) → j < length ds → Reads (n + j) (text_place at j ds) (get_or ds j no_dyn))
        → ((j : ℕ) → j < length ds → next (n + j) ≡ get_or (chains_from n (map bucket ds)) j 0)
        → meets steps (first_in k n (map bucket ds)) ≡ first_of ds
    walked n at zero [] some fits reads chains = refl
    walked n at (suc steps) [] some fits reads chains = refl
    walked n at zero (d ∷ ds) some fits reads chains = absurd (omega (arith, fits))
    walked n at (suc steps) (d ∷ ds) some fits reads chains =
        let later : (m : ℕ) → length ds ≤ m → meets m (first_in k (suc n) (map bucket ds)) ≡ first_of ds =
        λ m h. walked (suc n) (suc (at + d.name.len)) m ds (omega arith) h
        (λ j l. let e : n + suc j ≡ suc n + j = omega arith in rw e at (reads (suc j) (omega (arith, l))))
        (λ j l. let e : n + suc j ≡ suc n + j = omega arith in rw e at (chains (suc j) (omega (arith, l)))) in
        elim (cases_Bool (bucket d == k)) [
          | inl same ↦ (
              let is : bucket d ≡ k = eqb-true (bucket d) k same in
              let z : n + 0 ≡ n = omega arith in
              let here : Reads n at d = rw z at (reads 0 (omega arith)) in
              let chain : next n ≡ first_in (bucket d) (suc n) (map bucket ds) = rw z at (chains 0 (omega arith)) in
              let rest : meets steps (next n) ≡ first_of ds =
              ap (meets steps) (chain ∙ ap (λ c. first_in c (suc n) (map bucket ds)) is) ∙ later steps (omega (arith, fits)) in
              ap (λ c. meets (suc steps) (cond c n (first_in k (suc n) (map bucket ds)))) same
              ∙ (one_step steps n at d some here ∙ goes_on d ds (meets steps (next n)) rest)
              )
          | inr other ↦ (
              let none : is_export inputs g name d ≡ false = not_here (is_export inputs g name d) refl other in
              ap (λ c. meets (suc steps) (cond c n (first_in k (suc n) (map bucket ds)))) other
              ∙ (later (suc steps) (omega (arith, fits))
              ∙ ap (λ c. option_map (export_value p g) (cond c (Some d) (find (is_export inputs g name) ds))) (sym none))
              )
        ]
      where
        not_here : (t : Bool) → is_export inputs g name d ≡ t → (bucket d == k) ≡ false → t ≡ false
        not_here false e o = refl
        not_here true e o = (let is : bucket d ≡ k = only d e in let no : true ≡ false = sym (eq-eqb (bucket d) k is) ∙ o in cc)
