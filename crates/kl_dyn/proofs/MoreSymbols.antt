-- The symbols of names, one more at a time.
use Rattle.std.proofs.Common.{ℕ, suc, ◌≡◌, ◌+◌, ◌<◌, ◌∙◌, ◌++◌, List, [], ◌∷◌, ap, arith, get_or, length, take, sym}
use Rattle.std.proofs.lemmas.List.{append_assoc, take_more}
use Rattle.std.proofs.lemmas.List.Sums.{sum_by-cons}
use Rattle.std.proofs.lemmas.Grind.{flat_map-append}
use Rattle.std.specs.Prelude.{flat_map, sum_by}
use Rattle.kl_model.specs.Tables.{no_dyn, no_sym, sym_of, syms_from}
use Rattle.kl_model.specs.Written.{sym_bytes}
use Rattle.kl_model.specs.declared.graph.DynName.{DynName}
use Rattle.kl_model.specs.declared.graph.Graph.{Graph}
use Rattle.kl_model.specs.declared.place.Placement.{Placement}
use Rattle.kl_elf.specs.declared.records.Sym.{Sym}

abbrev pub string_size : DynName → ℕ
string_size d = suc d.name.len

module _ (p : Placement) (g : Graph) where
  syms_push : (at : ℕ) (ds : List DynName) (d : DynName) → syms_from p g at (ds ++ d ∷ []) ≡ syms_from p g at ds ++ sym_of p g (at + sum_by string_size ds) d ∷ []
  syms_push at [] d = let e : at + 0 ≡ at = omega arith in ap (λ n. sym_of p g n d ∷ []) (sym e)
  syms_push at (x ∷ ds) d =
      let e : suc (at + x.name.len) + sum_by string_size ds ≡ at + sum_by string_size (x ∷ ds) = omega (arith, sum_by-cons string_size x ds) in
      ap (λ ys. sym_of p g at x ∷ ys) (syms_push (suc (at + x.name.len)) ds d ∙ ap (λ n. syms_from p g (suc (at + x.name.len)) ds ++ sym_of p g n d ∷ []) e)

  pub syms_more : (ds : List DynName) (n at : ℕ) (old old_bytes new : List ℕ) (y : Sym) → n < length ds → at ≡ suc (sum_by string_size (take n ds))
      → y ≡ sym_of p g at (get_or ds n no_dyn) → old_bytes ≡ old ++ flat_map sym_bytes (no_sym ∷ syms_from p g 1 (take n ds)) → new ≡ old_bytes ++ sym_bytes y
      → new ≡ old ++ flat_map sym_bytes (no_sym ∷ syms_from p g 1 (take (n + 1) ds))
  syms_more ds n at old old_bytes new y h is same before e =
      let heads = no_sym ∷ syms_from p g 1 (take n ds) in
      let here : 1 + sum_by string_size (take n ds) ≡ at = omega (arith, is) in
      let one : sym_of p g (1 + sum_by string_size (take n ds)) (get_or ds n no_dyn) ≡ y = ap (λ k. sym_of p g k (get_or ds n no_dyn)) here ∙ sym same in
      let all : heads ++ y ∷ [] ≡ no_sym ∷ syms_from p g 1 (take (n + 1) ds) =
      sym (ap (λ l. no_sym ∷ syms_from p g 1 l) (take_more ds n no_dyn h)
      ∙ (ap (λ l. no_sym ∷ l) (syms_push 1 (take n ds) (get_or ds n no_dyn)) ∙ ap (λ z. heads ++ z ∷ []) one)) in
      e ∙ (ap (λ l. l ++ sym_bytes y) before
      ∙ (append_assoc old (flat_map sym_bytes heads) (sym_bytes y)
      ∙ ap (λ l. old ++ l) (sym (flat_map-append sym_bytes heads (y ∷ [])) ∙ ap (flat_map sym_bytes) all)))
