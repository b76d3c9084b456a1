use Rattle.std.proofs.Common.{ℕ, ◌≡◌, ◌+◌, ◌%◌, ◌<◌, ◌∙◌, ◌++◌, List, [], ◌∷◌, ap, arith, get_or, length, map, sym, take}
use Rattle.std.proofs.lemmas.List.{map_more}
use Rattle.std.proofs.lemmas.List.Elements.{All-append, All-cons}
use Rattle.std.proofs.Math.Nat.{mod-lt}
use Rattle.kl_model.specs.Tables.{dyn_text, no_dyn, symbol_hash}
use Rattle.kl_model.specs.declared.graph.DynName.{DynName}
use Rattle.kl_dyn.proofs.table.buckets_of.Goals as goal

pushed : (f : DynName → ℕ) (names : List DynName) (items : List DynName) (n v : ℕ) (old new : List ℕ) → items ≡ names → n < length items
    → v ≡ f (get_or items n no_dyn) → old ≡ map f (take n names) → new ≡ old ++ v ∷ [] → new ≡ map f (take (n + 1) names)
pushed f names items n v old new are h is before e =
    e ∙ (ap (λ l. l ++ v ∷ []) before ∙ (ap (λ x. map f (take n names) ++ x ∷ []) (is ∙ ap (λ l. f (get_or l n no_dyn)) are) ∙ sym (map_more f names n no_dyn (rw are at h))))

pub loop-name-preserved : goal.loop-name-preserved
loop-name-preserved c =
    let i = c.loop-name.invariant in
    record {
      buckets =
          pushed (λ d. symbol_hash (dyn_text c.args.inputs.now d) % c.args.count) c.args.graph.now.names c.items-name-items.result.now c.loop-name.name-index _ c.loop-name.buckets.items _
          c.items-name-items.ensures c.loop-name-test.true (ap (λ n. n % c.args.count) (c.symbol_hash.ensures ∙ ap symbol_hash c.name_text.ensures)) i.buckets c.in_ok-push.ensures.items;
      within =
          rw c.in_ok-push.ensures.items
          (All-append (λ b. b < c.args.count) c.loop-name.buckets.items _ i.within (All-cons (λ b. b < c.args.count) _ [] (mod-lt _ (omega (arith, c.requires))) (λ k d h. absurd (omega (arith, h)))));
    }
