use Rattle.std.proofs.Common.{◌≡◌, ◌∙◌, ◌++◌, ◌∷◌, [], List, length, ap, sym, cond, rules, Some, None}
use Rattle.std.specs.HashMap.{get}
use Rattle.kl_model.specs.Slots.{same_target}
use Rattle.kl_model.specs.declared.graph.Target.{Target}
use Rattle.kl_model.proofs.StandOnce.{target-is, target-refl}
use Rattle.kl_got.specs.Numbered.{number_of, same_value}
use Rattle.kl_got.proofs.Once.{found-any, missing-any, place_last, place_new, with_new, with_old}
use Rattle.kl_got.proofs.Walked.{value-is}
use Rattle.kl_got.proofs.index.SlotIndex.number.Goals as goal

pub returns-in-Some-clause-targets : goal.returns-in-Some-clause-targets
returns-in-Some-clause-targets c =
    let t = c.args.target in
    let known = sym (c.self.invariant t) ∙ sym c.in-Some.ensures.value in
    rw (← c.self.view_is) (with_old same_target target-is target-refl _ t (found-any same_target target-is target-refl 0 _ t _ known))

pub invariant_of-self-in-Ok : goal.invariant_of-self-in-Ok
invariant_of-self-in-Ok c = λ q.
    let t = c.args.target in
    let targets : List Target = c.self.inside.targets.items in
    let new : number_of targets t ≡ None = sym (c.self.invariant t) ∙ sym c.in_default.ensures.value in
    let more : c.push.new.self.items ≡ targets ++ t ∷ [] = c.in_ok-push.ensures.items in
    let many : c.len-number.result ≡ length targets = search rules in
    c.in-Ok.ensures.updates.0 q
    ∙ (ap (λ b. cond b (Some c.len-number.result) (get same_value c.self.inside.numbers q)) (value-is t q)
    ∙ (ap (λ r. cond (same_target t q) (Some c.len-number.result) r) (c.self.invariant q)
    ∙ (ap (λ n. cond (same_target t q) (Some n) (number_of targets q)) many
    ∙ (sym (place_new same_target target-is target-refl targets t q new) ∙ ap (λ l. number_of l q) (sym more)))))

pub returns-in-Ok-clause-targets : goal.returns-in-Ok-clause-targets
returns-in-Ok-clause-targets c =
    let t = c.args.target in
    let targets : List Target = c.self.inside.targets.items in
    let new : number_of targets t ≡ None = sym (c.self.invariant t) ∙ sym c.in_default.ensures.value in
    let more : c.push.new.self.items ≡ targets ++ t ∷ [] = c.in_ok-push.ensures.items in
    more ∙ rw (← c.self.view_is) (with_new same_target target-is target-refl targets t (missing-any same_target target-is target-refl 0 targets t new))

pub returns-in-Ok-clause-number : goal.returns-in-Ok-clause-number
returns-in-Ok-clause-number c =
    let t = c.args.target in
    let targets : List Target = c.self.inside.targets.items in
    let new : number_of targets t ≡ None = sym (c.self.invariant t) ∙ sym c.in_default.ensures.value in
    let more : c.push.new.self.items ≡ targets ++ t ∷ [] = c.in_ok-push.ensures.items in
    let many : c.len-number.result ≡ length targets = search rules in
    ap (λ l. number_of l t) more ∙ (place_last same_target target-is target-refl targets t new ∙ ap Some (sym many))
