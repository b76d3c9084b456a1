use Rattle.std.proofs.Common.{◌≡◌, ◌||◌, ◌∷◌, ◌++◌, [], ◌∙◌, cond, not, ap, true}
use Rattle.std.specs.Ordering.{is_eq}
use Rattle.kl_kit.specs.Keys.{Key, same_key}
use Rattle.kl_kit.specs.Readers.{HasKeys, has, key_order}
use Rattle.kl_kit.proofs.SeenKeys.{as_seen, one_more, keys_more, on_true}
use Rattle.kl_kit.proofs.key.Keys.put.Goals as goal

pub returns-clause-fresh : goal.returns-clause-fresh
returns-clause-fresh c = λ ks h.
    c.in_ok-insert.ensures.added ∙ ap not (h (c.args.what.now, c.args.word.now, c.args.other.now))

pub returns-clause-keys : goal.returns-clause-keys
returns-clause-keys c = λ ks h.
    let k : Key = (c.args.what.now, c.args.word.now, c.args.other.now) in
    on_true (HasKeys (record { seen = c.insert.new.self }) (ks ++ k ∷ [])) c.in_ok-insert.field-0 (λ q.
    let step : has (record { seen = c.insert.new.self }) q ≡ cond (is_eq (key_order k (as_seen q))) true (has c.args.self.now q) = c.in_ok-insert.ensures.updates.0 (as_seen q) in
    step ∙ (one_more k q (has c.args.self.now q) ∙ (ap (λ t. same_key k q || t) (h q) ∙ keys_more ks k q)))
