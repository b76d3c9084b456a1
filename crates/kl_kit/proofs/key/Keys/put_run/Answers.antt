use Rattle.std.proofs.Common.{◌≡◌, ◌∷◌, ◌++◌, [], ◌∙◌, sym, false, append_assoc}
use Rattle.std.specs.Prelude.{codes}
use Rattle.kl_kit.specs.Keys.{Key, edge_key}
use Rattle.kl_kit.specs.Readers.{HasKeys}
use Rattle.kl_kit.proofs.SeenKeys.{alone_again, first_again, later_again, from_true}
use Rattle.kl_kit.proofs.key.Keys.put_run.Goals as goal

pub returns-then-not-branch-2-clause-fresh : goal.returns-then-not-branch-2-clause-fresh
returns-then-not-branch-2-clause-fresh c = λ ks h.
    let a : Key = (codes "run", c.args.section.now, c.args.class.now) in
    let b : Key = edge_key c.args.start.now in
    let d : Key = edge_key c.args.end.now in
    let new = sym c.if-not-branch.false in
    let one = from_true (HasKeys c.put.new.self (ks ++ a ∷ [])) c.in_ok-put.field-0 new (c.in_ok-put.ensures.keys ks h) in
    let old = sym c.if-not-branch-2.true in
    later_again ks a (b ∷ d ∷ []) false (new ∙ c.in_ok-put.ensures.fresh ks h)
    (first_again (ks ++ a ∷ []) b (d ∷ []) (old ∙ c.in_ok-put-2.ensures.fresh (ks ++ a ∷ []) one))

pub returns-clause-fresh : goal.returns-clause-fresh
returns-clause-fresh c = λ ks h.
    let a : Key = (codes "run", c.args.section.now, c.args.class.now) in
    let b : Key = edge_key c.args.start.now in
    let d : Key = edge_key c.args.end.now in
    let new = sym c.if-not-branch.false in
    let one = from_true (HasKeys c.put.new.self (ks ++ a ∷ [])) c.in_ok-put.field-0 new (c.in_ok-put.ensures.keys ks h) in
    let newer = sym c.if-not-branch-2.false in
    let two = from_true (HasKeys c.put-2.new.self ((ks ++ a ∷ []) ++ b ∷ [])) c.in_ok-put-2.field-0 newer (c.in_ok-put-2.ensures.keys (ks ++ a ∷ []) one) in
    later_again ks a (b ∷ d ∷ []) c.in_ok-fresh.fresh (new ∙ c.in_ok-put.ensures.fresh ks h)
    (later_again (ks ++ a ∷ []) b (d ∷ []) c.in_ok-fresh.fresh (newer ∙ c.in_ok-put-2.ensures.fresh (ks ++ a ∷ []) one)
    (alone_again ((ks ++ a ∷ []) ++ b ∷ []) d c.in_ok-fresh.fresh (c.in_ok-fresh.ensures.fresh ((ks ++ a ∷ []) ++ b ∷ []) two)))

pub returns-clause-keys : goal.returns-clause-keys
returns-clause-keys c = λ ks h.
    let a : Key = (codes "run", c.args.section.now, c.args.class.now) in
    let b : Key = edge_key c.args.start.now in
    let d : Key = edge_key c.args.end.now in
    let new = sym c.if-not-branch.false in
    let one = from_true (HasKeys c.put.new.self (ks ++ a ∷ [])) c.in_ok-put.field-0 new (c.in_ok-put.ensures.keys ks h) in
    let newer = sym c.if-not-branch-2.false in
    let two = from_true (HasKeys c.put-2.new.self ((ks ++ a ∷ []) ++ b ∷ [])) c.in_ok-put-2.field-0 newer (c.in_ok-put-2.ensures.keys (ks ++ a ∷ []) one) in
    let all : ((ks ++ a ∷ []) ++ b ∷ []) ++ d ∷ [] ≡ ks ++ a ∷ b ∷ d ∷ [] = append_assoc (ks ++ a ∷ []) (b ∷ []) (d ∷ []) ∙ append_assoc ks (a ∷ []) (b ∷ d ∷ []) in
    rw all at (c.in_ok-fresh.ensures.keys ((ks ++ a ∷ []) ++ b ∷ []) two)
