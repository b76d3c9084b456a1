use Rattle.std.proofs.Common.{◌≡◌, ◌++◌, ℕ, List, length, take, drop, ap, ◌∙◌, arith}
use Rattle.std.proofs.lemmas.List.{take-append-le, take_all}
use Rattle.kl_draw.specs.Drawn.{order_from, shuffled_by}
use Rattle.kl_draw.proofs.draw.draw_order.Goals as goal

-- a list that is written over whole
whole : (n : ℕ) (new old : List ℕ) → length new ≡ n → take n (new ++ drop (length new) old) ≡ new
whole n new old size = take-append-le n new (drop (length new) old) (omega (arith, size)) ∙ take_all n new (omega (arith, size))

pub returns-clause-drawn : goal.returns-clause-drawn
unfolding order_from
returns-clause-drawn c =
    whole c.in_ok-order.order.len c.shuffle.new.numbers c.in_ok-order.order.items (c.shuffle.auto.numbers ∙ c.deref_mut.ensures.len)
    ∙ c.shuffle.ensures.drawn ∙ ap (shuffled_by c.args.sub.now) (c.deref_mut.ensures.value ∙ c.in_ok-order.ensures)
