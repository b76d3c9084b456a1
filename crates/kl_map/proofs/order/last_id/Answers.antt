use Rattle.kl_map.proofs.Orders.{last_at}
use Rattle.kl_map.proofs.order.last_id.Goals as goal

pub returns-in-Some : goal.returns-in-Some
returns-in-Some c = last_at c.args.pieces.now c.in-Some.placed.now c.in-Some.ensures.value
