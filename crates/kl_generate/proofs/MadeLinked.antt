-- The laws on made kits.
use Rattle.std.proofs.Common.{map, refl, subst, sym}
use Rattle.kl_model.specs.Faults.{link_fault}
use Rattle.kl_model.specs.Orders.{IsOrder, drawn_count}
use Rattle.kl_steps.proofs.RoomyKits.{roomy_links}
use Rattle.kl_generate.specs.Made.{made_kit}
use Rattle.kl_generate.specs.MadeLinks.{MadeLinks}
use Rattle.kl_generate.proofs.MadeFaults.{drawn, is_kit, none_stands}
use Rattle.kl_generate.proofs.MadeGraphs.{roomy}

-- no fault stands
pub made_links : MadeLinks
unfolding link_fault
made_links n inputs gaps order some few made fit small_gaps o =
    let none = none_stands n inputs made some few in
    let whole : IsOrder (drawn_count (map (λ x. x.place) inputs)) order = subst (λ c. IsOrder c order) (sym (drawn n inputs some made)) o in
    let after = roomy_links (made_kit n) inputs gaps order (is_kit n few) fit small_gaps whole none (roomy n inputs made few) in
    rw (none, after) refl
