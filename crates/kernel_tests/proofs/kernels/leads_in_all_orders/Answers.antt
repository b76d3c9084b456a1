use Rattle.std.proofs.Common.{[], ◌∷◌, refl, arith}
use Rattle.kernel_tests.proofs.kernels.leads_in_all_orders.Goals as goal

pub leads_to_functions-requires-then-branch-clause-order : goal.leads_to_functions-requires-then-branch-clause-order
leads_to_functions-requires-then-branch-clause-order c = record { moves = (1, 2) ∷ []; below = (omega arith, omega arith, tt); is = refl }

pub leads_to_functions-requires-then-branch-2-clause-order : goal.leads_to_functions-requires-then-branch-2-clause-order
leads_to_functions-requires-then-branch-2-clause-order c = record { moves = (0, 1) ∷ []; below = (omega arith, omega arith, tt); is = refl }

pub leads_to_functions-requires-then-branch-3-clause-order : goal.leads_to_functions-requires-then-branch-3-clause-order
leads_to_functions-requires-then-branch-3-clause-order c = record { moves = (1, 2) ∷ (0, 1) ∷ []; below = (omega arith, omega arith, (omega arith, omega arith, tt)); is = refl }

pub leads_to_functions-requires-then-branch-4-clause-order : goal.leads_to_functions-requires-then-branch-4-clause-order
leads_to_functions-requires-then-branch-4-clause-order c = record { moves = (1, 2) ∷ (0, 2) ∷ []; below = (omega arith, omega arith, (omega arith, omega arith, tt)); is = refl }

pub leads_to_functions-requires-then-branch-5-clause-order : goal.leads_to_functions-requires-then-branch-5-clause-order
leads_to_functions-requires-then-branch-5-clause-order c = record { moves = (0, 2) ∷ []; below = (omega arith, omega arith, tt); is = refl }
