use Rattle.std.proofs.Common.{ℕ, ◌≡◌, ◌+◌, ◌<◌, ◌∙◌, List, [], ◌∷◌, ◌++◌, length, get_or, drop, ap, sym, arith}
use Rattle.std.specs.Prelude.{None, Some, ◌==◌}
use Rattle.std.proofs.lemmas.List.{drop_more}
use Rattle.kl_model.specs.Lists.{only_if}
use Rattle.kl_model.specs.Line.{piece_part}
use Rattle.kl_model.specs.declared.graph.Piece.{Piece}
use Rattle.kl_model.specs.declared.place.LinePart.{LinePart}
use Rattle.kl_layout.specs.Spreads.{parts_in_order}
use Rattle.kl_layout.proofs.OrderSteps.{first_piece, order_more, order_skip, where_it_stands}
use Rattle.kl_layout.proofs.spreads.push_in_order.Goals as goal
use Rattle.kl_layout.proofs.spreads.push_in_order.Goals.{in-Some+in_ok-push_part, in_default}

pub loop-number-preserved : goal.loop-number-preserved
loop-number-preserved c =
    let xs = c.args.graph.now.pieces in
    let k = c.loop-number.number in
    let commons = c.args.commons in
    let x = get_or xs k first_piece in
    let items = c.items-piece-items.ensures in
    let known : k < length xs = let long = ap length items in omega (arith, c.loop-number-test.true, long) in
    let split : drop k xs ≡ x ∷ drop (k + 1) xs = drop_more xs k first_piece known in
    let inv = c.loop-number.invariant in
    let old = λ (n : ℕ). get_or c.loop-number.lists n [] in
    let target = λ (n : ℕ). get_or c.args.lists.now n [] ++ parts_in_order c.args.graph.now commons n in
    let there = λ (n : ℕ). c.spread_in_order.ensures ∙ ap (λ (l : List Piece). where_it_stands commons n (get_or l k first_piece) (piece_part k x)) items in
    elim c.match-spread_in_order.branch [
      | in-Some+in_ok-push_part w ↦
          let pushed = w.in_ok-push_part.ensures in
          let part : w.piece_part.result ≡ piece_part k x = w.piece_part.ensures ∙ ap (λ (l : List Piece). piece_part k (get_or l k first_piece)) items in
          record {
            count = ap length w.lists-is ∙ (pushed.count ∙ inv.count);
            parts = λ n l.
                let stands : where_it_stands commons n x (piece_part k x) ≡ Some w.in-Some.spread = sym (there n) ∙ w.in-Some.is in
                let new : get_or c.match-spread_in_order.lists n [] ≡ old n ++ only_if (w.in-Some.spread == n) (piece_part k x) =
                ap (λ (m : List (List LinePart)). get_or m n []) w.lists-is
                ∙ (pushed.pushed n (omega (arith, l, inv.count)) ∙ ap (λ q. old n ++ only_if (w.in-Some.spread == n) q) part) in
                order_more commons n k x (drop k xs) (drop (k + 1) xs) split (old n) (target n) w.in-Some.spread (get_or c.match-spread_in_order.lists n []) stands new (inv.parts n l);
          }
      | in_default w ↦
          record {
            count = ap length w.lists-is ∙ inv.count;
            parts = λ n l.
                let none : where_it_stands commons n x (piece_part k x) ≡ None = sym (there n) ∙ w.in_default.is in
                rw w.lists-is (order_skip commons n k x (drop k xs) (drop (k + 1) xs) split (old n) (target n) none (inv.parts n l));
          }
    ]
