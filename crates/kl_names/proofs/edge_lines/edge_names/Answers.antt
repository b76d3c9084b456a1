use Rattle.std.proofs.Common.{ℕ, suc, ◌≡◌, ◌+◌, ◌<◌, ◌≤◌, ◌∙◌, ◌++◌, ◌∷◌, List, [], length, get_or, take, drop, ap, sym, arith, false, true, take-append-drop}
use Rattle.std.specs.Prelude.{AllPairs}
use Rattle.std.proofs.lemmas.List.{get_or_default}
use Rattle.kl_model.specs.declared.area.TheConstants as area
use Rattle.kl_model.specs.Names.{edge_names}
use Rattle.kl_model.specs.declared.kit.EdgeLine.{EdgeLine}
use Rattle.kl_model.specs.declared.kit.Run.{Run}
use Rattle.kl_model.specs.declared.graph.Target.{Target}
use Rattle.kl_model.specs.declared.graph.Target.TheVariants.{Edge}
use Rattle.kl_names.specs.EdgeLines.{names_given}
use Rattle.kl_names.specs.Edges.{shown}
use Rattle.kl_names.proofs.LineOrder.{drop-at, drop-past, get-drop, joined, length-drop, names-all, names-end, names-run, names_left, pairs-drop, rest-after, shown-push}
use Rattle.kl_names.proofs.edge_lines.edge_names.Goals as goal

pub loop-k-init : goal.loop-k-init
loop-k-init c = record {
  names = rw (c.new-names.ensures.items, c.items-rest.ensures) (names-all c.args.kit.now c.requires);
  ascending = rw c.items-rest.ensures c.requires.edges;
}

pub loop-k-preserved : goal.loop-k-preserved
loop-k-preserved c =
    let kit = c.args.kit.now in let k = c.loop-k.k in let rest = c.loop-k.rest.now in let n = c.count_before.result in
    let r = c.run-item.result in
    let front = c.split_at.ensures.front in
    let back = c.split_at.ensures.back in
    let l : k < length kit.runs = rw c.items-run-items.ensures at c.loop-k-test.true in
    let run : r ≡ get_or kit.runs k r = rw c.items-run-items.ensures at (c.run-item.is ∙ get_or_default c.items-run-items.result.now k _ r c.loop-k-test.true) in
    let next : suc k ≡ k + 1 = omega arith in
    let runs : drop k kit.runs ≡ r ∷ drop (k + 1) kit.runs = drop-at k kit.runs r l ∙ (ap (λ (x : Run). x ∷ drop (suc k) kit.runs) (sym run) ∙ ap (λ j. r ∷ drop j kit.runs) next) in
    let whole : take n rest ++ drop n rest ≡ rest = take-append-drop n rest in
    let up : AllPairs (λ d e. d.line ≤ e.line) (drop n rest) = pairs-drop (λ d e. d.line ≤ e.line) n rest c.loop-k.invariant.ascending in
    let first : (d : EdgeLine) → 0 < length (drop n rest) → r.line ≤ (get_or (drop n rest) 0 d).line =
    λ d h. rw (get-drop n rest d) (c.count_before.ensures.after d (length-drop n rest h)) in
    let all_up : AllPairs (λ d e. d.line ≤ e.line) (take n rest ++ drop n rest) = rw whole c.loop-k.invariant.ascending in
    let step = names-run (area.FIRST_RUN + k) r (drop (k + 1) kit.runs) (take n rest) (drop n rest) c.count_before.ensures.before (rest-after r.line (drop n rest) up first) all_up in
    let number = area.FIRST_RUN + k in
    let start : List ℕ × Target = (r.start, Edge number false) in
    let last : List ℕ × Target = (r.end, Edge number true) in
    let old = shown c.loop-k.names.items in
    let given = names_given (take n rest) in
    let left = names_left (suc number) (drop (k + 1) kit.runs) (drop n rest) in
    let all : old ++ (given ++ (start ∷ last ∷ left)) ≡ edge_names kit =
    ap (λ t. old ++ t) (sym step ∙ (ap (λ es. names_left number (r ∷ drop (k + 1) kit.runs) es) whole ∙ ap (λ rs. names_left number rs rest) (sym runs))) ∙ c.loop-k.invariant.names in
    let first_pushed : shown c.push.new.self.items ≡ (old ++ given) ++ start ∷ [] =
    ap shown c.in_ok-push.ensures.items ∙ (shown-push c.push_lines.new.names.items _
    ∙ (ap (λ l. l ++ (c.items.result.now, Edge number false) ∷ []) (c.in_ok-push_lines.ensures ∙ ap (λ t. old ++ names_given t) front)
    ∙ ap (λ (t : List ℕ). (old ++ given) ++ (t, Edge number false) ∷ []) c.items.ensures.items)) in
    let pushed : shown c.push-in-loop-k.new.self.items ≡ ((old ++ given) ++ start ∷ []) ++ last ∷ [] =
    ap shown c.in_ok-push-2.ensures.items ∙ (shown-push c.push.new.self.items _
    ∙ (ap (λ l. l ++ (c.items-in-loop-k.result.now, Edge number true) ∷ []) first_pushed
    ∙ ap (λ (t : List ℕ). ((old ++ given) ++ start ∷ []) ++ (t, Edge number true) ∷ []) c.items-in-loop-k.ensures.items)) in
    let more : area.FIRST_RUN + (k + 1) ≡ suc number = omega arith in
    record {
      names = rw (pushed, back, more) (joined old given start last left ∙ all);
      ascending = rw back up;
    }

pub returns : goal.returns
returns c =
    let kit = c.args.kit.now in let k = c.loop-k.k in let rest = c.loop-k.rest.now in
    let old = shown c.loop-k.names.items in
    let number = area.FIRST_RUN + k in
    let past : drop k kit.runs ≡ [] = drop-past k kit.runs (rw c.items-run-items.ensures at c.loop-k-test.false) in
    c.in_ok-push_lines-2.ensures
    ∙ (ap (λ t. old ++ t) (sym (names-end number rest c.loop-k.invariant.ascending)) ∙ (ap (λ rs. old ++ names_left number rs rest) (sym past) ∙ c.loop-k.invariant.names))
