use Rattle.std.proofs.Common.{◌≡◌, ◌<◌, ◌^◌, ◌∙◌, ◌==◌, ℕ, true, false, List, [], ◌∷◌, length, refl, sym, ap, cond, arith, codes, length-append}
use Rattle.std.specs.Prelude.{None, Some}
use Rattle.std.specs.Str.{bytes_eq}
use Rattle.std.proofs.lemmas.Bool.{eqb-true}
use Rattle.kl_base.proofs.Bools.{equal_bytes, same_bytes, true_false}
use Rattle.kl_map.specs.Reading.{is_ended}
use Rattle.kl_map.proofs.FirstOutside.{all_read, so_far_more, wrong_end, wrong_more, wrong_next}
use Rattle.kl_map.proofs.Fronts.{front_form, one_more}
use Rattle.kl_map.proofs.read.read_body.Goals as goal
use Rattle.kl_map.proofs.read.read_body.Goals.{else-eq-via-then-eq+else-is_ended, else-eq-via-else-eq}

no_more : (more : List ℕ) → (length more == 0) ≡ true → more ≡ []
no_more [] e = refl
no_more (b ∷ more) e = let count = eqb-true (length (b ∷ more)) 0 e in absurd (omega (arith, count))

some_more : (more : List ℕ) → (length more == 0) ≡ false → more ≡ [] → ⊥
some_more more e none = true_false (sym (ap (λ (l : List ℕ). length l == 0) none) ∙ e)

not_end : (next word : List ℕ) → word ≡ codes "end" → bytes_eq next word ≡ false → next ≡ codes "end" → ⊥
not_end next word is e same = true_false (sym (same_bytes word) ∙ ap (λ (l : List ℕ). bytes_eq l word) (is ∙ sym same) ∙ e)

pub returns-then-is_empty-clause-text : goal.returns-then-is_empty-clause-text
returns-then-is_empty-clause-text c =
    all_read c.loop-line.map _ c.loop-line.rest.now c.in-Some.line.now c.in-Some.more.now c.loop-line.invariant.text (sym c.in-Some.ensures.cut)
    (equal_bytes c.in-Some.line.now c.as_slice.result.now (sym c.eq.ensures ∙ c.if-eq.true) ∙ c.as_slice.ensures)
    (no_more c.in-Some.more.now (sym c.is_empty.ensures ∙ c.if-is_empty.true))

pub returns-then-is_empty-clause-form : goal.returns-then-is_empty-clause-form
returns-then-is_empty-clause-form c = front_form c.loop-line.map c.loop-line.invariant.front (sym c.is_ended.ensures ∙ c.if-is_ended.true)

pub returns-then-is_ended-clause-refused : goal.returns-then-is_ended-clause-refused
returns-then-is_ended-clause-refused c =
    let few : length c.loop-line.map.placement.areas < 2 ^ 64 = omega (arith, c.loop-line.invariant.number) in
    (wrong_more c.loop-line.map _ c.loop-line.rest.now c.in-Some.line.now c.in-Some.more.now c.loop-line.number c.loop-line.invariant.front few
    c.loop-line.invariant.number c.loop-line.invariant.text (sym c.in-Some.ensures.cut)
    (equal_bytes c.in-Some.line.now c.as_slice.result.now (sym c.eq.ensures ∙ c.if-eq.true) ∙ c.as_slice.ensures)
    (sym c.is_ended.ensures ∙ c.if-is_ended.true) (some_more c.in-Some.more.now (sym c.is_empty.ensures ∙ c.if-is_empty.false))).refused

pub returns-then-is_ended-clause-line : goal.returns-then-is_ended-clause-line
returns-then-is_ended-clause-line c =
    let few : length c.loop-line.map.placement.areas < 2 ^ 64 = omega (arith, c.loop-line.invariant.number) in
    (wrong_more c.loop-line.map _ c.loop-line.rest.now c.in-Some.line.now c.in-Some.more.now c.loop-line.number c.loop-line.invariant.front few
    c.loop-line.invariant.number c.loop-line.invariant.text (sym c.in-Some.ensures.cut)
    (equal_bytes c.in-Some.line.now c.as_slice.result.now (sym c.eq.ensures ∙ c.if-eq.true) ∙ c.as_slice.ensures)
    (sym c.is_ended.ensures ∙ c.if-is_ended.true) (some_more c.in-Some.more.now (sym c.is_empty.ensures ∙ c.if-is_empty.false))).outside

pub loop-line-preserved : goal.loop-line-preserved
loop-line-preserved c =
    let map = c.loop-line.map in
    let line = c.in-Some.line.now in
    let more = c.in-Some.more.now in
    let old = c.loop-line.invariant in
    let added = c.in_ok-push_line.ensures ∙ ap (λ b. cond b (Some c.push_line.new.placement) None) c.if-not-branch.false in
    let one = one_more map c.push_line.new.placement line old.front added in
    let shorter = length-append line (10 ∷ more) in
    let whole = ap length c.in-Some.ensures.parts in
    record {
      front = one.front;
      text = so_far_more map c.push_line.new.placement _ c.loop-line.rest.now line more one old.text (sym c.in-Some.ensures.cut);
      number = omega (arith, old.number, one.count);
      size = omega (arith, old.size, shorter, whole);
    }

pub returns-then-not-branch-clause-refused : goal.returns-then-not-branch-clause-refused
returns-then-not-branch-clause-refused c =
    let few : length c.loop-line.map.placement.areas < 2 ^ 64 = omega (arith, c.loop-line.invariant.number) in
    let line = c.in-Some.line.now in
    let none = c.in_ok-push_line.ensures ∙ ap (λ b. cond b (Some c.push_line.new.placement) None) c.if-not-branch.true in
    let other : line ≡ codes "end" → is_ended c.loop-line.map.placement ≡ true → ⊥ = elim c.else-eq.branch [
      | else-eq-via-then-eq+else-is_ended w ↦ λ same ends. true_false (sym ends ∙ sym w.is_ended.ensures ∙ w.if-is_ended.false)
      | else-eq-via-else-eq w ↦ λ same ends. not_end line c.as_slice.result.now c.as_slice.ensures (sym c.eq.ensures ∙ w.if-eq.false) same
    ] in
    (wrong_next c.loop-line.map _ c.loop-line.rest.now line c.in-Some.more.now c.loop-line.number c.loop-line.invariant.front few c.loop-line.invariant.number
    c.loop-line.invariant.text (sym c.in-Some.ensures.cut) (none, other)).refused

pub returns-then-not-branch-clause-line : goal.returns-then-not-branch-clause-line
returns-then-not-branch-clause-line c =
    let few : length c.loop-line.map.placement.areas < 2 ^ 64 = omega (arith, c.loop-line.invariant.number) in
    let line = c.in-Some.line.now in
    let none = c.in_ok-push_line.ensures ∙ ap (λ b. cond b (Some c.push_line.new.placement) None) c.if-not-branch.true in
    let other : line ≡ codes "end" → is_ended c.loop-line.map.placement ≡ true → ⊥ = elim c.else-eq.branch [
      | else-eq-via-then-eq+else-is_ended w ↦ λ same ends. true_false (sym ends ∙ sym w.is_ended.ensures ∙ w.if-is_ended.false)
      | else-eq-via-else-eq w ↦ λ same ends. not_end line c.as_slice.result.now c.as_slice.ensures (sym c.eq.ensures ∙ w.if-eq.false) same
    ] in
    (wrong_next c.loop-line.map _ c.loop-line.rest.now line c.in-Some.more.now c.loop-line.number c.loop-line.invariant.front few c.loop-line.invariant.number
    c.loop-line.invariant.text (sym c.in-Some.ensures.cut) (none, other)).outside

pub returns-in_default-clause-refused : goal.returns-in_default-clause-refused
returns-in_default-clause-refused c =
    let few : length c.loop-line.map.placement.areas < 2 ^ 64 = omega (arith, c.loop-line.invariant.number) in
    (wrong_end c.loop-line.map _ c.loop-line.rest.now c.loop-line.number c.loop-line.invariant.front few c.loop-line.invariant.number
    c.loop-line.invariant.text (sym c.in_default.ensures.cut)).refused

pub returns-in_default-clause-line : goal.returns-in_default-clause-line
returns-in_default-clause-line c =
    let few : length c.loop-line.map.placement.areas < 2 ^ 64 = omega (arith, c.loop-line.invariant.number) in
    (wrong_end c.loop-line.map _ c.loop-line.rest.now c.loop-line.number c.loop-line.invariant.front few c.loop-line.invariant.number
    c.loop-line.invariant.text (sym c.in_default.ensures.cut)).outside
