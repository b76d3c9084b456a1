use Rattle.std.proofs.Common.{ℕ, ◌≡◌, ◌<◌, ◌∙◌, false, sym, arith, lt-ltb, le-ltb}
use Rattle.std.specs.Prelude.{nat_lt}
use Rattle.std.proofs.lemmas.Bool.{and_from, and_left, and_right}
use Rattle.kl_rel.proofs.Overlaps.{spans_taken, spans_passed, noted_at}
use Rattle.kl_rel.proofs.scan.FieldScan.noted_spans.Goals as goal
use Rattle.kl_rel.proofs.scan.FieldScan.noted_spans.Goals.{then-index+then-width-ne0+in_ok-push, else-index, else-index-via-then-index+else-width-ne0, else-index-via-else-index}

no_bytes : (n : ℕ) → n ≡ 0 → nat_lt 0 n ≡ false
no_bytes n none = le-ltb 0 n (omega (arith, none))

pub loop-field-preserved : goal.loop-field-preserved
loop-field-preserved c =
    let noted = c.args.self.now.noted.items in
    let fields = c.args.self.now.fields.items in
    let i = c.loop-field.field-index in
    let value = c.deref-field-items.ensures.value in
    let short = rw value at c.loop-field-test.true in
    let at = rw value at c.index.ensures in
    let wide = rw value at c.width-width.ensures in
    let here = noted_at noted fields c.requires.sections i _ c.index.result.now short at in
    elim c.if-index.branch [
      | then-index+then-width-ne0+in_ok-push w ↦
          let item = rw (wide, value) at w.in_ok-push.ensures.items in
          let some : 0 < c.width-width.result = omega (arith, w.if-width-ne0.true) in
          let is = and_from _ _ (sym here ∙ w.if-index.true) (lt-ltb 0 _ (rw wide at some)) in
          rw (w.spans-is, item, c.loop-field.invariant) (sym (spans_taken noted fields i _ short is))
      | else-index w ↦ elim w.else-index.branch [
        | else-index-via-then-index+else-width-ne0 v ↦
            let none = rw wide at v.if-width-ne0.false in
            let isnt = and_right _ _ (no_bytes _ none) in
            rw (w.spans-is, c.loop-field.invariant) (sym (spans_passed noted fields i _ short isnt))
        | else-index-via-else-index v ↦
            let isnt = and_left _ _ (sym here ∙ v.if-index.false) in
            rw (w.spans-is, c.loop-field.invariant) (sym (spans_passed noted fields i _ short isnt))
      ]
    ]
