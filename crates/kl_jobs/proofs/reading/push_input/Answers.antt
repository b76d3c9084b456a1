use Rattle.std.proofs.Common.{◌++◌, ◌∷◌, [], ◌≡◌, ◌∙◌, refl, sym, inr, arith, ap}
use Rattle.std.specs.Prelude.{None}
use Rattle.std.proofs.lemmas.List.Elements.{All-append, All-cons, All-nil}
use Rattle.kl_model.specs.Fit.{IsFit}
use Rattle.kl_jobs.specs.Reading.{input_of, over}
use Rattle.kl_jobs.proofs.Readings.{bounds, counts_over, limit_refused, over_more}
use Rattle.kl_jobs.proofs.reading.push_input.Goals as goal

pub read_input-requires-clause-inputs_fit : goal.read_input-requires-clause-inputs_fit
read_input-requires-clause-inputs_fit c =
    let t = c.args.totals.now in
    let w = bounds c.args.inputs.now.items t.inputs t.bytes t.sections t.symbols t.fields c.requires.counts c.requires.within in omega (arith, w.0)

pub read_input-requires-clause-bytes_fit : goal.read_input-requires-clause-bytes_fit
read_input-requires-clause-bytes_fit c =
    let t = c.args.totals.now in
    let w = bounds c.args.inputs.now.items t.inputs t.bytes t.sections t.symbols t.fields c.requires.counts c.requires.within in omega (arith, w.1.0)

pub read_input-requires-clause-sections_fit : goal.read_input-requires-clause-sections_fit
read_input-requires-clause-sections_fit c =
    let t = c.args.totals.now in
    let w = bounds c.args.inputs.now.items t.inputs t.bytes t.sections t.symbols t.fields c.requires.counts c.requires.within in omega (arith, w.1.1.0)

pub read_input-requires-clause-symbols_fit : goal.read_input-requires-clause-symbols_fit
read_input-requires-clause-symbols_fit c =
    let t = c.args.totals.now in
    let w = bounds c.args.inputs.now.items t.inputs t.bytes t.sections t.symbols t.fields c.requires.counts c.requires.within in omega (arith, w.1.1.1.0)

pub with_input-more-requires-clause-inputs_fit : goal.with_input-more-requires-clause-inputs_fit
with_input-more-requires-clause-inputs_fit c =
    let t = c.args.totals.now in
    let w = bounds c.args.inputs.now.items t.inputs t.bytes t.sections t.symbols t.fields c.requires.counts c.requires.within in omega (arith, w.0)

pub with_input-more-requires-clause-bytes_fit : goal.with_input-more-requires-clause-bytes_fit
with_input-more-requires-clause-bytes_fit c =
    let t = c.args.totals.now in
    let w = bounds c.args.inputs.now.items t.inputs t.bytes t.sections t.symbols t.fields c.requires.counts c.requires.within in omega (arith, w.1.0)

pub with_input-more-requires-clause-sections_fit : goal.with_input-more-requires-clause-sections_fit
with_input-more-requires-clause-sections_fit c =
    let t = c.args.totals.now in
    let w = bounds c.args.inputs.now.items t.inputs t.bytes t.sections t.symbols t.fields c.requires.counts c.requires.within in omega (arith, w.1.1.0)

pub with_input-more-requires-clause-symbols_fit : goal.with_input-more-requires-clause-symbols_fit
with_input-more-requires-clause-symbols_fit c =
    let t = c.args.totals.now in
    let w = bounds c.args.inputs.now.items t.inputs t.bytes t.sections t.symbols t.fields c.requires.counts c.requires.within in omega (arith, w.1.1.1.0)

pub with_input-more-requires-clause-fields_fit : goal.with_input-more-requires-clause-fields_fit
with_input-more-requires-clause-fields_fit c =
    let t = c.args.totals.now in
    let w = bounds c.args.inputs.now.items t.inputs t.bytes t.sections t.symbols t.fields c.requires.counts c.requires.within in omega (arith, w.1.1.1.1)

pub returns-in-Some-clause-refused : goal.returns-in-Some-clause-refused
returns-in-Some-clause-refused c =
    let t = c.args.totals.now in
    let m = c.with_input-more.result in
    let sound = rw c.deref.ensures.value at c.in_ok-object.ensures.sound in
    let object = rw c.deref.ensures.value at c.in_ok-object.ensures.object in
    let counts = over_more c.args.inputs.now.items c.args.line.now.place c.args.bytes.items c.in_ok-object.object t.inputs t.bytes t.sections t.symbols t.fields m.inputs m.bytes m.sections m.symbols m.fields c.requires.counts object
    c.with_input-more.ensures.inputs (rw c.from_vec.ensures at c.with_input-more.ensures.bytes) c.with_input-more.ensures.sections c.with_input-more.ensures.symbols c.with_input-more.ensures.fields in
    inr (limit_refused c.args.line.now.line c.args.inputs.now.items c.args.line.now.place c.args.bytes.items _ sound
    (sym c.in-Some.is ∙ c.over_limit.ensures ∙ counts_over _ m.inputs m.bytes m.sections m.symbols m.fields counts))

pub returns-clause-stands : goal.returns-clause-stands
returns-clause-stands c =
    let t = c.args.totals.now in
    let m = c.with_input-more.result in
    let sound = rw c.deref.ensures.value at c.in_ok-object.ensures.sound in
    let object = rw c.deref.ensures.value at c.in_ok-object.ensures.object in
    let counts = over_more c.args.inputs.now.items c.args.line.now.place c.args.bytes.items c.in_ok-object.object t.inputs t.bytes t.sections t.symbols t.fields m.inputs m.bytes m.sections m.symbols m.fields c.requires.counts object
    c.with_input-more.ensures.inputs (rw c.from_vec.ensures at c.with_input-more.ensures.bytes) c.with_input-more.ensures.sections c.with_input-more.ensures.symbols c.with_input-more.ensures.fields in
    limit_refused c.args.line.now.line c.args.inputs.now.items c.args.line.now.place c.args.bytes.items None sound
    (sym c.in_default.is ∙ c.over_limit.ensures ∙ counts_over _ m.inputs m.bytes m.sections m.symbols m.fields counts)

pub returns-clause-within : goal.returns-clause-within
returns-clause-within c =
    let t = c.args.totals.now in
    let m = c.with_input-more.result in
    let object = rw c.deref.ensures.value at c.in_ok-object.ensures.object in
    let counts = over_more c.args.inputs.now.items c.args.line.now.place c.args.bytes.items c.in_ok-object.object t.inputs t.bytes t.sections t.symbols t.fields m.inputs m.bytes m.sections m.symbols m.fields c.requires.counts object
    c.with_input-more.ensures.inputs (rw c.from_vec.ensures at c.with_input-more.ensures.bytes) c.with_input-more.ensures.sections c.with_input-more.ensures.symbols c.with_input-more.ensures.fields in
    let taken : c.push.new.self.items ≡ c.args.inputs.now.items ++ input_of c.args.line.now.place c.args.bytes.items ∷ [] = c.in_ok-push.ensures.items ∙ rw (c.from_vec.ensures, object) refl in
    ap over taken ∙ sym (counts_over _ m.inputs m.bytes m.sections m.symbols m.fields counts) ∙ sym c.over_limit.ensures ∙ c.in_default.is

pub returns-clause-fit : goal.returns-clause-fit
returns-clause-fit c =
    let one = c.in_ok-object.ensures.fit _ (c.from_vec.ensures ∙ sym c.deref.ensures.value) refl in
    rw c.in_ok-push.ensures.items (All-append IsFit c.args.inputs.now.items _ c.requires.fits (All-cons IsFit _ [] one (All-nil IsFit)))
