use Rattle.std.proofs.Common.{◌∙◌, refl, inl, inr, arith, ap}
use Rattle.std.proofs.lemmas.List.{take_all}
use Rattle.std.proofs.lemmas.List.Elements.{All-nil}
use Rattle.std.proofs.lemmas.Result.{err_from_is_err_and}
use Rattle.kl_store.proofs.Moments.{stays_none, stays_on, told_stays}
use Rattle.kl_model.specs.Fit.{IsFit}
use Rattle.kl_jobs.specs.Reading.{inputs_in}
use Rattle.kl_jobs.proofs.KitLines.{IsBefore, before_on, follow_on, pairs_none}
use Rattle.kl_jobs.proofs.Readings.{counts_none, over_none, passed_on, read_on, file_refuses, bytes_refuse}
use Rattle.kl_jobs.proofs.reading.read_inputs.Goals as goal

pub loop-line-init : goal.loop-line-init
loop-line-init g c = rw c.new-inputs.ensures.items (record {
  reads = λ m told. refl;
  rest = λ m told. refl;
  counts = counts_none;
  within = over_none;
  fit = All-nil IsFit;
  follow = λ _. pairs_none;
  before = λ _. All-nil (IsBefore c.args.lines.now 0);
  still = stays_none;
  faults = omega arith;
})

pub loop-line-preserved : goal.loop-line-preserved
loop-line-preserved g c =
    let i = c.loop-line.invariant in
    let k = c.line-item.result in
    record {
      reads = λ m told. read_on m c.args.dir.now c.args.lines.now c.loop-line.inputs.items c.loop-line.line-index k c.loop-line-test.true c.line-item.is (i.rest m told) c.in_ok-bytes.bytes.items
          (rw (c.file_in-name.ensures, c.items.ensures.items) at (c.in_ok-bytes.ensures.bytes m (told_stays m i.still told))) c.in_ok-bytes.ensures.within c.push_file.new.inputs.items c.in_ok-push_file.ensures.push (i.reads m told);
      rest = λ m told. passed_on m c.args.dir.now c.args.lines.now c.loop-line.inputs.items c.loop-line.line-index k c.loop-line-test.true c.line-item.is (i.rest m told) c.in_ok-bytes.bytes.items
          (rw (c.file_in-name.ensures, c.items.ensures.items) at (c.in_ok-bytes.ensures.bytes m (told_stays m i.still told))) c.in_ok-bytes.ensures.within c.push_file.new.inputs.items c.in_ok-push_file.ensures.stands c.in_ok-push_file.ensures.push;
      counts = c.in_ok-push_file.ensures.counts;
      within = c.in_ok-push_file.ensures.within;
      fit = c.in_ok-push_file.ensures.fit;
      follow = λ order. rw c.in_ok-push_file.ensures.push (follow_on c.args.lines.now order c.loop-line.line-index k c.loop-line-test.true c.line-item.is c.loop-line.inputs.items c.in_ok-bytes.bytes.items (i.before order) (i.follow order));
      before = λ order. rw c.in_ok-push_file.ensures.push (before_on c.args.lines.now order c.loop-line.line-index k c.loop-line-test.true c.line-item.is c.loop-line.inputs.items c.in_ok-bytes.bytes.items (i.before order));
      still = stays_on i.still c.read_file.ensures.still;
      faults = omega (arith, i.faults, c.read_file.ensures.faults);
    }

pub returns-in_err-bytes-clause-refused : goal.returns-in_err-bytes-clause-refused
returns-in_err-bytes-clause-refused g c =
    let i = c.loop-line.invariant in
    let r = err_from_is_err_and c.from_residual.result c.from_residual.ensures.1 in
    rw (r.1, r.2) (λ m told.
    (let refused = rw (c.file_in-name.ensures, c.items.ensures.items) at (c.in_err-bytes.ensures.refused m (told_stays m i.still told)) in
    elim refused [
      | inl outside ↦ inl outside
      | inr fault ↦ inr (file_refuses m c.args.dir.now c.args.lines.now c.loop-line.inputs.items c.loop-line.line-index c.line-item.result c.loop-line-test.true c.line-item.is (i.rest m told) _ fault)
    ]))

pub returns-in_err-push_file-clause-refused : goal.returns-in_err-push_file-clause-refused
returns-in_err-push_file-clause-refused g c =
    let i = c.loop-line.invariant in
    let r = err_from_is_err_and c.from_residual-in_err-push_file.result c.from_residual-in_err-push_file.ensures.1 in
    rw (r.1, r.2) (λ m told.
    elim c.in_err-push_file.ensures.refused [
      | inl memory ↦ inl (inl memory)
      | inr fault ↦ inr (bytes_refuse m c.args.dir.now c.args.lines.now c.loop-line.inputs.items c.loop-line.line-index c.line-item.result c.loop-line-test.true c.line-item.is (i.rest m told)
          c.in_ok-bytes.bytes.items (rw (c.file_in-name.ensures, c.items.ensures.items) at (c.in_ok-bytes.ensures.bytes m (told_stays m i.still told))) c.in_ok-bytes.ensures.within _ fault)
    ])

pub returns-clause-reads : goal.returns-clause-reads
returns-clause-reads g c = λ m told. c.loop-line.invariant.reads m told ∙ ap (inputs_in m c.args.dir.now) (take_all c.loop-line.line-index c.args.lines.now (omega arith))
