use Rattle.std.proofs.Common.{◌≤◌, ◌∙◌, length, take, sym, ap, arith, add-one}
use Rattle.kl_text.specs.Lines.{lines}
use Rattle.kl_kit.specs.IndexTexts.{index_faults, index_line_faults, index_of, no_library}
use Rattle.kl_kit.specs.KitLines.{said}
use Rattle.kl_kit.proofs.ReadIndexes.{memory_alone, none_stands, same_read}
use Rattle.kl_kit.proofs.Reading.{all_read, all_said, empty_is, faults_end, handed_on, line_first, next_at, said_more, sound_more}
use Rattle.kl_kit.proofs.SaidIndexes.{index_read, index_said}
use Rattle.kl_kit.proofs.index.read_index.Goals as goal

pub returns-in_err-read_line-clause-fault : goal.returns-in_err-read_line-clause-fault
unfolding index_faults
returns-in_err-read_line-clause-fault c =
    let text = c.args.text.now in
    let i = c.loop-rest.number in
    let l = c.next_line.result.0.now in
    let more = lines c.next_line.result.1.now in
    let next = next_at (lines text) i l more (sym c.next_line.ensures.lines ∙ c.loop-rest.invariant.rest) in
    handed_on (index_faults text) c.in_err-read_line.field-0.0 c.from_residual.result c.from_residual.ensures.1
    (line_first index_line_faults no_library text i l more c.in_err-read_line.field-0.0 next c.loop-rest.invariant.sound (c.in_err-read_line.ensures.fault (said (take i (lines text))) c.loop-rest.invariant.read))

pub loop-rest-preserved : goal.loop-rest-preserved
loop-rest-preserved c =
    let text = c.args.text.now in
    let i = c.loop-rest.number in
    let l = c.next_line.result.0.now in
    let more = lines c.next_line.result.1.now in
    let next = next_at (lines text) i l more (sym c.next_line.ensures.lines ∙ c.loop-rest.invariant.rest) in
    record {
      rest = rw add-one next.behind;
      short = omega arith;
      sound = sound_more index_line_faults (lines text) i l more next c.loop-rest.invariant.sound (c.in_ok-read_line.ensures.sound (said (take i (lines text))) c.loop-rest.invariant.read);
      read = rw (said_more (lines text) i l more next) (c.in_ok-read_line.ensures.read (said (take i (lines text))) c.loop-rest.invariant.read);
    }

pub returns-in_err-read_line-clause-accepts : goal.returns-in_err-read_line-clause-accepts
returns-in_err-read_line-clause-accepts c = λ index is says.
    memory_alone (index_faults c.args.text.now) c.from_residual.result (returns-in_err-read_line-clause-fault c) (none_stands c.args.text.now index is says)

pub returns-clause-index : goal.returns-clause-index
unfolding index_of
returns-clause-index c =
    let text = c.args.text.now in
    let i = c.loop-rest.number in
    let end : length (lines text) ≤ i = all_read text i (ap lines (sym (empty_is c.loop-rest.rest.now c.loop-rest-test.ensures)) ∙ c.loop-rest.invariant.rest) in
    rw (all_said text i end) at (rw c.loop-rest.invariant.read at c.whole.ensures.same)

pub returns-clause-sound : goal.returns-clause-sound
unfolding index_faults
returns-clause-sound c =
    let text = c.args.text.now in
    let i = c.loop-rest.number in
    let end : length (lines text) ≤ i = all_read text i (ap lines (sym (empty_is c.loop-rest.rest.now c.loop-rest-test.ensures)) ∙ c.loop-rest.invariant.rest) in
    rw (faults_end index_line_faults no_library text i end c.loop-rest.invariant.sound)
    (rw (all_said text i end) at (rw c.loop-rest.invariant.read at c.whole.ensures.some))

pub returns-clause-form : goal.returns-clause-form
returns-clause-form c = index_read c.args.text.now c.whole.result (returns-clause-index c) (returns-clause-sound c)

pub returns-clause-says : goal.returns-clause-says
returns-clause-says c = index_said c.args.text.now c.whole.result (returns-clause-index c) (returns-clause-sound c)

pub returns-clause-reads : goal.returns-clause-reads
returns-clause-reads c = λ index is says. same_read c.args.text.now index c.whole.result is says (returns-clause-index c)

pub returns-clause-fault : goal.returns-clause-fault
unfolding index_faults
returns-clause-fault c =
    let text = c.args.text.now in
    let i = c.loop-rest.number in
    let end : length (lines text) ≤ i = all_read text i (ap lines (sym (empty_is c.loop-rest.rest.now c.loop-rest-test.ensures)) ∙ c.loop-rest.invariant.rest) in
    rw (faults_end index_line_faults no_library text i end c.loop-rest.invariant.sound)
    (rw (all_said text i end) at (rw c.loop-rest.invariant.read at c.whole.ensures.fault))

pub returns-clause-accepts : goal.returns-clause-accepts
returns-clause-accepts c = λ index is says.
    memory_alone (index_faults c.args.text.now) c.whole.result (returns-clause-fault c) (none_stands c.args.text.now index is says)
