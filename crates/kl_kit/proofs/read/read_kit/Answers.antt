use Rattle.std.proofs.Common.{◌≤◌, ◌∙◌, length, take, sym, ap, arith, add-one}
use Rattle.kl_text.specs.Lines.{lines}
use Rattle.kl_kit.specs.KitLines.{said, statements}
use Rattle.kl_kit.specs.KitTexts.{kit_faults, kit_of, missing, missing_faults, said_faults}
use Rattle.kl_kit.proofs.InputFiles.{files_read}
use Rattle.kl_kit.proofs.LinkedKits.{linked_read}
use Rattle.kl_kit.proofs.ReadKits.{readable_read}
use Rattle.kl_kit.proofs.Reading.{all_read, all_said, empty_is, faults_end, handed_on, line_first, next_at, none_missing, said_more, sound_more}
use Rattle.kl_kit.proofs.read.read_kit.Goals as goal

pub returns-in_err-read_line-clause-fault : goal.returns-in_err-read_line-clause-fault
unfolding kit_faults
returns-in_err-read_line-clause-fault c =
    let text = c.args.text.now in
    let i = c.loop-rest.number in
    let l = c.next_line.result.0.now in
    let more = lines c.next_line.result.1.now in
    let next = next_at (lines text) i l more (sym c.next_line.ensures.lines ∙ c.loop-rest.invariant.rest) in
    handed_on (kit_faults text) c.in_err-read_line.field-0.0 c.from_residual.result c.from_residual.ensures.1
    (line_first said_faults missing_faults text i l more c.in_err-read_line.field-0.0 next c.loop-rest.invariant.sound (c.in_err-read_line.ensures.fault (said (take i (lines text))) c.loop-rest.invariant.read))

pub loop-rest-preserved : goal.loop-rest-preserved
loop-rest-preserved c =
    let text = c.args.text.now in
    let i = c.loop-rest.number in
    let l = c.next_line.result.0.now in
    let more = lines c.next_line.result.1.now in
    let next = next_at (lines text) i l more (sym c.next_line.ensures.lines ∙ c.loop-rest.invariant.rest) in
    record {
      rest = rw add-one next.behind;
      short = omega arith;
      sound = sound_more said_faults (lines text) i l more next c.loop-rest.invariant.sound (c.in_ok-read_line.ensures.sound (said (take i (lines text))) c.loop-rest.invariant.read);
      read = rw (said_more (lines text) i l more next) (c.in_ok-read_line.ensures.read (said (take i (lines text))) c.loop-rest.invariant.read);
    }

pub returns-clause-kit : goal.returns-clause-kit
unfolding kit_of
returns-clause-kit c =
    let text = c.args.text.now in
    let i = c.loop-rest.number in
    let end : length (lines text) ≤ i = all_read text i (ap lines (sym (empty_is c.loop-rest.rest.now c.loop-rest-test.ensures)) ∙ c.loop-rest.invariant.rest) in
    rw (all_said text i end) at (c.kit.ensures.kit (statements (said (take i (lines text)))) c.loop-rest.invariant.read.parts)

pub returns-clause-sound : goal.returns-clause-sound
unfolding kit_faults
returns-clause-sound c =
    let text = c.args.text.now in
    let i = c.loop-rest.number in
    let end : length (lines text) ≤ i = all_read text i (ap lines (sym (empty_is c.loop-rest.rest.now c.loop-rest-test.ensures)) ∙ c.loop-rest.invariant.rest) in
    rw (faults_end said_faults missing_faults text i end c.loop-rest.invariant.sound)
    (none_missing (missing (statements (said (lines text)))) c.kit.result
    (rw (all_said text i end) at (c.kit.ensures.sound (statements (said (take i (lines text)))) c.loop-rest.invariant.read.parts)))

pub returns-clause-files : goal.returns-clause-files
returns-clause-files c =
    let ls = said (take c.loop-rest.number (lines c.args.text.now)) in
    files_read ls c.kit.result (c.kit.ensures.kit (statements ls) c.loop-rest.invariant.read.parts)

pub returns-clause-form : goal.returns-clause-form
returns-clause-form c = linked_read c.args.text.now c.kit.result c.requires (returns-clause-kit c) (returns-clause-sound c)

pub returns-clause-readable : goal.returns-clause-readable
returns-clause-readable c = readable_read c.args.text.now c.kit.result (returns-clause-kit c) (returns-clause-sound c)

pub returns-clause-fault : goal.returns-clause-fault
unfolding kit_faults
returns-clause-fault c =
    let text = c.args.text.now in
    let i = c.loop-rest.number in
    let end : length (lines text) ≤ i = all_read text i (ap lines (sym (empty_is c.loop-rest.rest.now c.loop-rest-test.ensures)) ∙ c.loop-rest.invariant.rest) in
    rw (faults_end said_faults missing_faults text i end c.loop-rest.invariant.sound)
    (rw (all_said text i end) at (c.kit.ensures.fault (statements (said (take i (lines text)))) c.loop-rest.invariant.read.parts))
