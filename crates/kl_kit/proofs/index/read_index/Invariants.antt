use Rattle.std.proofs.Common.{◌≡◌, ◌+◌, ◌≤◌, [], length, take, drop}
use Rattle.kl_text.specs.Lines.{lines}
use Rattle.kl_model.specs.Lists.{each_from}
use Rattle.kl_kit.specs.IndexTexts.{index_line_faults, libraries}
use Rattle.kl_kit.specs.KitLines.{said}
use Rattle.kl_kit.proofs.Reading.{faults_by}
use Rattle.kl_kit.proofs.index.read_index.Given as goal

abbrev pub invariant-loop-rest : goal.invariant-loop-rest
invariant-loop-rest l = record {
  rest : lines l.rest ≡ drop l.number (lines l.text);
  short : l.number + length l.rest ≤ length l.text;
  sound : each_from 1 (faults_by index_line_faults (lines l.text)) (take l.number (lines l.text)) ≡ [];
  read : l.index ≡ libraries (said (take l.number (lines l.text)));
}

abbrev pub decreases-loop-rest : goal.decreases-loop-rest
decreases-loop-rest l = length l.rest
