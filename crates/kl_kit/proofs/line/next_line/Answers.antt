use Rattle.std.proofs.Common.{ap, ◌∙◌}
use Rattle.kl_text.specs.Lines.{lines}
use Rattle.kl_text.proofs.Printed.{lines-append}
use Rattle.kl_kit.proofs.Words.{last_line}
use Rattle.kl_kit.proofs.line.next_line.Goals as goal

pub returns-in-Some-clause-lines : goal.returns-in-Some-clause-lines
returns-in-Some-clause-lines c =
    let x = c.in-Some.parts in
    ap lines c.in-Some.ensures.parts ∙ lines-append x.0.now x.1.now c.in-Some.ensures.line

pub returns-in-None-clause-lines : goal.returns-in-None-clause-lines
returns-in-None-clause-lines c = last_line c.args.text.now c.requires c.in-None.ensures.none
