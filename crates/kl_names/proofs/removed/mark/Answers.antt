use Rattle.std.proofs.Common.{◌∙◌, take, ap, sym}
use Rattle.std.proofs.lemmas.List.{take_more}
use Rattle.kl_names.specs.Removed.{marked}
use Rattle.kl_names.proofs.RemovedSteps.{mark-more, mark-none}
use Rattle.kl_names.proofs.removed.mark.Goals as goal

pub loop-member-init : goal.loop-member-init
loop-member-init c = sym (mark-none c.args.removed.now)

pub loop-member-preserved : goal.loop-member-preserved
loop-member-preserved c =
    let members = c.args.members.now in let j = c.loop-member.member-index in
    let more = ap (marked c.args.removed.now) (sym (take_more members j 0 c.loop-member-test.true)) in
    rw c.loop-member.invariant (mark-more c.args.removed.now (take j members) _ (c.requires j 0 c.loop-member-test.true) ∙ more)
