use Rattle.kl_text.proofs.Cuts.{parts_are, front_lacks, none_lacks}
use Rattle.kl_text.proofs.cut.split.Goals as goal

pub returns-clause-parts : goal.returns-clause-parts
returns-clause-parts c = parts_are (λ x. x.0.now) (λ x. x.1.now) c.args.value c.args.text.now c.cut.result c.cut.ensures

pub returns-clause-first : goal.returns-clause-first
returns-clause-first c = front_lacks (λ x. x.0.now) (λ x. x.1.now) c.args.value c.args.text.now c.cut.result c.cut.ensures

pub returns-clause-none : goal.returns-clause-none
returns-clause-none c = none_lacks (λ x. x.0.now) (λ x. x.1.now) c.args.value c.args.text.now c.cut.result c.cut.ensures
