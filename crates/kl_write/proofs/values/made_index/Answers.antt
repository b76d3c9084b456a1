use Rattle.std.proofs.Common.{◌≡◌, ◌∙◌, map}
use Rattle.kl_model.specs.declared.graph.Target.TheVariants.{Name}
use Rattle.kl_write.proofs.StubTargets.{names_apart}
use Rattle.kl_write.proofs.values.made_index.Goals as goal

pub of-requires-2-clause-apart : goal.of-requires-2-clause-apart
of-requires-2-clause-apart c =
    let is : c.deref.result.now ≡ map Name c.args.needs.now.stubs = c.deref.ensures.value ∙ rw c.items.ensures at c.in_ok-names.ensures in
    rw is (names_apart c.args.needs.now.stubs c.requires.stubs)
