use Rattle.std.proofs.Common.{◌≡◌, ◌∙◌, sym, true}
use Rattle.std.specs.Prelude.{is_some}
use Rattle.kl_got.specs.Made.{stub_name}
use Rattle.kl_write.proofs.StubTargets.{stub_target}
use Rattle.kl_write.proofs.values.value_target.Goals as goal

pub returns-then-is_some : goal.returns-then-is_some
returns-then-is_some c =
    let p = c.args.placement.now in let g = c.args.graph.now in let f = c.args.field.now in
    let some : is_some (stub_name f) ≡ true = rw c.stub_name.ensures at (sym c.is_some.ensures ∙ c.if-is_some.true) in
    rw c.requires.stubs at c.stub_of.ensures ∙ stub_target p g f some
