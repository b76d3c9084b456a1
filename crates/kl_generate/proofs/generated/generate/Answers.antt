use Rattle.std.proofs.Common.{◌≡◌, refl, rules, subst, sym}
use Rattle.kl_model.specs.Fit.{AreFit}
use Rattle.kl_link.specs.Links.{IsLinkable}
use Rattle.kl_link.specs.Plans.{gaps_of, order_of}
use Rattle.kl_generate.specs.Made.{AreMade, made_kit}
use Rattle.kl_generate.proofs.MadeFaults.{is_kit}
use Rattle.kl_generate.proofs.MadeGraphs as graphs
use Rattle.kl_generate.proofs.OnlyMemory.{only_memory}
use Rattle.kl_generate.proofs.generated.generate.Goals as goal

pub link_kit-requires : goal.link_kit-requires
link_kit-requires c =
    let kit : c.in_ok-kit.kit ≡ made_kit c.args.count = search rules in
    let same : c.deref.result.now ≡ c.in_ok-inputs.inputs.items = search rules in
    let linkable : IsLinkable (made_kit c.args.count) c.deref.result.now =
    record { form = is_kit c.args.count c.requires.few; fit = subst AreFit (sym same) c.in_ok-inputs.ensures.fit } in
    subst (λ k. IsLinkable k c.deref.result.now) (sym kit) linkable

pub want_of_memory-requires : goal.want_of_memory-requires
want_of_memory-requires c =
    let n = c.args.count in
    let kit : c.in_ok-kit.kit ≡ made_kit n = search rules in
    let same : c.deref.result.now ≡ c.in_ok-inputs.inputs.items = search rules in
    let inputs = c.deref.result.now in
    only_memory n inputs (gaps_of c.args.seed.now (made_kit n)) (order_of c.args.seed.now (made_kit n) inputs) c.in-Err.fault c.requires.some c.requires.few (subst (AreMade n) (sym same) c.in_ok-inputs.ensures.made)
    (rw kit at c.in-Err.ensures.err) (rw kit at c.in-Err.ensures.roomy)

pub returns-in-Ok-clause-pieces : goal.returns-in-Ok-clause-pieces
returns-in-Ok-clause-pieces c =
    let n = c.args.count in
    let kit : c.in_ok-kit.kit ≡ made_kit n = search rules in
    let same : c.deref.result.now ≡ c.in_ok-inputs.inputs.items = search rules in
    let numbers = graphs.made_graph n c.deref.result.now c.requires.some (subst (AreMade n) (sym same) c.in_ok-inputs.ensures.made) in
    rw (c.in-Ok.ensures.told, kit) numbers.0

pub returns-in-Ok-clause-fields : goal.returns-in-Ok-clause-fields
returns-in-Ok-clause-fields c =
    let n = c.args.count in
    let kit : c.in_ok-kit.kit ≡ made_kit n = search rules in
    let same : c.deref.result.now ≡ c.in_ok-inputs.inputs.items = search rules in
    let numbers = graphs.made_graph n c.deref.result.now c.requires.some (subst (AreMade n) (sym same) c.in_ok-inputs.ensures.made) in
    rw (c.in-Ok.ensures.told, kit) numbers.1
