use Rattle.std.proofs.Common.{◌≡◌, rules, subst}
use Rattle.std.specs.Prelude.{IfErr}
use Rattle.std.specs.Option.{option_copied}
use Rattle.kl_image.specs.Flaws.{IsFirst, image_flaws}
use Rattle.kl_viewed.proofs.Refused.{refused_for_memory}
use Rattle.kl_viewed.proofs.linked.view_kernel.Goals as goal

pub returns-clause-ok : goal.returns-clause-ok
returns-clause-ok c =
    let l = c.in_ok-linked.linked in
    let same : c.deref.result.now ≡ l.image.items = search rules in
    let told = subst (λ b. IfErr c.view.result (IsFirst (image_flaws b))) same c.view.ensures.flaw in
    refused_for_memory c.args.kit.now c.args.inputs.now (option_copied c.args.gaps) c.args.order.now l.image.items l.placement c.view.result
    (record { is_kit = c.requires.kit; fit = c.requires.inputs; whole = c.requires.order; sound = c.in_ok-linked.ensures.sound; carries = c.in_ok-linked.ensures.ok }) told
