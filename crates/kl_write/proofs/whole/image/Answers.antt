use Rattle.std.proofs.Common.{◌≡◌, ◌∙◌, ◌++◌, length, drop, take, ap, arith}
use Rattle.std.proofs.Math.Seq.{take-append_seam}
use Rattle.kl_model.specs.Image.{image_size}
use Rattle.kl_write.proofs.ImageMade.{image_is}
use Rattle.kl_write.proofs.whole.image.Goals as goal

pub returns : goal.returns
returns c =
    let plan = c.args.plan.now in let g = plan.graph.now in let p = plan.placement.now in
    let out = c.fill.new.out in
    let now = ap length c.deref_mut.ensures.value in
    let long : length out ≡ c.in_ok-image.image.len = omega (arith, c.fill.ensures.long, now, c.in_ok-image.image.ok.0, c.deref_mut.ensures.len) in
    let size : length out ≡ image_size plan.kit.now c.args.inputs.now g plan.gaps p = long ∙ (c.in_ok-image.ensures.len ∙ c.image_size-size.ensures c.args.inputs.now plan.gaps) in
    let whole : take c.in_ok-image.image.len (out ++ drop (length out) c.in_ok-image.image.items) ≡ out = rw (← long) (take-append_seam out (drop (length out) c.in_ok-image.image.items)) in
    whole ∙ image_is plan.kit.now c.args.inputs.now g plan.gaps p out size c.fill.ensures.bytes
