use Rattle.std.proofs.Common.{◌∙◌, ap, arith, take}
use Rattle.kl_host.proofs.Folders.{more_slash, more_other}
use Rattle.kl_host.proofs.paths.last_slash.Goals as goal
use Rattle.kl_host.proofs.paths.last_slash.Goals.{then-byte-eq47, else-byte-eq47}

pub loop-at-preserved : goal.loop-at-preserved
loop-at-preserved c =
    let bytes = c.args.bytes.now in
    let at = c.loop-at.at in
    elim c.if-byte-eq47.branch [
      | then-byte-eq47 w ↦ (
        omega (arith, w.last-is),
        ap (λ n. take n bytes) w.last-is ∙ more_slash bytes at c.loop-at-test.true w.if-byte-eq47.true,
      )
      | else-byte-eq47 w ↦ (
        omega (arith, w.last-is, c.loop-at.invariant.0),
        ap (λ n. take n bytes) w.last-is ∙ (c.loop-at.invariant.1 ∙ more_other bytes at c.loop-at-test.true w.if-byte-eq47.false),
      )
    ]
