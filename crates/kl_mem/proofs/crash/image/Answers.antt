use Rattle.std.proofs.Common.{◌-◌, length, drop, take, arith, length-drop}
use Rattle.std.proofs.lemmas.List.{take_all}
use Rattle.std.proofs.lemmas.Result.{IfOk-weaker}
use Rattle.kl_store.specs.Disk.{names_now}
use Rattle.kl_mem.specs.Record.{disk_of}
use Rattle.kl_mem.proofs.Pending.{picked_behind, image_behind}
use Rattle.kl_mem.proofs.crash.image.Goals as goal

pub returns-clause-picked : goal.returns-clause-picked
returns-clause-picked c =
    let steps = c.args.steps.now in
    let i = c.settled_before-since.result in
    IfOk-weaker c.with_lost.result _ _ (λ r left. picked_behind steps (take (length steps - i) (drop i steps)) i c.args.pick c.in_ok-files.files (names_now (disk_of r.steps.items))
    (take_all (length steps - i) (drop i steps) (omega (arith, length-drop i steps))) c.settled_before-since.ensures.pending c.settled_before-since.ensures.settled c.in_ok-files.ensures left) c.with_lost.ensures.left

pub returns-clause-image : goal.returns-clause-image
returns-clause-image c =
    let steps = c.args.steps.now in
    let i = c.settled_before-since.result in
    IfOk-weaker c.with_lost.result _ _ (λ r left. image_behind steps (take (length steps - i) (drop i steps)) i c.args.pick c.in_ok-files.files (names_now (disk_of r.steps.items))
    (take_all (length steps - i) (drop i steps) (omega (arith, length-drop i steps))) c.settled_before-since.ensures.pending c.settled_before-since.ensures.settled c.in_ok-files.ensures left) c.with_lost.ensures.left
