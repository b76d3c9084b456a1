use Rattle.std.proofs.lemmas.Result.{on_ok_weaker}
use Rattle.kl_store.specs.Disk.{names_now, with_file}
use Rattle.kl_store.proofs.KeptNames.{keeps_trans, settles_kept}
use Rattle.kl_store.proofs.Moments.{leaves_still, told_settled}
use Rattle.kl_jobs.specs.Writing.{image_name, map_name}
use Rattle.kl_jobs.proofs.Written.{image_files, image_quiet, pair_files, pair_put, pair_quiet}
use Rattle.kl_jobs.proofs.link.write_pair.Goals as goal

pub returns-in_err-write_whole-clause-images : goal.returns-in_err-write_whole-clause-images
returns-in_err-write_whole-clause-images g c = image_quiet c.args.dir.now (rw c.file_in.ensures at c.write_whole.ensures.images)

pub returns-in_err-write_whole-clause-files : goal.returns-in_err-write_whole-clause-files
returns-in_err-write_whole-clause-files g c = image_files c.args.dir.now (rw c.file_in.ensures at c.write_whole.ensures.others)

pub returns-in_err-write_whole-2-clause-images : goal.returns-in_err-write_whole-2-clause-images
returns-in_err-write_whole-2-clause-images g c =
    pair_quiet c.args.dir.now c.args.image.now (rw c.file_in.ensures at c.write_whole.ensures.images) (rw c.file_in.ensures at c.in_ok-write_whole.ensures.done)
    (rw c.file_in-2.ensures at c.write_whole-2.ensures.images)

pub returns-in_err-write_whole-2-clause-files : goal.returns-in_err-write_whole-2-clause-files
returns-in_err-write_whole-2-clause-files g c =
    pair_files c.args.dir.now (rw c.file_in.ensures at c.write_whole.ensures.others) (rw c.file_in-2.ensures at c.write_whole-2.ensures.others)

pub returns-clause-done : goal.returns-clause-done
returns-clause-done g c =
    let dir = c.args.dir.now in
    let first = rw c.file_in.ensures at c.in_ok-write_whole.ensures.done in
    let second = rw c.file_in-2.ensures at c.in_ok-write_whole-2.ensures.done in
    on_ok_weaker c.settle.result (λ done d told.
    let d1 = with_file (image_name dir) c.args.image.now d in
    let d2 = with_file (map_name dir) c.args.map.now d1 in
    (names_now d2, told_settled d2 done (second d1 (first d told)), pair_put dir c.args.image.now c.args.map.now d)) c.settle.ensures.settles.done

pub returns-clause-images : goal.returns-clause-images
returns-clause-images g c =
    leaves_still (pair_quiet c.args.dir.now c.args.image.now (rw c.file_in.ensures at c.write_whole.ensures.images) (rw c.file_in.ensures at c.in_ok-write_whole.ensures.done)
    (rw c.file_in-2.ensures at c.write_whole-2.ensures.images)) c.settle.ensures.settles.images

pub returns-clause-files : goal.returns-clause-files
returns-clause-files g c =
    keeps_trans (pair_files c.args.dir.now (rw c.file_in.ensures at c.write_whole.ensures.others) (rw c.file_in-2.ensures at c.write_whole-2.ensures.others)) (settles_kept c.settle.ensures.settles)
