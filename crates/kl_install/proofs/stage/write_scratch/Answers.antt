use Rattle.std.proofs.Common.{ap, ◌∙◌}
use Rattle.std.proofs.lemmas.Result.{on_ok_weaker}
use Rattle.std.specs.FinMap.{get}
use Rattle.kl_store.specs.Names.{Names}
use Rattle.kl_store.specs.Disk.{with_file, names_now}
use Rattle.kl_store.proofs.Moments.{weaker}
use Rattle.kl_install.proofs.Named.{plain_apart}
use Rattle.kl_store.proofs.WrittenFiles.{is_written, near_files}
use Rattle.kl_install.proofs.Whole.{quiet_written}
use Rattle.kl_install.proofs.stage.write_scratch.Goals as goal

pub returns-clause-waits : goal.returns-clause-waits
returns-clause-waits g c =
    let n = c.args.name.now in
    let b = c.args.bytes.now in
    on_ok_weaker c.write_whole.result (λ done d told quiet. record {
      now = with_file n b d;
      told = done d told;
      written = is_written d n b;
      quiet = quiet_written d n b c.requires quiet;
    }) c.write_whole.ensures.done

pub returns-clause-images : goal.returns-clause-images
returns-clause-images g c = weaker c.write_whole.ensures.images (λ d told x near. near_files c.args.name.now d x c.requires near)
