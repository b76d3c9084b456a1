use Rattle.kl_base.proofs.Kept.{put_behind}
use Rattle.kl_base.proofs.name.joined.Goals as goal

pub returns : goal.returns
returns c =
    rw (c.copy_from_slice.ensures.after, c.padded-kept.ensures) (put_behind c.args.folder.now c.args.file.now c.requires)
