use Rattle.std.proofs.Common.{rules}
use Rattle.kl_base.proofs.Joined.{name_bytes}
use Rattle.kl_host.proofs.PathBytes.{front_bytes}
use Rattle.kl_host.proofs.paths.target_path.Goals as goal

pub below-requires : goal.below-requires
below-requires c = search (rules, name_bytes, front_bytes)
