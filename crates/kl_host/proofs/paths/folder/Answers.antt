use Rattle.std.proofs.Common.{rules}
use Rattle.kl_base.proofs.Joined.{name_bytes}
use Rattle.kl_host.proofs.PathBytes.{front_bytes}
use Rattle.kl_host.proofs.Folders.{folder_is}
use Rattle.kl_host.proofs.paths.folder.Goals as goal

pub returns-clause-path : goal.returns-clause-path
returns-clause-path c = search (rules, name_bytes, front_bytes)

pub returns-clause-is_folder : goal.returns-clause-is_folder
returns-clause-is_folder c = search (rules, folder_is)
