use Rattle.kl_loading.proofs.EntryBytes.{carried_out}
use Rattle.kl_loading.proofs.entries_carried_out.Goals as goal

pub returns : goal.returns
returns c = carried_out
