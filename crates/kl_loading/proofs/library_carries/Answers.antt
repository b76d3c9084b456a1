use Rattle.kl_loading.proofs.LibraryFields as fields
use Rattle.kl_loading.proofs.library_carries.Goals as goal

pub returns : goal.returns
returns c = fields.library_carries
