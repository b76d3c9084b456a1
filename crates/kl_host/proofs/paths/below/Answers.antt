use Rattle.kl_host.proofs.PathBytes.{rest_text, ok_of}
use Rattle.kl_host.proofs.paths.below.Goals as goal

pub unwrap-requires : goal.unwrap-requires
unwrap-requires c = ok_of c.from_utf8.result _ _ c.from_utf8.ensures.cases (λ e bad. bad.0 (rest_text c.args.bytes.now c.requires))
