use Rattle.std.proofs.Common.{sym, subst, List}
use Rattle.kl_intent.specs.declared.intent.Entry.{Entry}
use Rattle.kl_install.specs.Finding.{HasIntentOf}
use Rattle.kl_install.proofs.recover.finish_batch.Goals as goal

pub finish-requires-clause-stands : goal.finish-requires-clause-stands
finish-requires-clause-stands g c = λ d told. subst (λ (l : List Entry). HasIntentOf c.args.slot l d) (sym c.entries.ensures) (c.requires.stands d told)
