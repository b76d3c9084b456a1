use Rattle.std.proofs.Common.{sym, ◌∙◌}
use Rattle.kl_install.specs.After.{temp_of}
use Rattle.kl_install.proofs.Named.{target_short, target_plain, temp_scratch, plain_apart}
use Rattle.kl_install.proofs.install.take_place.Goals as goal

pub temp_name-requires : goal.temp_name-requires
temp_name-requires g c = target_short c.args.entry.now.target c.requires.target

pub rename-requires : goal.rename-requires
rename-requires g c = λ same. plain_apart c.args.entry.now.target (temp_of c.args.entry.now) (target_plain c.args.entry.now.target c.requires.target) (temp_scratch c.args.entry.now.target) (sym same ∙ c.temp_name.ensures)
