use Rattle.kl_host.specs.Notes.{Keeps}
use Rattle.kl_host.proofs.disk.Disk.make_folders.Given as goal

abbrev pub invariant-loop-end : goal.invariant-loop-end
invariant-loop-end g l = Keeps l.initial.self.notes l.self.notes
