-- What the adapter of the host's files has noted.
use Rattle.kl_host.specs.declared.disk.Disk.{Disk}
use Rattle.kl_host.specs.declared.store.HostStore.{HostStore}
use Rattle.kl_host.specs.declared.notes.Notes.{Notes}

abbrev pub notes_of : {R F D : Type 0} → Disk R F D → Notes
notes_of d = d.notes

abbrev pub notes : {R F D : Type 0} → HostStore R F D → Notes
notes s = s.disk.notes
