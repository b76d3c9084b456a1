use Rattle.std.proofs.Common.{rules}
use Rattle.std.specs.Prelude.{codes}
use Rattle.kl_lines.specs.Lines.{slot_line}
use Rattle.kl_lines.proofs.Taking.{writes_stop, writes_then}
use Rattle.kl_lines.proofs.slots.write_slots.Goals as goal

pub returns-in_err-write_slot-clause-writes : goal.returns-in_err-write_slot-clause-writes
returns-in_err-write_slot-clause-writes g c =
    writes_stop (slot_line (codes "kernel") c.args.kernel.now) (slot_line (codes "libs") c.args.libs.now) (search rules) c.in_err-write_slot.ensures.writes.failed

pub returns-clause-writes : goal.returns-clause-writes
returns-clause-writes g c =
    writes_then (slot_line (codes "kernel") c.args.kernel.now) (slot_line (codes "libs") c.args.libs.now) c.in_ok-write_slot.ensures.writes.taken c.write_slot-2.ensures.writes
