use Rattle.kl_write.proofs.LowBytes.{shows_number}
use Rattle.kl_write.proofs.window.put_number.Goals as goal

pub returns : goal.returns
returns c = shows_number c.args.out.now c.put_window.new.out c.args.at c.args.place c.args.width c.args.value c.requires.width (rw c.to_le_bytes.ensures at c.put_window.ensures)
