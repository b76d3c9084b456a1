use Rattle.kl_install.proofs.install.intend.Goals as goal

pub returns-clause-done : goal.returns-clause-done
returns-clause-done g c = rw (c.temp_name.ensures, c.slot_name-slot.ensures, c.print_intent-count.ensures.text) at c.write_intent.ensures.done

pub returns-clause-others : goal.returns-clause-others
returns-clause-others g c = rw (c.temp_name.ensures, c.slot_name-slot.ensures) at c.write_intent.ensures.others
