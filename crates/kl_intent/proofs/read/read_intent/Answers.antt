use Rattle.kl_intent.proofs.Grammar.{entries_read, text_read, refused_text, slot_back, entries_back}
use Rattle.kl_intent.proofs.Outside.{long_read, outside_read}
use Rattle.kl_intent.proofs.read.read_intent.Goals as goal

pub returns-clause-entries : goal.returns-clause-entries
returns-clause-entries c = entries_read c.args.bytes.now c.parse.result c.parse.ensures

pub returns-clause-text : goal.returns-clause-text
returns-clause-text c = text_read c.args.bytes.now c.parse.result c.parse.ensures

pub returns-clause-refused : goal.returns-clause-refused
returns-clause-refused c = refused_text c.args.bytes.now c.parse.result c.parse.ensures

pub returns-clause-slot : goal.returns-clause-slot
returns-clause-slot c = slot_back c.args.bytes.now c.parse.result c.parse.ensures

pub returns-clause-back : goal.returns-clause-back
returns-clause-back c = entries_back c.args.bytes.now c.parse.result c.parse.ensures

pub returns-clause-long : goal.returns-clause-long
returns-clause-long c = long_read c.args.bytes.now c.parse.result c.parse.ensures

pub returns-clause-outside : goal.returns-clause-outside
returns-clause-outside c = outside_read c.args.bytes.now c.parse.result c.parse.ensures
