use Rattle.std.proofs.Common.{sym}
use Rattle.kl_rel.proofs.Strings.{name_inside}
use Rattle.kl_rel.proofs.section.read_section.Goals as goal

pub check_form-requires-clause-name : goal.check_form-requires-clause-name
check_form-requires-clause-name c = name_inside c.args.bytes.now c.args.names.now.header c.args.header.now _ (sym c.in-Some.ensures) c.requires.names.lies
