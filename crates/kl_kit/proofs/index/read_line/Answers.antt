use Rattle.std.proofs.Common.{◌∙◌, sym}
use Rattle.kl_kit.specs.Readers.{said_line}
use Rattle.kl_kit.proofs.LibraryLines.{none_here, one_said}
use Rattle.kl_kit.proofs.index.read_line.Goals as goal

pub returns-clause-sound : goal.returns-clause-sound
returns-clause-sound c = λ before h.
    none_here before c.args.index.now c.args.number c.args.bytes.now (said_line c.in-Some.line)
    (record { read = h; text = sym c.is_text.ensures ∙ c.if-not-is_text.false; line = c.in-Some.ensures })
    (rw c.items.ensures at c.in_ok-library.ensures.fault)

pub returns-clause-read : goal.returns-clause-read
returns-clause-read c = λ before h.
    c.in_ok-push.ensures.ok
    ∙ one_said before c.args.index.now c.args.number c.args.bytes.now (said_line c.in-Some.line) c.in_ok-library.library
    (record { read = h; text = sym c.is_text.ensures ∙ c.if-not-is_text.false; line = c.in-Some.ensures })
    c.in_ok-library.ensures.library
