use Rattle.std.proofs.Common.{◌∙◌, ◌++◌, sym}
use Rattle.std.specs.Prelude.{flat_map}
use Rattle.kl_kit.specs.Keys.{line_keys, keys_of, comes_again}
use Rattle.kl_kit.specs.KitLines.{statements}
use Rattle.kl_kit.specs.KitTexts.{said_faults}
use Rattle.kl_kit.specs.Readers.{HasKeys, said_line}
use Rattle.kl_kit.specs.declared.fault.KitFault.TheVariants as fault
use Rattle.kl_kit.proofs.LineFaults.{said_at, output_first, twice_first, limit_first, none_said, read_more, told, handed, is_again, is_fresh}
use Rattle.kl_kit.proofs.SeenKeys.{from_true}
use Rattle.kl_kit.proofs.read.Reader.read_said.Goals as goal

pub returns-in_err-check_output-clause-fault : goal.returns-in_err-check_output-clause-fault
returns-in_err-check_output-clause-fault c = λ before h.
    let l = said_line c.args.line.now in
    let f = c.in_err-check_output.field-0.0 in
    let is = said_at c.args.self.now before l c.in-Some.keyword c.in-Some-2.statement h (sym c.in-Some.ensures) (sym c.in_ok-statement.ensures ∙ c.in-Some-2.is) c.in_ok-check_keyword.ensures in
    handed (said_faults before l) f c.from_residual-in_err-check_output.result c.from_residual-in_err-check_output.ensures.1
    (output_first c.args.self.now before l c.in-Some.keyword c.in-Some-2.statement f h is c.in_err-check_output.ensures)

pub returns-then-not-branch-clause-fault : goal.returns-then-not-branch-clause-fault
returns-then-not-branch-clause-fault c = λ before h.
    let l = said_line c.args.line.now in
    let k = c.in-Some.keyword in
    let s = c.in-Some-2.statement in
    let is = said_at c.args.self.now before l k s h (sym c.in-Some.ensures) (sym c.in_ok-statement.ensures ∙ c.in-Some-2.is) c.in_ok-check_keyword.ensures in
    let again = is_again (comes_again (flat_map line_keys before) (keys_of k l.words)) c.in_ok-add.field-0 c.if-not-branch.true (c.in_ok-add.ensures.fresh (flat_map line_keys before) h.keys) in
    told (said_faults before l) (fault.Twice l.number) c.into-then-not-branch.result c.into-then-not-branch.ensures
    (twice_first c.args.self.now before l k s (record { read = h; said = is; output = c.in_ok-check_output.ensures }) again)

pub returns-then-is_one_too_many-clause-fault : goal.returns-then-is_one_too_many-clause-fault
returns-then-is_one_too_many-clause-fault c = λ before h.
    let l = said_line c.args.line.now in
    let k = c.in-Some.keyword in
    let s = c.in-Some-2.statement in
    let is = said_at c.args.self.now before l k s h (sym c.in-Some.ensures) (sym c.in_ok-statement.ensures ∙ c.in-Some-2.is) c.in_ok-check_keyword.ensures in
    let fresh = is_fresh (comes_again (flat_map line_keys before) (keys_of k l.words)) c.in_ok-add.field-0 c.if-not-branch.false (c.in_ok-add.ensures.fresh (flat_map line_keys before) h.keys) in
    told (said_faults before l) (fault.Limit l.number) c.into-then-is_one_too_many.result c.into-then-is_one_too_many.ensures
    (limit_first c.args.self.now before l k s (record { read = h; said = is; output = c.in_ok-check_output.ensures }) fresh
    (sym (c.is_one_too_many.ensures (statements before) h.parts) ∙ c.if-is_one_too_many.true))

pub returns-clause-sound : goal.returns-clause-sound
returns-clause-sound c = λ before h.
    let l = said_line c.args.line.now in
    let k = c.in-Some.keyword in
    let s = c.in-Some-2.statement in
    let is = said_at c.args.self.now before l k s h (sym c.in-Some.ensures) (sym c.in_ok-statement.ensures ∙ c.in-Some-2.is) c.in_ok-check_keyword.ensures in
    let fresh = is_fresh (comes_again (flat_map line_keys before) (keys_of k l.words)) c.in_ok-add.field-0 c.if-not-branch.false (c.in_ok-add.ensures.fresh (flat_map line_keys before) h.keys) in
    none_said c.args.self.now before l k s (record { read = h; said = is; output = c.in_ok-check_output.ensures }) fresh
    (sym (c.is_one_too_many.ensures (statements before) h.parts) ∙ c.if-is_one_too_many.false)

pub returns-clause-read : goal.returns-clause-read
returns-clause-read c = λ before h.
    let l = said_line c.args.line.now in
    let k = c.in-Some.keyword in
    let s = c.in-Some-2.statement in
    let is = said_at c.args.self.now before l k s h (sym c.in-Some.ensures) (sym c.in_ok-statement.ensures ∙ c.in-Some-2.is) c.in_ok-check_keyword.ensures in
    let keys = from_true (HasKeys c.add.new.self (flat_map line_keys before ++ keys_of k l.words)) c.in_ok-add.field-0 (sym c.if-not-branch.false) (c.in_ok-add.ensures.keys (flat_map line_keys before) h.keys) in
    read_more c.args.self.now (record c.args.self.now { keys = c.add.new.self; parts = c.say.new.self }) before l k s h is keys c.in_ok-say.ensures
