use Rattle.std.proofs.Common.{◌≡◌, ◌∙◌, ap, subst, sym, arith, rules}
use Rattle.std.specs.Prelude.{Some, None}
use Rattle.kl_rel.specs.Flaws.{IsAnswer}
use Rattle.kl_rel.specs.Objects.{flaw}
use Rattle.kl_generate.specs.MadeFile.{made_file}
use Rattle.kl_generate.proofs.MadeRead.{made_are_read}
use Rattle.kl_generate.proofs.input.made_input.Goals as goal

none_is_some : {X : Type 0} {x : X} → None ≡ Some x → ⊥
none_is_some e = cc

pub read_object-requires : goal.read_object-requires
read_object-requires c =
    let read = made_are_read c.args.count c.args.number (omega (arith, c.requires.number)) c.requires.few c.requires.number in
    let same : c.deref.result.now ≡ made_file c.args.count c.args.number = search rules in
    rw same (let short = read.short in omega arith)

pub unreachable-requires : goal.unreachable-requires
unreachable-requires c =
    let read = made_are_read c.args.count c.args.number (omega (arith, c.requires.number)) c.requires.few c.requires.number in
    let same : c.deref.result.now ≡ made_file c.args.count c.args.number = search rules in
    let found : flaw c.deref.result.now ≡ Some c.in-Err-Flaw.field-0-0 =
    subst (λ e. IsAnswer (flaw c.deref.result.now) e) c.in-Err-Flaw.field-0-is c.in-Err-Flaw.ensures.flaw in
    let none : flaw c.deref.result.now ≡ None = ap flaw same ∙ read.sound in
    none_is_some (sym none ∙ found)

pub returns-clause-fit : goal.returns-clause-fit
returns-clause-fit c = c.in-Ok.ensures.fit _ (search rules) (search rules)
