use Rattle.std.proofs.Common.{◌+◌, ◌≤◌, length, sym, subst, arith, Option}
use Rattle.std.specs.Prelude.{Some, IfSome}
use Rattle.kl_base.specs.declared.class.Range.{Range}
use Rattle.std.specs.List.Sorted.{IsNonDecreasing}
use Rattle.kl_ar.proofs.Ends.{rising}
use Rattle.kl_ar.specs.Archives.{data_at}
use Rattle.kl_ar.specs.Readers.{HasTable, IsTable}
use Rattle.kl_ar.proofs.Walks.{named_within, within_file}
use Rattle.kl_ar.proofs.read.long_name.Goals as goal

pub name-requires-clause-rising : goal.name-requires-clause-rising
name-requires-clause-rising c =
    let is : IsTable c.args.bytes.now c.in-Some.names = subst (HasTable c.args.bytes.now) c.in-Some.is c.requires in
    subst IsNonDecreasing (sym is.ends) (rising (data_at c.args.bytes.now c.in-Some.names.at))

pub name-requires-clause-within : goal.name-requires-clause-within
name-requires-clause-within c =
    let is : IsTable c.args.bytes.now c.in-Some.names = subst (HasTable c.args.bytes.now) c.in-Some.is c.requires in
    within_file c.args.bytes.now c.in-Some.names is (omega arith)

pub returns-in-Some-clause-within : goal.returns-in-Some-clause-within
returns-in-Some-clause-within c =
    let b = c.args.bytes.now in
    let is : IsTable b c.in-Some.names = subst (HasTable b) c.in-Some.is c.requires in
    subst (λ (x : Option Range). IfSome x (λ name. name.at + name.len ≤ length b)) (sym (c.name.ensures (data_at b c.in-Some.names.at) is.ends))
    (named_within b (Some c.in-Some.names) c.args.place is)
