use Rattle.std.proofs.Common.{sym, arith}
use Rattle.kl_rel.proofs.TextLens.{string_past, string_none, string_some, len_bound}
use Rattle.kl_rel.proofs.string.StringTable.string.Goals as goal

pub returns-then-place-self : goal.returns-then-place-self
returns-then-place-self c =
    sym (string_past c.args.bytes.now c.args.self.now.header c.args.place (rw c.from-place.ensures at c.if-place-self.true))

pub overflow_add-place : goal.overflow_add-place
overflow_add-place c =
    let here = rw c.table_bytes.ensures at c.len_at-len.ensures in
    let bound = len_bound c.args.bytes.now c.args.self.now.header c.from-place.result c.requires.index.lies in
    let lies = c.requires.index.lies in
    omega (arith, here, bound, lies)

pub returns-then-place-len : goal.returns-then-place-len
returns-then-place-len c =
    let here = rw c.table_bytes.ensures at c.len_at-len.ensures in
    let whole = rw (here, c.from-place.ensures) at c.if-place-len.true in
    let below = rw c.from-place.ensures at c.if-place-self.false in
    sym (string_none c.args.bytes.now c.args.self.now.header c.args.place below c.requires.index.lies whole)

pub returns : goal.returns
returns c =
    let here = rw c.table_bytes.ensures at c.len_at-len.ensures in
    let short = rw (here, c.from-place.ensures) at c.if-place-len.false in
    let below = rw c.from-place.ensures at c.if-place-self.false in
    rw (here, c.from-place.ensures) (sym (string_some c.args.bytes.now c.args.self.now.header c.args.place below c.requires.index.lies short))
