use Rattle.std.proofs.Common.{◌<◌, ◌∙◌, ap, arith, get_or, length}
use Rattle.std.proofs.lemmas.List.Sums.{sum_by_more}
use Rattle.kl_model.specs.Tables.{no_dyn, sym_of}
use Rattle.kl_dyn.proofs.MoreSymbols.{string_size, syms_more}
use Rattle.kl_dyn.proofs.symbols.push_all.Goals as goal

pub loop-name-preserved : goal.loop-name-preserved
loop-name-preserved c =
    let g = c.args.graph.now in
    let i = c.loop-name.invariant in
    let items = c.items-name-items.ensures in
    let n = c.loop-name.name-index in
    let h : n < length g.names = rw items at c.loop-name-test.true in
    let same = ap (λ ds. get_or ds n no_dyn) items in
    record {
      at = omega (arith, i.at, sum_by_more string_size g.names n no_dyn h, ap (λ d. string_size d) same);
      bytes =
          syms_more c.args.placement.now g g.names n c.loop-name.at c.args.bytes.now.items c.loop-name.bytes.items _ _ h i.at
          (c.symbol.ensures ∙ ap (sym_of c.args.placement.now g c.loop-name.at) same) i.bytes c.in_ok-push_sym-2.ensures;
    }
