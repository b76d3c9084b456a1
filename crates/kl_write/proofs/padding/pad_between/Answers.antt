use Rattle.std.proofs.Common.{arith}
use Rattle.kl_write.proofs.Shown.{shows_between}
use Rattle.kl_write.proofs.padding.pad_between.Goals as goal

pub returns : goal.returns
returns c =
    shows_between c.args.out.now c.fill_window.new.out c.fill_window-2.new.out c.fill_window-3.new.out c.args.at c.args.from c.args.to _ 0 c.args.byte c.requires.order
    (omega (arith, c.saturating_sub-rest.ensures)) c.fill_window.ensures c.fill_window-2.ensures c.fill_window-3.ensures
