use Rattle.std.proofs.Common.{take}
use Rattle.std.specs.Prelude.{All}
use Rattle.kl_image.specs.Covers.{IsFirstThere, IsHeld}
use Rattle.kl_image.proofs.cover.Cover.new.Given as goal

abbrev pub invariant-loop-header : goal.invariant-loop-header
invariant-loop-header l = record {
  held : All (IsHeld l.starts) (take l.header-index l.headers);
  first : IsFirstThere l.starts l.headers;
}
