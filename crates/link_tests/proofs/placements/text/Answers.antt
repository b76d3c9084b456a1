use Rattle.std.proofs.Common.{refl, arith}
use Rattle.link_tests.proofs.placements.text.Goals as goal

pub returns : goal.returns
returns c = λ inputs h. record {
  sound = λ kit g e. record {
    origin = omega (arith, h, e);
    area = refl;
    size = c.requires;
    align = (4, omega arith, refl);
    short = omega arith;
    blank = λ f. cc;
  };
}
